-- The words and texts of keys and of other 32-byte values.
use Rattle.std.specs.Prelude.{◌≡◌, ◌≤◌, ◌%◌, ℕ, ◌-◌, ◌==◌, nat_le, max, ◌&&◌, if◌then◌else◌, List, ◌++◌, length, take, replicate, Option, Some, None, Result, Ok, Err}
use Rattle.std.specs.List.{AllPass, suffix_len}
use Rattle.hex.specs.Hex.{decode_of, encode_lower, is_hex_digit}
use Rattle.hex.specs.declared.error.FromHexError.{FromHexError}

-- zero bytes follow, up to 32
abbrev pub padded : List ℕ → List ℕ
padded bytes = bytes ++ replicate (32 - length bytes) 0

-- the same of bytes that were read
abbrev pub padded_if_ok : Result (List ℕ) FromHexError → Option (List ℕ)
padded_if_ok (Ok bytes) = Some (padded bytes)
padded_if_ok (Err e) = None

-- the value that a word is: an even number of 2 to 64 hexadecimal digits
unfoldable pub key_of : List ℕ → Option (List ℕ)
key_of w = if nat_le 2 (length w) && nat_le (length w) 64 then padded_if_ok (decode_of w) else None

-- the word is that of a 32-byte value
pub record IsKeyWord (w : List ℕ) : Type 0 where
  pub some : 2 ≤ length w
  pub most : length w ≤ 64
  pub even : length w % 2 ≡ 0
  pub digits : AllPass is_hex_digit w

-- how many of some bytes are printed: trailing zero bytes are cut, and at least one byte is left
abbrev pub printed_len : List ℕ → ℕ
printed_len bytes = max (length bytes - suffix_len (λ b. b == 0) bytes) 1

-- the text of a 32-byte value: lower-case hexadecimal, trailing zero bytes cut
unfoldable pub key_text : List ℕ → List ℕ
key_text bytes = encode_lower (take (printed_len bytes) bytes)
