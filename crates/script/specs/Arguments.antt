-- The words of views, of flags and of data, as they are read.
use Rattle.std.specs.Prelude.{ℕ, ◌-◌, ◌^◌, ◌==◌, nat_le, Bool, true, false, if◌then◌else◌, List, [], ◌∷◌, length, replicate, codes, Option, Some, None, option_and_then, Result, Ok}
use Rattle.std.specs.List.{slice_split, before_first, after_first}
use Rattle.std.specs.Option.{option_map, option_or}
use Rattle.std.specs.Result.{result_ok}
use Rattle.std.specs.Str.{bytes_eq}
use Rattle.hex.specs.Hex.{decode_of}
use Rattle.hex.specs.declared.error.FromHexError.{FromHexError}
use Rattle.adb_model.specs.View as machine
use Rattle.adb_model.specs.View.{View}
use Rattle.text_fields.specs.Keys.{key_of}
use Rattle.text_fields.specs.Numbers.{number_of}

-- all of them, where each word is a number
abbrev pub numbers_of : List (List ℕ) → Option (List ℕ)
numbers_of [] = Some []
numbers_of (w ∷ ws) = option_and_then (λ n. option_map (λ ns. n ∷ ns) (numbers_of ws)) (number_of w)

-- `-`, or at most 8,192 numbers joined by commas
unfoldable pub ancestors_of : List ℕ → Option (List ℕ)
ancestors_of w =
    if bytes_eq w (codes "-") then Some []
    else if nat_le (length (slice_split (λ b. b == 44) w)) 8192 then numbers_of (slice_split (λ b. b == 44) w)
    else None

-- a number, or `all`
unfoldable pub max_root_of : List ℕ → Option ℕ
max_root_of w = if bytes_eq w (codes "all") then Some (2 ^ 64 - 1) else number_of w

-- `-`, or a key
unfoldable pub after_of : List ℕ → Option (Option (List ℕ))
after_of w = if bytes_eq w (codes "-") then Some None else option_map Some (key_of w)

-- ancestors, `@` and the greatest root
unfoldable pub view_of : List ℕ → Option View
view_of w =
    option_and_then (λ slots. option_map (λ most. machine.view_of slots most) (max_root_of (after_first (λ b. b == 64) w)))
    (ancestors_of (before_first (λ b. b == 64) w))

-- `0` or `1`
unfoldable pub flag_of : List ℕ → Option Bool
flag_of w =
    if bytes_eq w (codes "0") then Some false
    else if bytes_eq w (codes "1") then Some true
    else None

-- one byte and no more
abbrev pub only_byte : Result (List ℕ) FromHexError → Option ℕ
only_byte (Ok (b ∷ [])) = Some b
only_byte _ = None

-- the length and the byte of `LEN*BB`
unfoldable pub repeat_of : List ℕ → Option (ℕ × ℕ)
repeat_of w =
    option_and_then (λ len. option_map (λ byte. (len, byte)) (only_byte (decode_of (after_first (λ b. b == 42) w))))
    (number_of (before_first (λ b. b == 42) w))

-- one or more bytes in hexadecimal
unfoldable pub digits_of : List ℕ → Option (List ℕ)
digits_of w = if nat_le 2 (length w) then result_ok (decode_of w) else None

-- `-`, `LEN*BB`, or bytes in hexadecimal
unfoldable pub data_of : List ℕ → Option (List ℕ)
data_of w =
    if bytes_eq w (codes "-") then Some []
    else option_or (option_map (λ r. replicate r.0 r.1) (repeat_of w)) (digits_of w)
