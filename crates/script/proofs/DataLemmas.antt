-- The words of data, as `hex` reads them.
use Rattle.std.proofs.Common.{◌≡◌, ℕ, ◌*◌, ◌%◌, ◌<◌, ◌≤◌, leb, Bool, true, false, cond, List, [], ◌∷◌, length, Some, None, Result, Ok, Err, IsTrue, refl, sym, ap, ap₂, ◌∙◌, arith}
use Rattle.std.specs.Prelude.{◌||◌, ◌&&◌, ◌↔◌, is_some, IsOk, IsSomeAnd, MatchResult}
use Rattle.std.specs.Char.{is_ascii_hexdigit}
use Rattle.std.specs.List.{list_all}
use Rattle.std.specs.Result.{result_ok}
use Rattle.std.proofs.lemmas.Bool.{cond-true, le-leb}
use Rattle.std.proofs.lemmas.List.Sums.{AllPass-from_list_all, list_all-from_AllPass}
use Rattle.hex.specs.Hex.{decode_of, decode_sized, is_hex_digit}
use Rattle.hex.specs.declared.error.FromHexError.{FromHexError}
use Rattle.hex.proofs.HexLemmas.{decode_of-digits, decode_of-ok, decode_sized-twice}
use Rattle.script.specs.Arguments.{only_byte, digits_of}

-- the digits are those of ASCII
hex_digit : (b : ℕ) → is_hex_digit b ≡ is_ascii_hexdigit b
hex_digit b = by (leb 65 b && leb b 70) (leb 97 b && leb b 102) (leb 48 b && leb b 57) _ _ _ where
  by : (upper lower digit : Bool) (x y z : ℕ) → is_some (cond upper (Some x) (cond lower (Some y) (cond digit (Some z) None))) ≡ ((digit || upper) || lower)
  by true true true x y z = refl
  by true true false x y z = refl
  by true false true x y z = refl
  by true false false x y z = refl
  by false true true x y z = refl
  by false true false x y z = refl
  by false false true x y z = refl
  by false false false x y z = refl

hex_digits : (w : List ℕ) → list_all is_hex_digit w ≡ list_all (λ b. is_ascii_hexdigit b) w
hex_digits [] = refl
hex_digits (b ∷ w) = ap₂ (λ (x y : Bool). x && y) (hex_digit b) (hex_digits w)

ok_value : (r : Result (List ℕ) FromHexError) → IsOk r → (bytes : List ℕ) × (r ≡ Ok bytes)
ok_value (Ok bytes) h = (bytes, refl)
ok_value (Err e) h = absurd (cc h)

-- an even number of bytes decodes exactly where all of them are digits
pub pairs_decode : (w : List ℕ) (t : Bool) → length w % 2 ≡ 0 → t ≡ list_all (λ b. is_ascii_hexdigit b) w → IsTrue t ↔ IsOk (decode_of w)
pairs_decode w t even is = (
  λ all.
      let digits = AllPass-from_list_all is_hex_digit w (hex_digits w ∙ sym is ∙ all) in
      rw (decode_of-digits w even digits).1 refl,
  λ ok.
      let read = ok_value (decode_of w) ok in
      is ∙ sym (hex_digits w) ∙ list_all-from_AllPass is_hex_digit w (decode_of-ok w read.0 read.1).1,
)

-- where there is no room for one byte of digits, there are no two digits
pub byte_refused : (w out : List ℕ) (r : Result (Unit {0}) FromHexError) (e : FromHexError)
    → MatchResult (decode_sized w 1) (λ bytes. (r ≡ Ok tt) × (out ≡ bytes)) (λ x. r ≡ Err x) → r ≡ Err e → None ≡ only_byte (decode_of w)
byte_refused w out r e h refused = by (decode_of w) refl where
  by : (d : Result (List ℕ) FromHexError) → decode_of w ≡ d → None ≡ only_byte d
  by (Ok []) is = refl
  by (Ok (b ∷ [])) is =
      let two : length w ≡ 2 * 1 = (decode_of-ok w (b ∷ []) is).2 in
      let written = rw (decode_sized-twice w 1 two, is) at h in
      absurd (cc (written.0, refused))
  by (Ok (b ∷ c ∷ bytes)) is = refl
  by (Err x) is = refl

-- digits that were decoded
pub digits_fit : (w bytes : List ℕ) → decode_of w ≡ Ok bytes → 2 ≤ length w → length w ≤ 2 * 10485760 → (digits_of w ≡ Some bytes) × (length bytes ≤ 10485760)
unfolding digits_of
digits_fit w bytes is some most = (
  cond-true (leb 2 (length w)) (result_ok (decode_of w)) None (le-leb 2 (length w) some) ∙ ap result_ok is,
  omega (arith, (decode_of-ok w bytes is).2),
)

-- digits of which there are too many
pub digits_too_long : (w : List ℕ) → IsOk (decode_of w) → 2 ≤ length w → 2 * 10485760 < length w → IsSomeAnd (digits_of w) (λ bytes. 10485760 < length bytes)
unfolding digits_of
digits_too_long w ok some many =
    let read = ok_value (decode_of w) ok in
    rw (cond-true (leb 2 (length w)) (result_ok (decode_of w)) None (le-leb 2 (length w) some), read.1) (omega (arith, (decode_of-ok w read.0 read.1).2))
