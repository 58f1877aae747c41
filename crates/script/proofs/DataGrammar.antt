-- The words of data: what is read of them against what they are, both ways.
use Rattle.std.proofs.Common.{◌≡◌, ℕ, ◌*◌, ◌≤◌, Bool, true, false, eqb, leb, List, [], ◌∷◌, ◌++◌, length, Option, Some, None, Result, Ok, Err, refl, sym, ap, subst, ◌∙◌, arith, inl, inr}
use Rattle.std.specs.Prelude.{◌⊎◌, codes, replicate, option_map, option_and_then}
use Rattle.std.specs.List.{AllPass, before_first, after_first}
use Rattle.std.specs.Option.{option_or}
use Rattle.std.specs.Result.{result_ok}
use Rattle.std.specs.Str.{bytes_eq}
use Rattle.std.proofs.lemmas.Bool.{cases_Bool, cond-true, cond-false, leb-true, le-leb}
use Rattle.std.proofs.lemmas.List.{length-append}
use Rattle.std.proofs.lemmas.List.Elements.{All-head, All-tail}
use Rattle.std.proofs.lemmas.Slice.Eq.{bytes_eq-Decides}
use Rattle.hex.specs.Hex.{decode_of, is_hex_digit}
use Rattle.hex.specs.declared.error.FromHexError.{FromHexError}
use Rattle.hex.proofs.HexLemmas.{decode_of-ok}
use Rattle.text_fields.specs.Numbers.{number_of}
use Rattle.script.specs.Arguments.{only_byte, repeat_of, digits_of, data_of}
use Rattle.script.specs.Data.{AreDigits, IsRepeat, IsData}
use Rattle.script.proofs.Separated.{no_digit, number_lacks, chosen, before_again, after_again, joined_again}

abbrev star : ℕ → Bool
star b = eqb b 42

-- ---- `LEN*BB`

byte_read : (r : Result (List ℕ) FromHexError) (b : ℕ) → only_byte r ≡ Some b → r ≡ Ok (b ∷ [])
byte_read (Ok []) b e = absurd cc
byte_read (Ok (x ∷ [])) b e = let same : x ≡ b = cc in ap (λ (y : ℕ). Ok (y ∷ [])) same
byte_read (Ok (x ∷ y ∷ bytes)) b e = absurd cc
byte_read (Err f) b e = absurd cc

-- what both parts were read as
parts_read : (o m : Option ℕ) (r : ℕ × ℕ) → option_and_then (λ len. option_map (λ byte. (len, byte)) m) o ≡ Some r → (o ≡ Some r.0) × (m ≡ Some r.1)
parts_read None m r e = absurd cc
parts_read (Some len) None r e = absurd cc
parts_read (Some len) (Some byte) r e = let same : (len, byte) ≡ r = cc e in (ap (λ (x : ℕ × ℕ). Some x.0) same, ap (λ (x : ℕ × ℕ). Some x.1) same)

repeat_read : (w : List ℕ) (r : ℕ × ℕ) → repeat_of w ≡ Some r → IsRepeat w (replicate r.0 r.1)
unfolding repeat_of
repeat_read w r e =
    let p = parts_read (number_of (before_first star w)) (only_byte (decode_of (after_first star w))) r e in
    let byte = byte_read (decode_of (after_first star w)) r.1 p.1 in
    record {
      len_word = before_first star w;
      byte_word = after_first star w;
      len = r.0;
      byte = r.1;
      joined = joined_again 42 w (λ none. no_byte (after_first star w) r.1 none byte);
      len_is = p.0;
      byte_is = byte;
      bytes_are = refl;
    }
  where
    no_byte : (x : List ℕ) (b : ℕ) → x ≡ [] → decode_of x ≡ Ok (b ∷ []) → ⊥
    no_byte x b e is =
        let two : length x ≡ 2 * length (b ∷ []) = (decode_of-ok x (b ∷ []) is).2 in
        let zero : length x ≡ 0 = ap length e in
        absurd (omega arith)

repeat_again : (w bytes : List ℕ) (h : IsRepeat w bytes) → repeat_of w ≡ Some (h.len, h.byte)
unfolding repeat_of
repeat_again w bytes h =
    let lacks = number_lacks 42 (no_digit 42 (inl (omega arith))) h.len_word h.len h.len_is in
    let front : before_first star w ≡ h.len_word = ap (before_first star) h.joined ∙ before_again 42 h.len_word h.byte_word lacks in
    let back : after_first star w ≡ h.byte_word = ap (after_first star) h.joined ∙ after_again 42 h.len_word h.byte_word lacks in
    let len : number_of (before_first star w) ≡ Some h.len = ap number_of front ∙ h.len_is in
    let byte : decode_of (after_first star w) ≡ Ok (h.byte ∷ []) = ap decode_of back ∙ h.byte_is in
    rw (len, byte) refl

-- ---- digits

digits_read : (w bytes : List ℕ) → digits_of w ≡ Some bytes → AreDigits w bytes
unfolding digits_of
digits_read w bytes e = elim (chosen (leb 2 (length w)) (result_ok (decode_of w)) None (Some bytes) e) [
  | inl two ↦
      let digits = ok_read (decode_of w) two.1 in
      record { some = omega (arith, leb-true 2 (length w) two.0, (decode_of-ok w bytes digits).2); digits = digits }
  | inr few ↦ absurd (cc few.1)
] where
  ok_read : (r : Result (List ℕ) FromHexError) → result_ok r ≡ Some bytes → r ≡ Ok bytes
  ok_read (Ok xs) h = let same : xs ≡ bytes = cc in ap (λ (x : List ℕ). Ok x) same
  ok_read (Err f) h = absurd cc

digits_again : (w bytes : List ℕ) → AreDigits w bytes → digits_of w ≡ Some bytes
unfolding digits_of
digits_again w bytes h =
    cond-true (leb 2 (length w)) (result_ok (decode_of w)) None (le-leb 2 (length w) (omega (arith, h.some, (decode_of-ok w bytes h.digits).2))) ∙ ap result_ok h.digits

-- the separator is no digit
star_apart : (front back : List ℕ) → AllPass is_hex_digit (front ++ 42 ∷ back) → ⊥
star_apart [] back h = let digit : is_hex_digit 42 ≡ true = All-head (λ x. is_hex_digit x ≡ true) 42 back h in absurd (cc digit)
star_apart (b ∷ front) back h = star_apart front back (All-tail (λ x. is_hex_digit x ≡ true) b (front ++ 42 ∷ back) h)

no_repeat : (w bytes : List ℕ) → AreDigits w bytes → repeat_of w ≡ None
no_repeat w bytes h = by (repeat_of w) refl where
  by : (o : Option (ℕ × ℕ)) → repeat_of w ≡ o → o ≡ None
  by None e = refl
  by (Some r) e =
      let both = repeat_read w r e in
      absurd (star_apart both.len_word both.byte_word (subst (λ (x : List ℕ). AllPass is_hex_digit x) both.joined (decode_of-ok w bytes h.digits).1))

-- ---- data

-- a word of two or more bytes is no `-`
not_dash : (w : List ℕ) → 2 ≤ length w → bytes_eq w (codes "-") ≡ false
not_dash w long = elim (cases_Bool (bytes_eq w (codes "-"))) [
  | inl dash ↦ let one : length w ≡ 1 = ap length ((bytes_eq-Decides w (codes "-")).0 dash) in absurd (omega arith)
  | inr other ↦ other
]

pub data_read : (w bytes : List ℕ) → data_of w ≡ Some bytes → length bytes ≤ 10485760 → IsData w bytes
unfolding data_of
data_read w bytes e most = elim (chosen (bytes_eq w (codes "-")) (Some []) _ (Some bytes) e) [
  | inl dash ↦ let none : [] ≡ bytes = cc dash.1 in record { form = inl ((bytes_eq-Decides w (codes "-")).0 dash.0, sym none); most = most }
  | inr other ↦ record { form = inr (by (repeat_of w) refl other.1); most = most }
] where
  by : (o : Option (ℕ × ℕ)) → repeat_of w ≡ o → option_or (option_map (λ r. replicate r.0 r.1) o) (digits_of w) ≡ Some bytes → AreDigits w bytes ⊎ IsRepeat w bytes
  by None is h = inl (digits_read w bytes h)
  by (Some r) is h = let same : replicate r.0 r.1 ≡ bytes = cc h in inr (subst (λ (x : List ℕ). IsRepeat w x) same (repeat_read w r is))

pub data_again : (w bytes : List ℕ) → IsData w bytes → data_of w ≡ Some bytes
unfolding data_of
data_again w bytes h = elim h.form [
  | inl dash ↦ ap data_of dash.0 ∙ ap (λ (x : List ℕ). Some x) (sym dash.1)
  | inr said ↦ elim said [
    | inl digits ↦
        cond-false (bytes_eq w (codes "-")) (Some []) _ (not_dash w (omega (arith, digits.some, (decode_of-ok w bytes digits.digits).2)))
        ∙ ap (λ (o : Option (ℕ × ℕ)). option_or (option_map (λ r. replicate r.0 r.1) o) (digits_of w)) (no_repeat w bytes digits)
        ∙ digits_again w bytes digits
    | inr repeat ↦
        cond-false (bytes_eq w (codes "-")) (Some []) _ (not_dash w (omega (arith, two_bytes repeat)))
        ∙ ap (λ (o : Option (ℕ × ℕ)). option_or (option_map (λ r. replicate r.0 r.1) o) (digits_of w)) (repeat_again w bytes repeat)
        ∙ ap (λ (x : List ℕ). Some x) repeat.bytes_are
  ]
] where
  two_bytes : (r : IsRepeat w bytes) → 2 ≤ length w
  two_bytes r = rw (r.joined) (by r.byte_word (decode_of-ok r.byte_word (r.byte ∷ []) r.byte_is).2) where
    by : (back : List ℕ) → length back ≡ 2 → 2 ≤ length (r.len_word ++ 42 ∷ back)
    by back two = simp length-append (omega arith)
