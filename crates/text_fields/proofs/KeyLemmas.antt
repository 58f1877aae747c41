-- What `hex` reads and prints is what the definitions say of a 32-byte value.
use Rattle.std.proofs.Common.{◌≡◌, ℕ, ◌+◌, ◌-◌, ◌*◌, ◌/◌, ◌%◌, ◌<◌, ◌≤◌, leb, ◌&&◌, Bool, true, false, true≢false, suc, List, [], ◌∷◌, ◌++◌, length, take, drop, Some, None, Result, Ok, Err, refl, sym, ap, ap₂, subst, ◌∙◌, arith, inl, inr, length-take-le, length-drop}
use Rattle.std.specs.Prelude.{◌==◌, replicate, reverse, slice_index, IsSome, is_some, MatchResult}
use Rattle.std.specs.List.{suffix_len}
use Rattle.std.proofs.lemmas.Bool.{and_from, and_parts, cases_Bool, cases_lt, cond-true, cond-false, le-leb, leb-true, eqb-true}
use Rattle.std.proofs.lemmas.List.{drop-replicate, length-take, get_or-reverse, get_or-take, get_or-drop, get_or_past, take-append-drop}
use Rattle.std.proofs.lemmas.List.Sums.{prefix_len_passes, suffix_len-le-length}
use Rattle.hex.specs.Hex.{IsBytes, decode_of, decode_sized, lower_digits}
use Rattle.hex.specs.declared.error.FromHexError.{FromHexError}
use Rattle.hex.proofs.HexLemmas.{decode_of-digits, decode_of-encode_lower, decode_of-odd, decode_of-ok, decode_sized-ok, decode_sized-twice, length-encode_with}
use Rattle.text_fields.specs.Keys.{IsKeyWord, key_of, key_text, padded, padded_if_ok, printed_len}
use Rattle.text_fields.specs.Laws.{KeyTextsAreKeys, KeyWordsAreKeys}

-- whether a word's length is one of a key
abbrev has_room : List ℕ → Bool
has_room w = leb 2 (length w) && leb (length w) 64

room : (w : List ℕ) → 2 ≤ length w → length w ≤ 64 → has_room w ≡ true
room w some most = and_from _ _ (le-leb 2 (length w) some) (le-leb (length w) 64 most)

-- the value of a word of such a length
roomy_key : (w : List ℕ) → has_room w ≡ true → key_of w ≡ padded_if_ok (decode_of w)
unfolding key_of
roomy_key w fits = cond-true (has_room w) (padded_if_ok (decode_of w)) None fits

-- and of any other
no_key : (w : List ℕ) → has_room w ≡ false → key_of w ≡ None
unfolding key_of
no_key w not = cond-false (has_room w) (padded_if_ok (decode_of w)) None not

-- ---- reading

key_from : (w out : List ℕ) (n : ℕ) (r : Bool) (d : Result (List ℕ) FromHexError) → decode_sized w n ≡ d
    → MatchResult d (λ bytes. (r ≡ true) × (out ≡ bytes)) (λ e. r ≡ false) → r ≡ true
    → n ≡ length w / 2 → 2 ≤ length w → length w ≤ 64 → Some (out ++ drop n (replicate 32 0)) ≡ key_of w
key_from w out n r (Ok bytes) is h ok half some most =
    let twice : length w ≡ 2 * n = decode_sized-ok w n bytes is in
    let plain : decode_of w ≡ Ok bytes = sym (decode_sized-twice w n twice) ∙ is in
    let len : length w ≡ 2 * length bytes = (decode_of-ok w bytes plain).2 in
    let same : n ≡ length bytes = omega arith in
    let ends : out ++ drop n (replicate 32 0) ≡ padded bytes = rw (h.1, drop-replicate {X = ℕ} n 32 0, same) refl in
    ap (λ (k : List ℕ). Some k) ends ∙ sym (roomy_key w (room w some most) ∙ ap padded_if_ok plain)
key_from w out n r (Err e) is h ok half some most = absurd (true≢false (sym ok ∙ h))

-- bytes that were decoded into the front of zeros
pub key_decoded : (w out : List ℕ) (n : ℕ) (r : Bool)
    → MatchResult (decode_sized w n) (λ bytes. (r ≡ true) × (out ≡ bytes)) (λ e. r ≡ false) → r ≡ true
    → n ≡ length w / 2 → 2 ≤ length w → length w ≤ 64 → Some (out ++ drop n (replicate 32 0)) ≡ key_of w
key_decoded w out n r h ok half some most = key_from w out n r (decode_sized w n) refl h ok half some most

no_key_from : (w out : List ℕ) (n : ℕ) (r : Bool) (d : Result (List ℕ) FromHexError) → decode_sized w n ≡ d
    → MatchResult d (λ bytes. (r ≡ true) × (out ≡ bytes)) (λ e. r ≡ false) → r ≡ false
    → length w ≡ 2 * n → 2 ≤ length w → length w ≤ 64 → None ≡ key_of w
no_key_from w out n r (Ok bytes) is h not twice some most = absurd (true≢false (sym h.0 ∙ not))
no_key_from w out n r (Err e) is h not twice some most =
    sym (roomy_key w (room w some most) ∙ ap padded_if_ok (sym (decode_sized-twice w n twice) ∙ is))

-- digits that were not all read
pub key_refused : (w out : List ℕ) (n : ℕ) (r : Bool)
    → MatchResult (decode_sized w n) (λ bytes. (r ≡ true) × (out ≡ bytes)) (λ e. r ≡ false) → r ≡ false
    → length w ≡ 2 * n → 2 ≤ length w → length w ≤ 64 → None ≡ key_of w
key_refused w out n r h not twice some most = no_key_from w out n r (decode_sized w n) refl h not twice some most

-- a word of an odd length
pub key_odd : (w : List ℕ) → length w % 2 ≡ 1 → None ≡ key_of w
key_odd w odd = elim (cases_Bool (has_room w)) [
  | inl fits ↦ sym (roomy_key w fits ∙ ap padded_if_ok (decode_of-odd w odd))
  | inr not ↦ sym (no_key w not)
]

some_if_ok : (r : Result (List ℕ) FromHexError) → is_some (padded_if_ok r) ≡ true → (bytes : List ℕ) × (r ≡ Ok bytes)
some_if_ok (Ok bytes) e = (bytes, refl)
some_if_ok (Err x) e = absurd cc

key_facts : (w : List ℕ) → IsSome (key_of w) → IsKeyWord w
key_facts w some = elim (cases_Bool (has_room w)) [
  | inl fits ↦
      let parts = and_parts (leb 2 (length w)) _ fits in
      let read = some_if_ok (decode_of w) (ap is_some (sym (roomy_key w fits)) ∙ some) in
      let ok = decode_of-ok w read.0 read.1 in
      record { some = leb-true _ _ parts.0; most = leb-true _ _ parts.1; even = ok.0; digits = ok.1 }
  | inr not ↦ absurd (true≢false (sym some ∙ ap is_some (no_key w not)))
]

facts_key : (w : List ℕ) → IsKeyWord w → IsSome (key_of w)
facts_key w h = ap is_some (roomy_key w (room w h.some h.most) ∙ ap padded_if_ok (decode_of-digits w h.even h.digits).1)

pub words_are_keys : KeyWordsAreKeys
words_are_keys w = (key_facts w, facts_key w)

-- ---- printing

-- ---- what is printed is read

all_zero : (xs : List ℕ) → ((i : ℕ) → i < length xs → slice_index xs i ≡ 0) → xs ≡ replicate (length xs) 0
all_zero [] h = refl
all_zero (x ∷ xs) h = ap₂ (λ (y : ℕ) (ys : List ℕ). y ∷ ys) (h 0 (omega arith)) (all_zero xs (λ i lt. h (suc i) (omega arith)))

abbrev is_zero : ℕ → Bool
is_zero b = b == 0

-- from the last byte that is printed on, all are zero
zeros_after : (k : List ℕ) (m i : ℕ) → length k - suffix_len is_zero k ≤ m → m + i < length k → slice_index k (m + i) ≡ 0
zeros_after k m i last in_range =
    let j = length k - 1 - (m + i) in
    let within : j < suffix_len is_zero k = omega (arith, suffix_len-le-length is_zero k) in
    let back : length k - 1 - j ≡ m + i = omega arith in
    let at : slice_index (reverse k) j ≡ slice_index k (m + i) = get_or-reverse k j 0 (omega arith) ∙ ap (slice_index k) back in
    eqb-true (slice_index k (m + i)) 0 (ap is_zero (sym at) ∙ prefix_len_passes is_zero (reverse k) j 0 within)

bytes_in_front : (k : List ℕ) (m : ℕ) → IsBytes k → IsBytes (take m k)
bytes_in_front k m bytes i = elim (cases_lt i m) [
  | inl lt ↦ subst (λ (b : ℕ). b < 256) (sym (get_or-take m k i 0 lt)) (bytes i)
  | inr ge ↦ subst (λ (b : ℕ). b < 256) (sym (get_or_past (take m k) i 0 (omega (arith, length-take m k)))) (omega arith)
]

pub texts_are_keys : KeyTextsAreKeys
unfolding key_text
texts_are_keys k len bytes =
    let m = printed_len k in
    let some : 1 ≤ m = omega arith in
    let most : m ≤ length k = omega (arith, suffix_len-le-length is_zero k) in
    let front : length (take m k) ≡ m = length-take-le m k most in
    let text_len : length (key_text k) ≡ 2 * m = length-encode_with lower_digits (take m k) ∙ ap (λ (n : ℕ). 2 * n) front in
    let reads : decode_of (key_text k) ≡ Ok (take m k) = decode_of-encode_lower (take m k) (bytes_in_front k m bytes) in
    let rest_len : length (drop m k) ≡ 32 - m = omega (arith, length-drop m k) in
    let zeros : drop m k ≡ replicate (length (drop m k)) 0 =
    all_zero (drop m k) (λ i lt. get_or-drop m k i 0 ∙ zeros_after k m i (omega arith) (omega arith)) in
    let whole : padded (take m k) ≡ k =
    ap (λ (n : ℕ). take m k ++ replicate n 0) (ap (λ (n : ℕ). 32 - n) front ∙ sym rest_len) ∙ ap (λ (r : List ℕ). take m k ++ r) (sym zeros) ∙ take-append-drop m k in
    roomy_key (key_text k) (room (key_text k) (omega arith) (omega arith)) ∙ ap padded_if_ok reads ∙ ap (λ (r : List ℕ). Some r) whole
