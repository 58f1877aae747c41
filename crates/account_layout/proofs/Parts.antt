-- Parts of a list of bytes, by their places.
use Rattle.std.proofs.Common.{◌≡◌, ℕ, ◌+◌, ◌-◌, ◌^◌, ◌<◌, ◌≤◌, List, [], ◌∷◌, ◌++◌, length, take, drop, get_or, refl, sym, ap, ◌∙◌, arith, inl, inr}
use Rattle.std.specs.Prelude.{slice_range, slice_index}
use Rattle.std.specs.Int.{w64, from_le_bytes}
use Rattle.std.proofs.Math.Seq.{take-add}
use Rattle.std.proofs.lemmas.Bool.{cases_lt}
use Rattle.std.proofs.lemmas.List.{drop-drop, drop_at, get_or-drop, get_or-take, get_or_past, length-take, take-take, take_at, drop-take}
use Rattle.std.proofs.lemmas.List.Edits.{between_more, between_none, length-between, get_or-between}
use Rattle.std.proofs.lemmas.Nat.{le_bytes_8, from_le_bytes-to_le_bytes_8}
use Rattle.le_fields.specs.Fields.{number_at, number_bytes}

abbrev pub IsBytes : List ℕ → Type 0
IsBytes bytes = (i : ℕ) → get_or bytes i 0 < 256

-- a range in two parts, of which each is known as another list
pub cut : (xs : List ℕ) (a b c : ℕ) (front back : List ℕ) → a ≤ b → b ≤ c → slice_range xs a b ≡ front → slice_range xs b c ≡ back → slice_range xs a c ≡ front ++ back
cut xs a b c front back le le' h t =
    let n : c - a ≡ (b - a) + (c - b) = omega arith in
    let m : a + (b - a) ≡ b = omega arith in
    rw n (take-add (b - a) (c - b) (drop a xs)) ∙ ap (λ (r : List ℕ). take (b - a) (drop a xs) ++ take (c - b) r) (drop-drop (b - a) a xs ∙ ap (λ (k : ℕ). drop k xs) m)
    ∙ (λ i. h i ++ t i)

-- a part of a part
pub within : (xs : List ℕ) (at to i j : ℕ) → at + j ≤ to → slice_range (slice_range xs at to) i j ≡ slice_range xs (at + i) (at + j)
within xs at to i j le =
    elim (cases_lt j i) [
      | inl lt ↦
          let none : j - i ≡ 0 = omega arith in
          let none' : at + j - (at + i) ≡ 0 = omega arith in
          rw (none, none') refl
      | inr ge ↦
          let width : at + j - (at + i) ≡ j - i = omega arith in
          let split : to - at ≡ i + (to - at - i) = omega arith in
          rw width (ap (λ (r : List ℕ). take (j - i) r) (ap (λ (n : ℕ). drop i (take n (drop at xs))) split ∙ drop-take i (to - at - i) (drop at xs)) ∙ take-take (j - i) (to - at - i) (drop i (drop at xs)) (omega arith)
          ∙ ap (λ (r : List ℕ). take (j - i) r) (drop-drop i at xs))
    ]

-- the first of two lists
pub first : (x rest : List ℕ) (n : ℕ) → length x ≡ n → slice_range (x ++ rest) 0 n ≡ x
first x rest n is = let e : n - 0 ≡ n = omega arith in rw e (take_at x rest n is)

-- past the first of two lists
pub past : (x rest : List ℕ) (n i j : ℕ) → length x ≡ n → slice_range (x ++ rest) (n + i) (n + j) ≡ slice_range rest i j
past x rest n i j is =
    let width : n + j - (n + i) ≡ j - i = omega arith in
    rw width (ap (λ (r : List ℕ). take (j - i) r) (sym (drop-drop i n (x ++ rest)) ∙ ap (λ (r : List ℕ). drop i r) (drop_at x rest n is)))

-- one byte, as a range
pub one_byte : (xs : List ℕ) (at : ℕ) → at < length xs → slice_range xs at (at + 1) ≡ slice_index xs at ∷ []
one_byte xs at lt = between_more xs at at 0 (omega arith) lt ∙ ap (λ (front : List ℕ). front ++ slice_index xs at ∷ []) (between_none xs at)

-- a byte, from the range that has it alone
pub byte_in : (xs : List ℕ) (at byte : ℕ) → slice_range xs at (at + 1) ≡ byte ∷ [] → slice_index xs at ≡ byte
byte_in xs at byte is =
    sym (get_or-between xs at (at + 1) 0 0 (omega arith) ∙ ap (λ (k : ℕ). get_or xs k 0) (omega arith)) ∙ ap (λ (r : List ℕ). get_or r 0 0) is

part_fits : (xs : List ℕ) (n i : ℕ) → IsBytes xs → get_or (take n xs) i 0 < 256
part_fits xs n i fits =
    elim (cases_lt i n) [
      | inl lt ↦ rw (get_or-take n xs i 0 lt) (fits i)
      | inr le ↦ rw (get_or_past (take n xs) i 0 (omega (arith, length-take n xs))) (omega arith)
    ]

range_fits : (xs : List ℕ) (at to : ℕ) → IsBytes xs → IsBytes (slice_range xs at to)
range_fits xs at to fits i =
    let rest : IsBytes (drop at xs) = λ j. rw get_or-drop (fits (at + j)) in
    part_fits (drop at xs) (to - at) i rest

-- eight bytes are those of the number in them
pub number_spelled : (bytes : List ℕ) (at : ℕ) → IsBytes bytes → at + 8 ≤ length bytes → slice_range bytes at (at + 8) ≡ number_bytes (number_at bytes at)
number_spelled bytes at fits le =
    sym (le_bytes_8 (slice_range bytes at (at + 8)) (number_at bytes at) (length-between bytes at (at + 8) le ∙ omega arith) (range_fits bytes at (at + 8) fits) refl)

-- eight bytes have a number of 64 bits
pub number_below : (bytes : List ℕ) (at : ℕ) → IsBytes bytes → number_at bytes at < 2 ^ 64
number_below bytes at fits =
    let f : IsBytes (slice_range bytes at (at + 8)) = range_fits bytes at (at + 8) fits in
    omega (arith, f 0, f 1, f 2, f 3, f 4, f 5, f 6, f 7)

-- the number whose bytes stand at a place
pub number_in : (bytes : List ℕ) (at n : ℕ) → n < 2 ^ 64 → slice_range bytes at (at + 8) ≡ number_bytes n → number_at bytes at ≡ n
number_in bytes at n lt is = ap (λ (r : List ℕ). from_le_bytes w64 r) is ∙ from_le_bytes-to_le_bytes_8 n lt
