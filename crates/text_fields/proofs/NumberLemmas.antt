-- What is read of a word, digit by digit, is what the definition says of a number.
use Rattle.std.proofs.Common.{◌≡◌, ℕ, ◌^◌, ◌<◌, ◌≤◌, Bool, true, false, ltb, leb, ◌&&◌, List, [], ◌∷◌, length, drop, slice_index_or, suc, add-one, Some, None, ◌+◌, ◌*◌, ◌-◌, refl, sym, ap, subst, ◌∙◌, arith, inl, inr}
use Rattle.std.proofs.Math.ListN.{drop_of_length-le}
use Rattle.std.proofs.Math.Seq.{drop-cons}
use Rattle.std.specs.Char.{is_ascii_digit, digit_value}
use Rattle.std.specs.Fmt.{decimal}
use Rattle.std.specs.List.{list_all}
use Rattle.std.specs.Str.{all_ascii_digits}
use Rattle.std.specs.Str.Parse.{digits_value, digits_value_after}
use Rattle.std.proofs.lemmas.Bool.{and_from, and_parts, cases_Bool, cond-true, cond-false, ltb-true, lt-ltb, le-leb, leb-true}
use Rattle.std.proofs.lemmas.Fmt.{decimal_nonempty, length-decimal-le, digits_decimal, digits_value-decimal}
use Rattle.std.proofs.lemmas.List.Sums.{AllPass-from_list_all, list_all-from_AllPass}
use Rattle.std.proofs.lemmas.Str.{digit_value_digit}
use Rattle.std.proofs.lemmas.Str.Parse.{IsNumeralModel, numerals_by_value, tells_all_ascii_digits}
use Rattle.text_fields.specs.Laws.{NumberTextsAreNumbers, NumberWordsAreNumbers}
use Rattle.text_fields.specs.Numbers.{IsNumberWord, is_number, number_of}

-- std's numerals are read by their value
own : IsNumeralModel (λ ds. all_ascii_digits ds ≡ true) (digits_value 10)
own = numerals_by_value _ tells_all_ascii_digits

all_digits_is : (w : List ℕ) → list_all (λ b. is_ascii_digit b) w ≡ all_ascii_digits w
all_digits_is [] = refl
all_digits_is (b ∷ w) = ap (λ (t : Bool). is_ascii_digit b && t) (all_digits_is w)

-- the test from its facts
is_one : (w : List ℕ) → 0 < length w → length w ≤ 20 → list_all (λ b. is_ascii_digit b) w ≡ true → digits_value 10 w < 2 ^ 64 → is_number w ≡ true
is_one w some most digits fits =
    and_from _ _ (lt-ltb _ _ some) (and_from _ _ (le-leb _ _ most) (and_from _ _ digits (lt-ltb _ _ fits)))

-- the facts from the test
word_facts : (w : List ℕ) → is_number w ≡ true → IsNumberWord w (digits_value 10 w)
word_facts w h =
    let some = and_parts (ltb 0 (length w)) _ h in
    let most = and_parts (leb (length w) 20) _ some.1 in
    let digits = and_parts (list_all (λ b. is_ascii_digit b) w) _ most.1 in
    record { some = ltb-true _ _ some.0; most = leb-true _ _ most.0; digits = AllPass-from_list_all _ w digits.0; value = refl; fits = ltb-true _ _ digits.1 }

-- a number's word is read
word_read : (w : List ℕ) → is_number w ≡ true → number_of w ≡ Some (digits_value 10 w)
unfolding number_of
word_read w good = cond-true (is_number w) (Some (digits_value 10 w)) None good

-- another word isn't
word_not_read : (w : List ℕ) → is_number w ≡ false → number_of w ≡ None
unfolding number_of
word_not_read w bad = cond-false (is_number w) (Some (digits_value 10 w)) None bad

-- digits of the word were read, which make this number, and these bytes are left of it
pub record HasRead (w : List ℕ) (n : ℕ) (left : List ℕ) : Type 0 where
  pub digits : list_all (λ b. is_ascii_digit b) left ≡ list_all (λ b. is_ascii_digit b) w
  pub value : digits_value_after 10 n left ≡ digits_value 10 w

pub read_none : (w : List ℕ) → HasRead w 0 w
read_none w = record { digits = refl; value = refl }

digit_value_is : (c : ℕ) → is_ascii_digit c ≡ true → digit_value c ≡ c - 48
digit_value_is c digit =
    let range = and_parts (leb 48 c) (leb c 57) digit in
    omega (arith, digit_value_digit c (leb-true 48 c range.0, leb-true c 57 range.1), leb-true 48 c range.0)

-- one more digit is read
digit_read : (w : List ℕ) (n c m : ℕ) (left : List ℕ) → HasRead w n (c ∷ left) → is_ascii_digit c ≡ true → m ≡ n * 10 + (c - 48) → HasRead w m left
digit_read w n c m left h digit more = record {
  digits = sym (ap (λ (t : Bool). t && list_all (λ b. is_ascii_digit b) left) digit) ∙ h.digits;
  value = ap (λ (k : ℕ). digits_value_after 10 k left) (more ∙ ap (λ (d : ℕ). n * 10 + d) (sym (digit_value_is c digit))) ∙ h.value;
}

value_grows : (n : ℕ) (ds : List ℕ) → n ≤ digits_value_after 10 n ds
value_grows n [] = omega arith
value_grows n (c ∷ cs) = omega (arith, value_grows (n * 10 + digit_value c) cs)

-- a byte that is no digit, or one that makes the number too great
no_digit_read : (w : List ℕ) (n c : ℕ) (left : List ℕ) → HasRead w n (c ∷ left) → (is_ascii_digit c ≡ true → 2 ^ 64 ≤ n * 10 + (c - 48)) → None ≡ number_of w
no_digit_read w n c left h great = elim (cases_Bool (is_number w)) [
  | inl good ↦
      let facts = word_facts w good in
      let all : list_all (λ b. is_ascii_digit b) w ≡ true = list_all-from_AllPass _ w facts.digits in
      let digit = (and_parts (is_ascii_digit c) (list_all (λ b. is_ascii_digit b) left) (h.digits ∙ all)).0 in
      absurd (omega (arith, great digit, digit_value_is c digit, value_grows (n * 10 + digit_value c) left, h.value, facts.fits))
  | inr bad ↦ sym (word_not_read w bad)
]

-- the same of the byte at a place
pub read_digit : (w : List ℕ) (n m i : ℕ) → HasRead w n (drop i w) → i < length w → is_ascii_digit (slice_index_or w i 0) ≡ true → m ≡ n * 10 + (slice_index_or w i 0 - 48) → HasRead w m (drop (i + 1) w)
read_digit w n m i h within digit more = rw (add-one i) (digit_read w n (slice_index_or w i 0) m (drop (suc i) w) (subst (HasRead w n) (drop-cons w i 0 within) h) digit more)

pub read_no_digit : (w : List ℕ) (n i : ℕ) → HasRead w n (drop i w) → i < length w → (is_ascii_digit (slice_index_or w i 0) ≡ true → 2 ^ 64 ≤ n * 10 + (slice_index_or w i 0 - 48)) → None ≡ number_of w
read_no_digit w n i h within great = no_digit_read w n (slice_index_or w i 0) (drop (suc i) w) (subst (HasRead w n) (drop-cons w i 0 within) h) great

-- all of it was read
pub read_all : (w : List ℕ) (n i : ℕ) → HasRead w n (drop i w) → length w ≤ i → 0 < length w → length w ≤ 20 → n < 2 ^ 64 → Some n ≡ number_of w
read_all w n i read past some most fits =
    let h : HasRead w n [] = subst (HasRead w n) (drop_of_length-le w past) read in
    ap (λ (k : ℕ). Some k) h.value ∙ sym (word_read w (is_one w some most (sym h.digits) (subst (λ (k : ℕ). k < 2 ^ 64) h.value fits)))

-- ---- the laws

pub texts_are_numbers : NumberTextsAreNumbers
texts_are_numbers n small =
    let value : digits_value 10 (decimal n) ≡ n = digits_value-decimal own n small in
    let short : n < 10 ^ 20 = omega arith in
    let good : is_number (decimal n) ≡ true = is_one (decimal n) (decimal_nonempty n small) (length-decimal-le 20 n (omega arith) short small)
    (all_digits_is (decimal n) ∙ digits_decimal own n small) (subst (λ (k : ℕ). k < 2 ^ 64) (sym value) small) in
    word_read (decimal n) good ∙ ap (λ (k : ℕ). Some k) value

number_facts : (w : List ℕ) (n : ℕ) → number_of w ≡ Some n → IsNumberWord w n
number_facts w n e = elim (cases_Bool (is_number w)) [
  | inl good ↦ let same : digits_value 10 w ≡ n = cc (word_read w good) in subst (λ (k : ℕ). IsNumberWord w k) same (word_facts w good)
  | inr bad ↦ absurd (cc (word_not_read w bad))
]

facts_number : (w : List ℕ) (n : ℕ) → IsNumberWord w n → number_of w ≡ Some n
facts_number w n h =
    word_read w (is_one w h.some h.most (list_all-from_AllPass _ w h.digits) (subst (λ (k : ℕ). k < 2 ^ 64) (sym h.value) h.fits)) ∙ ap (λ (k : ℕ). Some k) h.value

pub words_are_numbers : NumberWordsAreNumbers
words_are_numbers w n = (number_facts w n, facts_number w n)
