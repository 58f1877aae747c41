-- Words that are split at a byte which the part before it lacks.
use Rattle.std.proofs.Common.{◌≡◌, ℕ, suc, ◌+◌, ◌<◌, ◌≤◌, Bool, true, false, cond, eqb, leb, List, [], ◌∷◌, ◌++◌, length, take, drop, get_or, Some, None, refl, ap, ◌∙◌, arith, inl, inr, eq-eqb}
use Rattle.std.specs.Prelude.{◌⊎◌, not}
use Rattle.std.specs.Char.{is_ascii_digit}
use Rattle.std.specs.List.{AllByRecursion, list_all, position_or_len, before_first, after_first}
use Rattle.std.specs.Str.Parse.{digits_value}
use Rattle.std.proofs.lemmas.List.{drop_all}
use Rattle.std.proofs.lemmas.Bool.{and_parts, cases_Bool, cases_lt, cond-true, cond-false, eqb-true, ne_eqb, leb-true}
use Rattle.std.proofs.lemmas.List.Sums.{split_at_first, passes_at_first}
use Rattle.text_fields.specs.Numbers.{is_number, number_of}

-- which way a test went
pub chosen : {A : Type 0} (b : Bool) (x y z : A) → cond b x y ≡ z → ((b ≡ true) × (x ≡ z)) ⊎ ((b ≡ false) × (y ≡ z))
chosen true x y z e = inl (refl, e)
chosen false x y z e = inr (refl, e)

-- ---- bytes that no number has

-- no byte of the list is this one
abbrev pub Lacks : ℕ → List ℕ → Type 0
Lacks c bs = AllByRecursion (λ b. eqb b c ≡ false) bs

-- this one is no digit
abbrev pub IsNoDigit : ℕ → Type 0
IsNoDigit c = (b : ℕ) → is_ascii_digit b ≡ true → eqb b c ≡ false

digit_range : (b : ℕ) → is_ascii_digit b ≡ true → (48 ≤ b) × (b ≤ 57)
digit_range b h = let p = and_parts (leb 48 b) (leb b 57) h in (leb-true _ _ p.0, leb-true _ _ p.1)

pub no_digit : (c : ℕ) → (c < 48) ⊎ (57 < c) → IsNoDigit c
no_digit c out b h = let r = digit_range b h in ne_eqb b c (λ same. elim out [ inl low ↦ omega arith | inr high ↦ omega arith ])

digits_lack : (c : ℕ) → IsNoDigit c → (w : List ℕ) → list_all (λ b. is_ascii_digit b) w ≡ true → Lacks c w
digits_lack c out [] h = tt
digits_lack c out (b ∷ w) h = let p = and_parts (is_ascii_digit b) (list_all (λ x. is_ascii_digit x) w) h in (out b p.0, digits_lack c out w p.1)

pub number_lacks : (c : ℕ) → IsNoDigit c → (w : List ℕ) (n : ℕ) → number_of w ≡ Some n → Lacks c w
unfolding number_of
number_lacks c out w n e = elim (cases_Bool (is_number w)) [
  | inl good ↦
      let some = and_parts _ _ good in
      let most = and_parts _ _ some.1 in
      digits_lack c out w (and_parts (list_all (λ b. is_ascii_digit b) w) _ most.1).0
  | inr bad ↦ absurd (cc (cond-false (is_number w) (Some (digits_value 10 w)) None bad))
]

pub lacks_more : (c : ℕ) (xs ys : List ℕ) → Lacks c xs → Lacks c ys → Lacks c (xs ++ ys)
lacks_more c [] ys h k = k
lacks_more c (x ∷ xs) ys h k = (h.0, lacks_more c xs ys h.1 k)

-- ---- halves

-- where the separator is
at_front : (c : ℕ) (front back : List ℕ) → Lacks c front → position_or_len (λ b. eqb b c) (front ++ c ∷ back) ≡ length front
at_front c [] back h = cond-false (not (eqb c c)) _ _ (ap not (eq-eqb c c refl))
at_front c (b ∷ front) back h = cond-true (not (eqb b c)) (1 + position_or_len (λ x. eqb x c) (front ++ c ∷ back)) 0 (ap not h.0) ∙ omega (arith, at_front c front back h.1)

front_again : (front rest : List ℕ) → take (length front) (front ++ rest) ≡ front
front_again [] rest = refl
front_again (b ∷ front) rest = ap (λ (l : List ℕ). b ∷ l) (front_again front rest)

back_again : (front : List ℕ) (b : ℕ) (back : List ℕ) → drop (suc (length front)) (front ++ b ∷ back) ≡ back
back_again [] b back = refl
back_again (x ∷ front) b back = back_again front b back

-- the parts of a word that was joined so
pub before_again : (c : ℕ) (front back : List ℕ) → Lacks c front → before_first (λ b. eqb b c) (front ++ c ∷ back) ≡ front
before_again c front back h = ap (λ (n : ℕ). take n (front ++ c ∷ back)) (at_front c front back h) ∙ front_again front (c ∷ back)

pub after_again : (c : ℕ) (front back : List ℕ) → Lacks c front → after_first (λ b. eqb b c) (front ++ c ∷ back) ≡ back
after_again c front back h =
    let past : position_or_len (λ b. eqb b c) (front ++ c ∷ back) + 1 ≡ suc (length front) = omega (arith, at_front c front back h) in
    ap (λ (n : ℕ). drop n (front ++ c ∷ back)) past ∙ back_again front c back

-- a word that has something after the separator
pub joined_again : (c : ℕ) (w : List ℕ) → (after_first (λ b. eqb b c) w ≡ [] → ⊥) → w ≡ before_first (λ b. eqb b c) w ++ c ∷ after_first (λ b. eqb b c) w
joined_again c w some =
    let test : ℕ → Bool = λ b. eqb b c in
    elim (cases_lt (position_or_len test w) (length w)) [
      | inl lt ↦
          let sign : get_or w (position_or_len test w) 0 ≡ c = eqb-true _ _ (passes_at_first test w 0 lt) in
          split_at_first test w 0 lt ∙ ap (λ (b : ℕ). before_first test w ++ b ∷ after_first test w) sign
      | inr ge ↦ absurd (some (drop_all (position_or_len test w + 1) w (omega arith)))
    ]
