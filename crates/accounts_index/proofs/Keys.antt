-- The order of keys.
use Rattle.std.proofs.Common.{◌≡◌, ◌≢◌, ℕ, ◌+◌, ◌*◌, ◌/◌, ◌<◌, min, List, [], ◌∷◌, get_or, true, false, nat_lt, nat_eq, eqb, refl, sym, subst, ap, ◌∙◌, inl, inr, arith}
use Rattle.std.proofs.lemmas.Bool.{cases_lt, cases_eq, cond-true, cond-false, eq-eqb, ne_eqb}
use Rattle.std.specs.Ordering.{is_eq, ordering_reverse}
use Rattle.std.specs.Str.{bytes_eq}
use Rattle.std.specs.declared.cmp.Ordering.TheVariants.{Less, Equal, Greater}
use Rattle.std.specs.Cmp.Lexicographic.{texts_ties, bytes_decides, nat_list_cmp_total}
use Rattle.std.specs.Cmp.{tied_itself}
use Rattle.std.specs.FinMap.{nat_cmp-IsAntisymmetric, slice_cmp-IsAntisymmetric}
use Rattle.accounts_index.specs.Bins.{bin_of, first_two, next_bits}
use Rattle.accounts_index.specs.Index.{key_cmp}

pub same_bytes : (a b : List ℕ) → bytes_eq a b ≡ true → a ≡ b
same_bytes a b e = (bytes_decides a b).0 e

pub bytes_eq-self : (a : List ℕ) → bytes_eq a a ≡ true
bytes_eq-self a = (bytes_decides a a).1 refl

pub less_apart : (a b : List ℕ) → key_cmp a b ≡ Less → bytes_eq a b ≡ false
less_apart a b e = texts_ties a b ∙ ap is_eq e

pub greater_apart : (a b : List ℕ) → key_cmp a b ≡ Greater → bytes_eq a b ≡ false
greater_apart a b e = texts_ties a b ∙ ap is_eq e

pub equal_same : (a b : List ℕ) → key_cmp a b ≡ Equal → a ≡ b
equal_same a b e = slice_cmp-IsAntisymmetric nat_cmp-IsAntisymmetric a b e

pub less_trans : (a b c : List ℕ) → key_cmp a b ≡ Less → key_cmp b c ≡ Less → key_cmp a c ≡ Less
less_trans a b c p q = nat_list_cmp_total.trans a b c p q

pub less_turned : (a b : List ℕ) → key_cmp a b ≡ Less → key_cmp b a ≡ Greater
less_turned a b e = nat_list_cmp_total.antisymm b a ∙ ap ordering_reverse e

pub greater_turned : (a b : List ℕ) → key_cmp a b ≡ Greater → key_cmp b a ≡ Less
greater_turned a b e = nat_list_cmp_total.antisymm b a ∙ ap ordering_reverse e

pub key_cmp-self : (a : List ℕ) → key_cmp a a ≡ Equal
key_cmp-self a = tied_itself nat_list_cmp_total a

-- two numbers are one, or apart
pub at_or_apart : {P : Type 0} (k i : ℕ) → (k ≡ i → P) → (k ≢ i → P) → P
at_or_apart k i same apart = elim (cases_lt k i) [
  | inl below ↦ apart (λ e. omega arith)
  | inr not_below ↦ elim (cases_lt i k) [ inl above ↦ apart (λ e. omega arith) | inr not_above ↦ same (omega arith) ]
]

-- a key of lower first two bytes is below one of higher ones
lower_second : (x : ℕ) (p q : List ℕ) → first_two (x ∷ p) < first_two (x ∷ q) → key_cmp p q ≡ Less
lower_second x p [] lt = absurd (omega arith)
lower_second x [] (z ∷ q) lt = refl
lower_second x (w ∷ p) (z ∷ q) lt = let less : nat_lt w z ≡ true = grind arith in rw less refl

-- two keys with one first byte
same_head : (x y : ℕ) (p q : List ℕ) → x ≡ y → key_cmp p q ≡ Less → key_cmp (x ∷ p) (y ∷ q) ≡ Less
same_head x y p q same below =
    let not_less : nat_lt x y ≡ false = grind arith in
    let equal : nat_eq x y ≡ true = grind arith in
    rw (not_less, equal) below

lower_first : (p q : List ℕ) → first_two p < first_two q → key_cmp p q ≡ Less
lower_first p [] lt = absurd (omega arith)
lower_first [] (y ∷ q) lt = refl
lower_first (x ∷ p) (y ∷ q) lt = elim (cases_lt x y) [
  | inl below ↦ let less : nat_lt x y ≡ true = grind arith in rw less refl
  | inr not_below ↦
      let same : x ≡ y = omega arith in
      same_head x y p q same (lower_second y p q (subst (λ n. first_two (n ∷ p) < first_two (y ∷ q)) same lt))
]

-- the number of 14 bits at the front
abbrev bits : List ℕ → ℕ
bits key = min (64 * get_or key 0 0 + min (get_or key 1 0 / 4) 63) 16383

lower_fourth : (x : ℕ) (p q : List ℕ) → bits (x ∷ p) < bits (x ∷ q) → key_cmp p q ≡ Less
lower_fourth x p [] lt = absurd (omega arith)
lower_fourth x [] (z ∷ q) lt = refl
lower_fourth x (w ∷ p) (z ∷ q) lt = let less : nat_lt w z ≡ true = grind arith in rw less refl

lower_bits : (p q : List ℕ) → bits p < bits q → key_cmp p q ≡ Less
lower_bits p [] lt = absurd (omega arith)
lower_bits [] (y ∷ q) lt = refl
lower_bits (x ∷ p) (y ∷ q) lt = elim (cases_lt x y) [
  | inl below ↦ let less : nat_lt x y ≡ true = grind arith in rw less refl
  | inr not_below ↦
      let same : x ≡ y = omega arith in
      same_head x y p q same (lower_fourth y p q (subst (λ n. bits (n ∷ p) < bits (y ∷ q)) same lt))
]

-- of keys that begin with two zeros, one of lower next bits is below one of higher ones
lower_zeros : (p q : List ℕ) → first_two p ≡ 0 → first_two q ≡ 0 → next_bits p < next_bits q → key_cmp p q ≡ Less
lower_zeros p [] zp zq lt = absurd (omega arith)
lower_zeros p (y ∷ []) zp zq lt = absurd (omega arith)
lower_zeros [] (y ∷ z ∷ q) zp zq lt = refl
lower_zeros (x ∷ []) (y ∷ z ∷ q) zp zq lt = same_head x y [] (z ∷ q) (omega arith) refl
lower_zeros (x ∷ w ∷ p) (y ∷ z ∷ q) zp zq lt = same_head x y (w ∷ p) (z ∷ q) (omega arith) (same_head w z p q (omega arith) (lower_bits p q lt))

bin_zeros : (key : List ℕ) → first_two key ≡ 0 → bin_of key ≡ next_bits key
bin_zeros key zeros = cond-true (eqb (first_two key) 0) (next_bits key) (16383 + first_two key) (eq-eqb (first_two key) 0 zeros)

bin_other : (key : List ℕ) → first_two key ≢ 0 → bin_of key ≡ 16383 + first_two key
bin_other key other = cond-false (eqb (first_two key) 0) (next_bits key) (16383 + first_two key) (ne_eqb (first_two key) 0 other)

-- a key of a lower bin is below one of a higher bin
pub lower_key : (p q : List ℕ) → bin_of p < bin_of q → key_cmp p q ≡ Less
lower_key p q lt = elim (cases_eq (first_two p) 0) [
  | inl zp ↦ elim (cases_eq (first_two q) 0) [
    | inl zq ↦ lower_zeros p q zp zq (subst (λ n. n < next_bits q) (bin_zeros p zp) (subst (λ n. bin_of p < n) (bin_zeros q zq) lt))
    | inr oq ↦ let low : 0 < first_two q = grind arith in lower_first p q (subst (λ n. n < first_two q) (sym zp) low)
  ]
  | inr op ↦
      let lt_p : 16383 + first_two p < bin_of q = subst (λ n. n < bin_of q) (bin_other p op) lt in
      elim (cases_eq (first_two q) 0) [
        | inl zq ↦
            let lt_q : 16383 + first_two p < next_bits q = subst (λ n. 16383 + first_two p < n) (bin_zeros q zq) lt_p in absurd (omega arith)
        | inr oq ↦
            let lt_q : 16383 + first_two p < 16383 + first_two q = subst (λ n. 16383 + first_two p < n) (bin_other q oq) lt_p in lower_first p q (omega arith)
      ]
]
