-- Slots that are found one after another.
use Rattle.std.proofs.Common.{◌≡◌, ℕ, ◌+◌, ◌-◌, ◌<◌, ◌≤◌, eqb, ltb, Bool, true, false, ◌&&◌, ◌||◌, Option, Some, None, sym, ap, ◌∙◌, inl, inr, arith}
use Rattle.std.proofs.lemmas.Bool.{cases_order, lt-ltb, le-ltb, le-leb, eq-eqb, ne_eqb, ltb-true, leb-true}
use Rattle.book.specs.Snapping.{IsNextUpto, is_before}

-- how many slots are left to look at
abbrev pub left_upto : ℕ → Option ℕ → ℕ
left_upto upto None = 0
left_upto upto (Some slot) = upto - slot + 1

pub fewer_left : (HasNone : ℕ → Type 0) (found upto : ℕ) (at : Option ℕ) → found ≤ upto → IsNextUpto HasNone (Some found) upto at → left_upto upto at < left_upto upto (Some found)
fewer_left HasNone found upto None le next = omega arith
fewer_left HasNone found upto (Some slot) le next = omega (arith, le, next.0, next.1)

-- what is before the first that has something has nothing
pub none_before : (HasNone : ℕ → Type 0) (upto : ℕ) (at : Option ℕ) → IsNextUpto HasNone None upto at → (s : ℕ) → is_before upto at s ≡ true → HasNone s
none_before HasNone upto None next s t = next s tt (leb-true s upto t)
none_before HasNone upto (Some slot) next s t = next.3 s tt (ltb-true s slot t)

-- what is before the next is before the one that was found, it itself, or has nothing
pub before_next : (HasNone : ℕ → Type 0) (found upto : ℕ) (at : Option ℕ) → found ≤ upto → IsNextUpto HasNone (Some found) upto at → (s : ℕ) → is_before upto at s ≡ true → found < s → HasNone s
before_next HasNone found upto None le next s t above = next s above (leb-true s upto t)
before_next HasNone found upto (Some slot) le next s t above = next.3 s above (ltb-true s slot t)

pub still_before : (HasNone : ℕ → Type 0) (found upto : ℕ) (at : Option ℕ) → found ≤ upto → IsNextUpto HasNone (Some found) upto at → (s : ℕ) → s ≤ found → is_before upto at s ≡ true
still_before HasNone found upto None le next s below = le-leb s upto (omega (arith, le, below))
still_before HasNone found upto (Some slot) le next s below = let above : found < slot = next.1 in lt-ltb s slot (omega (arith, above, below))

-- ---- those that have something, one more each time

module _ (some : ℕ → Bool) (found upto : ℕ) (at : Option ℕ) (le : found ≤ upto) (next : IsNextUpto (λ q. some q ≡ false) (Some found) upto at) (here : some found ≡ true) where
  pub one_more : (s : ℕ) → ((ltb s found && some s) || eqb found s) ≡ (is_before upto at s && some s)
  one_more s = elim (cases_order s found) [
    | inl same ↦
        ap (λ b. (ltb s found && some s) || b) (eq-eqb found s (sym same)) ∙ last_true (ltb s found && some s)
        ∙ sym (ap (λ b. b && some s) (still_before (λ q. some q ≡ false) found upto at le next s (omega (arith, same))) ∙ ap some same ∙ here)
    | inr (inl below) ↦
        ap (λ b. (b && some s) || eqb found s) (lt-ltb s found below) ∙ ap (λ b. some s || b) (ne_eqb found s (λ e. omega (arith, e, below))) ∙ last_false (some s)
        ∙ sym (ap (λ b. b && some s) (still_before (λ q. some q ≡ false) found upto at le next s (omega (arith, below))))
    | inr (inr above) ↦
        ap (λ b. (b && some s) || eqb found s) (le-ltb s found (omega (arith, above))) ∙ ne_eqb found s (λ e. omega (arith, e, above))
        ∙ sym (none_there (is_before upto at s) (some s) (λ t. before_next (λ q. some q ≡ false) found upto at le next s t above))
  ]
    where
      last_true : (b : Bool) → (b || true) ≡ true
      last_true true = cc
      last_true false = cc

      last_false : (b : Bool) → (b || false) ≡ b
      last_false true = cc
      last_false false = cc

      none_there : (a b : Bool) → (a ≡ true → b ≡ false) → (a && b) ≡ false
      none_there true b f = f cc
      none_there false b f = cc
