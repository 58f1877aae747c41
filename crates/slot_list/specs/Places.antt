-- Where a search by slot ends.
use Rattle.std.specs.Prelude.{◌≡◌, ℕ, ◌+◌, ◌<◌, ◌≤◌, List, length}
use Rattle.std.specs.List.{AllWithin, HoldsAt}

-- the element at place i has the slot, those before it a lower one, and those after it a higher one
pub record IsAt {X : Type 0} (slot_of : X → ℕ) (xs : List X) (slot i : ℕ) : Type 0 where
  pub in_range : i < length xs
  pub has_slot : HoldsAt (λ x. slot_of x ≡ slot) xs i
  pub lower_before : AllWithin (λ x. slot_of x < slot) xs 0 i
  pub higher_after : AllWithin (λ x. slot < slot_of x) xs (i + 1) (length xs)

-- the elements before place i have a lower slot, and those from it on a higher one
pub record IsGap {X : Type 0} (slot_of : X → ℕ) (xs : List X) (slot i : ℕ) : Type 0 where
  pub in_range : i ≤ length xs
  pub lower_before : AllWithin (λ x. slot_of x < slot) xs 0 i
  pub higher_from : AllWithin (λ x. slot < slot_of x) xs i (length xs)
