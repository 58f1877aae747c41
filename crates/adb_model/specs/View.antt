-- Views.
use Rattle.std.specs.Prelude.{ℕ, List}
use Rattle.std.specs.Ordering.{nat_cmp}
use Rattle.adb_model.specs.Lists.{rising}

-- what a reader sees: the slots of its own fork, rising, and the roots up to one
pub record View : Type 0 where
  pub ancestors : List ℕ
  pub max_root : ℕ

-- the view of these slots, in any order and repeated at will
abbrev pub view_of : List ℕ → ℕ → View
view_of slots max_root = record { ancestors = rising nat_cmp slots; max_root = max_root }
