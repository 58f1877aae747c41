-- Where a search by key ends.
use Rattle.std.specs.Prelude.{◌≡◌, ℕ, ◌+◌, ◌<◌, ◌≤◌, List, length}
use Rattle.std.specs.List.{AllWithin, HoldsAt}
use Rattle.std.specs.declared.cmp.Ordering.TheVariants.{Less, Greater}
use Rattle.accounts_index.specs.declared.entry.Entry.{Entry}
use Rattle.accounts_index.specs.Index.{key_cmp}

-- the entry at place i has the key, those before it a lower one, and those after it a higher one
pub record IsAt (entries : List Entry) (key : List ℕ) (i : ℕ) : Type 0 where
  pub in_range : i < length entries
  pub has_key : HoldsAt (λ e. e.key.0 ≡ key) entries i
  pub lower_before : AllWithin (λ e. key_cmp e.key.0 key ≡ Less) entries 0 i
  pub higher_after : AllWithin (λ e. key_cmp e.key.0 key ≡ Greater) entries (i + 1) (length entries)

-- the entries before place i have a lower key, and those from it on a higher one
pub record IsGap (entries : List Entry) (key : List ℕ) (i : ℕ) : Type 0 where
  pub in_range : i ≤ length entries
  pub lower_before : AllWithin (λ e. key_cmp e.key.0 key ≡ Less) entries 0 i
  pub higher_from : AllWithin (λ e. key_cmp e.key.0 key ≡ Greater) entries i (length entries)
