-- A slot that stands nowhere in a list.
use Rattle.std.proofs.Common.{◌≡◌, ℕ, ◌≤◌, List, length, get_or, false, cond, eqb, arith}
use Rattle.std.specs.List.{AllWithin}
use Rattle.std.proofs.lemmas.List.Sums.{sum_by-le}
use Rattle.storage_map.specs.Inside.{times_in}

pub not_there : (xs : List ℕ) (slot : ℕ) → AllWithin (λ s. eqb s slot ≡ false) xs 0 (length xs) → times_in slot xs ≡ 0
not_there xs slot none = omega (arith, sum_by-le (λ s. cond (eqb s slot) 1 0) 0 xs (λ k d lt. none_at (get_or xs k d) (none k d (omega arith) lt)))
  where
    none_at : (s : ℕ) → eqb s slot ≡ false → cond (eqb s slot) 1 0 ≤ 0
    none_at s e = rw e (omega arith)
