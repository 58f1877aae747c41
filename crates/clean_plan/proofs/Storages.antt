-- A storage without a row alive retires.
use Rattle.std.proofs.Common.{◌≡◌, ℕ, ◌+◌, List, length, set, Bool, true, false, cond, Option, Some, None, IsSome, IsSomeAnd, count_by, refl, sym, ap, ◌∙◌, inl, inr, arith}
use Rattle.std.proofs.lemmas.Bool.{cases_lt, false≢true}
use Rattle.std.proofs.lemmas.List.{get_or_past}
use Rattle.std.proofs.lemmas.List.Sums.{sum_by-set}
use Rattle.cell_table.specs.declared.phase.Phase.{Phase}
use Rattle.cell_table.specs.declared.phase.Phase.TheVariants.{Free, Filling, Live, Retired}
use Rattle.cell_table.specs.Phases.{is_live, retired, value_of}
use Rattle.cell_table.specs.Cells.{cell_at}
use Rattle.storage_map.specs.declared.entry.Live as entry
use Rattle.storage_map.specs.Slots.{Slots, live_at, TellsEmptied}

pub live_value : {T : Type 0} (phase : Phase T) → is_live phase ≡ true → IsSome (value_of phase)
live_value Free live = absurd (false≢true live)
live_value (Filling id bytes) live = absurd (false≢true live)
live_value (Live id bytes pins value) live = refl
live_value (Retired id bytes pins value) live = absurd (false≢true live)

not_live : {T : Type 0} (phase : Phase T) → is_live (retired phase) ≡ false
not_live Free = refl
not_live (Filling id bytes) = refl
not_live (Live id bytes pins value) = refl
not_live (Retired id bytes pins value) = refl

abbrev one_if : Bool → ℕ
one_if b = cond b 1 0

-- one live cell fewer
pub live_fewer : {T : Type 0} (cells : List (Phase T)) (cell : ℕ) → is_live (cell_at cells cell) ≡ true → count_by is_live (set cells cell (retired (cell_at cells cell))) + 1 ≡ count_by is_live cells
live_fewer cells cell live = elim (cases_lt cell (length cells)) [
  | inl within ↦
      let sums = sum_by-set (λ c. one_if (is_live c)) cells cell (retired (cell_at cells cell)) Free within in
      omega (arith, sums, ap one_if live, ap one_if (not_live (cell_at cells cell)))
  | inr past ↦ absurd (false≢true (sym (ap is_live (get_or_past cells cell Free past)) ∙ live))
]

-- the storage in use of the slot that the map tells
pub none_alive : (map : Slots) (slot : ℕ) (live : entry.Live) → Some live ≡ live_at map slot → TellsEmptied map (Some slot) → live.alive ≡ 0
none_alive map slot live is told = by (live_at map slot) is told
  where
    by : (o : Option entry.Live) → Some live ≡ o → IsSomeAnd o (λ l. l.alive ≡ 0) → live.alive ≡ 0
    by None is told = absurd told
    by (Some l) is told = let same : live ≡ l = cc in ap (λ (x : entry.Live). x.alive) same ∙ told

pub some_live : (map : Slots) (slot : ℕ) → None ≡ live_at map slot → TellsEmptied map (Some slot) → ⊥
some_live map slot is told = by (live_at map slot) is told
  where
    by : (o : Option entry.Live) → None ≡ o → IsSomeAnd o (λ l. l.alive ≡ 0) → ⊥
    by None is told = told
    by (Some l) is told = absurd cc
