use Rattle.std.proofs.Common.{◌≡◌, true, IsSome, refl, sym, arith}
use Rattle.std.proofs.lemmas.Bool.{true≢false}
use Rattle.cell_table.specs.declared.phase.Phase.{Phase}
use Rattle.cell_table.specs.declared.phase.Phase.TheVariants.{Free, Filling, Live, Retired}
use Rattle.cell_table.specs.Phases.{is_live, value_of}
use Rattle.cell_table.specs.Cells.{cell_at}
use Rattle.book_parts.specs.Parts.{Shared}
use Rattle.book_parts.proofs.UsedStorage.{none_used, used_storage}
use Rattle.book_parts.proofs.shrinking.used_storage_reflects.Goals as goal

filled : (phase : Phase Shared) → is_live phase ≡ true → IsSome (value_of phase)
filled Free live = absurd (true≢false (sym live))
filled (Filling id bytes) live = absurd (true≢false (sym live))
filled (Live id bytes pins image) live = refl
filled (Retired id bytes pins image) live = absurd (true≢false (sym live))

pub returns-clause-there : goal.returns-clause-there
returns-clause-there c = λ p m slot live h once r e.
    let f = used_storage p m slot live h.ids.differ r e in
    let most = c.counts_are_bounded.ensures.named_in m h once slot f.0 f.1 in
    (f.0, f.1, f.2, f.3, f.4, f.5, omega (arith, most, f.4, f.5))

pub returns-clause-none : goal.returns-clause-none
returns-clause-none c = none_used

pub returns-clause-filled : goal.returns-clause-filled
returns-clause-filled c = λ p cell live. filled (cell_at p.cells.cells cell) live
