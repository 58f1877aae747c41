use Rattle.std.proofs.Common.{◌≡◌, ℕ, ◌<◌, List, length, get_or, All, ap, subst, sym, ◌∙◌}
use Rattle.std.specs.Prelude.{IsSome, slice_get}
use Rattle.std.specs.List.Sorted.{IsStrictlyIncreasing}
use Rattle.vec_scan.specs.Image.{Image}
use Rattle.vec_scan.specs.Seal.{offsets_of, row_at}
use Rattle.vec_scan.proofs.Offsets.{each_found, offsets_are, row_found}
use Rattle.vec_scan.proofs.sealed.Sealed.offsets.Goals as goal

pub returns-clause-offsets : goal.returns-clause-offsets
returns-clause-offsets c =
    let s = c.self.inside in
    c.deref.ensures.value ∙ sym (offsets_are s.bytes.items s.offsets.items) ∙ ap (λ (image : Image). offsets_of image.rows) c.self.view_is

pub returns-clause-rise : goal.returns-clause-rise
returns-clause-rise c = subst IsStrictlyIncreasing (sym c.deref.ensures.value) c.self.invariant.rise

pub returns-clause-records : goal.returns-clause-records
returns-clause-records c =
    let rows = c.args.self.now.rows in
    let offsets = returns-clause-offsets c in
    subst (λ (os : List ℕ). All (λ o. IsSome (row_at rows o)) os) (sym offsets) (each_found rows (subst IsStrictlyIncreasing offsets (returns-clause-rise c)))

pub returns-clause-rows : goal.returns-clause-rows
returns-clause-rows c =
    let rows = c.args.self.now.rows in
    let offsets = returns-clause-offsets c in
    let rise = subst IsStrictlyIncreasing offsets (returns-clause-rise c) in
    subst (λ (os : List ℕ). (i : ℕ) → i < length os → row_at rows (get_or os i 0) ≡ slice_get rows i) (sym offsets) (λ i lt. row_found rows i 0 rise lt)
