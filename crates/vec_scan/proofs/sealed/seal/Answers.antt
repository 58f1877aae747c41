use Rattle.std.proofs.Common.{rules, ◌≡◌, ◌%◌, ◌≤◌, ℕ, List, ◌++◌, length, take, refl, sym, ap, subst, ◌∙◌}
use Rattle.std.specs.Prelude.{Err}
use Rattle.std.proofs.lemmas.Result.{err_from_is_err_and}
use Rattle.vec_scan.specs.Image.{IsImage, Placed}
use Rattle.vec_scan.specs.Forward.{IsScanned, Scans, rows_of}
use Rattle.vec_scan.specs.Seal.{padded}
use Rattle.vec_scan.proofs.Padding.{gap_zeros, padded_same, padded_image, padded_aligned}
use Rattle.vec_scan.proofs.Sealing.{refused_fault, sealed_fault}
use Rattle.vec_scan.proofs.sealed.seal.Goals as goal

pub returns-in_err-offsets-clause-only_fault : goal.returns-in_err-offsets-clause-only_fault
returns-in_err-offsets-clause-only_fault c =
    let file = c.args.bytes.items in
    let len = c.args.len in
    let le : len ≤ length file = search rules in
    let image : c.deref.result.now ≡ take len file = c.deref.ensures.value ∙ c.truncate.ensures.items in
    let fault = c.in_err-offsets.field-0.0 in
    let refused : Scans (take len file) (Err fault) = subst (λ (xs : List ℕ). Scans xs (Err fault)) image c.in_err-offsets.ensures in
    let p = err_from_is_err_and c.from_residual.result c.from_residual.ensures.1 in
    rw (p.1, p.2) (λ other has. refused_fault file len fault other le refused has)

pub invariant_of-result : goal.invariant_of-result
invariant_of-result c =
    let file = c.args.bytes.items in
    let len = c.args.len in
    let le : len ≤ length file = search rules in
    let image : c.deref.result.now ≡ take len file = c.deref.ensures.value ∙ c.truncate.ensures.items in
    let offsets = c.in_ok-offsets.offsets.items in
    let law = c.records_are_read.ensures.places in
    let scanned : IsScanned (take len file) offsets = subst (λ (xs : List ℕ). IsScanned xs offsets) image c.in_ok-offsets.ensures in
    let whole : c.extend_from_slice.new.self.items ≡ padded file len =
    c.in_ok-extend_from_slice.ensures.items ∙ (λ i. c.truncate.ensures.items i ++ gap_zeros len c.gap_len.result c.gap_len.ensures i) in
    record {
      image = subst (λ (xs : List ℕ). IsImage xs (rows_of xs offsets)) (sym whole) (padded_image law file offsets len le scanned);
      rise = scanned.rise;
      aligned = ap (λ (xs : List ℕ). length xs % 8) whole ∙ padded_aligned file len le;
    }

pub returns-clause-sealed : goal.returns-clause-sealed
returns-clause-sealed c =
    let file = c.args.bytes.items in
    let len = c.args.len in
    let le : len ≤ length file = search rules in
    let image : c.deref.result.now ≡ take len file = c.deref.ensures.value ∙ c.truncate.ensures.items in
    let offsets = c.in_ok-offsets.offsets.items in
    let law = c.records_are_read.ensures.places in
    let scanned : IsScanned (take len file) offsets = subst (λ (xs : List ℕ). IsScanned xs offsets) image c.in_ok-offsets.ensures in
    let whole : c.extend_from_slice.new.self.items ≡ padded file len =
    c.in_ok-extend_from_slice.ensures.items ∙ (λ i. c.truncate.ensures.items i ++ gap_zeros len c.gap_len.result c.gap_len.ensures i) in
    let rows : rows_of c.extend_from_slice.new.self.items offsets ≡ rows_of (take len file) offsets = ap (λ (xs : List ℕ). rows_of xs offsets) whole ∙ padded_same law file offsets len scanned in
    record {
      slot_is = refl;
      id_is = refl;
      bytes = whole;
      rows = (le, subst (λ (rs : List Placed). IsImage (take len file) rs) (sym rows) scanned.are_rows);
    }

pub returns-clause-only_image : goal.returns-clause-only_image
returns-clause-only_image c =
    let file = c.args.bytes.items in
    let len = c.args.len in
    let le : len ≤ length file = search rules in
    let image : c.deref.result.now ≡ take len file = c.deref.ensures.value ∙ c.truncate.ensures.items in
    let offsets = c.in_ok-offsets.offsets.items in
    let law = c.records_are_read.ensures.places in
    let scanned : IsScanned (take len file) offsets = subst (λ (xs : List ℕ). IsScanned xs offsets) image c.in_ok-offsets.ensures in
    let whole : c.extend_from_slice.new.self.items ≡ padded file len =
    c.in_ok-extend_from_slice.ensures.items ∙ (λ i. c.truncate.ensures.items i ++ gap_zeros len c.gap_len.result c.gap_len.ensures i) in
    let rows : rows_of c.extend_from_slice.new.self.items offsets ≡ rows_of (take len file) offsets = ap (λ (xs : List ℕ). rows_of xs offsets) whole ∙ padded_same law file offsets len scanned in
    λ others is. rows ∙ sym (scanned.only others is.1)

pub returns-clause-only_fault : goal.returns-clause-only_fault
returns-clause-only_fault c =
    let file = c.args.bytes.items in
    let len = c.args.len in
    let le : len ≤ length file = search rules in
    let image : c.deref.result.now ≡ take len file = c.deref.ensures.value ∙ c.truncate.ensures.items in
    let offsets = c.in_ok-offsets.offsets.items in
    let law = c.records_are_read.ensures.places in
    let scanned : IsScanned (take len file) offsets = subst (λ (xs : List ℕ). IsScanned xs offsets) image c.in_ok-offsets.ensures in
    λ fault has. sealed_fault file offsets len fault le scanned has
