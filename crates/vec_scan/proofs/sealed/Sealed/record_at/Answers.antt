use Rattle.std.proofs.Common.{◌≡◌, ℕ, List, length, Some, ap, subst, sym, arith, ◌∙◌}
use Rattle.std.specs.Prelude.{slice_range}
use Rattle.account_layout.specs.Record.{HasFields}
use Rattle.vec_scan.specs.Image.{Image, Placed, IsImage}
use Rattle.vec_scan.specs.Forward.{rows_of}
use Rattle.vec_scan.proofs.Located.{located, placed_is}
use Rattle.vec_scan.proofs.sealed.Sealed.record_at.Goals as goal

pub read_record-requires-clause-ordered : goal.read_record-requires-clause-ordered
read_record-requires-clause-ordered c =
    let s = c.self.inside in
    let rows : rows_of s.bytes.items s.offsets.items ≡ c.args.self.now.rows = ap (λ (image : Image). image.rows) c.self.view_is in
    let image : IsImage s.bytes.items c.args.self.now.rows = subst (λ (rs : List Placed). IsImage s.bytes.items rs) rows c.self.invariant.image in
    let found = located s.bytes.items c.args.self.now.rows c.args.offset image c.requires in
    let row = found.0 in
    let l = found.2 in
    let begins = l.begins in
    let ends = l.ends in
    let len : length s.bytes.items ≡ c.len.result = sym (ap length c.deref.ensures.value) ∙ c.deref.ensures.len ∙ sym c.len.ensures in
    omega arith

pub read_record-requires-clause-aligned : goal.read_record-requires-clause-aligned
read_record-requires-clause-aligned c =
    let s = c.self.inside in
    let rows : rows_of s.bytes.items s.offsets.items ≡ c.args.self.now.rows = ap (λ (image : Image). image.rows) c.self.view_is in
    let image : IsImage s.bytes.items c.args.self.now.rows = subst (λ (rs : List Placed). IsImage s.bytes.items rs) rows c.self.invariant.image in
    let found = located s.bytes.items c.args.self.now.rows c.args.offset image c.requires in
    let row = found.0 in
    let l = found.2 in
    l.aligned

pub unreachable-requires : goal.unreachable-requires
unreachable-requires c =
    let s = c.self.inside in
    let rows : rows_of s.bytes.items s.offsets.items ≡ c.args.self.now.rows = ap (λ (image : Image). image.rows) c.self.view_is in
    let image : IsImage s.bytes.items c.args.self.now.rows = subst (λ (rs : List Placed). IsImage s.bytes.items rs) rows c.self.invariant.image in
    let found = located s.bytes.items c.args.self.now.rows c.args.offset image c.requires in
    let row = found.0 in
    let l = found.2 in
    let has : HasFields (slice_range c.deref.result.now c.args.offset l.to) row.row.key l.fields = subst (λ (bytes : List ℕ). HasFields (slice_range bytes c.args.offset l.to) row.row.key l.fields) (sym c.deref.ensures.value) l.has in
    c.in-Err.ensures.only l.to row.row.key l.fields (let len : length s.bytes.items ≡ c.len.result = sym (ap length c.deref.ensures.value) ∙ c.deref.ensures.len ∙ sym c.len.ensures in let ends = l.ends in omega arith) has

pub returns-clause-row : goal.returns-clause-row
returns-clause-row c =
    let s = c.self.inside in
    let rows : rows_of s.bytes.items s.offsets.items ≡ c.args.self.now.rows = ap (λ (image : Image). image.rows) c.self.view_is in
    let image : IsImage s.bytes.items c.args.self.now.rows = subst (λ (rs : List Placed). IsImage s.bytes.items rs) rows c.self.invariant.image in
    let found = located s.bytes.items c.args.self.now.rows c.args.offset image c.requires in
    let row = found.0 in
    let l = found.2 in
    let has : HasFields (slice_range c.deref.result.now c.args.offset l.to) row.row.key l.fields = subst (λ (bytes : List ℕ). HasFields (slice_range bytes c.args.offset l.to) row.row.key l.fields) (sym c.deref.ensures.value) l.has in
    found.1 ∙ ap (λ (r : Placed). Some r) (placed_is c.args.offset row s.bytes.items c.in-Ok.record l (c.in-Ok.ensures.only l.to row.row.key l.fields (let len : length s.bytes.items ≡ c.len.result = sym (ap length c.deref.ensures.value) ∙ c.deref.ensures.len ∙ sym c.len.ensures in let ends = l.ends in omega arith) has))
