use Rattle.std.proofs.Common.{◌∙◌, ℕ, List, subst, sym}
use Rattle.vec_scan.specs.Written.{IsWritten}
use Rattle.append_vec.specs.Filled.{rows_of}
use Rattle.append_vec.proofs.Rows.{fills, in_order}
use Rattle.append_vec.proofs.filling.fill.Goals as goal

pub returns-clause-filled : goal.returns-clause-filled
returns-clause-filled g c =
    let rows = rows_of c.args.accounts.now in
    let w = c.in_ok-bytes.ensures in
    let offsets = c.in_ok-offsets.ensures.items ∙ c.deref.ensures.value in
    let sealed = c.in_ok-sealed.ensures.ok ∙ c.seal_written.ensures rows (subst (λ (os : List ℕ). IsWritten rows c.in_ok-bytes.bytes.items os) (sym offsets) w) in
    fills c.args.slot c.args.id rows c.in_ok-sealed.sealed.value c.in_ok-bytes.bytes.items c.in_ok-bytes.places.items w sealed

pub returns-clause-order : goal.returns-clause-order
returns-clause-order g c _ =
    let rows = rows_of c.args.accounts.now in
    let w = c.in_ok-bytes.ensures in
    let offsets = c.in_ok-offsets.ensures.items ∙ c.deref.ensures.value in
    let sealed = c.in_ok-sealed.ensures.ok ∙ c.seal_written.ensures rows (subst (λ (os : List ℕ). IsWritten rows c.in_ok-bytes.bytes.items os) (sym offsets) w) in
    in_order c.args.slot c.args.id rows c.in_ok-sealed.sealed.value c.in_ok-bytes.bytes.items c.in_ok-bytes.places.items w sealed
