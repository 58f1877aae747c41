use Rattle.std.proofs.Common.{◌∙◌, ap, sym, arith}
use Rattle.field_codec.specs.Paths.{slot_of_path}
use Rattle.field_codec.proofs.Listed.{slots_some, slots_none}
use Rattle.field_codec.proofs.checks.manifest_slots.Goals.{in-Some+in_ok-push-in-Some, in-None}
use Rattle.field_codec.proofs.checks.manifest_slots.Goals as goal

pub loop-path-preserved : goal.loop-path-preserved
loop-path-preserved c =
    let is = c.in_ok-slot.ensures ∙ ap (slot_of_path c.args.name.now) c.deref.ensures in
    elim c.match-branch-2.branch [
      | in-Some+in_ok-push-in-Some w ↦
          ap (λ v. v.items) w.slots-is ∙ w.in_ok-push-in-Some.ensures.items
          ∙ slots_some c.args.name.now c.args.names.now c.loop-path.path-index c.path-item.result w.in-Some.slot c.loop-path.slots.items (omega arith) c.path-item.is c.loop-path.invariant (sym w.in-Some.is ∙ is)
      | in-None w ↦ ap (λ v. v.items) w.slots-is ∙ slots_none c.args.name.now c.args.names.now c.loop-path.path-index c.path-item.result c.loop-path.slots.items (omega arith) c.path-item.is c.loop-path.invariant (sym w.in-None.is ∙ is)
    ]
