use Rattle.std.proofs.Common.{ap, arith}
use Rattle.std.specs.List.{list_any}
use Rattle.std.specs.BTreeSet.{contains}
use Rattle.std.specs.BTreeMap.{is_at}
use Rattle.std.specs.Ordering.{nat_cmp}
use Rattle.std.proofs.lemmas.Result.{err_from_is_err_and}
use Rattle.field_codec.proofs.Slots.{standing_none, standing_more, standing_stops, standing_fails, standing_all, one_more}
use Rattle.field_codec.proofs.read.slots.Goals as goal

pub loop-init : goal.loop-init
loop-init c = rw c.new-storages.ensures.items (standing_none c.args.bytes.now c.args.count (contains nat_cmp c.new-stood.result) c.requires (λ q. ap (list_any (is_at (nat_cmp q))) c.new-stood.ensures.empty))

pub returns-in_err-slot-clause-exact : goal.returns-in_err-slot-clause-exact
returns-in_err-slot-clause-exact c =
    let p = err_from_is_err_and c.from_residual.result c.from_residual.ensures.1 in
    rw (p.1, p.2) (standing_stops c.args.bytes.now c.args.count c.loop.counter c.loop.storages.items (contains nat_cmp c.loop.stood) c.loop.at c.in_err-slot.field-0.0 c.loop-test.true c.loop.invariant c.in_err-slot.ensures.exact)

pub returns-in_err-storage-clause-exact : goal.returns-in_err-storage-clause-exact
returns-in_err-storage-clause-exact c =
    let p = err_from_is_err_and c.from_residual-in_err-storage.result c.from_residual-in_err-storage.ensures.1 in
    rw (p.1, p.2)
    (standing_fails c.args.bytes.now c.args.count c.loop.counter c.loop.storages.items (contains nat_cmp c.loop.stood) c.loop.at c.in_ok-slot.slot c.in_err-storage.field-0.0 c.loop-test.true c.loop.invariant c.in_ok-slot.ensures.exact
    c.in_err-storage.ensures.exact)

pub loop-preserved : goal.loop-preserved
loop-preserved c =
    let slot = c.in_ok-slot in
    let storage = c.in_ok-storage in
    rw c.in_ok-push.ensures.items
    (standing_more c.args.bytes.now c.args.count c.loop.counter c.loop.storages.items (contains nat_cmp c.loop.stood) (contains nat_cmp c.new_slot.new.stood) c.loop.at slot.slot storage.field-0 c.loop-test.true c.loop.invariant slot.ensures.exact
    slot.ensures.fresh storage.ensures.exact storage.ensures.slot (let inside = storage.ensures.inside in omega arith)
    (λ q. one_more slot.slot q (contains nat_cmp c.new_slot.new.stood q) (contains nat_cmp c.loop.stood q) (slot.ensures.kept.0 q)))

pub returns-clause-exact : goal.returns-clause-exact
returns-clause-exact c = standing_all c.args.bytes.now c.args.count c.loop.counter c.loop.storages.items (contains nat_cmp c.loop.stood) c.loop.at c.loop-test.false c.loop.invariant
