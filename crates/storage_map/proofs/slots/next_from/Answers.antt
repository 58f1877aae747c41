use Rattle.std.proofs.Common.{◌≡◌, None, ap, subst, sym, ◌∙◌}
use Rattle.storage_map.specs.Slots.{Slots, live_at}
use Rattle.storage_map.proofs.Ranges.{IsRest, entries_from, begins, hit, not_some, pass}
use Rattle.storage_map.proofs.slots.next_from.Goals as goal

pub loop-slot-init : goal.loop-slot-init
loop-slot-init c =
    let es = c.args.slots.now.entries in
    let from = c.args.from in
    let range = c.range-slot-items.ensures in
    let is : c.into_iter-slot-iterator.result ≡ entries_from from es = c.into_iter-slot-iterator.ensures.into_iter_gives ∙ range.between tt in
    (tt, tt, subst (λ (rest : Slots). IsRest es from rest) (sym is) (begins from es range.ordered))

pub loop-slot-preserved : goal.loop-slot-preserved
loop-slot-preserved c =
    let es = c.args.slots.now.entries in
    let from = c.args.from in
    let rest = subst (λ (rest : Slots). IsRest es from rest) c.in-Some.ensures.steps c.loop-slot.invariant.2 in
    (tt, tt, pass es from c.in-Some.slot.now c.in-Some.entry.now c.next.new.self rest (not_some c.in-Some.entry.now.live (sym c.is_some.ensures ∙ c.if-is_some.false)))

pub returns-then-is_some : goal.returns-then-is_some
returns-then-is_some c =
    let es = c.args.slots.now.entries in
    let from = c.args.from in
    let rest = subst (λ (rest : Slots). IsRest es from rest) c.in-Some.ensures.steps c.loop-slot.invariant.2 in
    hit es from c.in-Some.slot.now c.in-Some.entry.now c.next.new.self rest (sym c.is_some.ensures ∙ c.if-is_some.true)

pub returns : goal.returns
returns c = λ q from_q.
    let none : live_at c.loop-slot.slot-iterator q ≡ None = ap (λ (rest : Slots). live_at rest q) c.in-None.ensures.steps.0 in
    sym (c.loop-slot.invariant.2.same q from_q) ∙ none
