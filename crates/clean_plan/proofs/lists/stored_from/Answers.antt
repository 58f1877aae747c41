use Rattle.std.proofs.Common.{sym, ◌∙◌, false, arith}
use Rattle.slot_list.specs.declared.Place.TheVariants.{Cached}
use Rattle.slot_list.specs.declared.Version.{Version}
use Rattle.clean_plan.proofs.Searches.{none_at_end, none_at_bound, found_next}
use Rattle.clean_plan.proofs.lists.stored_from.Goals as goal

pub returns-then-version-bound : goal.returns-then-version-bound
returns-then-version-bound c =
    let d : Version = record { slot = 0; place = Cached; tomb = false } in
    none_at_bound c.args.versions.now c.args.from c.args.bound c.loop-place.place c.requires c.loop-place.invariant.none d (omega (arith, c.loop-place-test.true)) c.if-version-bound.true

pub returns-then-is_stored : goal.returns-then-is_stored
returns-then-is_stored c =
    let d : Version = record { slot = 0; place = Cached; tomb = false } in
    let lt = c.loop-place-test.true in
    found_next c.args.versions.now c.args.from c.args.bound c.loop-place.place c.requires c.loop-place.invariant.none d lt (c.loop-place.invariant.above c.loop-place.place d (omega arith) lt)
    c.if-version-bound.false (sym c.is_stored.ensures ∙ c.if-is_stored.true)

pub returns : goal.returns
returns c = none_at_end c.args.versions.now c.args.from c.args.bound c.loop-place.place c.requires c.loop-place.invariant.none (omega (arith, c.loop-place-test.false))
