use Rattle.std.proofs.Common.{ℕ, List, Option, Some, refl, ap, ◌∙◌, sym, subst}
use Rattle.std.specs.Option.{option_map}
use Rattle.adb_model.specs.declared.key.Key.{Key}
use Rattle.book_parts.specs.Stands.{After}
use Rattle.adb_model.specs.Call as machine
use Rattle.adb_model.specs.Seen.{call_of, counts_of}
use Rattle.book.specs.Replies.{store_reply, root_reply, purge_reply, lease_reply, end_lease_reply, raise_reply, reclaim_reply}
use Rattle.pass_pins.specs.Pins.{Pins}
use Rattle.flush_plan.specs.Jobs.{Job}
use Rattle.book_parts.specs.Parts.{Parts}
use Rattle.book_parts.specs.Shrinks.{Copy}
use Rattle.book_parts.specs.Snaps.{Snapshot}
use Rattle.replay.specs.Standing.{Lanes, told}
use Rattle.replay.proofs.Asked.{as_asked, key_lent}
use Rattle.adb_model.specs.History.{state_after}
use Rattle.replay.proofs.Snaps.{shown_as}
use Rattle.replay.proofs.player.step_filled.Goals as goal

abbrev lanes : Parts → List Pins → List Job → List Copy → Option Snapshot → Lanes
lanes book pins jobs shrinks snap = record { book = book; pins = pins; jobs = jobs; shrinks = shrinks; snap = snap }

pub returns-in_ok-clone-in-Store-clause-stands : goal.returns-in_ok-clone-in-Store-clause-stands
returns-in_ok-clone-in-Store-clause-stands g c start h st =
    let call = machine.Store c.in-Store.slot c.in-Store.key.0 c.in_ok-clone-in-Store.field-0.value in
    as_asked _ start h c.args.lane call (call_of c.args.call.now) (store_reply c.store.result) (told c.stored.result)
    (ap call_of c.in-Store.is ∙ ap (λ a. machine.Store c.in-Store.slot c.in-Store.key.0 a) (sym c.in_ok-clone-in-Store.ensures.cases)) c.stored.ensures
    (c.lanes_go_on.ensures.steady _ c.store.new.self start h c.args.lane call (store_reply c.store.result) c.requires.lane refl refl refl refl st (c.store.ensures start h c.args.lane st.book))

pub returns-in-Root-clause-stands : goal.returns-in-Root-clause-stands
returns-in-Root-clause-stands g c start h st =
    let call = machine.Root c.in-Root.slot in
    as_asked _ start h c.args.lane call (call_of c.args.call.now) (root_reply c.root.result) (told c.rooted.result) (ap call_of c.in-Root.is) c.rooted.ensures
    (c.lanes_go_on.ensures.steady _ c.root.new.self start h c.args.lane call (root_reply c.root.result) c.requires.lane refl refl refl refl st (c.root.ensures start h c.args.lane st.book))

pub returns-in-Purge-clause-stands : goal.returns-in-Purge-clause-stands
returns-in-Purge-clause-stands g c start h st =
    let call = machine.Purge c.in-Purge.slot in
    as_asked _ start h c.args.lane call (call_of c.args.call.now) (Some (purge_reply c.purge.result)) (told c.purged.result) (ap call_of c.in-Purge.is) c.purged.ensures
    (c.lanes_go_on.ensures.steady _ c.purge.new.self start h c.args.lane call (Some (purge_reply c.purge.result)) c.requires.lane refl refl refl refl st (c.purge.ensures start h c.args.lane st.book))

pub returns-in-Load-clause-stands : goal.returns-in-Load-clause-stands
returns-in-Load-clause-stands g c start h st =
    as_asked _ start h c.args.lane (machine.Load c.in-Load.view c.in-Load.key.0) (call_of c.args.call.now) (told c.load.result) (told c.load.result) (ap call_of c.in-Load.is) refl
    (c.load.ensures (lanes c.args.book.now c.args.pins.now.items c.args.jobs.now.items c.args.shrinks.now.items c.args.snap.now) start h st)

pub returns-in-Unpin-clause-stands : goal.returns-in-Unpin-clause-stands
returns-in-Unpin-clause-stands g c start h st =
    as_asked _ start h c.args.lane (machine.Unpin c.in-Unpin.id) (call_of c.args.call.now) (told c.unpin.result) (told c.unpin.result) (ap call_of c.in-Unpin.is) refl
    (c.unpin.ensures (lanes c.args.book.now c.args.pins.now.items c.args.jobs.now.items c.args.shrinks.now.items c.args.snap.now) start h st)

pub returns-in-FlushBegin-clause-stands : goal.returns-in-FlushBegin-clause-stands
returns-in-FlushBegin-clause-stands g c start h st =
    as_asked _ start h c.args.lane (machine.FlushBegin c.in-FlushBegin.slot) (call_of c.args.call.now) (told c.begin.result) (told c.begin.result) (ap call_of c.in-FlushBegin.is) refl
    (c.begin.ensures (lanes c.args.book.now c.args.pins.now.items c.args.jobs.now.items c.args.shrinks.now.items c.args.snap.now) start h c.args.lane c.requires.lane st)

pub returns-in-FlushEnd-clause-stands : goal.returns-in-FlushEnd-clause-stands
returns-in-FlushEnd-clause-stands g c start h st =
    as_asked _ start h c.args.lane (machine.FlushEnd c.in-FlushEnd.slot) (call_of c.args.call.now) (told c.end.result) (told c.end.result) (ap call_of c.in-FlushEnd.is) refl
    (c.end.ensures (lanes c.args.book.now c.args.pins.now.items c.args.jobs.now.items c.args.shrinks.now.items c.args.snap.now) start h c.args.lane c.requires.lane st)

pub returns-in-FlushAbort-clause-stands : goal.returns-in-FlushAbort-clause-stands
returns-in-FlushAbort-clause-stands g c start h st =
    as_asked _ start h c.args.lane (machine.FlushAbort c.in-FlushAbort.slot) (call_of c.args.call.now) (told c.abort.result) (told c.abort.result) (ap call_of c.in-FlushAbort.is) refl
    (c.abort.ensures (lanes c.args.book.now c.args.pins.now.items c.args.jobs.now.items c.args.shrinks.now.items c.args.snap.now) start h c.args.lane c.requires.lane st)

pub returns-in-Stats-clause-stands : goal.returns-in-Stats-clause-stands
returns-in-Stats-clause-stands g c start h st =
    let reply = Some (machine.Counted (counts_of c.stats.result)) in
    as_asked _ start h c.args.lane machine.Stats (call_of c.args.call.now) reply reply (ap call_of c.in-Stats.is) refl
    (c.lanes_go_on.ensures.steady _ c.args.book.now start h c.args.lane machine.Stats reply c.requires.lane refl refl refl refl st (c.stats.ensures start h c.args.lane st.book))

pub returns-in-Lease-clause-stands : goal.returns-in-Lease-clause-stands
returns-in-Lease-clause-stands g c start h st =
    let call = machine.Lease c.in-Lease.max_root in
    as_asked _ start h c.args.lane call (call_of c.args.call.now) (lease_reply c.lease.result) (told c.leased.result) (ap call_of c.in-Lease.is) c.leased.ensures
    (c.lanes_go_on.ensures.steady _ c.lease.new.self start h c.args.lane call (lease_reply c.lease.result) c.requires.lane refl refl refl refl st (c.lease.ensures start h st.book))

pub returns-in-EndLease-clause-stands : goal.returns-in-EndLease-clause-stands
returns-in-EndLease-clause-stands g c start h st =
    let call = machine.EndLease c.in-EndLease.max_root in
    as_asked _ start h c.args.lane call (call_of c.args.call.now) (Some (end_lease_reply c.end_lease.result)) (told c.lease_ended.result) (ap call_of c.in-EndLease.is) c.lease_ended.ensures
    (c.lanes_go_on.ensures.steady _ c.end_lease.new.self start h c.args.lane call (Some (end_lease_reply c.end_lease.result)) c.requires.lane refl refl refl refl st (c.end_lease.ensures start h st.book))

pub returns-in-Raise-clause-stands : goal.returns-in-Raise-clause-stands
returns-in-Raise-clause-stands g c start h st =
    let call = machine.Raise c.in-Raise.upto in
    as_asked _ start h c.args.lane call (call_of c.args.call.now) (Some (raise_reply c.raise.result)) (told c.raised.result) (ap call_of c.in-Raise.is) c.raised.ensures
    (c.lanes_go_on.ensures.steady _ c.raise.new.self start h c.args.lane call (Some (raise_reply c.raise.result)) c.requires.lane refl refl refl refl st (c.raise.ensures start h c.args.lane st.book))

pub returns-in-Reclaim-clause-stands : goal.returns-in-Reclaim-clause-stands
returns-in-Reclaim-clause-stands g c start h st =
    let after = option_map (λ (k : Key). k.0) c.in-Reclaim.after in
    let most = c.in-Reclaim.most in
    let reply = Some (reclaim_reply (option_map (λ (k : Key). k.0) c.reclaim.result)) in
    as_asked _ start h c.args.lane (machine.Reclaim after most) (call_of c.args.call.now) reply (told c.reclaimed.result) (ap call_of c.in-Reclaim.is) c.reclaimed.ensures
    (c.lanes_go_on.ensures.reclaimed _ c.reclaim.new.self start h c.args.lane after most reply c.requires.lane st
    (subst (λ (a : Option (List ℕ)). After c.reclaim.new.self start h c.args.lane (machine.Reclaim a most) reply) (key_lent c.as_ref.result c.in-Reclaim.after c.as_ref.ensures.value) (c.reclaim.ensures.stands start h c.args.lane st.book)))

pub returns-in-ShrinkBegin-clause-stands : goal.returns-in-ShrinkBegin-clause-stands
returns-in-ShrinkBegin-clause-stands g c start h st =
    as_asked _ start h c.args.lane (machine.ShrinkBegin c.in-ShrinkBegin.slot) (call_of c.args.call.now) (told c.begin-in-ShrinkBegin.result) (told c.begin-in-ShrinkBegin.result) (ap call_of c.in-ShrinkBegin.is) refl
    (c.begin-in-ShrinkBegin.ensures (lanes c.args.book.now c.args.pins.now.items c.args.jobs.now.items c.args.shrinks.now.items c.args.snap.now) start h c.args.lane c.requires.lane st)

pub returns-in-ShrinkEnd-clause-stands : goal.returns-in-ShrinkEnd-clause-stands
returns-in-ShrinkEnd-clause-stands g c start h st =
    as_asked _ start h c.args.lane (machine.ShrinkEnd c.in-ShrinkEnd.slot) (call_of c.args.call.now) (told c.end-in-ShrinkEnd.result) (told c.end-in-ShrinkEnd.result) (ap call_of c.in-ShrinkEnd.is) refl
    (c.end-in-ShrinkEnd.ensures (lanes c.args.book.now c.args.pins.now.items c.args.jobs.now.items c.args.shrinks.now.items c.args.snap.now) start h c.args.lane c.requires.lane st)

pub returns-in-ShrinkAbort-clause-stands : goal.returns-in-ShrinkAbort-clause-stands
returns-in-ShrinkAbort-clause-stands g c start h st =
    as_asked _ start h c.args.lane (machine.ShrinkAbort c.in-ShrinkAbort.slot) (call_of c.args.call.now) (told c.abort-in-ShrinkAbort.result) (told c.abort-in-ShrinkAbort.result) (ap call_of c.in-ShrinkAbort.is) refl
    (c.abort-in-ShrinkAbort.ensures (lanes c.args.book.now c.args.pins.now.items c.args.jobs.now.items c.args.shrinks.now.items c.args.snap.now) start h c.args.lane c.requires.lane st)

pub returns-in-Recycle-clause-stands : goal.returns-in-Recycle-clause-stands
returns-in-Recycle-clause-stands g c start h st =
    let reply = Some (machine.Recycled c.recycle.result) in
    as_asked _ start h c.args.lane machine.Recycle (call_of c.args.call.now) reply reply (ap call_of c.in-Recycle.is) refl
    (c.lanes_go_on.ensures.recycled _ c.recycle.new.self start h c.args.lane reply c.requires.lane st (c.recycle.ensures start h c.args.lane st.book))

pub returns-in-SnapBegin-clause-stands : goal.returns-in-SnapBegin-clause-stands
returns-in-SnapBegin-clause-stands g c start h st =
    as_asked _ start h c.args.lane (machine.SnapBegin c.in-SnapBegin.slot) (call_of c.args.call.now) (told c.begin-in-SnapBegin.result) (told c.begin-in-SnapBegin.result) (ap call_of c.in-SnapBegin.is) refl
    (c.begin-in-SnapBegin.ensures.stands (lanes c.args.book.now c.args.pins.now.items c.args.jobs.now.items c.args.shrinks.now.items c.args.snap.now) start h c.args.lane c.requires.lane st)

pub returns-in-SnapEnd-clause-stands : goal.returns-in-SnapEnd-clause-stands
returns-in-SnapEnd-clause-stands g c start h st =
    as_asked _ start h c.args.lane (machine.SnapEnd c.in-SnapEnd.slot) (call_of c.args.call.now) (told c.end-in-SnapEnd.result) (told c.end-in-SnapEnd.result) (ap call_of c.in-SnapEnd.is) refl
    (c.end-in-SnapEnd.ensures (lanes c.args.book.now c.args.pins.now.items c.args.jobs.now.items c.args.shrinks.now.items c.args.snap.now) start h c.args.lane c.requires.lane st)

pub load-requires-clause-some : goal.load-requires-clause-some
load-requires-clause-some g c = (lanes c.args.book.now c.args.pins.now.items c.args.jobs.now.items c.args.shrinks.now.items c.args.snap.now, c.requires.some)

pub unpin-requires-clause-some : goal.unpin-requires-clause-some
unpin-requires-clause-some g c = (lanes c.args.book.now c.args.pins.now.items c.args.jobs.now.items c.args.shrinks.now.items c.args.snap.now, c.requires.some)

pub end-requires-clause-some : goal.end-requires-clause-some
end-requires-clause-some g c = (lanes c.args.book.now c.args.pins.now.items c.args.jobs.now.items c.args.shrinks.now.items c.args.snap.now, c.requires.some)

pub abort-requires : goal.abort-requires
abort-requires g c = (lanes c.args.book.now c.args.pins.now.items c.args.jobs.now.items c.args.shrinks.now.items c.args.snap.now, c.requires.some)

pub end-requires-in-ShrinkEnd : goal.end-requires-in-ShrinkEnd
end-requires-in-ShrinkEnd g c = (lanes c.args.book.now c.args.pins.now.items c.args.jobs.now.items c.args.shrinks.now.items c.args.snap.now, c.requires.some)

pub abort-requires-in-ShrinkAbort : goal.abort-requires-in-ShrinkAbort
abort-requires-in-ShrinkAbort g c = (lanes c.args.book.now c.args.pins.now.items c.args.jobs.now.items c.args.shrinks.now.items c.args.snap.now, c.requires.some)

pub end-requires-in-SnapEnd : goal.end-requires-in-SnapEnd
end-requires-in-SnapEnd g c = (lanes c.args.book.now c.args.pins.now.items c.args.jobs.now.items c.args.shrinks.now.items c.args.snap.now, c.requires.some)

pub returns-in-SnapBegin-clause-shows : goal.returns-in-SnapBegin-clause-shows
returns-in-SnapBegin-clause-shows g c start h st =
    shown_as c.begin-in-SnapBegin.result (machine.SnapBegin c.in-SnapBegin.slot) (call_of c.args.call.now) (state_after start h) c.begin-in-SnapBegin.new.snap (ap call_of c.in-SnapBegin.is)
    (c.begin-in-SnapBegin.ensures.shows (lanes c.args.book.now c.args.pins.now.items c.args.jobs.now.items c.args.shrinks.now.items c.args.snap.now) start h st)
