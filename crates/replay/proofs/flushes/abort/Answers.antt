use Rattle.std.proofs.Common.{ℕ, List, Option, Some, sym, subst}
use Rattle.adb_model.specs.Call as machine
use Rattle.book_parts.specs.Stands.{After, with_event}
use Rattle.flush_plan.specs.Jobs.{Job, storage_of}
use Rattle.replay.specs.Standing.{PlayerStands}
use Rattle.replay.proofs.InHand.{found_at, not_found}
use Rattle.replay.proofs.flushes.abort.Goals as goal

pub returns-in_default : goal.returns-in_default
returns-in_default c p start h pass is st =
    subst (λ (r : Option machine.Reply). PlayerStands (record p { book = c.args.book.now; jobs = c.args.jobs.now.items }) start (with_event h pass (machine.FlushAbort c.args.slot) r)) (sym c.refused.ensures)
    (c.flushes_go_on.ensures.none_given_up _ start h pass c.args.slot st (not_found (λ (j : Job). j.slot) storage_of c.args.jobs.now.items c.deref.result.now c.args.slot c.place_of.result c.in_default.is c.place_of.ensures c.deref.ensures.value))

pub flush_abort-requires : goal.flush_abort-requires
flush_abort-requires c =
    let some = c.requires.1 in
    let at = found_at (λ (j : Job). j.slot) storage_of c.args.jobs.now.items c.deref.result.now c.args.slot c.in-Some.place c.place_of.result c.remove-job.result c.in-Some.is c.place_of.ensures c.deref.ensures.value c.remove-job.ensures.value in
    (some.start, some.history, some.stands.book, (c.flushes_go_on.ensures.in_hand _ some.start some.history c.args.slot c.in-Some.place c.remove-job.result some.stands at.0 at.1).0)

pub returns : goal.returns
returns c p start h pass is st =
    let at = found_at (λ (j : Job). j.slot) storage_of c.args.jobs.now.items c.deref.result.now c.args.slot c.in-Some.place c.place_of.result c.remove-job.result c.in-Some.is c.place_of.ensures c.deref.ensures.value c.remove-job.ensures.value in
    let hand = c.flushes_go_on.ensures.in_hand _ start h c.args.slot c.in-Some.place c.remove-job.result st at.0 at.1 in
    let after : After c.flush_abort.new.self start h pass (machine.FlushAbort c.args.slot) (Some machine.Done) =
    subst (λ (s : ℕ). After c.flush_abort.new.self start h pass (machine.FlushAbort s) (Some machine.Done)) hand.1 (c.flush_abort.ensures start h pass st.book hand.0) in
    subst (λ (jobs : List Job). PlayerStands (record p { book = c.flush_abort.new.self; jobs = jobs }) start (with_event h pass (machine.FlushAbort c.args.slot) (Some machine.Done)))
    (sym c.remove-job.ensures.items)
    (c.flushes_go_on.ensures.given_up _ c.flush_abort.new.self start h pass c.args.slot c.in-Some.place c.remove-job.result is st at.0 at.1 after)
