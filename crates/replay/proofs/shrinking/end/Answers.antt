use Rattle.std.proofs.Common.{ℕ, List, Option, Some, sym, subst}
use Rattle.adb_model.specs.Call as machine
use Rattle.book_parts.specs.Shrinks.{Copy, shrink_of}
use Rattle.book_parts.specs.Stands.{After, with_event}
use Rattle.book.specs.Replies.{shrink_end_reply}
use Rattle.replay.specs.Standing.{PlayerStands}
use Rattle.replay.proofs.InHand.{found_at, not_found}
use Rattle.replay.proofs.shrinking.end.Goals as goal

pub returns-in_default : goal.returns-in_default
returns-in_default g c p start h pass is st =
    subst (λ (r : Option machine.Reply). PlayerStands (record p { book = c.args.book.now; shrinks = c.args.shrinks.now.items }) start (with_event h pass (machine.ShrinkEnd c.args.slot) r)) (sym c.refused.ensures)
    (c.shrinks_go_on.ensures.none_ended _ start h pass c.args.slot st (not_found (λ (y : Copy). y.slot) shrink_of c.args.shrinks.now.items c.deref.result.now c.args.slot c.place_of.result c.in_default.is c.place_of.ensures c.deref.ensures.value))

pub shrink_end-requires-clause-open : goal.shrink_end-requires-clause-open
shrink_end-requires-clause-open g c =
    let some = c.requires.1 in
    let at = found_at (λ (y : Copy). y.slot) shrink_of c.args.shrinks.now.items c.deref.result.now c.args.slot c.in-Some.place c.place_of.result c.remove-job.result c.in-Some.is c.place_of.ensures c.deref.ensures.value c.remove-job.ensures.value in
    (some.start, some.history, some.stands.book, (c.shrinks_go_on.ensures.in_hand _ some.start some.history c.args.slot c.in-Some.place c.remove-job.result some.stands at.0 at.1).0)

pub returns : goal.returns
returns g c p start h pass is st =
    let at = found_at (λ (y : Copy). y.slot) shrink_of c.args.shrinks.now.items c.deref.result.now c.args.slot c.in-Some.place c.place_of.result c.remove-job.result c.in-Some.is c.place_of.ensures c.deref.ensures.value c.remove-job.ensures.value in
    let hand = c.shrinks_go_on.ensures.in_hand _ start h c.args.slot c.in-Some.place c.remove-job.result st at.0 at.1 in
    let reply = shrink_end_reply c.shrink_end.result in
    let after : After c.shrink_end.new.self start h pass (machine.ShrinkEnd c.args.slot) (Some reply) =
    subst (λ (s : ℕ). After c.shrink_end.new.self start h pass (machine.ShrinkEnd s) (Some reply)) hand.1 (c.shrink_end.ensures start h pass st.book hand.0) in
    let made = c.shrinks_go_on.ensures.ended _ c.shrink_end.new.self start h pass c.args.slot c.in-Some.place c.remove-job.result reply is st at.0 at.1 after in
    subst (λ (r : machine.Reply). PlayerStands (record p { book = c.shrink_end.new.self; shrinks = c.remove-job.new.self.items }) start (with_event h pass (machine.ShrinkEnd c.args.slot) (Some r))) (sym c.shrink_ended.ensures)
    (subst (λ (copies : List Copy). PlayerStands (record p { book = c.shrink_end.new.self; shrinks = copies }) start (with_event h pass (machine.ShrinkEnd c.args.slot) (Some reply))) (sym c.remove-job.ensures.items) made)
