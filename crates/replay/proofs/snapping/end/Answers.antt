use Rattle.std.proofs.Common.{◌≡◌, ℕ, Option, Some, None, sym, subst, ◌∙◌}
use Rattle.adb_model.specs.Call as machine
use Rattle.book_parts.specs.Snaps.{Snapshot}
use Rattle.book_parts.specs.Stands.{After, with_event}
use Rattle.replay.specs.Standing.{PlayerStands}
use Rattle.replay.proofs.Snaps.{of_another, of_this}
use Rattle.replay.proofs.snapping.end.Goals as goal

pub returns-then-not-is_of : goal.returns-then-not-is_of
returns-then-not-is_of c p start h pass is st =
    subst (λ (r : Option machine.Reply). PlayerStands (record p { book = c.args.book.now; snap = c.args.snap.now }) start (with_event h pass (machine.SnapEnd c.args.slot) r)) (sym c.refused.ensures)
    (c.snaps_go_on.ensures.none_ended _ start h pass c.args.slot st (of_another c.args.snap.now c.args.slot (sym c.if-not-is_of.ensures)))

pub returns : goal.returns
returns c p start h pass is st =
    let job = c.in-Some.job in
    let hand : c.args.snap.now ≡ Some job = sym c.in-Some.ensures.value in
    let same : job.slot ≡ c.args.slot = of_this c.args.snap.now c.args.slot (sym c.if-not-is_of.ensures) job hand in
    let after : After c.snap_end.new.self start h pass (machine.SnapEnd job.slot) (Some machine.Done) =
    c.snap_end.ensures start h pass st.book (c.snaps_go_on.ensures.in_hand _ start h job st hand) in
    let made = c.snaps_go_on.ensures.ended _ c.snap_end.new.self job start h pass is st hand after in
    subst (λ (snap : Option Snapshot). PlayerStands (record p { book = c.snap_end.new.self; snap = snap }) start (with_event h pass (machine.SnapEnd c.args.slot) (Some machine.Done))) (sym c.take.ensures.after)
    (subst (λ (s : ℕ). PlayerStands (record p { book = c.snap_end.new.self; snap = None }) start (with_event h pass (machine.SnapEnd s) (Some machine.Done))) same made)
