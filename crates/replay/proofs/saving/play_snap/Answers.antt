use Rattle.std.proofs.Common.{◌≡◌, ℕ, ◌++◌, ◌∷◌, [], List, map, Option, Some, None, refl, sym, ap, ◌∙◌, subst}
use Rattle.std.specs.Option.{option_map}
use Rattle.std.proofs.lemmas.Result.{err_from_is_err_and, on_ok_weaker}
use Rattle.adb_model.specs.Call as machine
use Rattle.adb_model.specs.Call.{Call, Event}
use Rattle.adb_model.specs.Laws.{ShowLive}
use Rattle.adb_model.specs.History.{state_after}
use Rattle.adb_model.specs.Seen.{call_of, reply_of}
use Rattle.vec_scan.specs.Shown.{shown}
use Rattle.book_parts.specs.Snaps.{Snapshot}
use Rattle.replay.specs.Saved.{event_of, Writes}
use Rattle.replay.specs.Playing.{PlayedCall, CutCall}
use Rattle.replay.proofs.NextCalls.{snap_second}
use Rattle.std.specs.Prelude.{IsTrue}
use Rattle.replay.proofs.SnapCalls.{SnapLaws, hand_of, begin_cut, not_begun, end_cut, judged, judged_ok, judged_err}
use Rattle.replay.proofs.saving.play_snap.Goals as goal

pub returns-in_err-reply-clause-err : goal.returns-in_err-reply-clause-err
returns-in_err-reply-clause-err g c start h st =
    let laws : SnapLaws = record { fewer = c.reclaims_go_on.ensures.fewer; both = c.histories_go_on.ensures.both_legal; each = c.histories_go_on.ensures.each_legal; may = c.snaps_stay_open.ensures.may } in
    let p = err_from_is_err_and c.from_residual.result c.from_residual.ensures.1 in
    rw (p.1, p.2)
    (begin_cut laws start h c.args.lane c.args.slot c.args.name.now (g.K.Sink.taken c.args.sink.now) (g.K.Sink.taken c.play_call.new.sink) (c.in_err-reply.ensures.err start h st) (g.D.Dir.files c.args.dir.now))

pub returns-in_default-clause-ok : goal.returns-in_default-clause-ok
returns-in_default-clause-ok g c start h st =
    let laws : SnapLaws = record { fewer = c.reclaims_go_on.ensures.fewer; both = c.histories_go_on.ensures.both_legal; each = c.histories_go_on.ensures.each_legal; may = c.snaps_stay_open.ensures.may } in
    not_begun laws start h c.args.lane c.args.slot c.args.name.now (g.K.Sink.taken c.args.sink.now) (g.K.Sink.taken c.play_call.new.sink) c.play_call.new.player (reply_of c.in_ok-reply.reply)
    (c.in_ok-reply.ensures.ok start h st) (sym c.end_of.ensures ∙ ap (option_map call_of) c.in_default.is) (g.D.Dir.files c.args.dir.now)

pub returns-in_err-play_call-clause-err : goal.returns-in_err-play_call-clause-err
returns-in_err-play_call-clause-err g c start h st =
    let laws : SnapLaws = record { fewer = c.reclaims_go_on.ensures.fewer; both = c.histories_go_on.ensures.both_legal; each = c.histories_go_on.ensures.each_legal; may = c.snaps_stay_open.ensures.may } in
    let a = g.K.Sink.taken c.args.sink.now in
    let b = g.K.Sink.taken c.play_call.new.sink in
    let d = g.K.Sink.taken c.play_call-2.new.sink in
    let lane = c.args.lane in
    let r = reply_of c.in_ok-reply.reply in
    let made = c.in_ok-reply.ensures.ok start h st in
    let end = snap_second c.args.slot r (call_of c.in-Some.end) (sym c.end_of.ensures ∙ ap (option_map call_of) c.in-Some.is) in
    let shows = c.in_ok-reply.ensures.shows start h st c.args.slot end.0 refl end.1 in
    let hand = hand_of c.play_call.new.player.snap _ _ shows c.write_snapshot-written.ensures.written in
    let past = h ++ event_of lane (machine.SnapBegin c.args.slot) r ∷ [] in
    let cut = subst (λ (x : Call). CutCall start past b d lane x) (sym end.2) (c.in_err-play_call.ensures.err start past made.stands) in
    let p = err_from_is_err_and c.from_residual-in_err-play_call.result c.from_residual-in_err-play_call.ensures.1 in
    rw (p.1, p.2)
    (end_cut laws start h lane c.args.slot c.args.name.now a b c.play_call.new.player r made end.0 end.1 (g.D.Dir.files c.args.dir.now) (g.D.Dir.files c.write_snapshot-written.new.dir) d cut hand.2.others)

pub returns-clause-ok : goal.returns-clause-ok
returns-clause-ok g c start h st =
    let laws : SnapLaws = record { fewer = c.reclaims_go_on.ensures.fewer; both = c.histories_go_on.ensures.both_legal; each = c.histories_go_on.ensures.each_legal; may = c.snaps_stay_open.ensures.may } in
    let a = g.K.Sink.taken c.args.sink.now in
    let b = g.K.Sink.taken c.play_call.new.sink in
    let d = g.K.Sink.taken c.play_call-2.new.sink in
    let lane = c.args.lane in
    let r = reply_of c.in_ok-reply.reply in
    let made = c.in_ok-reply.ensures.ok start h st in
    let end = snap_second c.args.slot r (call_of c.in-Some.end) (sym c.end_of.ensures ∙ ap (option_map call_of) c.in-Some.is) in
    let shows = c.in_ok-reply.ensures.shows start h st c.args.slot end.0 refl end.1 in
    let hand = hand_of c.play_call.new.player.snap _ _ shows c.write_snapshot-written.ensures.written in
    let past = h ++ event_of lane (machine.SnapBegin c.args.slot) r ∷ [] in
    let s = c.play_call-2.new.player in
    let told = reply_of c.in_ok-play_call.field-0 in
    let ended = subst (λ (x : Call). PlayedCall s start past b d lane x told) (sym end.2) (c.in_ok-play_call.ensures.ok start past made.stands) in
    judged_ok laws start h lane c.args.slot c.args.name.now a b c.play_call.new.player r made end.0 end.1 (g.D.Dir.files c.args.dir.now) (g.D.Dir.files c.write_snapshot-written.new.dir) d s told ended
    st.book.sound hand.0 hand.1.0 hand.1.1 (λ root is cleaned flushed images show budget more k. c.nothing_returns.ensures.opened (state_after start h) st.book.sound root is cleaned flushed images show budget more k)
    c.write_snapshot-written.result hand.2 c.judge.result c.judge.ensures

pub returns-clause-err : goal.returns-clause-err
returns-clause-err g c start h st =
    let laws : SnapLaws = record { fewer = c.reclaims_go_on.ensures.fewer; both = c.histories_go_on.ensures.both_legal; each = c.histories_go_on.ensures.each_legal; may = c.snaps_stay_open.ensures.may } in
    let a = g.K.Sink.taken c.args.sink.now in
    let b = g.K.Sink.taken c.play_call.new.sink in
    let d = g.K.Sink.taken c.play_call-2.new.sink in
    let lane = c.args.lane in
    let r = reply_of c.in_ok-reply.reply in
    let made = c.in_ok-reply.ensures.ok start h st in
    let end = snap_second c.args.slot r (call_of c.in-Some.end) (sym c.end_of.ensures ∙ ap (option_map call_of) c.in-Some.is) in
    let shows = c.in_ok-reply.ensures.shows start h st c.args.slot end.0 refl end.1 in
    let hand = hand_of c.play_call.new.player.snap _ _ shows c.write_snapshot-written.ensures.written in
    let past = h ++ event_of lane (machine.SnapBegin c.args.slot) r ∷ [] in
    let s = c.play_call-2.new.player in
    let told = reply_of c.in_ok-play_call.field-0 in
    let ended = subst (λ (x : Call). PlayedCall s start past b d lane x told) (sym end.2) (c.in_ok-play_call.ensures.ok start past made.stands) in
    judged_err laws start h lane c.args.slot c.args.name.now a b c.play_call.new.player r made end.0 end.1 (g.D.Dir.files c.args.dir.now) (g.D.Dir.files c.write_snapshot-written.new.dir) d s told ended
    st.book.sound hand.0 hand.1.0 hand.1.1 (λ root is cleaned flushed images show budget more k. c.nothing_returns.ensures.opened (state_after start h) st.book.sound root is cleaned flushed images show budget more k)
    c.write_snapshot-written.result hand.2 c.judge.result c.judge.ensures

pub returns-clause-synced : goal.returns-clause-synced
returns-clause-synced g c =
    on_ok_weaker c.judge.result (λ is was. is)
    (judged c.args.name.now c.write_snapshot-written.result c.judge.result (IsTrue (g.D.Dir.synced c.write_snapshot-written.new.dir)) c.judge.ensures c.write_snapshot-written.ensures.synced)
