use Rattle.std.proofs.Common.{◌≡◌, ◌<◌, ◌++◌, List, ℕ, length, Option, Some, None, sym, ap, subst, ◌∙◌}
use Rattle.std.specs.Option.{option_map}
use Rattle.accounts_index.specs.Index.{crowded_after}
use Rattle.adb_model.specs.Call.{Call}
use Rattle.adb_model.specs.History.{state_after}
use Rattle.adb_model.specs.Plays.{next_call}
use Rattle.adb_model.specs.Seen.{call_of, reply_of}
use Rattle.script.specs.Said.{order_played}
use Rattle.script.specs.Seen.{order_seen}
use Rattle.replay.proofs.GoingOn.{last_reply}
use Rattle.replay.proofs.LineCalls.{nothing_yet, one_more, all_made, one_cut}
use Rattle.replay.proofs.NextCalls.{calls_left, fewer_calls}
use Rattle.replay.proofs.Turns.{always}
use Rattle.replay.proofs.playing.play_from.Goals as goal

pub returns-in_err-reply-clause-err : goal.returns-in_err-reply-clause-err
returns-in_err-reply-clause-err g c start h st =
    let a = g.K.Sink.taken c.args.sink.now in
    let b = g.K.Sink.taken c.play_call.new.sink in
    let lane = c.args.line.now.lane in
    let order = order_seen c.args.line.now.order in
    let far = nothing_yet start h a a b lane order c.args.player.now st in
    always c.from_residual.result
    (one_cut start h a a b lane order c.args.player.now None far c.reclaims_go_on.ensures.fewer c.histories_go_on.ensures.both_legal (call_of c.args.first.now) c.requires.first
    (c.in_err-reply.ensures.err start (h ++ far.events) far.stands))

pub loop-call-init : goal.loop-call-init
loop-call-init g c = record {
  played = λ start h st.
      let a = g.K.Sink.taken c.args.sink.now in
      let b = g.K.Sink.taken c.play_call.new.sink in
      let lane = c.args.line.now.lane in
      let order = order_seen c.args.line.now.order in
      let far = nothing_yet start h a a b lane order c.args.player.now st in
      one_more start h a a b lane order c.args.player.now None far c.play_call.new.player (call_of c.args.first.now) (reply_of c.in_ok-reply.reply) c.requires.first
      (c.in_ok-reply.ensures.ok start (h ++ far.events) far.stands);
  kept = c.in_ok-reply.ensures.kept;
}

pub returns-in_err-reply-2-clause-err : goal.returns-in_err-reply-2-clause-err
returns-in_err-reply-2-clause-err g c start h st =
    let a = g.K.Sink.taken c.args.sink.now in
    let b = g.K.Sink.taken c.loop-call.sink in
    let d = g.K.Sink.taken c.play_call-in-Some.new.sink in
    let lane = c.args.line.now.lane in
    let order = order_seen c.args.line.now.order in
    let reply = Some (reply_of c.loop-call.reply) in
    let far = c.loop-call.invariant.played start h st in
    always c.from_residual-in_err-reply-2.result
    (one_cut start h a b d lane order c.loop-call.player reply far c.reclaims_go_on.ensures.fewer c.histories_go_on.ensures.both_legal (call_of c.in-Some.call)
    (sym c.call_after.ensures.call ∙ ap (option_map call_of) c.in-Some.is) (c.in_err-reply-2.ensures.err start (h ++ far.events) far.stands))

pub loop-call-preserved : goal.loop-call-preserved
loop-call-preserved g c = record {
  played = λ start h st.
      let a = g.K.Sink.taken c.args.sink.now in
      let b = g.K.Sink.taken c.loop-call.sink in
      let d = g.K.Sink.taken c.play_call-in-Some.new.sink in
      let lane = c.args.line.now.lane in
      let order = order_seen c.args.line.now.order in
      let far = c.loop-call.invariant.played start h st in
      one_more start h a b d lane order c.loop-call.player (Some (reply_of c.loop-call.reply)) far c.play_call-in-Some.new.player (call_of c.in-Some.call) (reply_of c.in_ok-reply-2.reply)
      (sym c.call_after.ensures.call ∙ ap (option_map call_of) c.in-Some.is) (c.in_ok-reply-2.ensures.ok start (h ++ far.events) far.stands);
  kept = c.in_ok-reply-2.ensures.kept ∙ c.loop-call.invariant.kept;
}

pub loop-call-preserved-in_ok-reply-2 : goal.loop-call-preserved-in_ok-reply-2
loop-call-preserved-in_ok-reply-2 g c = record {
  played = λ start h st.
      let a = g.K.Sink.taken c.args.sink.now in
      let b = g.K.Sink.taken c.loop-call.sink in
      let d = g.K.Sink.taken c.play_call-in-Some.new.sink in
      let lane = c.args.line.now.lane in
      let order = order_seen c.args.line.now.order in
      let far = c.loop-call.invariant.played start h st in
      one_more start h a b d lane order c.loop-call.player (Some (reply_of c.loop-call.reply)) far c.play_call-in-Some.new.player (call_of c.in-Some.call) (reply_of c.in_ok-reply-2.reply)
      (sym c.call_after.ensures.call ∙ ap (option_map call_of) c.in-Some.is) (c.in_ok-reply-2.ensures.ok start (h ++ far.events) far.stands);
  kept = c.in_ok-reply-2.ensures.kept ∙ c.loop-call.invariant.kept;
}

pub loop-call-preserved-in_ok-reply-2-2 : goal.loop-call-preserved-in_ok-reply-2-2
loop-call-preserved-in_ok-reply-2-2 g c = record {
  played = λ start h st.
      let a = g.K.Sink.taken c.args.sink.now in
      let b = g.K.Sink.taken c.loop-call.sink in
      let d = g.K.Sink.taken c.play_call-in-Some.new.sink in
      let lane = c.args.line.now.lane in
      let order = order_seen c.args.line.now.order in
      let far = c.loop-call.invariant.played start h st in
      one_more start h a b d lane order c.loop-call.player (Some (reply_of c.loop-call.reply)) far c.play_call-in-Some.new.player (call_of c.in-Some.call) (reply_of c.in_ok-reply-2.reply)
      (sym c.call_after.ensures.call ∙ ap (option_map call_of) c.in-Some.is) (c.in_ok-reply-2.ensures.ok start (h ++ far.events) far.stands);
  kept = c.in_ok-reply-2.ensures.kept ∙ c.loop-call.invariant.kept;
}

pub loop-call-smaller : goal.loop-call-smaller
loop-call-smaller g c =
    let lane = c.args.line.now.lane in
    let order = order_seen c.args.line.now.order in
    let call = call_of c.in-Some.call in
    let told = reply_of c.in_ok-reply-2.reply in
    let some = c.has_history.ensures in
    let asks : next_call (order_played order) (Some (reply_of c.loop-call.reply)) ≡ Some call = sym c.call_after.ensures.call ∙ ap (option_map call_of) c.in-Some.is in
    let made = c.in_ok-reply-2.ensures.ok some.start some.history some.stands in
    let is = last_reply c.histories_go_on.ensures.each_legal some.start some.history lane call told made.stands.book.legal in
    let old : Option (List ℕ) → ℕ = λ after. length (crowded_after c.loop-call.player.book.index after) in
    let new : Option (List ℕ) → ℕ = λ after. length (crowded_after c.play_call-in-Some.new.player.book.index after) in
    subst (λ (o : Option Call). calls_left new (next_call (order_played order) (Some told)) < calls_left old o) (sym asks)
    (fewer_calls order (reply_of c.loop-call.reply) call (state_after some.start some.history) lane told old new asks is c.in_ok-reply-2.ensures.fewer)

pub returns-clause-ok : goal.returns-clause-ok
returns-clause-ok g c start h st =
    let a = g.K.Sink.taken c.args.sink.now in
    let b = g.K.Sink.taken c.loop-call.sink in
    let far = c.loop-call.invariant.played start h st in
    all_made start h a b b c.args.line.now.lane (order_seen c.args.line.now.order) c.loop-call.player (Some (reply_of c.loop-call.reply)) far (sym c.call_after.ensures.call ∙ ap (option_map call_of) c.in_default.is)
