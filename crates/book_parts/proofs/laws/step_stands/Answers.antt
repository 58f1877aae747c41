use Rattle.std.proofs.Common.{sym, ◌∙◌, subst, arith}
use Rattle.adb_model.specs.Call as machine
use Rattle.adb_model.specs.History.{state_after, IsPass}
use Rattle.adb_model.specs.Sound.{IsSound}
use Rattle.adb_model.specs.Once.{IsOnce}
use Rattle.adb_model.specs.RowBytes.{HaveBytes}
use Rattle.book_parts.specs.Reflects.{Reflects}
use Rattle.book_parts.proofs.laws.step_stands.Goals as goal

pub returns-clause-of_pass : goal.returns-clause-of_pass
returns-clause-of_pass c = λ old new m0 h pass call reply is_pass st is r.
    let m = state_after m0 h in
    let e : machine.Event = record { pass = pass; call = call; reply = reply } in
    let there = c.histories_go_on.ensures.state m0 h e in
    record {
      legal = c.histories_go_on.ensures.legal m0 h e st.legal (sym is);
      sound = subst IsSound (sym there) (c.states_are_sound.ensures.step m pass call is_pass st.sound);
      once = subst IsOnce (sym there) (c.named_pairs_stand_once.ensures.step m pass call st.sound st.once);
      bytes = subst HaveBytes (sym there) (c.rows_have_bytes.ensures.step m pass call st.bytes);
      parts = subst (Reflects new) (sym there) r;
    }

pub returns-clause-of_any : goal.returns-clause-of_any
returns-clause-of_any c = λ old new m0 h pass call reply same st is r.
    let m = state_after m0 h in
    let e : machine.Event = record { pass = pass; call = call; reply = reply } in
    let there = c.histories_go_on.ensures.state m0 h e ∙ same in
    let first : IsPass 1 = (omega arith, omega arith) in
    record {
      legal = c.histories_go_on.ensures.legal m0 h e st.legal (sym is);
      sound = subst IsSound (sym there) (c.states_are_sound.ensures.step m 1 call first st.sound);
      once = subst IsOnce (sym there) (c.named_pairs_stand_once.ensures.step m 1 call st.sound st.once);
      bytes = subst HaveBytes (sym there) (c.rows_have_bytes.ensures.step m 1 call st.bytes);
      parts = subst (Reflects new) (sym there) (subst (Reflects new) same r);
    }

pub returns-clause-refused : goal.returns-clause-refused
returns-clause-refused c = λ p m0 h pass call refusal st same is.
    let m = state_after m0 h in
    let e : machine.Event = record { pass = pass; call = call; reply = machine.Refused refusal } in
    let there = c.histories_go_on.ensures.state m0 h e ∙ same in
    record {
      legal = c.histories_go_on.ensures.legal m0 h e st.legal (sym is);
      sound = subst IsSound (sym there) st.sound;
      once = subst IsOnce (sym there) st.once;
      bytes = subst HaveBytes (sym there) st.bytes;
      parts = subst (Reflects p) (sym there) st.parts;
    }
