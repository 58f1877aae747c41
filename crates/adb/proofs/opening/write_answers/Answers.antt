use Rattle.std.proofs.Common.{◌≡◌, ◌++◌, List, ℕ, [], length, map, flat_map, refl, sym, ap, subst, ◌∙◌, arith, append_assoc, eqb-true}
use Rattle.std.specs.Io.KnownBytes.{Appends}
use Rattle.std.proofs.KnownBytes.{Appends-nil}
use Rattle.stream_io.specs.Stream.{AppendsFront}
use Rattle.adb_model.specs.View.{View}
use Rattle.adb_model.specs.History.{state_after}
use Rattle.book_parts.specs.Parts.{Parts}
use Rattle.book_parts.specs.Stands.{Stands}
use Rattle.book.specs.Listing.{HaveAnswers}
use Rattle.adb.specs.Opening.{read_line}
use Rattle.adb.proofs.Listed.{lines_of, no_lines, all_written, front_written, all_done, batch_written, batch_cut, on_err}
use Rattle.adb.proofs.opening.write_answers.Goals as goal

pub loop-accounts-init : goal.loop-accounts-init
loop-accounts-init g c = record {
  book = c.in-Ok.ensures.book;
  view = c.in-Ok.ensures.view;
  done = [];
  split = refl;
  written = λ start h st. let a = g.K.Sink.taken c.args.sink.now in subst (λ (l : List ℕ). Appends a a l) (sym (no_lines (state_after start h) c.args.view.now)) (Appends-nil a);
  kept = refl;
}

pub returns-then-is_empty-clause-ok : goal.returns-then-is_empty-clause-ok
returns-then-is_empty-clause-ok g c = λ start h st.
    let m = state_after start h in
    let v = c.args.view.now in
    let keys = c.in-Ok.accounts.keys in
    let w = c.loop-accounts.invariant in
    let empty : length c.read_on.new.into.items ≡ 0 = eqb-true (length c.read_on.new.into.items) 0 (sym c.is_empty.ensures ∙ c.if-is_empty.true) in
    let none : length c.loop-accounts.accounts.keys ≡ 0 = omega (arith, empty, c.read_on.ensures.many) in
    let done = all_done keys w.done c.loop-accounts.accounts.keys w.split none in
    let a = g.K.Sink.taken c.args.sink.now in
    let b = g.K.Sink.taken c.loop-accounts.sink in
    all_written m v keys c.in-Ok.ensures.rise (λ key some. c.in-Ok.ensures.every start h key st some) v.max_root c.requires.view a b
    (subst (λ (l : List (List ℕ)). Appends a b (lines_of m v l)) done (w.written start h st))

pub loop-accounts-preserved : goal.loop-accounts-preserved
loop-accounts-preserved g c =
    let v = c.args.view.now in
    let w = c.loop-accounts.invariant in
    let items = c.read_on.new.into.items in
    let a = g.K.Sink.taken c.args.sink.now in
    let b = g.K.Sink.taken c.loop-accounts.sink in
    let d = g.K.Sink.taken c.write_batch.new.sink in record {
      book = c.read_on.ensures.book ∙ w.book;
      view = c.read_on.ensures.view ∙ w.view;
      done = w.done ++ map (λ r. r.0.0) items;
      split = w.split ∙ ap (λ l. w.done ++ l) c.read_on.ensures.next ∙ sym (append_assoc w.done (map (λ r. r.0.0) items) c.read_on.new.self.keys);
      written = λ start h st.
          let m = state_after start h in
          let have = subst (λ (u : View). HaveAnswers m u items) w.view (c.read_on.ensures.answers start h (subst (λ (p : Parts). Stands p start h) (sym w.book) st)) in
          batch_written m v c.in-Ok.accounts.keys w.done c.loop-accounts.accounts.keys c.read_on.new.self.keys items w.split c.read_on.ensures.next have a b d (w.written start h st)
          (subst (λ l. Appends b d (flat_map read_line l)) c.as_slice.ensures.value c.in_ok-write_batch.ensures.ok);
      kept = c.in_ok-write_batch.ensures.counts.kept ∙ w.kept;
    }

pub returns-in_err-write_batch-clause-err : goal.returns-in_err-write_batch-clause-err
returns-in_err-write_batch-clause-err g c = λ start h st.
    let m = state_after start h in
    let v = c.args.view.now in
    let keys = c.in-Ok.accounts.keys in
    let w = c.loop-accounts.invariant in
    let items = c.read_on.new.into.items in
    let a = g.K.Sink.taken c.args.sink.now in
    let b = g.K.Sink.taken c.loop-accounts.sink in
    let d = g.K.Sink.taken c.write_batch.new.sink in
    let have = subst (λ (u : View). HaveAnswers m u items) w.view (c.read_on.ensures.answers start h (subst (λ (p : Parts). Stands p start h) (sym w.book) st)) in
    on_err c.from_residual.result (front_written m v keys c.in-Ok.ensures.rise (λ key some. c.in-Ok.ensures.every start h key st some) v.max_root c.requires.view a d
    (batch_cut m v keys w.done c.loop-accounts.accounts.keys c.read_on.new.self.keys items w.split c.read_on.ensures.next have a b d (w.written start h st)
    (subst (λ l. AppendsFront b d (flat_map read_line l)) c.as_slice.ensures.value c.in_err-write_batch.ensures.err)))
