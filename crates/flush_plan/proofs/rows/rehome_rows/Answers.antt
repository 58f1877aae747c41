use Rattle.std.proofs.Common.{rules, ◌≡◌, ℕ, List, length, take, ◌+◌, ◌++◌, ◌∷◌, [], subst, sym, arith, length-append}
use Rattle.std.proofs.lemmas.Slice.Zip.{zip_turn}
use Rattle.std.proofs.lemmas.List.{length-take}
use Rattle.book_parts.specs.Flushes.{Moves}
use Rattle.append_vec.specs.Filled.{rows_of}
use Rattle.flush_plan.proofs.Keys.{place_next}
use Rattle.flush_plan.proofs.Steps.{version_there, is_expected, is_unheld, moves_more}
use Rattle.flush_plan.proofs.rows.rehome_rows.Goals as goal

pub settle-requires-clause-there : goal.settle-requires-clause-there
settle-requires-clause-there c =
    let turn = zip_turn c.args.accounts.now c.args.places.now c.loop-key.yielded c.into_iter-key-iterator.result c.loop-key.key-iterator c.next.new.self c.next.result (search rules) (search rules) c.loop-key.yielded_by (c.in-Some.field-0-0, c.in-Some.offset) c.in-Some.is c.next.ensures.steps in
    version_there c.args.slot c.args.cell c.args.accounts.now (length c.loop-key.yielded) c.in-Some.field-0-0.now turn.0 (turn.2 c.in-Some.field-0-0.now)
    (take (length c.loop-key.yielded) c.args.places.now) c.args.index.now c.loop-key.index c.requires.ready c.loop-key.invariant.2

pub settle-requires-clause-expected : goal.settle-requires-clause-expected
settle-requires-clause-expected c =
    let turn = zip_turn c.args.accounts.now c.args.places.now c.loop-key.yielded c.into_iter-key-iterator.result c.loop-key.key-iterator c.next.new.self c.next.result (search rules) (search rules) c.loop-key.yielded_by (c.in-Some.field-0-0, c.in-Some.offset) c.in-Some.is c.next.ensures.steps in
    is_expected c.args.slot c.args.cell c.args.accounts.now (length c.loop-key.yielded) c.in-Some.field-0-0.now turn.0 (turn.2 c.in-Some.field-0-0.now)
    (take (length c.loop-key.yielded) c.args.places.now) c.args.index.now c.loop-key.index c.requires.ready c.loop-key.invariant.2

pub settle-requires-clause-absent : goal.settle-requires-clause-absent
settle-requires-clause-absent c =
    let turn = zip_turn c.args.accounts.now c.args.places.now c.loop-key.yielded c.into_iter-key-iterator.result c.loop-key.key-iterator c.next.new.self c.next.result (search rules) (search rules) c.loop-key.yielded_by (c.in-Some.field-0-0, c.in-Some.offset) c.in-Some.is c.next.ensures.steps in
    is_unheld c.args.slot c.args.cell c.args.accounts.now (length c.loop-key.yielded) c.in-Some.field-0-0.now turn.0 (turn.2 c.in-Some.field-0-0.now)
    (take (length c.loop-key.yielded) c.args.places.now) c.args.index.now c.loop-key.index c.requires.ready c.loop-key.invariant.2

pub loop-key-preserved : goal.loop-key-preserved
loop-key-preserved c =
    let turn = zip_turn c.args.accounts.now c.args.places.now c.loop-key.yielded c.into_iter-key-iterator.result c.loop-key.key-iterator c.next.new.self c.next.result (search rules) (search rules) c.loop-key.yielded_by (c.in-Some.field-0-0, c.in-Some.offset) c.in-Some.is c.next.ensures.steps in
    let n = length c.loop-key.yielded in
    let ps = c.args.places.now in
    let next : length (c.loop-key.yielded ++ (c.in-Some.field-0-0, c.in-Some.offset) ∷ []) ≡ n + 1 = length-append c.loop-key.yielded _ in
    let each : length (take n ps) ≡ n = omega (arith, turn.1, length-take n ps) in
    let longer = place_next ps n c.in-Some.offset.now turn.1 (turn.3 c.in-Some.offset.now) in
    let more = moves_more c.args.slot c.args.cell c.args.accounts.now n c.in-Some.field-0-0.now turn.0 (turn.2 c.in-Some.field-0-0.now)
    (take n ps) c.args.index.now c.loop-key.index c.requires.ready c.loop-key.invariant.2
    c.settle.new.self c.in-Some.offset.now c.settle.ensures each in (
      (tt, tt),
      tt,
      subst (λ (m : ℕ). Moves c.args.slot c.args.cell (rows_of (take m c.args.accounts.now)) (take m ps) c.args.index.now c.settle.new.self) (sym next)
          (subst (λ (qs : List ℕ). Moves c.args.slot c.args.cell (rows_of (take (n + 1) c.args.accounts.now)) qs c.args.index.now c.settle.new.self) (sym longer) more),
    )
