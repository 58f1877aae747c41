use Rattle.std.proofs.Common.{rules, ◌≡◌, ℕ, List, length, take, ◌+◌, ◌<◌, ◌++◌, ◌∷◌, [], subst, sym, ap, ◌∙◌, arith, length-append}
use Rattle.std.proofs.Math.Seq.{take-length}
use Rattle.std.proofs.lemmas.Slice.Zip.{zip_turn, zip_end}
use Rattle.std.proofs.lemmas.List.{length-take}
use Rattle.adb_model.specs.State.{Row}
use Rattle.slot_list.specs.declared.Place.TheVariants.{Stored}
use Rattle.vec_scan.specs.Seal.{placed}
use Rattle.shrink_plan.specs.Moving.{FindsAt}
use Rattle.shrink_plan.specs.Places.{rows_at}
use Rattle.shrink_plan.proofs.Edits.{Rehomed}
use Rattle.shrink_plan.proofs.Moves.{finds_none, finds_more, place_next}
use Rattle.shrink_plan.proofs.Standing.{as_many, some_row, row_read}
use Rattle.shrink_plan.proofs.moving.rehome_rows.Goals as goal

pub loop-from-init : goal.loop-from-init
loop-from-init c = ((tt, tt), tt, finds_none c.args.slot c.args.cell c.args.index.now)

pub record_at-requires : goal.record_at-requires
record_at-requires c =
    let turn = zip_turn c.args.copied.now c.args.places.now c.loop-from.yielded c.into_iter-from-iterator.result c.loop-from.from-iterator c.next.new.self c.next.result (search rules) (search rules) c.loop-from.yielded_by (c.in-Some.from, c.in-Some.offset) c.in-Some.is c.next.ensures.steps in
    rw (turn.2 0) (some_row c.args.image.now c.args.copied.now (length c.loop-from.yielded) 0 c.requires.there turn.0)

pub loop-from-preserved : goal.loop-from-preserved
loop-from-preserved c =
    let turn = zip_turn c.args.copied.now c.args.places.now c.loop-from.yielded c.into_iter-from-iterator.result c.loop-from.from-iterator c.next.new.self c.next.result (search rules) (search rules) c.loop-from.yielded_by (c.in-Some.from, c.in-Some.offset) c.in-Some.is c.next.ensures.steps in
    let n = length c.loop-from.yielded in
    let all = rows_at c.args.image.now c.args.copied.now in
    let ps = c.args.places.now in
    let r = (placed c.in-Some.from.now c.record_at.result).row in
    let next : length (c.loop-from.yielded ++ (c.in-Some.from, c.in-Some.offset) ∷ []) ≡ n + 1 = length-append c.loop-from.yielded _ in
    let each : length (take n ps) ≡ n = omega (arith, turn.1, length-take n ps) in
    let within : n < length all = omega (arith, turn.0, as_many c.args.image.now c.args.copied.now all c.requires.there) in
    let is = row_read c.args.image.now c.args.copied.now n c.in-Some.from.now (placed c.in-Some.from.now c.record_at.result) c.requires.there turn.0 turn.2 c.record_at.ensures.row in
    let edit : Rehomed c.args.slot r.key (Stored c.args.cell c.in-Some.offset.now) c.loop-from.index c.rehome_if_there.new.index =
    record { versions = c.rehome_if_there.ensures.versions; holds = c.rehome_if_there.ensures.holds } in
    let more = finds_more c.args.slot c.args.cell all n r (take n ps) c.in-Some.offset.now c.args.index.now c.loop-from.index c.rehome_if_there.new.index within is c.requires.differ each
    c.loop-from.invariant.2 edit in
    let longer = place_next ps n c.in-Some.offset.now turn.1 (turn.3 c.in-Some.offset.now) in (
      (tt, tt),
      tt,
      subst (λ (m : ℕ). FindsAt c.args.slot c.args.cell (take m all) (take m ps) c.args.index.now c.rehome_if_there.new.index) (sym next)
          (subst (λ (qs : List ℕ). FindsAt c.args.slot c.args.cell (take (n + 1) all) qs c.args.index.now c.rehome_if_there.new.index) (sym longer) more),
    )

pub returns : goal.returns
returns c =
    let done = zip_end c.args.copied.now c.args.places.now c.loop-from.yielded c.into_iter-from-iterator.result c.loop-from.from-iterator c.next.new.self c.next.result (search rules) (search rules) c.loop-from.yielded_by c.in-None.is c.next.ensures.steps in
    let n = length c.loop-from.yielded in
    let all = rows_at c.args.image.now c.args.copied.now in
    let ps = c.args.places.now in
    let rows : n ≡ length all = omega (arith, done, c.requires.each, as_many c.args.image.now c.args.copied.now all c.requires.there) in
    let places : n ≡ length ps = omega (arith, done, c.requires.each) in
    subst (λ (rs : List Row). FindsAt c.args.slot c.args.cell rs ps c.args.index.now c.loop-from.index) (ap (λ (m : ℕ). take m all) rows ∙ take-length all)
    (subst (λ (qs : List ℕ). FindsAt c.args.slot c.args.cell (take n all) qs c.args.index.now c.loop-from.index) (ap (λ (m : ℕ). take m ps) places ∙ take-length ps) c.loop-from.invariant.2)
