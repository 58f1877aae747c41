use Rattle.std.proofs.Common.{◌≡◌, ℕ, ◌+◌, ◌-◌, cond, length, get_or, None, vec_len, IsSome, refl, sym, ap, subst, inl, inr, ◌∙◌, arith}
use Rattle.std.specs.Ordering.{nat_cmp}
use Rattle.std.specs.BTreeMap.{get, is_at}
use Rattle.std.proofs.lemmas.Bool.{cases_lt, false≢true}
use Rattle.cell_table.specs.declared.phase.Phase.TheVariants.{Free}
use Rattle.cell_table.specs.declared.table.Counts.{Counts}
use Rattle.cell_table.specs.Phases.{is_free, is_idle}
use Rattle.cell_table.proofs.Changes.{one_if, some_same}
use Rattle.cell_table.proofs.Sound.{cell_read, last_place, room_set, places_fit, idle_not_free, recycle_counts, fewer_bytes, IsSound-recycle, recycled-free, recycled-all, sum_seen}
use Rattle.cell_table.proofs.table.CellTable.recycle.Goals as goal

pub overflow_sub-self : goal.overflow_sub-self
overflow_sub-self g c =
    let n = vec_len c.loop-place.self-inside.idle - 1 in
    let long : length c.loop-place.self-inside.idle.items ≡ n + 1 = omega (arith, c.loop-place.self-inside.idle.ok.0, c.in-Some.ensures.cases) in
    let last : get_or c.loop-place.self-inside.idle.items n 0 ≡ c.in-Some.place = some_same (sym (c.in-Some.ensures.value 0 (omega (arith, c.in-Some.ensures.cases)))) in
    let place = last_place is_idle _ _ c.loop-place.invariant.sound.idle_places n c.in-Some.place long last in
    let there = cell_read _ c.in-Some.place _ place.0 c.index_mut-phase.ensures.value in
    let idle = ap is_idle (sym there) ∙ place.1 in
    omega (arith, c.bytes.ensures, fewer_bytes _ _ _ _ _ _ _ c.loop-place.invariant.sound c.in-Some.place place.0 _ there)

pub put-requires : goal.put-requires
put-requires g c =
    let n = vec_len c.loop-place.self-inside.idle - 1 in
    let long : length c.loop-place.self-inside.idle.items ≡ n + 1 = omega (arith, c.loop-place.self-inside.idle.ok.0, c.in-Some.ensures.cases) in
    let last : get_or c.loop-place.self-inside.idle.items n 0 ≡ c.in-Some.place = some_same (sym (c.in-Some.ensures.value 0 (omega (arith, c.in-Some.ensures.cases)))) in
    let place = last_place is_idle _ _ c.loop-place.invariant.sound.idle_places n c.in-Some.place long last in
    let there = cell_read _ c.in-Some.place _ place.0 c.index_mut-phase.ensures.value in
    let idle = ap is_idle (sym there) ∙ place.1 in
    let fits = places_fit is_free _ _ c.loop-place.invariant.sound.free_places c.in-Some.place _ place.0 there (idle_not_free c.index_mut-phase.result.now idle) in
    omega (arith, fits, c.loop-place.invariant.room.free, c.loop-place.self-inside.free.ok.0)

pub overflow_sub-self-in-Some : goal.overflow_sub-self-in-Some
overflow_sub-self-in-Some g c =
    let n = vec_len c.loop-place.self-inside.idle - 1 in
    let long : length c.loop-place.self-inside.idle.items ≡ n + 1 = omega (arith, c.loop-place.self-inside.idle.ok.0, c.in-Some.ensures.cases) in
    let last : get_or c.loop-place.self-inside.idle.items n 0 ≡ c.in-Some.place = some_same (sym (c.in-Some.ensures.value 0 (omega (arith, c.in-Some.ensures.cases)))) in
    let place = last_place is_idle _ _ c.loop-place.invariant.sound.idle_places n c.in-Some.place long last in
    let there = cell_read _ c.in-Some.place _ place.0 c.index_mut-phase.ensures.value in
    let idle = ap is_idle (sym there) ∙ place.1 in
    (recycle_counts _ _ _ _ _ _ _ c.loop-place.invariant.sound c.in-Some.place place.0 _ there idle).0

pub loop-place-preserved : goal.loop-place-preserved
loop-place-preserved g c =
    let n = vec_len c.loop-place.self-inside.idle - 1 in
    let long : length c.loop-place.self-inside.idle.items ≡ n + 1 = omega (arith, c.loop-place.self-inside.idle.ok.0, c.in-Some.ensures.cases) in
    let last : get_or c.loop-place.self-inside.idle.items n 0 ≡ c.in-Some.place = some_same (sym (c.in-Some.ensures.value 0 (omega (arith, c.in-Some.ensures.cases)))) in
    let place = last_place is_idle _ _ c.loop-place.invariant.sound.idle_places n c.in-Some.place long last in
    let there = cell_read _ c.in-Some.place _ place.0 c.index_mut-phase.ensures.value in
    let idle = ap is_idle (sym there) ∙ place.1 in
    let gone = λ (q : ℕ). c.remove.ensures.updates.0 q ∙ ap (λ id. cond (is_at (nat_cmp id) q) None (get nat_cmp c.loop-place.self-inside.ids q)) c.id.ensures in
    let room = room_set _ c.in-Some.place Free _ _ _ c.loop-place.invariant.room in
    rw (c.clear.ensures, c.put.ensures.room, c.put.ensures.items, c.bytes.ensures, c.pop.ensures.rest) (record {
      room = record { few = room.few; free = room.free; idle = omega (arith, room.idle, c.pop.ensures.capacity) };
      sound = IsSound-recycle _ _ _ _ _ _ _ c.loop-place.invariant.sound c.in-Some.place place.0 _ there _ gone idle n long last;
      seen = recycled-free c.loop-place.self-inside.most c.loop-place.self-inside.cells.items c.in-Some.place place.0 place.1 ∙ c.loop-place.invariant.seen;
      limit = c.loop-place.invariant.limit;
    })

pub returns-clause-freed : goal.returns-clause-freed
returns-clause-freed g c = ap (λ (t : Counts). t.free) c.self.invariant.1.tally ∙ sym (sum_seen c.args.self.now c.self.inside.most c.self.inside.limit c.self.inside.cells.items c.self.view_is (λ p. one_if (is_idle p)) refl)

pub returns-clause-cells : goal.returns-clause-cells
returns-clause-cells g c =
    let none : length c.loop-place.self-inside.idle.items ≡ 0 = elim (cases_lt 0 (length c.loop-place.self-inside.idle.items)) [
      | inl some ↦ absurd (false≢true (subst IsSome c.in_default.is (c.pop.ensures.variant.1 (omega (arith, c.loop-place.self-inside.idle.ok.0)))))
      | inr none ↦ omega arith
    ] in
    let cells = recycled-all c.loop-place.self-inside.most c.loop-place.self-inside.cells.items c.loop-place.self-inside.idle.items c.loop-place.invariant.sound.idle_places none ∙ c.loop-place.invariant.seen in
    λ j. record { cells = cells j; limit = c.loop-place.invariant.limit j }
