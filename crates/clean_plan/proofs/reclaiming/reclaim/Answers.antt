use Rattle.std.proofs.Common.{◌<◌, length, take, option_map, ap, subst, ◌∙◌, Some, arith}
use Rattle.accounts_index.specs.Index.{crowded_after}
use Rattle.adb_model.specs.declared.key.Key.{Key}
use Rattle.adb_model.specs.Lists.{last}
use Rattle.adb_model.specs.State.{State}
use Rattle.adb_model.specs.Reclaim.{keys_taken}
use Rattle.adb_model.specs.Cleaning.{crowded_above}
use Rattle.clean_plan.specs.Leaving.{bytes_of, rooted, StandWith}
use Rattle.clean_plan.proofs.Answered.{last_is, of_answer, both_taken}
use Rattle.clean_plan.proofs.reclaiming.reclaim.Goals as goal

pub drop_shadowed-requires : goal.drop_shadowed-requires
drop_shadowed-requires c = (record c.requires.parts.0 { cells = c.args.cells.now }, c.requires.parts.1, c.requires.parts.2)

pub retire_unnamed-requires : goal.retire_unnamed-requires
retire_unnamed-requires c =
    let r = c.requires.parts in
    (rooted r.0 c.args.roots.now c.args.cleaned, _, c.drop_shadowed.ensures (record r.0 { cells = c.args.cells.now }) r.1 r.2)

pub drop_spent-requires : goal.drop_spent-requires
drop_spent-requires c =
    let r = c.requires.parts in
    let first = c.drop_shadowed.ensures (record r.0 { cells = c.args.cells.now }) r.1 r.2 in
    (record r.0 { roots = c.args.roots.now; cells = c.retire_unnamed.new.cells }, _, c.retire_unnamed.ensures.parts (rooted r.0 c.args.roots.now c.args.cleaned) _ first)

pub retire_unnamed-requires-2 : goal.retire_unnamed-requires-2
retire_unnamed-requires-2 c =
    let r = c.requires.parts in
    let first = c.drop_shadowed.ensures (record r.0 { cells = c.args.cells.now }) r.1 r.2 in
    let second = c.retire_unnamed.ensures.parts (rooted r.0 c.args.roots.now c.args.cleaned) _ first in
    (rooted r.0 c.args.roots.now c.args.cleaned, _, c.drop_spent.ensures (record r.0 { roots = c.args.roots.now; cells = c.retire_unnamed.new.cells }) _ second)

pub returns-clause-parts : goal.returns-clause-parts
returns-clause-parts c = λ p m stands.
    let after = option_map (λ k. k.now.0) c.args.after in
    let first = c.drop_shadowed.ensures (record p { cells = c.args.cells.now }) m stands in
    let second = c.retire_unnamed.ensures.parts (rooted p c.args.roots.now c.args.cleaned) _ first in
    let third = c.drop_spent.ensures (record p { roots = c.args.roots.now; cells = c.retire_unnamed.new.cells }) _ second in
    let fourth = c.retire_unnamed-2.ensures.parts (rooted p c.args.roots.now c.args.cleaned) _ third in
    let above = c.crowded_keys_reflect.ensures (record p { roots = c.args.roots.now; cleaned = c.args.cleaned; index = c.args.index.now; cells = c.args.cells.now; map = c.args.map.now }) m stands.midway stands.parts
    c.crowded_after.ensures.rise c.crowded_after.ensures.lists after in
    let taken = c.crowded_after.ensures.first ∙ ap (take c.args.most) above in
    subst (λ (n : State). StandWith (rooted p c.args.roots.now c.args.cleaned) c.retire_unnamed-2.new.index c.retire_unnamed-2.new.cells c.retire_unnamed-2.new.map n)
    (both_taken _ _ (keys_taken m after c.args.most) m (ap bytes_of c.as_slice.ensures.value ∙ taken) (ap bytes_of c.as_slice-2.ensures.value ∙ taken)) fourth

pub returns-clause-last : goal.returns-clause-last
returns-clause-last c = λ p m stands.
    let after = option_map (λ k. k.now.0) c.args.after in
    let above = c.crowded_keys_reflect.ensures (record p { roots = c.args.roots.now; cleaned = c.args.cleaned; index = c.args.index.now; cells = c.args.cells.now; map = c.args.map.now }) m stands.midway stands.parts
    c.crowded_after.ensures.rise c.crowded_after.ensures.lists after in
    let taken = c.crowded_after.ensures.first ∙ ap (take c.args.most) above in
    ap (option_map (λ (k : Key). k.0)) (c.copied.ensures ∙ c.last.ensures.value) ∙ last_is c.as_slice-3.result.now ∙ ap last (ap bytes_of c.as_slice-3.ensures.value ∙ taken)

pub returns-clause-fewer : goal.returns-clause-fewer
returns-clause-fewer c =
    let p = c.requires.parts.0 in
    let m = c.requires.parts.1 in
    let stands = c.requires.parts.2 in
    let after = option_map (λ k. k.now.0) c.args.after in
    let first = c.drop_shadowed.ensures (record p { cells = c.args.cells.now }) m stands in
    let second = c.retire_unnamed.ensures.parts (rooted p c.args.roots.now c.args.cleaned) _ first in
    let third = c.drop_spent.ensures (record p { roots = c.args.roots.now; cells = c.retire_unnamed.new.cells }) _ second in
    let fourth = c.retire_unnamed-2.ensures.parts (rooted p c.args.roots.now c.args.cleaned) _ third in
    let above = c.crowded_keys_reflect.ensures (record p { roots = c.args.roots.now; cleaned = c.args.cleaned; index = c.args.index.now; cells = c.args.cells.now; map = c.args.map.now }) m stands.midway stands.parts
    c.crowded_after.ensures.rise c.crowded_after.ensures.lists after in
    let taken = c.crowded_after.ensures.first ∙ ap (take c.args.most) above in
    let is = ap (option_map (λ (k : Key). k.0)) (c.copied.ensures ∙ c.last.ensures.value) ∙ last_is c.as_slice-3.result.now ∙ ap last (ap bytes_of c.as_slice-3.ensures.value ∙ taken) in
    let same = both_taken _ _ (keys_taken m after c.args.most) m (ap bytes_of c.as_slice.ensures.value ∙ taken) (ap bytes_of c.as_slice-2.ensures.value ∙ taken) in
    of_answer (λ k. length (crowded_after c.retire_unnamed-2.new.index (Some k)) < length (crowded_after c.args.index.now after)) c.copied.result (keys_taken m after c.args.most) is (λ key e.
    let fewer = c.reclaims_go_on.ensures.fewer m after c.args.most key e in
    let now = c.crowded_keys_reflect.ensures (record p { roots = c.args.roots.now; cleaned = c.args.cleaned; index = c.retire_unnamed-2.new.index; cells = c.retire_unnamed-2.new.cells; map = c.retire_unnamed-2.new.map }) _
    fourth.midway fourth.parts c.in_order.ensures.keys c.in_order.ensures.lists (Some key) in
    omega (arith, ap length now, ap length above, ap (λ (n : State). length (crowded_above n (Some key))) same, fewer))
