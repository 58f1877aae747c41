use Rattle.std.proofs.Common.{◌≡◌, ℕ, ◌++◌, ◌∷◌, [], List, Option, Some, sym, ap, subst, ◌∙◌}
use Rattle.adb_model.specs.Call as machine
use Rattle.book_parts.specs.Shrinks.{Copy}
use Rattle.book_parts.specs.Stands.{with_event}
use Rattle.replay.specs.Standing.{PlayerStands, told}
use Rattle.replay.proofs.shrinking.begin.Goals as goal

pub returns-in-Ok : goal.returns-in-Ok
returns-in-Ok c p start h pass is st =
    let job = c.in-Ok.job in
    let slot = c.args.slot in
    let items : c.put.new.shrinks.items ≡ c.args.shrinks.now.items ++ job ∷ [] = c.put.ensures ∙ ap (λ (js : List Copy). js ++ job ∷ []) c.reserve.ensures.items in
    let made = c.shrinks_go_on.ensures.begun _ c.shrink_begin.new.self job start h pass slot is st c.in-Ok.ensures.slot (c.in-Ok.ensures.stands start h pass st.book) (c.in-Ok.ensures.opens start h pass st.book) in
    let stands : List Copy → machine.Reply → Type 0 = λ copies reply. PlayerStands (record p { book = c.shrink_begin.new.self; shrinks = copies }) start (with_event h pass (machine.ShrinkBegin slot) (Some reply)) in
    subst (λ (copies : List Copy). stands copies (machine.ShrinkBegun c.old.result c.id.result c.bytes.result)) (sym items)
    (subst (λ (old : ℕ). stands (c.args.shrinks.now.items ++ job ∷ []) (machine.ShrinkBegun old c.id.result c.bytes.result)) (sym c.old.ensures)
    (subst (λ (id : ℕ). stands (c.args.shrinks.now.items ++ job ∷ []) (machine.ShrinkBegun job.old id c.bytes.result)) (sym c.id.ensures)
    (subst (λ (bytes : ℕ). stands (c.args.shrinks.now.items ++ job ∷ []) (machine.ShrinkBegun job.old job.id bytes)) (sym c.bytes.ensures) made)))

pub returns-in-Err : goal.returns-in-Err
returns-in-Err c p start h pass is st =
    let refusal = c.in-Err.refusal in
    let made = c.shrinks_go_on.ensures.refused _ c.shrink_begin.new.self start h pass c.args.slot refusal is st (c.in-Err.ensures.stands start h pass st.book) in
    subst (λ (copies : List Copy). PlayerStands (record p { book = c.shrink_begin.new.self; shrinks = copies }) start (with_event h pass (machine.ShrinkBegin c.args.slot) (told c.shrink_refused.result))) (sym c.reserve.ensures.items)
    (subst (λ (r : Option machine.Reply). PlayerStands (record p { book = c.shrink_begin.new.self; shrinks = c.args.shrinks.now.items }) start (with_event h pass (machine.ShrinkBegin c.args.slot) r)) (sym c.shrink_refused.ensures) made)
