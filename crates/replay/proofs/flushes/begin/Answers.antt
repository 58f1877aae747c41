use Rattle.std.proofs.Common.{◌≡◌, ℕ, ◌++◌, ◌∷◌, [], List, Option, Some, sym, ap, subst, ◌∙◌}
use Rattle.adb_model.specs.Call as machine
use Rattle.book_parts.specs.Stands.{with_event}
use Rattle.flush_plan.specs.Jobs.{Job}
use Rattle.replay.specs.Standing.{PlayerStands, told}
use Rattle.replay.proofs.flushes.begin.Goals as goal

pub returns-in-Ok : goal.returns-in-Ok
returns-in-Ok c p start h pass is st =
    let job = c.in-Ok.job in
    let slot = c.args.slot in
    let items : c.put.new.jobs.items ≡ c.args.jobs.now.items ++ job ∷ [] = c.put.ensures ∙ ap (λ (js : List Job). js ++ job ∷ []) c.reserve.ensures.items in
    let made = c.flushes_go_on.ensures.begun _ c.flush_begin.new.self job start h pass slot is st c.in-Ok.ensures.slot (c.in-Ok.ensures.stands start h pass st.book) (c.in-Ok.ensures.opens start h pass st.book) in
    let stands : List Job → machine.Reply → Type 0 = λ jobs reply. PlayerStands (record p { book = c.flush_begin.new.self; jobs = jobs }) start (with_event h pass (machine.FlushBegin slot) (Some reply)) in
    subst (λ (jobs : List Job). stands jobs (machine.FlushBegun c.id.result c.bytes.result)) (sym items)
    (subst (λ (id : ℕ). stands (c.args.jobs.now.items ++ job ∷ []) (machine.FlushBegun id c.bytes.result)) (sym c.id.ensures)
    (subst (λ (bytes : ℕ). stands (c.args.jobs.now.items ++ job ∷ []) (machine.FlushBegun job.id bytes)) (sym c.bytes.ensures) made))

pub returns-in-Err : goal.returns-in-Err
returns-in-Err c p start h pass is st =
    let refusal = c.in-Err.refusal in
    let made = c.flushes_go_on.ensures.refused _ c.flush_begin.new.self start h pass c.args.slot refusal is st (c.in-Err.ensures.stands start h pass st.book) in
    subst (λ (jobs : List Job). PlayerStands (record p { book = c.flush_begin.new.self; jobs = jobs }) start (with_event h pass (machine.FlushBegin c.args.slot) (told c.flush_refused.result))) (sym c.reserve.ensures.items)
    (subst (λ (r : Option machine.Reply). PlayerStands (record p { book = c.flush_begin.new.self; jobs = c.args.jobs.now.items }) start (with_event h pass (machine.FlushBegin c.args.slot) r)) (sym c.flush_refused.ensures) made)
