use Rattle.std.proofs.Common.{ℕ, List, [], ◌∷◌, ◌++◌, None, Some, sym, ap, ◌∙◌, subst, refl}
use Rattle.adb_model.specs.State.{State}
use Rattle.adb_model.specs.Call.{Root, RootOrder, Refused, Done, Reply}
use Rattle.adb_model.specs.History.{state_after}
use Rattle.adb_model.specs.Callers.{with_root}
use Rattle.book_parts.specs.Parts.{Parts}
use Rattle.book_parts.specs.Reflects.{Reflects}
use Rattle.book_parts.specs.Changes.{rooted_by}
use Rattle.book_parts.proofs.Marks.{reflects_root}
use Rattle.book_parts.proofs.Steps.{root_step_is}
use Rattle.book_parts.proofs.laws.root_stands.Goals as goal

pub returns-clause-refused : goal.returns-clause-refused
returns-clause-refused c = λ p m0 h pass slot newest st e.
    let m = state_after m0 h in
    let is = root_step_is m pass slot (Some newest) (ap (λ rs. rooted_by rs slot) (sym st.parts.roots) ∙ e) in
    c.step_stands.ensures.of_any p p m0 h pass (Root slot) (Refused (RootOrder slot newest)) refl st (ap (λ r. r.1) is)
    (subst (λ (r : State × Reply). Reflects p r.0) (sym is) st.parts)

pub returns-clause-done : goal.returns-clause-done
returns-clause-done c = λ p m0 h pass slot st free.
    let m = state_after m0 h in
    let new : Parts = record p { roots = p.roots ++ slot ∷ [] } in
    let is = root_step_is m pass slot None (ap (λ rs. rooted_by rs slot) (sym st.parts.roots) ∙ free) in
    let reflected : Reflects new (with_root m slot) =
    subst (λ (rs : List ℕ). Reflects new (record m { roots = rs })) (ap (λ (rs : List ℕ). rs ++ slot ∷ []) st.parts.roots) (reflects_root p m (p.roots ++ slot ∷ []) st.parts) in
    c.step_stands.ensures.of_any p new m0 h pass (Root slot) Done refl st (ap (λ r. r.1) is)
    (subst (λ (r : State × Reply). Reflects new r.0) (sym is) reflected)
