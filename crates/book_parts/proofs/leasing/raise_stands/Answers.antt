use Rattle.std.proofs.Common.{List, ◌≡◌, ℕ, map, max, Option, None, Some, refl, sym, ap, ◌∙◌, subst}
use Rattle.adb_model.specs.Lists.{last, least}
use Rattle.adb_model.specs.State.{Lease, State}
use Rattle.adb_model.specs.Leases.{raised}
use Rattle.adb_model.specs.Call.{Call, Raise, Raised, PastRoot, Leased, Event, Reply}
use Rattle.adb_model.specs.History.{state_after}
use Rattle.adb_model.specs.Step.{step}
use Rattle.book_parts.specs.Parts.{Parts}
use Rattle.book_parts.specs.Reflects.{Reflects}
use Rattle.book_parts.specs.Stands.{Stands, After}
use Rattle.book_parts.proofs.Leases.{reflects_cleaned, raise_rootless, raise_past, raise_leased, raise_unleased, raise_done}
use Rattle.book_parts.proofs.leasing.raise_stands.Goals as goal

-- the newest root, and the least lease, are those of the parts
newest_is : (p : Parts) (m : State) (o : Option ℕ) → Reflects p m → last p.roots ≡ o → last m.roots ≡ o
newest_is p m o r e = ap (λ (rs : List ℕ). last rs) (sym r.roots) ∙ e

least_is : (p : Parts) (m : State) (o : Option ℕ) → Reflects p m → least (map (λ l. l.max_root) p.leases) ≡ o → least (map (λ l. l.max_root) m.leases) ≡ o
least_is p m o r e = ap (λ (ls : List Lease). least (map (λ l. l.max_root) ls)) (sym r.leases) ∙ e

abbrev raises : State → ℕ → State × Reply
raises m upto = (raised m upto, Raised (max m.cleaned upto))

-- what a raise that is not refused comes to
raised_stands : (p : Parts) (m0 : State) (h : List Event) (pass upto : ℕ)
    → ((old new : Parts) (m0 : State) (h : List Event) (pass : ℕ) (call : Call) (reply : Reply)
    → (step (state_after m0 h) pass call).0 ≡ (step (state_after m0 h) 1 call).0
    → Stands old m0 h → (step (state_after m0 h) pass call).1 ≡ reply → Reflects new (step (state_after m0 h) pass call).0 → After new m0 h pass call (Some reply))
    → Stands p m0 h → step (state_after m0 h) pass (Raise upto) ≡ raises (state_after m0 h) upto
    → After (record p { cleaned = max p.cleaned upto }) m0 h pass (Raise upto) (Some (Raised (max p.cleaned upto)))
raised_stands p m0 h pass upto on st is =
    let m = state_after m0 h in
    let after : Parts = record p { cleaned = max p.cleaned upto } in
    let reflected : Reflects after (raised m upto) =
    subst (λ (n : ℕ). Reflects after (record m { cleaned = n })) (ap (λ (n : ℕ). max n upto) st.parts.cleaned) (reflects_cleaned p m (max p.cleaned upto) st.parts) in
    on p after m0 h pass (Raise upto) (Raised (max p.cleaned upto)) refl st (ap (λ r. r.1) is ∙ ap (λ (n : ℕ). Raised (max n upto)) (sym st.parts.cleaned))
    (subst (λ (r : State × Reply). Reflects after r.0) (sym is) reflected)

pub returns-clause-no_root : goal.returns-clause-no_root
returns-clause-no_root c = λ p m0 h pass upto st e.
    let m = state_after m0 h in
    let is = raise_rootless m pass upto (newest_is p m None st.parts e) in
    c.step_stands.ensures.refused p m0 h pass (Raise upto) (PastRoot upto None) st (ap (λ r. r.0) is) (ap (λ r. r.1) is)

pub returns-clause-past : goal.returns-clause-past
returns-clause-past c = λ p m0 h pass upto newest st e past.
    let m = state_after m0 h in
    let is = raise_past m pass upto newest (newest_is p m (Some newest) st.parts e) past in
    c.step_stands.ensures.refused p m0 h pass (Raise upto) (PastRoot upto (Some newest)) st (ap (λ r. r.0) is) (ap (λ r. r.1) is)

pub returns-clause-leased : goal.returns-clause-leased
returns-clause-leased c = λ p m0 h pass upto newest l st e within f below.
    let m = state_after m0 h in
    let is = raise_leased m pass upto newest (newest_is p m (Some newest) st.parts e) within l (least_is p m (Some l) st.parts f) below in
    c.step_stands.ensures.refused p m0 h pass (Raise upto) (Leased upto l) st (ap (λ r. r.0) is) (ap (λ r. r.1) is)

pub returns-clause-unleased : goal.returns-clause-unleased
returns-clause-unleased c = λ p m0 h pass upto newest st e within f.
    let m = state_after m0 h in
    raised_stands p m0 h pass upto c.step_stands.ensures.of_any st (raise_unleased m pass upto newest (newest_is p m (Some newest) st.parts e) within (least_is p m None st.parts f))

pub returns-clause-done : goal.returns-clause-done
returns-clause-done c = λ p m0 h pass upto newest l st e within f above.
    let m = state_after m0 h in
    raised_stands p m0 h pass upto c.step_stands.ensures.of_any st (raise_done m pass upto newest (newest_is p m (Some newest) st.parts e) within l (least_is p m (Some l) st.parts f) above)
