use Rattle.std.proofs.Common.{List, ◌<◌, ◌≤◌, ◌∷◌, ◌++◌, [], ℕ, sym, ap, ◌∙◌, subst}
use Rattle.std.specs.List.{list_any}
use Rattle.adb_model.specs.Lists.{without_last}
use Rattle.adb_model.specs.State.{Lease, State}
use Rattle.adb_model.specs.Leases as machine_leases
use Rattle.adb_model.specs.Leases.{is_lease}
use Rattle.adb_model.specs.Call as machine
use Rattle.adb_model.specs.Call.{Refused, Done, ViewTooOld, NotLeased, Reply}
use Rattle.adb_model.specs.History.{state_after}
use Rattle.book_parts.specs.Parts.{Parts}
use Rattle.book_parts.specs.Reflects.{Reflects}
use Rattle.book_parts.proofs.Leases.{reflects_leases, lease_refused, lease_done, end_refused, end_done}
use Rattle.book_parts.proofs.leasing.lease_stands.Goals as goal

pub returns-clause-too_old : goal.returns-clause-too_old
returns-clause-too_old c = λ p m0 h pass max_root st old.
    let m = state_after m0 h in
    let is = lease_refused m pass max_root (subst (λ (n : ℕ). max_root < n) st.parts.cleaned old) in
    c.step_stands.ensures.refused p m0 h pass (machine.Lease max_root) (ViewTooOld max_root p.cleaned) st (ap (λ r. r.0) is)
    (ap (λ r. r.1) is ∙ ap (λ (n : ℕ). Refused (ViewTooOld max_root n)) (sym st.parts.cleaned))

pub returns-clause-done : goal.returns-clause-done
returns-clause-done c = λ p m0 h pass max_root st is_pass new.
    let m = state_after m0 h in
    let more : List Lease → List Lease = λ leases. leases ++ record { pass = pass; max_root = max_root } ∷ [] in
    let after : Parts = record p { leases = more p.leases } in
    let is = lease_done m pass max_root (subst (λ (n : ℕ). n ≤ max_root) st.parts.cleaned new) in
    let reflected : Reflects after (machine_leases.with_lease m pass max_root) =
    subst (λ (leases : List Lease). Reflects after (record m { leases = leases })) (ap more st.parts.leases) (reflects_leases p m (more p.leases) st.parts) in
    c.step_stands.ensures.of_pass p after m0 h pass (machine.Lease max_root) Done is_pass st (ap (λ r. r.1) is)
    (subst (λ (r : State × Reply). Reflects after r.0) (sym is) reflected)

pub returns-clause-none : goal.returns-clause-none
returns-clause-none c = λ p m0 h pass max_root st none.
    let m = state_after m0 h in
    let is = end_refused m pass max_root (ap (list_any (is_lease pass max_root)) (sym st.parts.leases) ∙ none) in
    c.step_stands.ensures.refused p m0 h pass (machine.EndLease max_root) (NotLeased max_root) st (ap (λ r. r.0) is) (ap (λ r. r.1) is)

pub returns-clause-ended : goal.returns-clause-ended
returns-clause-ended c = λ p m0 h pass max_root st is_pass some.
    let m = state_after m0 h in
    let fewer : List Lease → List Lease = λ leases. without_last (is_lease pass max_root) leases in
    let after : Parts = record p { leases = fewer p.leases } in
    let is = end_done m pass max_root (ap (list_any (is_lease pass max_root)) (sym st.parts.leases) ∙ some) in
    let reflected : Reflects after (machine_leases.without_lease m pass max_root) =
    subst (λ (leases : List Lease). Reflects after (record m { leases = leases })) (ap fewer st.parts.leases) (reflects_leases p m (fewer p.leases) st.parts) in
    c.step_stands.ensures.of_pass p after m0 h pass (machine.EndLease max_root) Done is_pass st (ap (λ r. r.1) is)
    (subst (λ (r : State × Reply). Reflects after r.0) (sym is) reflected)
