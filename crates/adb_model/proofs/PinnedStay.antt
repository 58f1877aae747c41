-- Pinned storages stay through a history, and ids that have left do not come again.
use Rattle.std.proofs.Common.{◌≡◌, ℕ, ◌<◌, ◌≤◌, eqb, IsTrue, List, [], ◌∷◌, Contains, Option, Some, None, refl, sym, ap, ◌∙◌, subst, arith}
use Rattle.std.proofs.lemmas.Option.{same_Some}
use Rattle.std.proofs.lemmas.Bool.{eqb-true}
use Rattle.adb_model.specs.State.{Storage, State}
use Rattle.adb_model.specs.Storages.{is_pinned, storage_with}
use Rattle.adb_model.specs.Call.{Call, Event}
use Rattle.adb_model.specs.Step.{step}
use Rattle.adb_model.specs.History.{state_after, IsPass, AreOfPasses}
use Rattle.adb_model.specs.Sound.{IsSound}
use Rattle.adb_model.specs.Recycling.{StandsIn, StaysPinned}
use Rattle.adb_model.proofs.Members.{found}
use Rattle.adb_model.proofs.FreshIds.{at_id, with_id_from, id_below}
use Rattle.adb_model.proofs.StepKeeps.{step_keeps}
use Rattle.adb_model.proofs.StoragesFollow.{IsSame, step_follows, next_grows}

id_of : (n : State) (id : ℕ) (t : Storage) → storage_with n id ≡ Some t → t.id ≡ id
id_of n id t e = eqb-true t.id id (found (λ (u : Storage). eqb u.id id) n.storages t e).1

-- one of the state's storages is the storage, in some phase
stands_as : (m : State) → IsSound m → (t u : Storage) → Contains m.storages u → IsSame t u → StandsIn m t
stands_as m h t u c same = record { there = u; with_id = ap (storage_with m) (sym same.id) ∙ at_id m h u c; slot = same.slot; rows = same.rows; bytes = same.bytes }

found_itself : (m : State) → IsSound m → (id : ℕ) (t : Storage) → storage_with m id ≡ Some t → StandsIn m t
found_itself m h id t e = record { there = t; with_id = at_id m h t (with_id_from m h id t e).0; slot = refl; rows = refl; bytes = refl }

pub step_stands : (m : State) → IsSound m → (pass : ℕ) → IsPass pass → (c : Call) (id : ℕ) → IsTrue (is_pinned m id) → (t : Storage) → storage_with m id ≡ Some t → StandsIn (step m pass c).0 t
step_stands m h pass is c id p t e =
    let f = with_id_from m h id t e in
    let s = (step_follows m h pass c).stays t f.0 (subst (λ n. IsTrue (is_pinned m n)) (sym f.1) p) in
    stands_as (step m pass c).0 (step_keeps m pass c is h) t s.0 s.1 s.2

-- what stands as one storage stands as each that is the same
as_before : (n : State) (t u : Storage) → u.id ≡ t.id → u.slot ≡ t.slot → u.rows ≡ t.rows → u.bytes ≡ t.bytes → StandsIn n u → StandsIn n t
as_before n t u id slot rows bytes s = record { there = s.there; with_id = ap (storage_with n) (sym id) ∙ s.with_id; slot = s.slot ∙ slot; rows = s.rows ∙ rows; bytes = s.bytes ∙ bytes }

pub history_stands : (m : State) (events : List Event) → AreOfPasses events → IsSound m → (id : ℕ) → StaysPinned m events id → (t : Storage) → storage_with m id ≡ Some t → StandsIn (state_after m events) t
history_stands m [] passes h id pinned t e = found_itself m h id t e
history_stands m (v ∷ events) passes h id pinned t e =
    let n = (step m v.pass v.call).0 in
    let sound = step_keeps m v.pass v.call passes.0 h in
    let s = step_stands m h v.pass passes.0 v.call id (pinned [] (v ∷ events) refl) t e in
    let of = (with_id_from m h id t e).1 in
    let there : storage_with n id ≡ Some s.there = ap (storage_with n) (sym of) ∙ s.with_id in
    let rest = history_stands n events passes.1 sound id (λ before after same. pinned (v ∷ before) after (ap (λ (vs : List Event). v ∷ vs) same)) s.there there in
    as_before (state_after n events) t s.there ((with_id_from n sound id s.there there).1 ∙ sym of) s.slot s.rows s.bytes rest

pub ids_grow : (m : State) (events : List Event) → m.next_id ≤ (state_after m events).next_id
ids_grow m [] = omega arith
ids_grow m (v ∷ events) = omega (arith, next_grows m v.pass v.call, ids_grow (step m v.pass v.call).0 events)

pub known : (m : State) (events : List Event) → AreOfPasses events → IsSound m → (id : ℕ) → id < m.next_id → (t : Storage) → storage_with (state_after m events) id ≡ Some t → StandsIn m t
known m [] passes h id below t e = found_itself m h id t e
known m (v ∷ events) passes h id below t e =
    let n = (step m v.pass v.call).0 in
    let sound = step_keeps m v.pass v.call passes.0 h in
    let s = known n events passes.1 sound id (omega (arith, below, next_grows m v.pass v.call)) t e in
    let f = with_id_from n sound t.id s.there s.with_id in
    let was = (step_follows m h v.pass v.call).was s.there f.0 (subst (λ (k : ℕ). k < m.next_id) (sym (f.1 ∙ id_of (state_after n events) id t e)) below) in
    record {
      there = was.0;
      with_id = ap (storage_with m) (sym f.1 ∙ was.2.id) ∙ at_id m h was.0 was.1;
      slot = sym was.2.slot ∙ s.slot;
      rows = sym was.2.rows ∙ s.rows;
      bytes = sym was.2.bytes ∙ s.bytes;
    }

pub gone : (m : State) (events : List Event) → AreOfPasses events → IsSound m → (id : ℕ) → id < m.next_id → storage_with m id ≡ None → storage_with (state_after m events) id ≡ None
gone m events passes h id below none = by (storage_with (state_after m events) id) refl
  where
    by : (o : Option Storage) → storage_with (state_after m events) id ≡ o → storage_with (state_after m events) id ≡ None
    by None e = e
    by (Some t) e =
        let s = known m events passes h id below t e in
        let there : storage_with m id ≡ Some s.there = ap (storage_with m) (sym (id_of (state_after m events) id t e)) ∙ s.with_id in
        absurd cc

-- so an id is of one storage
pub one : (m : State) (events : List Event) → AreOfPasses events → IsSound m → (id : ℕ) (t u : Storage) → storage_with m id ≡ Some t → storage_with (state_after m events) id ≡ Some u → (u.slot ≡ t.slot) × (u.rows ≡ t.rows)
one m events passes h id t u e f =
    let s = known m events passes h id (id_below m h id t e) u f in
    let there : storage_with m id ≡ Some s.there = ap (storage_with m) (sym (id_of (state_after m events) id u f)) ∙ s.with_id in
    let same = same_Some s.there t (sym there ∙ e) in
    (sym s.slot ∙ ap (λ (v : Storage). v.slot) same, sym s.rows ∙ ap (λ (v : Storage). v.rows) same)
