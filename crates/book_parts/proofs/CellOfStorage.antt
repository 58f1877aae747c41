-- The cell of a storage, and what of it a pin changes.
use Rattle.std.proofs.Common.{◌≡◌, ◌≢◌, ℕ, suc, ◌+◌, List, [], ◌∷◌, Bool, true, false, cond, find, get_or, AllPairs, Contains, Some, not, ◌&&◌, ◌||◌, refl, sym, ap, ◌∙◌, inl, inr, arith, IsTrue, IsFalse, eqb}
use Rattle.std.proofs.lemmas.Bool.{true≢false, false≢true, eqb-true, and_parts, cases_order}
use Rattle.std.proofs.lemmas.List.{get_or_default}
use Rattle.cell_table.specs.declared.phase.Phase.{Phase}
use Rattle.cell_table.specs.declared.phase.Phase.TheVariants.{Free, Filling, Live, Retired}
use Rattle.cell_table.specs.Phases.{has_id, is_live, pins_of, pinned, unpinned}
use Rattle.adb_model.specs.State as model
use Rattle.adb_model.specs.State.{Storage, State}
use Rattle.adb_model.specs.Presence as presence
use Rattle.adb_model.specs.Storages.{storage_with, live_storage, is_filling, is_filling_phase}
use Rattle.book_parts.specs.Parts.{Shared}
use Rattle.book_parts.specs.Cells.{IsCellOf}

-- ---- ids

-- a cell has one id
pub one_id : {T : Type 0} (a b : ℕ) (phase : Phase T) → has_id a phase ≡ true → has_id b phase ≡ true → a ≡ b
one_id a b Free e f = absurd (false≢true e)
one_id a b (Filling id bytes) e f = sym (eqb-true id a e) ∙ eqb-true id b f
one_id a b (Live id bytes pins image) e f = sym (eqb-true id a e) ∙ eqb-true id b f
one_id a b (Retired id bytes pins image) e f = sym (eqb-true id a e) ∙ eqb-true id b f

-- what a search finds is a member that passes
found_at : {X : Type 0} (p : X → Bool) (xs : List X) (x : X) → find p xs ≡ Some x → Contains xs x × IsTrue (p x)
found_at p [] x e = absurd cc
found_at p (y ∷ ys) x e = by (p y) refl e (found_at p ys x)
  where
    by : (b : Bool) → p y ≡ b → cond b (Some y) (find p ys) ≡ Some x → (find p ys ≡ Some x → Contains ys x × IsTrue (p x)) → Contains (y ∷ ys) x × IsTrue (p x)
    by true t e ih = let same : y ≡ x = cc in ((0, omega arith, same), ap p (sym same) ∙ t)
    by false t e ih = let rest = ih e in ((suc rest.0.0, omega (arith, rest.0.1), rest.0.2), rest.1)

-- storages with one id are one
pub one_storage : (ts : List Storage) (t u : Storage) → AllPairs (λ t u. t.id ≢ u.id) ts → Contains ts t → Contains ts u → t.id ≡ u.id → t ≡ u
one_storage ts t u pairs c d e = elim (cases_order c.0 d.0) [
  | inl same ↦ sym c.2 ∙ get_or_default ts c.0 t u c.1 ∙ ap (λ k. get_or ts k u) same ∙ d.2
  | inr (inl lt) ↦ absurd (pairs c.0 d.0 t lt d.1 (ap (λ (v : Storage). v.id) c.2 ∙ e ∙ ap (λ (v : Storage). v.id) (sym (get_or_default ts d.0 t u d.1 ∙ d.2))))
  | inr (inr gt) ↦ absurd (pairs d.0 c.0 t gt c.1 (ap (λ (v : Storage). v.id) (get_or_default ts d.0 t u d.1 ∙ d.2) ∙ sym e ∙ ap (λ (v : Storage). v.id) (sym c.2)))
]

-- the storage with the id of a slot's storage in use is that one
pub live_with_id : (m : State) (s id : ℕ) (t u : Storage) → AllPairs (λ t u. t.id ≢ u.id) m.storages → live_storage m s ≡ Some t → storage_with m id ≡ Some u → t.id ≡ id → IsTrue (presence.is_live u)
live_with_id m s id t u pairs e f same =
    let live = found_at (λ v. presence.is_live v && eqb v.slot s) m.storages t e in
    let with_id = found_at (λ v. eqb v.id id) m.storages u f in
    let is : t ≡ u = one_storage m.storages t u pairs live.0 with_id.0 (same ∙ sym (eqb-true u.id id with_id.1)) in
    ap presence.is_live (sym is) ∙ (and_parts (presence.is_live t) (eqb t.slot s) live.1).0

-- ---- phases

not_both : (phase : model.Phase) → presence.is_live_phase phase ≡ true → is_filling_phase phase ≡ true → ⊥
not_both model.Filling t f = false≢true t
not_both model.Live t f = false≢true f
not_both model.Retired t f = false≢true t

not_retired : (phase : model.Phase) → presence.is_live_phase phase ≡ true → not (presence.is_live_phase phase || is_filling_phase phase) ≡ true → ⊥
not_retired model.Filling t f = false≢true t
not_retired model.Live t f = false≢true f
not_retired model.Retired t f = false≢true t

-- the cell of a storage in use is live
pub live_cell : (t : Storage) (count : ℕ) (phase : Phase Shared) → IsTrue (presence.is_live t) → IsCellOf t count phase → is_live phase ≡ true
live_cell t count Free live is = absurd is
live_cell t count (Filling id bytes) live is = absurd (not_both t.phase live is.0)
live_cell t count (Live id bytes pins image) live is = refl
live_cell t count (Retired id bytes pins image) live is = absurd (not_retired t.phase live is.0)

-- the cell of a storage that has been filled has its pins
pub filled_cell : (t : Storage) (count : ℕ) (phase : Phase Shared) → IsFalse (is_filling t) → IsCellOf t count phase → pins_of phase ≡ count
filled_cell t count Free filled is = absurd is
filled_cell t count (Filling id bytes) filled is = absurd (true≢false (sym is.0 ∙ filled))
filled_cell t count (Live id bytes pins image) filled is = is.2
filled_cell t count (Retired id bytes pins image) filled is = is.2

pub pin_fits : (t : Storage) (n k : ℕ) (phase : Phase Shared) → k ≡ n + 1 → is_live phase ≡ true → IsCellOf t n phase → IsCellOf t k (pinned phase)
pin_fits t n k Free e live is = is
pin_fits t n k (Filling id bytes) e live is = is
pin_fits t n k (Live id bytes pins image) e live is = (is.0, is.1, omega (arith, is.2, e), is.3)
pin_fits t n k (Retired id bytes pins image) e live is = absurd (false≢true live)

pub unpin_fits : (t : Storage) (n k : ℕ) (phase : Phase Shared) → n ≡ k + 1 → IsCellOf t n phase → IsCellOf t k (unpinned phase)
unpin_fits t n k Free e is = is
unpin_fits t n k (Filling id bytes) e is = is
unpin_fits t n k (Live id bytes pins image) e is = (is.0, is.1, omega (arith, is.2, e), is.3)
unpin_fits t n k (Retired id bytes pins image) e is = (is.0, is.1, omega (arith, is.2, e), is.3)
