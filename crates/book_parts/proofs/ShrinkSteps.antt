-- What the machine does where a shrink is to begin, and what a book's parts tell of it.
use Rattle.std.proofs.Common.{◌≡◌, ◌≢◌, ℕ, ◌+◌, ◌<◌, ◌≤◌, List, [], ◌∷◌, length, Bool, true, false, eqb, nat_lt, nat_le, Option, Some, None, option_map, refl, sym, ap, ◌∙◌, subst, arith}
use Rattle.std.proofs.lemmas.Bool.{le-ltb, lt-leb, ne_eqb}
use Rattle.cell_table.specs.Cells as cells
use Rattle.cell_table.specs.Cells.{Table, cell_at}
use Rattle.cell_table.specs.Phases.{has_id}
use Rattle.storage_map.specs.declared.entry.Begun.{Begun}
use Rattle.storage_map.specs.declared.entry.Live.{Live}
use Rattle.storage_map.specs.Slots.{Slots, begun_at}
use Rattle.adb_model.specs.State.{Storage, Shrink, State}
use Rattle.adb_model.specs.Storages.{used, bytes_of, live_storage, filling_storage, open_shrink}
use Rattle.adb_model.specs.Shrink.{named_in, shrink_rows, shrinking}
use Rattle.adb_model.specs.Shrinking.{IsOpenShrink}
use Rattle.adb_model.specs.Outcome.{unless, when_found, refused_if, first_of}
use Rattle.adb_model.specs.Call.{Refusal, NoStorage, Shrinking, NothingDead, Full, NoCell, IdsSpent, ShrinkBegin, ShrinkBegun, Reply}
use Rattle.adb_model.specs.Step.{step}
use Rattle.book_parts.specs.Parts.{Parts, Shared}
use Rattle.book_parts.specs.Reflects.{Reflects}
use Rattle.book_parts.specs.Storages.{IsBegunOf}
use Rattle.book_parts.specs.Shrinks.{ShrinkBegins, copied_rows}
use Rattle.book_parts.proofs.CellOfStorage.{one_id}
use Rattle.book_parts.proofs.FlushSteps.{begun_storage, same_used, some_free}
use Rattle.book_parts.proofs.Found.{some_is, none_some, of_id}

module _ (m : State) (pass slot : ℕ) (old : Storage) where
  abbrev pub wanted : ℕ
  wanted = bytes_of (shrink_rows m old)

  -- the refusals, by what they ask
  abbrev pub asked : Option Shrink → Bool → Bool → Bool → Bool → List (Option Refusal)
  asked other whole full none spent =
      option_map (λ h. Shrinking slot h.new) other
      ∷ refused_if whole (NothingDead slot)
      ∷ refused_if full (Full (used m) wanted m.budget)
      ∷ refused_if none (NoCell 1048576)
      ∷ refused_if spent IdsSpent
      ∷ []

  abbrev pub begun_step : List (Option Refusal) → State × Reply
  begun_step refusals = unless (first_of refusals) m (shrinking m old, ShrinkBegun old.id m.next_id wanted)

  abbrev pub is_whole : Bool
  is_whole = eqb (length old.rows) (named_in m slot)

  abbrev pub is_full : Bool
  is_full = nat_lt m.budget (used m + wanted)

  abbrev pub is_out : Bool
  is_out = nat_le 1048576 (length m.storages)

  abbrev pub is_spent : Bool
  is_spent = eqb m.next_id 18446744073709551615

  pub begin_is : (o : Option Shrink) (w f n s : Bool) → live_storage m slot ≡ Some old → open_shrink m slot ≡ o → is_whole ≡ w → is_full ≡ f → is_out ≡ n → is_spent ≡ s
      → step m pass (ShrinkBegin slot) ≡ begun_step (asked o w f n s)
  begin_is o w f n s live eo ew ef en es =
      ap (λ x. when_found x (NoStorage slot) m (λ t. let begun : State × Reply = (shrinking m t, ShrinkBegun t.id m.next_id (bytes_of (shrink_rows m t))) in unless (first_of (
      option_map (λ (h : Shrink). Shrinking slot h.new) (open_shrink m slot)
      ∷ refused_if (eqb (length t.rows) (named_in m slot)) (NothingDead slot)
      ∷ refused_if (nat_lt m.budget (used m + bytes_of (shrink_rows m t))) (Full (used m) (bytes_of (shrink_rows m t)) m.budget)
      ∷ refused_if is_out (NoCell 1048576)
      ∷ refused_if is_spent IdsSpent
      ∷ [])) m begun)) live
      ∙ ap (λ x. begun_step (asked x is_whole is_full is_out is_spent)) eo
      ∙ ap (λ x. begun_step (asked o x is_full is_out is_spent)) ew
      ∙ ap (λ x. begun_step (asked o w x is_out is_spent)) ef
      ∙ ap (λ x. begun_step (asked o w f x is_spent)) en
      ∙ ap (λ x. begun_step (asked o w f n x)) es

-- ---- whether a shrink is open

module _ (p : Parts) (m : State) (slot : ℕ) (r : Reflects p m) (between : (h : Shrink) → open_shrink m slot ≡ Some h → (old : Storage) × (copy : Storage) × IsOpenShrink m slot h old copy) where
  no_filling : (o : Option Storage) → IsBegunOf p.cells.cells None o → o ≡ None
  no_filling None is = refl
  no_filling (Some t) is = absurd is

  -- where no entry has begun, none is
  pub none_open : begun_at p.map slot ≡ None → open_shrink m slot ≡ None
  none_open e = by (open_shrink m slot) refl
    where
      by : (o : Option Shrink) → open_shrink m slot ≡ o → open_shrink m slot ≡ None
      by None x = x
      by (Some h) x =
          let f = between h x in
          let none = no_filling (filling_storage m slot) (subst (λ b. IsBegunOf p.cells.cells b (filling_storage m slot)) e (r.slots.begins slot)) in
          absurd (none_some (sym none ∙ f.2.in_slot))

  -- where one has begun in a slot with a storage in use, it is of the copy
  pub shrink_of_entry : (b : Begun) (id : ℕ) → (open_shrink m slot ≡ None → filling_storage m slot ≡ None) → begun_at p.map slot ≡ Some b → has_id id (cell_at p.cells.cells b.cell) ≡ true
      → (h : Shrink) × (open_shrink m slot ≡ Some h) × (h.new ≡ id)
  shrink_of_entry b id none e has = by (open_shrink m slot) refl (begun_storage p m slot r b e)
    where
      by : (o : Option Shrink) → open_shrink m slot ≡ o → (t : Storage) × (filling_storage m slot ≡ Some t) × (has_id t.id (cell_at p.cells.cells b.cell) ≡ true)
          → (h : Shrink) × (open_shrink m slot ≡ Some h) × (h.new ≡ id)
      by None x found = absurd (none_some (sym (none x) ∙ found.1))
      by (Some h) x found =
          let f = between h x in
          let same : f.1 ≡ found.0 = some_is (sym f.2.in_slot ∙ found.1) in
          (h, x, sym (of_id m h.new f.1 f.2.copy_with_id).1 ∙ ap (λ (t : Storage). t.id) same ∙ one_id found.0.id id (cell_at p.cells.cells b.cell) found.2 has)

-- ---- a shrink begins

module _ (p : Parts) (m : State) (pass slot from cell : ℕ) (live : Live) (image : Shared) (old : Storage) (table : Table Shared) (slots : Slots) (r : Reflects p m) where
  abbrev pub bytes : ℕ
  bytes = bytes_of (copied_rows p.index slot from image.value)

  abbrev begun_as : ℕ → ℕ → ℕ → State × Reply
  begun_as first id size = (shrinking m old, ShrinkBegun first id size)

  -- a shrink that has room begins
  pub begun_is : live_storage m slot ≡ Some old → open_shrink m slot ≡ None → live.alive ≡ named_in m slot → live.total ≡ length old.rows → live.alive < live.total
      → image.value.id ≡ old.id → bytes ≡ bytes_of (shrink_rows m old) → p.next_id ≢ 18446744073709551615
      → ShrinkBegins slot p.next_id from cell (copied_rows p.index slot from image.value) p.cells table p.map slots
      → step m pass (ShrinkBegin slot) ≡ begun_as image.value.id p.next_id bytes
  begun_is e none alive total dead same_id size unspent begins =
      let same : cells.used p.cells.cells ≡ used m = same_used p m slot r in
      let limit = r.limit in
      let fits = begins.begun.fits in
      let within : used m + wanted m pass slot old ≤ m.budget = omega (arith, fits, same, limit, size) in
      let all = r.cells.free in
      let free = some_free p.cells.cells cell begins.begun.within begins.begun.was_free in
      let few : length m.storages < 1048576 = omega (arith, all, free) in
      begin_is m pass slot old None false false false false e none
      (ne_eqb (length old.rows) (named_in m slot) (λ whole. omega (arith, whole, alive, total, dead)))
      (le-ltb m.budget (used m + wanted m pass slot old) within) (lt-leb 1048576 (length m.storages) few)
      (ne_eqb m.next_id 18446744073709551615 (λ spent. unspent (r.next_id ∙ spent)))
      ∙ sym (ap (λ i. begun_as i p.next_id bytes) same_id ∙ ap (λ i. begun_as old.id i bytes) r.next_id ∙ ap (begun_as old.id m.next_id) size)
