-- One more storage that is being filled: what it leaves as it was.
use Rattle.std.proofs.Common.{◌≡◌, ◌≢◌, ℕ, ◌+◌, ◌<◌, ◌≤◌, eqb, not, ◌&&◌, IsTrue, IsFalse, List, [], ◌∷◌, ◌++◌, length, get_or, All, AllPairs, refl, sym, ◌∙◌, arith, length-append}
use Rattle.std.specs.List.{list_any}
use Rattle.std.proofs.lemmas.Bool.{true≢false, and_parts, eqb-true}
use Rattle.std.proofs.lemmas.List.Quantifiers.{all_pairs_push}
use Rattle.std.proofs.lemmas.List.Elements.{All-push, All-contains}
use Rattle.std.proofs.lemmas.List.Sums.{sum_by_push}
use Rattle.adb_model.specs.State.{Row, Filling, Storage, Shrink, State}
use Rattle.adb_model.specs.Presence.{has_row, is_named, is_held, is_live}
use Rattle.adb_model.specs.Storages.{is_filling, used, bytes_of, is_copy}
use Rattle.adb_model.specs.Flush.{with_filling}
use Rattle.adb_model.specs.Sound.{IsSound, LimitsHold, ShrinkFits, CopyFits, NamesHold, is_settled}
use Rattle.adb_model.proofs.Members.{member, any_push_other, any_append_left, none_from}

abbrev pub filling : State → ℕ → List Row → Storage
filling m slot rows = record { id = m.next_id; slot = slot; rows = rows; bytes = bytes_of rows; phase = Filling }

module _ (m : State) (slot : ℕ) (rows : List Row) (h : IsSound m) where
  -- a shrink's ids are below the next one
  pub new_below : (g : Shrink) → ShrinkFits m g → (g.old < m.next_id) × (g.new < m.next_id)
  new_below g fits =
      let old = member (λ t. (eqb t.id g.old && eqb t.slot g.slot) && not (is_filling t)) m.storages fits.old in
      let new = member (λ t. (eqb t.id g.new && eqb t.slot g.slot) && is_filling t) m.storages fits.new in
      let old_id = eqb-true old.0.id g.old (and_parts _ _ (and_parts _ _ old.2).0).0 in
      let new_id = eqb-true new.0.id g.new (and_parts _ _ (and_parts _ _ new.2).0).0 in
      let old_lt : old.0.id < m.next_id = All-contains (λ (t : Storage). t.id < m.next_id) m.storages old.0 h.ids.below old.1 in
      let new_lt : new.0.id < m.next_id = All-contains (λ (t : Storage). t.id < m.next_id) m.storages new.0 h.ids.below new.1 in
      (omega arith, omega arith)

  pub not_copy : IsFalse (is_copy m m.next_id)
  not_copy = none_from (λ g. eqb g.new m.next_id) m.shrinks (λ g c t.
      let lt = (new_below g (All-contains (ShrinkFits m) m.shrinks g h.ids.shrinks c)).1 in
      omega (arith, eqb-true g.new m.next_id t))

  pub fresh_id : (k : ℕ) (d : Storage) → k < length m.storages → (get_or m.storages k d).id ≢ m.next_id
  fresh_id k d lt e = let below = h.ids.below k d lt in omega arith

  pub limits_kept : used m + bytes_of rows ≤ m.budget → length m.storages < 1048576 → LimitsHold (with_filling m slot rows)
  limits_kept fits some_cell = record {
    roots = h.limits.roots;
    cleaned = h.limits.cleaned;
    leases = h.limits.leases;
    passes = h.limits.passes;
    pins = h.limits.pins;
    bytes = omega (arith, fits, sum_by_push (λ (t : Storage). t.bytes) m.storages (filling m slot rows));
    count = omega (arith, some_cell, length-append m.storages (filling m slot rows ∷ []));
  }

  -- nothing more is held
  pub held_same : (s : ℕ) (k : List ℕ) → is_held (with_filling m slot rows) s k ≡ is_held m s k
  held_same s k = any_push_other (λ t. (is_live t && eqb t.slot s) && has_row k t.rows) m.storages (filling m slot rows) refl

  pub settled_kept : (id : ℕ) → IsTrue (is_settled m id) → IsTrue (is_settled (with_filling m slot rows) id)
  settled_kept id t = any_append_left (λ t. eqb t.id id && not (is_filling t)) m.storages (filling m slot rows ∷ []) t

  pub shrink_kept : (g : Shrink) → ShrinkFits m g → ShrinkFits (with_filling m slot rows) g
  shrink_kept g fits = record {
    old = any_append_left (λ t. (eqb t.id g.old && eqb t.slot g.slot) && not (is_filling t)) m.storages (filling m slot rows ∷ []) fits.old;
    new = any_append_left (λ t. (eqb t.id g.new && eqb t.slot g.slot) && is_filling t) m.storages (filling m slot rows ∷ []) fits.new;
  }

  pub names_kept : NamesHold (with_filling m slot rows)
  names_kept = record {
    held = λ s k n. held_same s k ∙ h.names.held s k n;
    live = All-push (λ t. IsTrue (is_live t) → IsTrue (list_any (λ r. is_named m t.slot r.key) t.rows)) m.storages (filling m slot rows) h.names.live (λ live. absurd (true≢false (sym live)));
  }

  pub copy_kept : (g : Shrink) → g.old < m.next_id → g.new < m.next_id → CopyFits m g → CopyFits (with_filling m slot rows) g
  copy_kept g old_lt new_lt fits = record {
    named = All-push (λ t. t.id ≡ g.new → (k : List ℕ) → IsTrue (is_named m g.slot k) → IsTrue (has_row k t.rows)) m.storages (filling m slot rows) fits.named
        (λ e. absurd (omega arith));
    old = All-push (λ t. t.id ≡ g.new → All (λ u. u.id ≡ g.old → (k : List ℕ) → IsTrue (has_row k t.rows) → IsTrue (has_row k u.rows)) (m.storages ++ filling m slot rows ∷ [])) m.storages (filling m slot rows)
        (λ k d lt e. All-push (λ u. u.id ≡ g.old → (q : List ℕ) → IsTrue (has_row q (get_or m.storages k d).rows) → IsTrue (has_row q u.rows)) m.storages (filling m slot rows) (fits.old k d lt e)
        (λ f. absurd (omega arith)))
        (λ e. absurd (omega arith));
  }

  pub ids_differ : AllPairs (λ t u. t.id ≢ u.id) (with_filling m slot rows).storages
  ids_differ = all_pairs_push (λ t u. t.id ≢ u.id) m.storages (filling m slot rows) h.ids.differ fresh_id

  pub ids_below : All (λ t. t.id < m.next_id + 1) (with_filling m slot rows).storages
  ids_below = All-push (λ t. t.id < m.next_id + 1) m.storages (filling m slot rows) (λ k d lt. omega (arith, h.ids.below k d lt)) (omega arith)
