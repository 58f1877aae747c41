-- What one more row changes of an index.
use Rattle.std.proofs.Common.{◌≡◌, ℕ, ◌+◌, ◌<◌, List, [], ◌∷◌, ◌++◌, length, take, get_or, Bool, true, false, cond, eqb, not, ◌&&◌, ◌||◌, Option, Some, None, option_map, refl, sym, ap, subst, ◌∙◌, IsSome}
use Rattle.std.specs.Str.{bytes_eq}
use Rattle.std.proofs.lemmas.Bool.{and_parts, eqb-true}
use Rattle.slot_list.specs.declared.Place.{Place}
use Rattle.slot_list.specs.declared.Place.TheVariants.{Stored}
use Rattle.slot_list.specs.declared.Version.{Version}
use Rattle.slot_list.specs.Versions.{at, rehomed, with_slot, without_slot}
use Rattle.accounts_index.specs.Index.{Index, kept, IsWith}
use Rattle.adb_model.specs.Lists.{among}
use Rattle.adb_model.specs.State.{Row}
use Rattle.adb_model.specs.Presence.{has_row}
use Rattle.book_parts.specs.Reflects.{found_of, indexed}
use Rattle.book_parts.specs.Changes.{SameIndex}
use Rattle.book_parts.specs.Flushes.{Expects, Unexpects, Moves, place_of, moved}
use Rattle.append_vec.specs.Filled.{row_of, rows_of}
use Rattle.flush_plan.specs.Moving.{CanMove}
use Rattle.flush_plan.proofs.Edits.{same_bytes, turns, stays, among_append, among_with, among_without, at_place, found_rehomed}
use Rattle.flush_plan.proofs.Keys.{Given, one_more, has_more, key_new, key_there, length-first}
use Rattle.flush_plan.proofs.Moves.{joins, joins_last, parts, back, place_none, place_more, moves}

-- no rows are expected
pub expects_none : (slot : ℕ) (index : Index) → Expects slot [] index index
expects_none slot index = record {
  versions = λ k s. refl;
  held = λ k s. refl;
  expected = λ k s. none (eqb slot s) (among s (kept index k).expected);
}
  where
    none : (c e : Bool) → e ≡ ((c && false) || e)
    none true e = refl
    none false e = refl

module _ (slot : ℕ) (xs : List Given) (i : ℕ) (x : Given) (lt : i < length xs) (is : x ≡ get_or xs i x) (old now new : Index) where
  more : (k : List ℕ) → has_row k (rows_of (take (i + 1) xs)) ≡ (has_row k (rows_of (take i xs)) || bytes_eq x.0.0 k)
  more k = ap (has_row k) (one_more xs i x lt is) ∙ has_more (rows_of (take i xs)) (row_of x) k

  pub expects_more : Expects slot (rows_of (take i xs)) old now → IsWith now new x.0.0 (record (kept now x.0.0) { expected = (kept now x.0.0).expected ++ slot ∷ [] })
      → Expects slot (rows_of (take (i + 1) xs)) old new
  expects_more so_far edit = record {
    versions = λ k s. stays now new x.0.0 _ (λ q. option_map found_of (at s q.versions)) edit refl k ∙ so_far.versions k s;
    held = λ k s. stays now new x.0.0 _ (λ q. among s q.held) edit refl k ∙ so_far.held k s;
    expected = λ k s.
        turns now new x.0.0 _ (λ q. among s q.expected) (λ e. e || (eqb slot s || false)) edit (among_append s (kept now x.0.0).expected (slot ∷ [])) k
        ∙ ap (λ e. cond (bytes_eq x.0.0 k) (e || (eqb slot s || false)) e) (so_far.expected k s)
        ∙ joins_last (eqb slot s) (has_row k (rows_of (take i xs))) (bytes_eq x.0.0 k) (among s (kept old k).expected)
        ∙ ap (λ h. (eqb slot s && h) || among s (kept old k).expected) (sym (more k));
  }

  pub unexpects_more : Unexpects slot (rows_of (take i xs)) old now → IsWith now new x.0.0 (record (kept now x.0.0) { expected = without_slot slot (kept now x.0.0).expected })
      → Unexpects slot (rows_of (take (i + 1) xs)) old new
  unexpects_more so_far edit = record {
    versions = λ k s. stays now new x.0.0 _ (λ q. option_map found_of (at s q.versions)) edit refl k ∙ so_far.versions k s;
    held = λ k s. stays now new x.0.0 _ (λ q. among s q.held) edit refl k ∙ so_far.held k s;
    expected = λ k s.
        turns now new x.0.0 _ (λ q. among s q.expected) (λ e. not (eqb slot s) && e) edit (among_without slot s (kept now x.0.0).expected) k
        ∙ ap (λ e. cond (bytes_eq x.0.0 k) (not (eqb slot s) && e) e) (so_far.expected k s)
        ∙ parts (eqb slot s) (has_row k (rows_of (take i xs))) (bytes_eq x.0.0 k) (among s (kept old k).expected)
        ∙ ap (λ h. not (eqb slot s && h) && among s (kept old k).expected) (sym (more k));
  }

-- rows that were expected, and were not before, are so no longer
pub expected_back : (slot : ℕ) (rows : List Row) (old mid new : Index) → ((k : List ℕ) → has_row k rows ≡ true → among slot (kept old k).expected ≡ false)
    → Expects slot rows old mid → Unexpects slot rows mid new → SameIndex old new
expected_back slot rows old mid new fresh there gone = record {
  versions = λ k s. gone.versions k s ∙ there.versions k s;
  holds = record {
    held = λ k s. gone.held k s ∙ there.held k s;
    expected = λ k s. gone.expected k s ∙ ap (λ e. not (eqb slot s && has_row k rows) && e) (there.expected k s)
        ∙ back (eqb slot s && has_row k rows) (among s (kept old k).expected) (λ b.
        let both = and_parts (eqb slot s) (has_row k rows) b in
        ap (λ (n : ℕ). among n (kept old k).expected) (sym (eqb-true slot s both.0)) ∙ fresh k both.1);
  };
}

-- ---- moves

some_found : (o : Option Version) → IsSome (option_map found_of o) → IsSome o
some_found None e = e
some_found (Some v) e = refl

some_moved : (cell : ℕ) (o : Option ℕ) (f : Option (Bool × Place)) → IsSome f → IsSome (moved cell o f)
some_moved cell None f there = there
some_moved cell (Some p) None there = there
some_moved cell (Some p) (Some v) there = refl

module _ (slot cell : ℕ) (xs : List Given) (i : ℕ) (x : Given) (lt : i < length xs) (is : x ≡ get_or xs i x) (places : List ℕ) (old now : Index)
    (ready : CanMove slot (rows_of xs) old) (so_far : Moves slot cell (rows_of (take i xs)) places old now) where
  key_is_new : has_row x.0.0 (rows_of (take i xs)) ≡ false
  key_is_new = key_new xs i x lt is ready.differ

  pub version_there : IsSome (at slot (kept now x.0.0).versions)
  version_there =
      some_found (at slot (kept now x.0.0).versions)
      (subst (λ (f : Option (Bool × Place)). IsSome f) (sym (so_far.versions x.0.0 slot))
      (some_moved cell (cond (eqb slot slot) (place_of (rows_of (take i xs)) places x.0.0) None) (indexed old slot x.0.0) (ready.there x.0.0 (key_there xs i x lt is))))

  pub is_expected : among slot (kept now x.0.0).expected ≡ true
  is_expected =
      so_far.expected x.0.0 slot
      ∙ ap (λ h. not (eqb slot slot && h) && among slot (kept old x.0.0).expected) key_is_new ∙ left (eqb slot slot) (among slot (kept old x.0.0).expected)
      ∙ ready.expected x.0.0 (key_there xs i x lt is)
    where
      left : (c e : Bool) → (not (c && false) && e) ≡ e
      left true e = refl
      left false e = refl

  pub is_unheld : among slot (kept now x.0.0).held ≡ false
  is_unheld =
      so_far.held x.0.0 slot
      ∙ ap (λ h. (eqb slot slot && h) || among slot (kept old x.0.0).held) key_is_new ∙ left (eqb slot slot) (among slot (kept old x.0.0).held)
      ∙ ready.unheld x.0.0 (key_there xs i x lt is)
    where
      left : (c e : Bool) → ((c && false) || e) ≡ e
      left true e = refl
      left false e = refl

  module _ (new : Index) (p : ℕ) (settled : IsWith now new x.0.0 (record {
    versions = rehomed slot (Stored cell p) (kept now x.0.0).versions;
    held = with_slot slot (kept now x.0.0).held;
    expected = without_slot slot (kept now x.0.0).expected;
  })) where
    pub moves_more : length places ≡ i → Moves slot cell (rows_of (take (i + 1) xs)) (places ++ (p ∷ [])) old new
    moves_more each = record {
      versions = λ k s.
          let o = place_of rows places k in
          let h = has_row k rows in
          let b = bytes_eq x.0.0 k in
          let v = indexed old s k in
          turns now new x.0.0 _ (λ q. option_map found_of (at s q.versions)) (λ f. cond (eqb slot s) (option_map (at_place (Stored cell p)) f) f) settled
          (found_rehomed slot s (Stored cell p) (kept now x.0.0).versions) k
          ∙ ap (λ (f : Option (Bool × Place)). cond b (cond (eqb slot s) (option_map (at_place (Stored cell p)) f) f) f) (so_far.versions k s)
          ∙ moves cell p (eqb slot s) h b o v (place_none rows places k) (λ t. ap (λ (q : List ℕ). has_row q rows) (sym (same_bytes x.0.0 k t)) ∙ key_is_new)
          ∙ ap (λ (q : Option ℕ). moved cell (cond (eqb slot s) q None) v)
          (sym (ap (λ (rs : List Row). place_of rs (places ++ (p ∷ [])) k) (one_more xs i x lt is) ∙ place_more rows places (row_of x) p k (each ∙ sym (length-first xs i lt))));
      held = λ k s.
          turns now new x.0.0 _ (λ q. among s q.held) (λ e. eqb slot s || e) settled (among_with slot s (kept now x.0.0).held) k
          ∙ ap (λ e. cond (bytes_eq x.0.0 k) (eqb slot s || e) e) (so_far.held k s)
          ∙ joins (eqb slot s) (has_row k rows) (bytes_eq x.0.0 k) (among s (kept old k).held)
          ∙ ap (λ h. (eqb slot s && h) || among s (kept old k).held) (sym (more slot xs i x lt is old now new k));
      expected = λ k s.
          turns now new x.0.0 _ (λ q. among s q.expected) (λ e. not (eqb slot s) && e) settled (among_without slot s (kept now x.0.0).expected) k
          ∙ ap (λ e. cond (bytes_eq x.0.0 k) (not (eqb slot s) && e) e) (so_far.expected k s)
          ∙ parts (eqb slot s) (has_row k rows) (bytes_eq x.0.0 k) (among s (kept old k).expected)
          ∙ ap (λ h. not (eqb slot s && h) && among s (kept old k).expected) (sym (more slot xs i x lt is old now new k));
    }
      where
        rows : List Row
        rows = rows_of (take i xs)
