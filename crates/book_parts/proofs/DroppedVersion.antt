-- Parts from which the version of a named pair is gone reflect the state in which it is named no longer.
use Rattle.std.proofs.Common.{◌≡◌, ℕ, zero, suc, ◌+◌, ◌<◌, List, [], ◌∷◌, length, eqb, Bool, true, false, cond, not, ◌&&◌, ◌||◌, Option, Some, None, option_map, find, IsSomeAnd, refl, sym, ap, ◌∙◌, subst, IsTrue, arith}
use Rattle.std.specs.List.{list_any}
use Rattle.std.specs.Str.{bytes_eq}
use Rattle.std.specs.Cmp.Lexicographic.{same_text}
use Rattle.std.proofs.lemmas.Bool.{eqb-true, eq-eqb, and_parts, true≢false}
use Rattle.slot_list.specs.declared.Version.{Version}
use Rattle.slot_list.specs.declared.Place.{Place}
use Rattle.slot_list.specs.declared.Place.TheVariants.{Stored}
use Rattle.slot_list.specs.Versions.{at, without}
use Rattle.accounts_index.specs.Index.{Kept, Index, kept}
use Rattle.cell_table.specs.declared.phase.Phase.{Phase}
use Rattle.cell_table.specs.Phases.{has_id}
use Rattle.cell_table.specs.Cells.{cell_at}
use Rattle.storage_map.specs.declared.entry.Live.{Live}
use Rattle.storage_map.specs.Slots.{Slots, live_at, begun_at, alive_in, total_in, one_less, Becomes}
use Rattle.adb_model.specs.Lists.{among}
use Rattle.adb_model.specs.State.{Storage, State}
use Rattle.adb_model.specs.Presence.{is_cached, is_named, is_present, is_live, has_row, ends_in_tomb}
use Rattle.adb_model.specs.Storages.{live_storage, filling_storage}
use Rattle.adb_model.specs.Shrink.{named_in}
use Rattle.adb_model.specs.Cleaning.{without_name}
use Rattle.adb_model.specs.Stats.{counts_of}
use Rattle.adb_model.specs.Call.{Counts}
use Rattle.adb_model.specs.Sound.{IsSoundMidway}
use Rattle.book_parts.specs.Parts.{Parts, Shared}
use Rattle.book_parts.specs.Storages.{IsLiveOf, IsBegunOf, IsPlacedAt}
use Rattle.book_parts.specs.Reflects.{Reflects, counts_in, indexed, found_of, mark_of, present_mark}
use Rattle.book_parts.specs.Reclaims.{DropsVersion}
use Rattle.book_parts.proofs.Found.{none_some}
use Rattle.book_parts.proofs.Members.{any_weaker}
use Rattle.book_parts.proofs.SlotChanges.{same_counts, if_same}

-- the state in which the pair is named no longer
pub record Left (m : State) (slot : ℕ) (key : List ℕ) : Type 0 where
  pub present : (s : ℕ) (k : List ℕ) → is_present (without_name m slot key) s k ≡ (not (eqb slot s && bytes_eq key k) && is_present m s k)
  pub named_in : (s : ℕ) → named_in m s ≡ named_in (without_name m slot key) s + cond (eqb slot s) 1 0
  pub named_count : (counts_of m).named ≡ (counts_of (without_name m slot key)).named + 1

-- what a look-up finds where a version was taken out
abbrev pub Without : Type 0
Without = (slot s : ℕ) (versions : List Version) → at s (without slot versions) ≡ cond (eqb slot s) None (at s versions)

-- ---- the slot's storage

find_some : {X : Type 0} (test : X → Bool) (xs : List X) → list_any test xs ≡ true → (x : X) × (find test xs ≡ Some x)
find_some test [] e = absurd (true≢false (sym e))
find_some test (x ∷ xs) e = by (test x) refl (find_some test xs)
  where
    by : (b : Bool) → test x ≡ b → (list_any test xs ≡ true → (y : _) × (find test xs ≡ Some y)) → (y : _) × (cond b (Some x) (find test xs) ≡ Some y)
    by true t rest = (x, refl)
    by false f rest = rest (sym (ap (λ b. b || list_any test xs) f) ∙ e)

-- a slot with a named pair has a storage in use
pub storage_of_named : (m : State) (slot : ℕ) (key : List ℕ) → IsSoundMidway m → IsTrue (is_named m slot key) → (t : Storage) × (live_storage m slot ≡ Some t)
storage_of_named m slot key h named =
    find_some (λ t. is_live t && eqb t.slot slot) m.storages
    (any_weaker (λ t. (is_live t && eqb t.slot slot) && has_row key t.rows) (λ t. is_live t && eqb t.slot slot) m.storages (λ t e. (and_parts (is_live t && eqb t.slot slot) (has_row key t.rows) e).0) (h.held slot key named))

module _ (cells : List (Phase Shared)) where
  -- and an entry
  pub entry_of : (named : ℕ) (live : Option Live) (t : Storage) → IsLiveOf cells named live (Some t)
      → (l : Live) × (live ≡ Some l) × (has_id t.id (cell_at cells l.cell) ≡ true) × (l.alive ≡ named) × (l.total ≡ length t.rows)
  entry_of named None t is = absurd is
  entry_of named (Some l) t is = (l, refl, is.0, is.1, is.2)

  less_live : (named left : ℕ) (live : Option Live) (storage : Option Storage) → named ≡ left + 1 → IsLiveOf cells named live storage → IsLiveOf cells left (option_map one_less live) storage
  less_live named left None None e is = is
  less_live named left None (Some t) e is = absurd is
  less_live named left (Some l) None e is = absurd is
  less_live named left (Some l) (Some t) e is = (is.0, omega (arith, is.1, e), is.2)

same_total : (live : Option Live) → total_in (option_map one_less live) ≡ total_in live
same_total None = refl
same_total (Some l) = refl

-- ---- the key's versions

and_true : (b : Bool) → (b && true) ≡ b
and_true true = refl
and_true false = refl

and_false : (b : Bool) → (b && false) ≡ false
and_false true = refl
and_false false = refl

module _ (slot : ℕ) (key : List ℕ) (old new : Index) (d : DropsVersion slot key old new) (law : Without) where
  abbrev dropped : Kept
  dropped = record (kept old key) { versions = without slot (kept old key).versions }

  left_at : (k : List ℕ) (s : ℕ) → at s (kept new k).versions ≡ cond (eqb slot s && bytes_eq key k) None (at s (kept old k).versions)
  left_at k s = ap (λ (x : Kept). at s x.versions) (d k) ∙ by (bytes_eq key k) refl
    where
      by : (c : Bool) → bytes_eq key k ≡ c → at s (cond c dropped (kept old k)).versions ≡ cond (eqb slot s && c) None (at s (kept old k).versions)
      by true t =
          law slot s (kept old key).versions
          ∙ ap (λ (q : List ℕ). cond (eqb slot s) None (at s (kept old q).versions)) (same_text key k (sym t))
          ∙ ap (λ b. cond b None (at s (kept old k).versions)) (sym (and_true (eqb slot s)))
      by false f = ap (λ b. cond b None (at s (kept old k).versions)) (sym (and_false (eqb slot s)))

  rest_kept : {X : Type 0} (f : Kept → X) → f dropped ≡ f (kept old key) → (k : List ℕ) → f (kept new k) ≡ f (kept old k)
  rest_kept f same k = ap f (d k) ∙ by (bytes_eq key k) refl
    where
      by : (c : Bool) → bytes_eq key k ≡ c → f (cond c dropped (kept old k)) ≡ f (kept old k)
      by true t = same ∙ ap (λ (q : List ℕ). f (kept old q)) (same_text key k (sym t))
      by false e = refl

-- ---- marks

abbrev mark : Bool → Bool → Bool → Option (Bool × Bool)
mark p t c = cond p (Some (t, c)) None

mark_left : (b p t c : Bool) (o : Option Version) → option_map mark_of (option_map found_of o) ≡ mark p t c → option_map mark_of (option_map found_of (cond b None o)) ≡ mark (not b && p) t c
mark_left true p t c o e = refl
mark_left false p t c o e = e

placed_left : (b : Bool) (o : Option Version) (i : Bool × Place) → option_map found_of (cond b None o) ≡ Some i → option_map found_of o ≡ Some i
placed_left true o i e = absurd (none_some e)
placed_left false o i e = e

module _ (p : Parts) (m : State) (slot : ℕ) (key : List ℕ) (h : IsSoundMidway m) (r : Reflects p m) (named : IsTrue (is_named m slot key)) (l : Left m slot key) where
  abbrev n : State
  n = without_name m slot key

  one_fewer : named_in m slot ≡ named_in n slot + 1
  one_fewer = l.named_in slot ∙ ap (λ b. named_in n slot + cond b 1 0) (eq-eqb slot slot refl)

  entry : (live : Live) × (live_at p.map slot ≡ Some live) × (live.alive ≡ named_in m slot)
  entry =
      let t = storage_of_named m slot key h named in
      let e = entry_of p.cells.cells (named_in m slot) (live_at p.map slot) t.0 (subst (IsLiveOf p.cells.cells (named_in m slot) (live_at p.map slot)) t.1 (r.slots.lives slot)) in
      (e.0, e.1, e.3)

  pub row_alive : IsSomeAnd (live_at p.map slot) (λ live. 0 < live.alive)
  row_alive =
      let some : 0 < entry.0.alive = omega (arith, entry.2, one_fewer) in
      subst (λ o. IsSomeAnd o (λ live. 0 < live.alive)) (sym entry.1) some

  module _ (index : Index) (slots : Slots) (law : Without) (e : DropsVersion slot key p.index index)
      (becomes : Becomes p.map slots slot (option_map one_less (live_at p.map slot)) (begun_at p.map slot)) where
    abbrev here : ℕ → List ℕ → Bool
    here s k = eqb slot s && bytes_eq key k

    found_is : (k : List ℕ) (s : ℕ) → indexed index s k ≡ option_map found_of (cond (here s k) None (at s (kept p.index k).versions))
    found_is k s = ap (option_map found_of) (left_at slot key p.index index e law k s)

    marks : (k : List ℕ) (s : ℕ) → option_map mark_of (indexed index s k) ≡ present_mark n s k
    marks k s =
        ap (option_map mark_of) (found_is k s)
        ∙ mark_left (here s k) (is_present m s k) (ends_in_tomb m s k) (is_cached m s k) (at s (kept p.index k).versions) (r.marks k s)
        ∙ sym (ap (λ b. mark b (ends_in_tomb m s k) (is_cached m s k)) (l.present s k))

    placed : (k : List ℕ) (s : ℕ) (tomb : Bool) (cell offset : ℕ) → indexed index s k ≡ Some (tomb, Stored cell offset) → IsPlacedAt n p.cells.cells s k cell offset
    placed k s tomb cell offset x =
        let old = r.placed k s tomb cell offset (placed_left (here s k) (at s (kept p.index k).versions) (tomb, Stored cell offset) (sym (found_is k s) ∙ x)) in
        record { storage = old.storage; account = old.account; live = old.live; there = old.there; row = old.row; last = old.last }

    lives : (s : ℕ) → IsLiveOf p.cells.cells (named_in n s) (live_at slots s) (live_storage n s)
    lives s = subst (λ o. IsLiveOf p.cells.cells (named_in n s) o (live_storage m s)) (sym (becomes.lives s)) (by (eqb slot s) refl)
      where
        by : (b : Bool) → eqb slot s ≡ b → IsLiveOf p.cells.cells (named_in n s) (cond b (option_map one_less (live_at p.map slot)) (live_at p.map s)) (live_storage m s)
        by true t =
            subst (λ (q : ℕ). IsLiveOf p.cells.cells (named_in n q) (option_map one_less (live_at p.map slot)) (live_storage m q)) (eqb-true slot s t)
            (less_live p.cells.cells (named_in m slot) (named_in n slot) (live_at p.map slot) (live_storage m slot) one_fewer (r.slots.lives slot))
        by false f =
            let same : named_in m s ≡ named_in n s = let left : cond (eqb slot s) 1 0 ≡ 0 = ap (λ (b : Bool). cond b (suc zero) zero) f in omega (arith, l.named_in s, left) in
            subst (λ (c : ℕ). IsLiveOf p.cells.cells c (live_at p.map s) (live_storage m s)) same (r.slots.lives s)

    begins : (s : ℕ) → IsBegunOf p.cells.cells (begun_at slots s) (filling_storage n s)
    begins s = subst (λ o. IsBegunOf p.cells.cells o (filling_storage m s)) (sym (becomes.begins s ∙ if_same (begun_at p.map) slot s)) (r.slots.begins s)

    abbrev new : Parts
    new = record p { index = index; map = slots }

    counted : counts_in new ≡ counts_of n
    counted =
        let part = λ (f : Counts → ℕ). ap f r.counts in
        let before : alive_in (live_at p.map slot) ≡ entry.0.alive = ap alive_in entry.1 in
        let after : alive_in (option_map one_less (live_at p.map slot)) + 1 ≡ entry.0.alive =
        ap (λ o. alive_in (option_map one_less o) + 1) entry.1 ∙ omega (arith, entry.2, one_fewer) in
        same_counts (counts_in new) (counts_of n)
        (part (λ c. c.cached))
        (part (λ c. c.filling))
        (part (λ c. c.live))
        (part (λ c. c.retired))
        (omega (arith, becomes.alive, before, after, part (λ c. c.named), l.named_count))
        (omega (arith, becomes.total, same_total (live_at p.map slot), part (λ c. c.rows)))
        (part (λ c. c.bytes))
        (part (λ c. c.pins))

    pub reflects_dropped : Reflects new n
    reflects_dropped = record {
      marks = marks;
      placed = placed;
      held = λ k s. rest_kept slot key p.index index e law (λ x. among s x.held) refl k ∙ r.held k s;
      expected = λ k s. rest_kept slot key p.index index e law (λ x. among s x.expected) refl k ∙ r.expected k s;
      rows = r.rows;
      roots = r.roots;
      cleaned = r.cleaned;
      leases = r.leases;
      cells = r.cells;
      slots = record { lives = lives; begins = begins };
      counts = counted;
      limit = r.limit;
      next_id = r.next_id;
      snap = r.snap;
    }
