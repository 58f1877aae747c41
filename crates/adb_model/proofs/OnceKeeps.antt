-- Named pairs stand once, through each step.
use Rattle.std.proofs.Common.{◌≡◌, ◌≢◌, ℕ, ◌<◌, eqb, Bool, not, IsTrue, IsFalse, ◌||◌, List, [], ◌∷◌, ◌++◌, get_or, map, flat_map, All, AllPairs, Contains, refl, sym, ap, ◌∙◌, subst, arith}
use Rattle.std.specs.List.{AllByRecursion}
use Rattle.std.specs.Str.{bytes_eq}
use Rattle.std.proofs.lemmas.Bool.{true≢false, false≢true, or_parts, and_from, eq-eqb}
use Rattle.std.proofs.lemmas.List.Elements.{All-push, All-filter, All-map, All-nil, All-contains, All-append, Contains-get_or}
use Rattle.std.proofs.lemmas.List.Kept.{AllPairs-cons, AllPairs-filter}
use Rattle.adb_model.specs.Lists.{among, distinct}
use Rattle.adb_model.specs.State.{Row, Live, Storage, Pair, State, fresh}
use Rattle.adb_model.specs.Storages.{is_filling, is_retired, is_pinned, in_phase}
use Rattle.adb_model.specs.Presence.{is_pair}
use Rattle.adb_model.specs.Call.{Call, Event, Place, Cached, InStorage}
use Rattle.adb_model.specs.Callers.{place_of, pinned}
use Rattle.adb_model.specs.Flush.{flush_rows, flushed_with}
use Rattle.adb_model.specs.Reclaim.{without_names, retired, retire_unnamed, drop_shadowed, drop_spent, reclaimed}
use Rattle.adb_model.specs.Shrink.{exchanged, shrinking, installed, shrink_begin_refusals, shrink_rows}
use Rattle.adb_model.specs.Step.{step}
use Rattle.adb_model.specs.History.{IsPass, state_after}
use Rattle.adb_model.specs.Opened.{Image, pairs_of, opened}
use Rattle.adb_model.specs.Sound.{IsSound}
use Rattle.adb_model.specs.Laws.{MayOpen}
use Rattle.adb_model.specs.Once.{IsOnce, RowsOnce}
use Rattle.adb_model.proofs.Members.{any_push, any_at, from_map, contains_here, contains_next}
use Rattle.adb_model.proofs.Pairs.{pairs_none, pairs_head, pairs_tail, pairs_map}
use Rattle.adb_model.proofs.Distinct.{bytes_eq-true, bytes_eq_self, distinct_pairs}
use Rattle.adb_model.proofs.FlushRows.{rows_differ}
use Rattle.adb_model.proofs.FlushEndKeeps as end
use Rattle.adb_model.proofs.ReclaimKeeps as reclaim
use Rattle.adb_model.proofs.ShrinkEndKeeps as shrink
use Rattle.adb_model.proofs.ShrinkBeginKeeps as begin
use Rattle.adb_model.proofs.StepKeeps.{step_keeps}
use Rattle.adb_model.proofs.Through.{HoldsNext, through_step}
use Rattle.adb_model.proofs.FillingAdded.{filling}
use Rattle.adb_model.proofs.Phases.{slot_same, rows_same}
use Rattle.adb_model.proofs.Outcomes.{none_of}
use Rattle.adb_model.proofs.OpenedStores.{from_flat}
use Rattle.adb_model.proofs.OpenedSound.{of_images}
use Rattle.adb_model.proofs.SnapStorages.{ids_differ}

pub pairs_append : {X : Type 0} (R : X → X → Type 0) (xs ys : List X) → AllPairs R xs → AllPairs R ys → ((x y : X) → Contains xs x → Contains ys y → R x y) → AllPairs R (xs ++ ys)
pairs_append R [] ys ps qs cross = qs
pairs_append R (x ∷ xs) ys ps qs cross =
    AllPairs-cons R x (xs ++ ys)
    (All-append (R x) xs ys (pairs_head R x xs ps) (λ k d lt. cross x (get_or ys k d) (contains_here x xs) (Contains-get_or ys k d lt)))
    (pairs_append R xs ys (pairs_tail R x xs ps) qs (λ a b c d. cross a b (contains_next x a xs c) d))

abbrev Apart : Pair → Pair → Type 0
Apart p q = p.slot ≡ q.slot → p.key ≢ q.key

-- storages that change keep their rows where they are being filled
pub rows_map : (m n : State) (f : Storage → Storage) → ((u : Storage) → IsTrue (is_filling (f u)) → IsFalse (among (f u).slot n.flushed) → IsTrue (is_filling u) × IsFalse (among u.slot m.flushed) × ((f u).rows ≡ u.rows)) → All (RowsOnce m) m.storages → All (RowsOnce n) (map f m.storages)
rows_map m n f same rows = All-map (RowsOnce n) f m.storages (λ k d lt fill un.
    let w = same (get_or m.storages k d) fill un in
    subst (λ rs. AllPairs (λ (r q : Row). r.key ≢ q.key) rs) (sym w.2) (rows k d lt w.0 w.1))

pairs_once : (slot : ℕ) (rows : List Row) → AllPairs (λ (r q : Row). r.key ≢ q.key) rows → AllPairs Apart (map (λ r. record { slot = slot; key = r.key }) rows)
pairs_once slot rows once = pairs_map Apart (λ (r : Row). let pair : Pair = record { slot = slot; key = r.key } in pair) rows (λ i j d lt within e. once i j d lt within)

module _ (m : State) (h : IsSound m) (o : IsOnce m) where
  named_dropped : (test : Pair → Bool) → IsOnce (without_names test m)
  named_dropped test = record { named = AllPairs-filter Apart (λ p. not (test p)) m.named o.named; rows = o.rows; snap = o.snap }

  once_flushed : (t : Storage) → end.IsOpen m t → IsOnce (flushed_with m t)
  once_flushed t is = record {
    named = pairs_append Apart m.named (map (λ r. record { slot = t.slot; key = r.key }) t.rows) o.named
        (pairs_once t.slot t.rows (All-contains (RowsOnce m) m.storages t o.rows is.there is.fills is.unflushed))
        (λ p q c d e.
        let named = any_at (is_pair p.slot p.key) m.named p c (and_from _ _ (eq-eqb p.slot p.slot refl) (bytes_eq_self p.key)) in
        let r = from_map (λ (r : Row). let pair : Pair = record { slot = t.slot; key = r.key } in pair) t.rows q d in
        absurd (true≢false (sym (h.slots.named p.slot p.key named) ∙ ap (λ (n : ℕ). among n m.flushed) (e ∙ sym (ap (λ (q : Pair). q.slot) r.2)) ∙ is.unflushed)));
    rows = rows_map m (flushed_with m t) (in_phase t.id Live) (λ u fill un.
        let was = end.filling_before m t h is u fill in (
          was.0,
          (or_parts _ _ (sym (any_push (λ x. eqb x u.slot) m.flushed t.slot) ∙ subst (λ n. IsFalse (among n (m.flushed ++ t.slot ∷ []))) (slot_same t.id Live u) un)).0,
          rows_same t.id Live u,
        )) o.rows;
    snap = o.snap;
  }

pub once_retired : (m : State) → IsOnce m → IsOnce (retire_unnamed m)
once_retired m o = record {
  named = o.named;
  rows = rows_map m (retire_unnamed m) (retired m) (λ u fill un. (sym (reclaim.filling_same m u) ∙ fill, subst (λ n. IsFalse (among n m.flushed)) (reclaim.slot_same m u) un, reclaim.rows_same m u)) o.rows;
  snap = o.snap;
}

pub once_dropped : (m : State) (test : Pair → Bool) → IsOnce m → IsOnce (without_names test m)
once_dropped m test o = record { named = AllPairs-filter Apart (λ p. not (test p)) m.named o.named; rows = o.rows; snap = o.snap }

once_reclaimed : (keys : List (List ℕ)) (m : State) → IsOnce m → IsOnce (reclaimed keys m)
once_reclaimed keys m o =
    let first = once_retired (drop_shadowed keys m) (once_dropped m _ o) in
    let second = retire_unnamed (drop_shadowed keys m) in
    once_retired (drop_spent keys second) (once_dropped second _ first)

-- a storage that a shrink fills is of a flushed slot
once_shrinking : (m : State) (old : Storage) → IsTrue (among old.slot m.flushed) → IsOnce m → IsOnce (shrinking m old)
once_shrinking m old flushed o = record {
  named = o.named;
  rows = All-push (RowsOnce m) m.storages (filling m old.slot (shrink_rows m old)) o.rows (λ f un. absurd (true≢false (sym flushed ∙ un)));
  snap = o.snap;
}

next : (m : State) (pass : ℕ) → IsSound m → IsOnce m → HoldsNext IsOnce m pass
next m pass h o = record {
  store = λ slot key account e. record { named = o.named; rows = o.rows; snap = o.snap };
  root = λ slot e. record { named = o.named; rows = o.rows; snap = o.snap };
  purge = λ slot e. record { named = o.named; rows = o.rows; snap = o.snap };
  load = λ view key t e f. loaded (place_of m t.slot t.key);
  unpin = λ id. record { named = o.named; rows = o.rows; snap = o.snap };
  lease = λ max_root e. record { named = o.named; rows = o.rows; snap = o.snap };
  end_lease = λ max_root. record { named = o.named; rows = o.rows; snap = o.snap };
  flush_begin = λ slot e. record {
    named = o.named;
    rows = All-push (RowsOnce m) m.storages (filling m slot (flush_rows m slot)) o.rows (λ f un. rows_differ m slot);
    snap = o.snap;
  };
  flush_end = λ slot t e. once_flushed m h o t (end.opened m slot t h e).0;
  flush_abort = λ slot t e. record { named = o.named; rows = All-filter (λ u. not (eqb u.id t.id)) (RowsOnce m) m.storages o.rows; snap = o.snap };
  raise = λ upto e. record { named = o.named; rows = o.rows; snap = o.snap };
  reclaim = λ keys. once_reclaimed keys m o;
  shrink_begin = λ slot old e f. once_shrinking m old (begin.flushed m old h (begin.may_shrink m slot old e (none_of (shrink_begin_refusals m slot old) f))) o;
  installed = λ slot g e t. record {
    named = o.named;
    rows = rows_map m (installed m g) (exchanged g) (λ u fill un. ((shrink.filling_before g u fill).0, subst (λ n. IsFalse (among n m.flushed)) (shrink.slot_same g u) un, shrink.rows_same g u)) o.rows;
    snap = o.snap;
  };
  dropped = λ slot g e. record { named = o.named; rows = All-filter (λ u. not (eqb u.id g.new)) (RowsOnce m) m.storages o.rows; snap = o.snap };
  snap_begin = λ slot e. record { named = o.named; rows = o.rows; snap = ids_differ m h slot };
  snap_end = record { named = o.named; rows = o.rows; snap = pairs_none (λ (a b : ℕ). a ≢ b) };
  recycle = record { named = o.named; rows = All-filter (λ t. not (is_retired t) || is_pinned m t.id) (RowsOnce m) m.storages o.rows; snap = o.snap };
}
  where
    loaded : (place : Place) → IsOnce (pinned m pass place)
    loaded Cached = o
    loaded (InStorage id) = record { named = o.named; rows = o.rows; snap = o.snap }

pub step_once : (m : State) (pass : ℕ) (c : Call) → IsSound m → IsOnce m → IsOnce (step m pass c).0
step_once m pass c h o = through_step IsOnce m pass o (next m pass h o) c

pub history_once : (m : State) (events : List Event) → AllByRecursion (λ e. IsPass e.pass) events → IsSound m → IsOnce m → IsOnce (state_after m events)
history_once m [] passes h o = o
history_once m (e ∷ events) passes h o = history_once (step m e.pass e.call).0 events passes.1 (step_keeps m e.pass e.call passes.0 h) (step_once m e.pass e.call h o)

pub fresh_once : (budget id : ℕ) → IsOnce (fresh budget id)
fresh_once budget id = record { named = pairs_none Apart; rows = All-nil (RowsOnce (fresh budget id)); snap = pairs_none (λ (a b : ℕ). a ≢ b) }

image_pairs : (images : List Image) → AllPairs (λ i j. i.slot < j.slot) images → AllPairs Apart (flat_map pairs_of images)
image_pairs [] up = pairs_none Apart
image_pairs (i ∷ images) up =
    pairs_append Apart (pairs_of i) (flat_map pairs_of images)
    (pairs_map Apart (λ (k : List ℕ). let pair : Pair = record { slot = i.slot; key = k } in pair) (distinct bytes_eq (map (λ r. r.key) i.rows)) (λ a b d lt within e. distinct_pairs bytes_eq bytes_eq-true bytes_eq_self (map (λ (r : Row). r.key) i.rows) a b d lt within))
    (image_pairs images (pairs_tail (λ i j. i.slot < j.slot) i images up))
    (λ p q c d e.
    let a = from_map (λ (k : List ℕ). let pair : Pair = record { slot = i.slot; key = k } in pair) (distinct bytes_eq (map (λ r. r.key) i.rows)) p c in
    let f = from_flat pairs_of images q d in
    let b = from_map (λ (k : List ℕ). let pair : Pair = record { slot = f.0.slot; key = k } in pair) (distinct bytes_eq (map (λ r. r.key) f.0.rows)) q f.2 in
    let lt = All-contains (λ j. i.slot < j.slot) images f.0 (pairs_head (λ i j. i.slot < j.slot) i images up) f.1 in
    let same : i.slot ≡ f.0.slot = ap (λ (q : Pair). q.slot) a.2 ∙ e ∙ sym (ap (λ (q : Pair). q.slot) b.2) in
    absurd (omega (arith, lt, same)))

pub opened_once : (budget root : ℕ) (images : List Image) (more : List ℕ) → MayOpen budget images → IsOnce (opened budget root images more)
opened_once budget root images more may = record {
  named = image_pairs images may.rise;
  rows = of_images budget root images more may (RowsOnce (opened budget root images more)) (λ id i c lt f un. absurd (false≢true f));
  snap = pairs_none (λ (a b : ℕ). a ≢ b);
}
