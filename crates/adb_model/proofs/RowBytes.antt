-- Storages have the bytes of their rows, through each step.
use Rattle.std.proofs.Common.{◌≡◌, ℕ, ◌≤◌, eqb, not, ◌||◌, List, [], ◌∷◌, ◌++◌, length, get_or, map, All, sym, ap, subst, arith}
use Rattle.std.proofs.lemmas.List.Elements.{All-nil, All-push, All-filter, All-map, All-contains, Contains-get_or}
use Rattle.std.proofs.lemmas.List.Sums.{sum_by-cons}
use Rattle.adb_model.specs.Account.{Account, size}
use Rattle.adb_model.specs.State.{Row, Live, Storage, State, fresh}
use Rattle.adb_model.specs.Storages.{bytes_of, is_retired, is_pinned, in_phase}
use Rattle.adb_model.specs.Call.{Call, Event, Place, Cached, InStorage}
use Rattle.adb_model.specs.Callers.{place_of, pinned}
use Rattle.adb_model.specs.Flush.{flush_rows, filling_with}
use Rattle.adb_model.specs.Reclaim.{retired, drop_shadowed, drop_spent, retire_unnamed}
use Rattle.adb_model.specs.Shrink.{shrink_rows, exchanged}
use Rattle.adb_model.specs.Step.{step}
use Rattle.adb_model.specs.History.{state_after}
use Rattle.adb_model.specs.Opened.{Image, opened}
use Rattle.adb_model.specs.RowBytes.{RowsTake, HaveBytes, ImagesHaveBytes}
use Rattle.adb_model.proofs.Phases.{rows_same, bytes_same}
use Rattle.adb_model.proofs.ReclaimKeeps as reclaim
use Rattle.adb_model.proofs.ShrinkEndKeeps as shrink
use Rattle.adb_model.proofs.OpenedSound.{from_storages}
use Rattle.adb_model.proofs.Through.{HoldsNext, through_step}

abbrev Enough : Storage → Type 0
Enough t = RowsTake t.rows t.bytes

least_size : (a : Account) → 136 ≤ size a
least_size a = omega arith

rows_take : (rows : List Row) → RowsTake rows (bytes_of rows)
rows_take [] = omega arith
rows_take (r ∷ rows) = omega (arith, sum_by-cons (λ (r : Row). size r.account) r rows, least_size r.account, rows_take rows)

-- storages that change keep their rows and bytes
pub mapped : (f : Storage → Storage) → ((u : Storage) → (f u).rows ≡ u.rows) → ((u : Storage) → (f u).bytes ≡ u.bytes) → (us : List Storage) → All Enough us → All Enough (map f us)
mapped f rows bytes us all = All-map Enough f us (λ k d lt. omega (arith, all k d lt, ap length (rows (get_or us k d)), bytes (get_or us k d)))

module _ (m : State) (o : HaveBytes m) where
  retired_take : HaveBytes (retire_unnamed m)
  retired_take = mapped (retired m) (reclaim.rows_same m) (reclaim.bytes_same m) m.storages o

  filled : (slot : ℕ) (rows : List Row) → All Enough (m.storages ++ filling_with m slot rows ∷ [])
  filled slot rows = All-push Enough m.storages (filling_with m slot rows) o (rows_take rows)

next : (m : State) (pass : ℕ) → HaveBytes m → HoldsNext HaveBytes m pass
next m pass o = record {
  store = λ slot key account e. o;
  root = λ slot e. o;
  purge = λ slot e. o;
  load = λ view key t e f. loaded (place_of m t.slot t.key);
  unpin = λ id. o;
  lease = λ max_root e. o;
  end_lease = λ max_root. o;
  flush_begin = λ slot e. filled m o slot (flush_rows m slot);
  flush_end = λ slot t e. mapped (in_phase t.id Live) (rows_same t.id Live) (bytes_same t.id Live) m.storages o;
  flush_abort = λ slot t e. All-filter (λ u. not (eqb u.id t.id)) Enough m.storages o;
  raise = λ upto e. o;
  reclaim = λ keys. retired_take (drop_spent keys (retire_unnamed (drop_shadowed keys m))) (retired_take (drop_shadowed keys m) o);
  shrink_begin = λ slot old e f. filled m o old.slot (shrink_rows m old);
  installed = λ slot g e t. mapped (exchanged g) (shrink.rows_same g) (shrink.bytes_same g) m.storages o;
  dropped = λ slot g e. All-filter (λ u. not (eqb u.id g.new)) Enough m.storages o;
  snap_begin = λ slot e. o;
  snap_end = o;
  recycle = All-filter (λ t. not (is_retired t) || is_pinned m t.id) Enough m.storages o;
}
  where
    loaded : (place : Place) → HaveBytes (pinned m pass place)
    loaded Cached = o
    loaded (InStorage id) = o

pub step_takes : (m : State) (pass : ℕ) (c : Call) → HaveBytes m → HaveBytes (step m pass c).0
step_takes m pass c o = through_step HaveBytes m pass o (next m pass o) c

pub history_takes : (m : State) (events : List Event) → HaveBytes m → HaveBytes (state_after m events)
history_takes m [] o = o
history_takes m (e ∷ events) o = history_takes (step m e.pass e.call).0 events (step_takes m e.pass e.call o)

pub fresh_takes : (budget id : ℕ) → HaveBytes (fresh budget id)
fresh_takes budget id = All-nil Enough

pub opened_takes : (budget root : ℕ) (images : List Image) (more : List ℕ) → ImagesHaveBytes images → HaveBytes (opened budget root images more)
opened_takes budget root images more all k d lt =
    let us = (opened budget root images more).storages in
    let f = from_storages 1 images (get_or us k d) (Contains-get_or us k d lt) in
    subst Enough (sym f.2) (All-contains (λ i. RowsTake i.rows i.bytes) images f.0 all f.1)
