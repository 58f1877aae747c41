-- What is being filled has one row of each of its keys, through each step.
use Rattle.std.proofs.Common.{◌≡◌, ◌≢◌, ℕ, eqb, not, ◌||◌, IsTrue, List, [], ◌∷◌, get_or, map, All, AllPairs, sym, ◌∙◌, subst}
use Rattle.std.specs.List.{enumerate_from}
use Rattle.std.proofs.lemmas.Bool.{false≢true, true≢false}
use Rattle.std.proofs.lemmas.List.Elements.{All-nil, All-push, All-filter, All-map}
use Rattle.adb_model.specs.State.{Live, Row, Storage, State, fresh}
use Rattle.adb_model.specs.Storages.{is_filling, is_retired, is_pinned, in_phase}
use Rattle.adb_model.specs.Call.{Call, Event, Place, Cached, InStorage}
use Rattle.adb_model.specs.Callers.{place_of, pinned}
use Rattle.adb_model.specs.Flush.{flush_rows, filling_with}
use Rattle.adb_model.specs.Reclaim.{retired, retire_unnamed, drop_shadowed, drop_spent}
use Rattle.adb_model.specs.Shrink.{exchanged, shrink_rows}
use Rattle.adb_model.specs.Step.{step}
use Rattle.adb_model.specs.History.{state_after}
use Rattle.adb_model.specs.Opened.{Image, storage_of, opened}
use Rattle.adb_model.specs.Shrinking.{FillsOnce}
use Rattle.adb_model.proofs.Phases.{at_phase, rows_same}
use Rattle.adb_model.proofs.FlushRows.{rows_differ}
use Rattle.adb_model.proofs.CopiedRows.{keys_differ}
use Rattle.adb_model.proofs.ReclaimKeeps as reclaim
use Rattle.adb_model.proofs.ShrinkEndKeeps as shrink
use Rattle.adb_model.proofs.Through.{HoldsNext, through_step}

abbrev pub OnceFilling : Storage → Type 0
OnceFilling t = IsTrue (is_filling t) → AllPairs (λ r q. r.key ≢ q.key) t.rows

-- storages that change are being filled only as they were
mapped : (f : Storage → Storage) → ((u : Storage) → IsTrue (is_filling (f u)) → IsTrue (is_filling u) × ((f u).rows ≡ u.rows)) → (us : List Storage) → All OnceFilling us → All OnceFilling (map f us)
mapped f same us all = All-map OnceFilling f us (λ k d lt fill.
    let w = same (get_or us k d) fill in
    subst (λ rs. AllPairs (λ (r q : Row). r.key ≢ q.key) rs) (sym w.1) (all k d lt w.0))

used_filling : (id : ℕ) (u : Storage) → IsTrue (is_filling (in_phase id Live u)) → IsTrue (is_filling u)
used_filling id u = at_phase id Live u (λ v. IsTrue (is_filling v) → IsTrue (is_filling u)) (λ e fill. absurd (true≢false (sym fill))) (λ ne fill. fill)

retired_once : (m : State) → FillsOnce m → FillsOnce (retire_unnamed m)
retired_once m o = mapped (retired m) (λ u fill. (sym (reclaim.filling_same m u) ∙ fill, reclaim.rows_same m u)) m.storages o

next : (m : State) (pass : ℕ) → FillsOnce m → HoldsNext FillsOnce m pass
next m pass o = record {
  store = λ slot key account e. o;
  root = λ slot e. o;
  purge = λ slot e. o;
  load = λ view key t e f. loaded (place_of m t.slot t.key);
  unpin = λ id. o;
  lease = λ max_root e. o;
  end_lease = λ max_root. o;
  flush_begin = λ slot e. All-push OnceFilling m.storages (filling_with m slot (flush_rows m slot)) o (λ f. rows_differ m slot);
  flush_end = λ slot t e. mapped (in_phase t.id Live) (λ u fill. (used_filling t.id u fill, rows_same t.id Live u)) m.storages o;
  flush_abort = λ slot t e. All-filter (λ u. not (eqb u.id t.id)) OnceFilling m.storages o;
  raise = λ upto e. o;
  reclaim = λ keys. retired_once (drop_spent keys (retire_unnamed (drop_shadowed keys m))) (retired_once (drop_shadowed keys m) o);
  shrink_begin = λ slot old e f. All-push OnceFilling m.storages (filling_with m old.slot (shrink_rows m old)) o (λ f. keys_differ m old);
  installed = λ slot g e t. mapped (exchanged g) (λ u fill. ((shrink.filling_before g u fill).0, shrink.rows_same g u)) m.storages o;
  dropped = λ slot g e. All-filter (λ u. not (eqb u.id g.new)) OnceFilling m.storages o;
  snap_begin = λ slot e. o;
  snap_end = o;
  recycle = All-filter (λ t. not (is_retired t) || is_pinned m t.id) OnceFilling m.storages o;
}
  where
    loaded : (place : Place) → FillsOnce (pinned m pass place)
    loaded Cached = o
    loaded (InStorage id) = o

pub step_fills : (m : State) (pass : ℕ) (c : Call) → FillsOnce m → FillsOnce (step m pass c).0
step_fills m pass c o = through_step FillsOnce m pass o (next m pass o) c

pub history_fills : (m : State) (events : List Event) → FillsOnce m → FillsOnce (state_after m events)
history_fills m [] o = o
history_fills m (e ∷ events) o = history_fills (step m e.pass e.call).0 events (step_fills m e.pass e.call o)

pub fresh_fills : (budget id : ℕ) → FillsOnce (fresh budget id)
fresh_fills budget id = All-nil OnceFilling

-- what is opened is in use
pub opened_fills : (budget root : ℕ) (images : List Image) (more : List ℕ) → FillsOnce (opened budget root images more)
opened_fills budget root images more = All-map OnceFilling storage_of (enumerate_from 1 images) (λ k d lt fill. absurd (false≢true fill))
