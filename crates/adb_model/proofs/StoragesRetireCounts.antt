-- What changes of what is counted where one storage in use retires.
use Rattle.std.proofs.Common.{◌≡◌, ℕ, ◌+◌, cond, not, length, Some, count_by, sum_by, ap, ◌∙◌, arith, Bool}
use Rattle.std.proofs.lemmas.Bool.{or_left}
use Rattle.std.proofs.lemmas.List.{length-map}
use Rattle.adb_model.specs.State.{Retired, Storage, State}
use Rattle.adb_model.specs.Presence.{is_live}
use Rattle.adb_model.specs.Storages.{is_filling, is_retired, used, live_storage, in_phase}
use Rattle.adb_model.specs.Cleaning.{with_retired}
use Rattle.adb_model.specs.Stats.{counts_of}
use Rattle.adb_model.specs.Sound.{IsSoundMidway}
use Rattle.adb_model.proofs.Phases.{bytes_same, other_same, live_filled}
use Rattle.adb_model.proofs.OneChanged.{one_if, sum_passed, one_changed}
use Rattle.adb_model.proofs.Retiring.{sum_same}
use Rattle.adb_model.proofs.LiveStorages.{live_there, in_use}
use Rattle.adb_model.proofs.StoragesRetire.{changed_here}

pub used_retired : (m : State) (t : Storage) → used (with_retired m t) ≡ used m
used_retired m t = sum_same (λ (u : Storage). u.bytes) (in_phase t.id Retired) m.storages (λ u c. bytes_same t.id Retired u)

pub length_retired : (m : State) (t : Storage) → length (with_retired m t).storages ≡ length m.storages
length_retired m t = length-map m.storages (in_phase t.id Retired)

module _ (m : State) (h : IsSoundMidway m) (t : Storage) (e : live_storage m t.slot ≡ Some t) where
  abbrev n : State
  n = with_retired m t

  abbrev now : Storage
  now = record t { phase = Retired }

  summed : (g : Storage → ℕ) → sum_by g n.storages + g t ≡ sum_by g m.storages + g now
  summed g =
      one_changed (λ (u : Storage). u.id) t (in_phase t.id Retired) (λ u ne. other_same t.id Retired u ne) g m.storages h.ids.differ (live_there m t.slot t e)
      ∙ ap (λ v. sum_by g m.storages + g v) (changed_here m h t e)

  counted : (p : Storage → Bool) → count_by p n.storages + cond (p t) 1 0 ≡ count_by p m.storages + cond (p now) 1 0
  counted p = summed (λ u. cond (p u) 1 0)

  pub filling_count : (counts_of n).filling ≡ (counts_of m).filling
  filling_count = omega (arith, counted is_filling, ap one_if (live_filled t (in_use m t.slot t e)))

  pub live_count : (counts_of m).live ≡ (counts_of n).live + 1
  live_count = omega (arith, counted is_live, ap one_if (in_use m t.slot t e))

  pub retired_count : (counts_of n).retired ≡ (counts_of m).retired + 1
  retired_count = omega (arith, counted is_retired, ap (λ b. one_if (not b)) (or_left (is_live t) (is_filling t) (in_use m t.slot t e)))

  pub row_count : (counts_of m).rows ≡ (counts_of n).rows + length t.rows
  row_count = omega (
    arith,
    sum_passed is_live (λ u. length u.rows) n.storages,
    sum_passed is_live (λ u. length u.rows) m.storages,
    summed (λ u. cond (is_live u) (length u.rows) 0),
    ap (λ b. cond b (length t.rows) 0) (in_use m t.slot t e),
  )
