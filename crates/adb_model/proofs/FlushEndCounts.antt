-- What the end of a flush changes of what is counted.
use Rattle.std.proofs.Common.{◌≡◌, ℕ, suc, ◌+◌, eqb, Bool, true, false, cond, not, ◌&&◌, ◌||◌, List, [], ◌∷◌, length, map, Some, count_by, sum_by, refl, sym, ap, ◌∙◌, arith, length-append}
use Rattle.std.proofs.lemmas.Bool.{or_right, eqb-true, eq-eqb}
use Rattle.std.proofs.lemmas.List.{length-map}
use Rattle.std.proofs.lemmas.List.Elements.{filter_agree}
use Rattle.std.proofs.lemmas.List.Sums.{sum_by-cons, sum_by-append}
use Rattle.adb_model.specs.Lists.{among, distinct}
use Rattle.adb_model.specs.State.{Row, Live, Stored, Storage, Pair, State}
use Rattle.adb_model.specs.Presence.{is_live}
use Rattle.adb_model.specs.Storages.{is_filling, is_retired, used, open_flush, in_phase}
use Rattle.adb_model.specs.Callers.{keys_of, without_stores}
use Rattle.adb_model.specs.Flush.{flushed_with}
use Rattle.adb_model.specs.Shrink.{named_in}
use Rattle.adb_model.specs.Stats.{same_pair, cached_pairs, counts_of}
use Rattle.adb_model.specs.Sound.{IsSound}
use Rattle.adb_model.specs.Laws.{IsOpenFlush}
use Rattle.adb_model.proofs.Filters.{same_truth}
use Rattle.adb_model.proofs.Phases.{other_same, filling_not_live}
use Rattle.adb_model.proofs.CachedCounts.{cached_less}
use Rattle.adb_model.proofs.OneChanged.{one_if, sum_passed, filter_both, one_changed}
use Rattle.adb_model.proofs.FlushEndKeeps.{IsOpen, opened}
use Rattle.adb_model.proofs.OpenFlush.{open_flush_is}
use Rattle.adb_model.proofs.FlushEnds.{flushed_ended, changed_here}

abbrev pair : ℕ → Row → Pair
pair slot r = record { slot = slot; key = r.key }

-- a storage's pairs are all of its slot
pairs_counted : (slot s : ℕ) (rows : List Row) → count_by (λ (p : Pair). eqb p.slot s) (map (pair slot) rows) ≡ cond (eqb slot s) (length rows) 0
pairs_counted slot s [] = by (eqb slot s)
  where
    by : (b : Bool) → ◌≡◌ {A = ℕ} 0 (cond b 0 0)
    by true = refl
    by false = refl
pairs_counted slot s (r ∷ rows) = sum_by-cons (λ (p : Pair). cond (eqb p.slot s) 1 0) (pair slot r) (map (pair slot) rows) ∙ by (eqb slot s) (pairs_counted slot s rows)
  where
    by : (b : Bool) → count_by (λ (p : Pair). eqb p.slot s) (map (pair slot) rows) ≡ cond b (length rows) 0 → cond b 1 0 + count_by (λ (p : Pair). eqb p.slot s) (map (pair slot) rows) ≡ cond b (suc (length rows)) 0
    by true ih = omega (arith, ih)
    by false ih = omega (arith, ih)

same_number : (a b : ℕ) → eqb a b ≡ eqb b a
same_number a b = same_truth _ _ (λ t. eq-eqb b a (sym (eqb-true a b t))) (λ t. eq-eqb a b (sym (eqb-true b a t)))

neither : (a b : Bool) → (not a && not b) ≡ not (a || b)
neither true b = refl
neither false b = refl

module _ (m : State) (h : IsSound m) (slot : ℕ) (t : Storage) (e : open_flush m slot ≡ Some t) where
  abbrev n : State
  n = flushed_with m t

  abbrev now : Storage
  now = record t { phase = Live }

  is : IsOpen m t
  is = (opened m slot t h e).0

  facts : IsOpenFlush m slot t
  facts = open_flush_is m h slot t e

  summed : (g : Storage → ℕ) → sum_by g n.storages + g t ≡ sum_by g m.storages + g now
  summed g =
      one_changed (λ (u : Storage). u.id) t (in_phase t.id Live) (λ u ne. other_same t.id Live u ne) g m.storages h.ids.differ is.there
      ∙ ap (λ v. sum_by g m.storages + g v) (changed_here m h slot t e)

  counted : (p : Storage → Bool) → count_by p n.storages + cond (p t) 1 0 ≡ count_by p m.storages + cond (p now) 1 0
  counted p = summed (λ u. cond (p u) 1 0)

  pub bytes_ended : used n ≡ used m
  bytes_ended = omega (arith, summed (λ u. u.bytes))

  pub length_ended : length n.storages ≡ length m.storages
  length_ended = length-map m.storages (in_phase t.id Live)

  pub filling_ended : (counts_of m).filling ≡ (counts_of n).filling + 1
  filling_ended = omega (arith, counted is_filling, ap one_if is.fills)

  pub live_ended : (counts_of n).live ≡ (counts_of m).live + 1
  live_ended = omega (arith, counted is_live, ap one_if (filling_not_live t is.fills))

  pub retired_ended : (counts_of n).retired ≡ (counts_of m).retired
  retired_ended = omega (arith, counted is_retired, ap (λ b. one_if (not b)) (or_right (is_live t) (is_filling t) is.fills))

  pub rows_ended : (counts_of n).rows ≡ (counts_of m).rows + length t.rows
  rows_ended = omega (
    arith,
    sum_passed is_live (λ u. length u.rows) n.storages,
    sum_passed is_live (λ u. length u.rows) m.storages,
    summed (λ u. cond (is_live u) (length u.rows) 0),
    ap (λ b. cond b (length t.rows) 0) (filling_not_live t is.fills),
  )

  pub names_ended : (counts_of n).named ≡ (counts_of m).named + length t.rows
  names_ended = length-append m.named (map (pair t.slot) t.rows) ∙ ap (λ k. length m.named + k) (length-map t.rows (pair t.slot))

  pub named_in_ended : (s : ℕ) → named_in n s ≡ cond (eqb slot s) (length t.rows) (named_in m s)
  named_in_ended s =
      sum_by-append (λ (p : Pair). cond (eqb p.slot s) 1 0) m.named (map (pair t.slot) t.rows) ∙ ap (λ k. named_in m s + k) (pairs_counted t.slot s t.rows ∙ ap (λ q. cond (eqb q s) (length t.rows) 0) facts.of_slot)
      ∙ by (eqb slot s) refl
    where
      by : (b : Bool) → eqb slot s ≡ b → named_in m s + cond b (length t.rows) 0 ≡ cond b (length t.rows) (named_in m s)
      by true f = omega (arith, ap (named_in m) (sym (eqb-true slot s f)) ∙ facts.none_named)
      by false f = omega arith

  -- the cached pairs are those that a purge of the slot would leave
  pub cached_ended : (counts_of m).cached ≡ (counts_of n).cached + length (keys_of m slot)
  cached_ended = cached_less m slot facts.unflushed ∙ ap (λ (pairs : List Stored). length pairs + length (keys_of m slot)) left
    where
      left : cached_pairs (without_stores m slot) ≡ cached_pairs n
      left = ap (distinct same_pair)
          (filter_both (λ (u : Stored). not (among u.slot m.flushed)) (λ u. not (eqb u.slot slot)) m.stores
          ∙ filter_agree (λ (u : Stored). not (eqb u.slot slot) && not (among u.slot m.flushed)) (λ u. not (among u.slot n.flushed))
          (λ u.
          ap (λ b. not b && not (among u.slot m.flushed)) (same_number u.slot slot) ∙ neither (eqb slot u.slot) (among u.slot m.flushed)
          ∙ ap not (sym (flushed_ended m h slot t e u.slot)))
          m.stores)
