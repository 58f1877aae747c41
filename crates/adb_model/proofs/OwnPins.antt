-- The pins of a pass change by its own calls alone, and an unpin undoes a load.
use Rattle.std.proofs.Common.{◌≡◌, ◌≢◌, ℕ, eqb, Bool, true, false, cond, not, IsTrue, IsFalse, List, [], ◌∷◌, ◌++◌, Option, Some, None, count_by, refl, sym, ap, ◌∙◌, arith}
use Rattle.std.specs.List.{list_any}
use Rattle.std.proofs.lemmas.Bool.{and_parts, and_from, and_left, or_right, eqb-true, eq-eqb, ne_eqb}
use Rattle.std.proofs.lemmas.List.Sums.{sum_by-cons}
use Rattle.adb_model.specs.Lists.{without_last}
use Rattle.adb_model.specs.Account.{Account}
use Rattle.adb_model.specs.View.{View}
use Rattle.adb_model.specs.State.{Stored, Pin, Shrink, State}
use Rattle.adb_model.specs.Load.{answer}
use Rattle.adb_model.specs.Storages.{live_storage, open_flush, open_shrink}
use Rattle.adb_model.specs.Call as call
use Rattle.adb_model.specs.Call.{Call, Place, Cached, InStorage, Refusal, NotPinned, Reply, Done, Found, NotFound, Refused}
use Rattle.adb_model.specs.Outcome.{unless, refused_if, first_of}
use Rattle.adb_model.specs.Callers.{place_of, pinned, found, load_refusals, is_pin}
use Rattle.adb_model.specs.Shrink.{is_current, installed, copy_dropped}
use Rattle.adb_model.specs.Snap.{open_snap}
use Rattle.adb_model.specs.Step.{step}
use Rattle.adb_model.specs.Passing.{pins_stay}
use Rattle.adb_model.proofs.Members.{any_push}
use Rattle.adb_model.proofs.Outcomes.{through_unless, through_found}
use Rattle.adb_model.proofs.Taken.{count_push_no}
use Rattle.adb_model.proofs.Through.{through_step}
use Rattle.adb_model.proofs.OneChanged.{one_if}

-- ---- a load, and its unpin

-- the last one that was added leaves first
added_leaves : {X : Type 0} (p : X → Bool) (xs : List X) (x : X) → IsTrue (p x) → without_last p (xs ++ x ∷ []) ≡ xs
added_leaves p [] x t = ap (λ b. cond b [] (x ∷ [])) t
added_leaves p (y ∷ ys) x t =
    ap (λ b. cond b (y ∷ without_last p (ys ++ x ∷ [])) (cond (p y) (ys ++ x ∷ []) (y ∷ ys ++ x ∷ []))) (any_push p ys x ∙ or_right (list_any p ys) (p x) t)
    ∙ ap (λ l. y ∷ l) (added_leaves p ys x t)

module _ (m : State) (pass : ℕ) where
  unpin_undoes : (id : ℕ) → step (pinned m pass (InStorage id)) pass (call.Unpin id) ≡ (m, Done)
  unpin_undoes id =
      let pin : Pin = record { pass = pass; id = id } in
      let own : IsTrue (is_pin pass id pin) = and_from _ _ (eq-eqb pass pass refl) (eq-eqb id id refl) in
      ap (λ b. unless (refused_if (not b) (NotPinned id)) (pinned m pass (InStorage id)) (record m { pins = without_last (is_pin pass id) (m.pins ++ pin ∷ []) }, Done))
      (any_push (is_pin pass id) m.pins pin ∙ or_right (list_any (is_pin pass id) m.pins) _ own)
      ∙ ap (λ (pins : List Pin). (let done : State × Reply = (record m { pins = pins }, Done) in done)) (added_leaves (is_pin pass id) m.pins pin own)

  -- what a load leaves, by the reply
  leaves_pinned : (o : Option Refusal) (a : Option Stored) (slot : ℕ) (place : Place) (account : Account)
      → (unless o m (found m pass a)).1 ≡ Found slot place account → (unless o m (found m pass a)).0 ≡ pinned m pass place
  leaves_pinned (Some r) a slot place account e = absurd cc
  leaves_pinned None None slot place account e = absurd cc
  leaves_pinned None (Some t) slot place account e = let same : place_of m t.slot t.key ≡ place = cc in ap (pinned m pass) same

  leaves_alone : (o : Option Refusal) (a : Option Stored) → (unless o m (found m pass a)).1 ≡ NotFound → (unless o m (found m pass a)).0 ≡ m
  leaves_alone (Some r) a e = refl
  leaves_alone None None e = refl
  leaves_alone None (Some t) e = absurd cc

  leaves_refused : (o : Option Refusal) (a : Option Stored) (refusal : Refusal) → (unless o m (found m pass a)).1 ≡ Refused refusal → (unless o m (found m pass a)).0 ≡ m
  leaves_refused (Some r) a refusal e = refl
  leaves_refused None None refusal e = refl
  leaves_refused None (Some t) refusal e = absurd cc

pub given_back : (m : State) (pass slot id : ℕ) (view : View) (key : List ℕ) (account : Account)
    → (step m pass (call.Load view key)).1 ≡ Found slot (InStorage id) account → step (step m pass (call.Load view key)).0 pass (call.Unpin id) ≡ (m, Done)
given_back m pass slot id view key account e =
    ap (λ n. step n pass (call.Unpin id)) (leaves_pinned m pass (first_of (load_refusals m pass view)) (answer m view key) slot (InStorage id) account e)
    ∙ unpin_undoes m pass id

pub cached_changes_nothing : (m : State) (pass slot : ℕ) (view : View) (key : List ℕ) (account : Account)
    → (step m pass (call.Load view key)).1 ≡ Found slot Cached account → (step m pass (call.Load view key)).0 ≡ m
cached_changes_nothing m pass slot view key account e = leaves_pinned m pass (first_of (load_refusals m pass view)) (answer m view key) slot Cached account e

pub none_changes_nothing : (m : State) (pass : ℕ) (view : View) (key : List ℕ) → (step m pass (call.Load view key)).1 ≡ NotFound → (step m pass (call.Load view key)).0 ≡ m
none_changes_nothing m pass view key e = leaves_alone m pass (first_of (load_refusals m pass view)) (answer m view key) e

pub refused_changes_nothing : (m : State) (pass : ℕ) (view : View) (key : List ℕ) (refusal : Refusal)
    → (step m pass (call.Load view key)).1 ≡ Refused refusal → (step m pass (call.Load view key)).0 ≡ m
refused_changes_nothing m pass view key refusal e = leaves_refused m pass (first_of (load_refusals m pass view)) (answer m view key) refusal e

-- ---- the pins of others

-- who leaves is not counted
others_counted : {X : Type 0} (p q : X → Bool) → ((x : X) → IsTrue (p x) → IsFalse (q x)) → (xs : List X) → count_by q (without_last p xs) ≡ count_by q xs
others_counted p q apart [] = refl
others_counted {X} p q apart (x ∷ xs) = by (list_any p xs) (p x) refl (others_counted p q apart xs)
  where
    by : (b d : Bool) → p x ≡ d → count_by q (without_last p xs) ≡ count_by q xs → count_by q (cond b (x ∷ without_last p xs) (cond d xs (x ∷ xs))) ≡ count_by q (x ∷ xs)
    by true d f ih = omega (arith, sum_by-cons (λ (y : X). cond (q y) 1 0) x xs, sum_by-cons (λ (y : X). cond (q y) 1 0) x (without_last p xs), ih)
    by false true f ih = omega (arith, sum_by-cons (λ (y : X). cond (q y) 1 0) x xs, ap one_if (apart x f))
    by false false f ih = refl

-- a count of pins that are of another pass stays
module _ (m : State) (pass : ℕ) (test : Pin → Bool) (apart : (q : Pin) → q.pass ≡ pass → IsFalse (test q)) where
  loaded : (place : Place) → count_by test (pinned m pass place).pins ≡ count_by test m.pins
  loaded Cached = refl
  loaded (InStorage id) = let pin : Pin = record { pass = pass; id = id } in count_push_no test m.pins pin (apart pin refl)

  counts_stay : (c : Call) → count_by test (step m pass c).0.pins ≡ count_by test m.pins
  counts_stay c = through_step (λ n. count_by test n.pins ≡ count_by test m.pins) m pass refl (record {
    store = λ slot key account e. refl;
    root = λ slot e. refl;
    purge = λ slot e. refl;
    load = λ view key t e f. loaded (place_of m t.slot t.key);
    unpin = λ id. others_counted (is_pin pass id) test (λ q t. apart q (eqb-true q.pass pass (and_parts (eqb q.pass pass) (eqb q.id id) t).0)) m.pins;
    lease = λ max_root e. refl;
    end_lease = λ max_root. refl;
    flush_begin = λ slot e. refl;
    flush_end = λ slot t e. refl;
    flush_abort = λ slot t e. refl;
    raise = λ upto e. refl;
    reclaim = λ keys. refl;
    shrink_begin = λ slot old e f. refl;
    installed = λ slot g e f. refl;
    dropped = λ slot g e. refl;
    snap_begin = λ slot e. refl;
    snap_end = refl;
    recycle = refl;
  }) c

pub others_pins : (m : State) (pass p : ℕ) (c : Call) → pass ≢ p → (id : ℕ) → count_by (is_pin p id) (step m pass c).0.pins ≡ count_by (is_pin p id) m.pins
others_pins m pass p c ne id = counts_stay m pass (is_pin p id) (λ q of. and_left _ _ (ne_eqb q.pass p (λ e. ne (sym of ∙ e)))) c

pub others_pins_of : (m : State) (pass p : ℕ) (c : Call) → pass ≢ p → count_by (λ q. eqb q.pass p) (step m pass c).0.pins ≡ count_by (λ q. eqb q.pass p) m.pins
others_pins_of m pass p c ne = counts_stay m pass (λ q. eqb q.pass p) (λ q of. ne_eqb q.pass p (λ e. ne (sym of ∙ e))) c

-- ---- calls that are neither a load nor an unpin

pub pins_same : (m : State) (pass : ℕ) (c : Call) → pins_stay c ≡ true → (step m pass c).0.pins ≡ m.pins
pins_same m pass (call.Store slot key account) s = through_unless (λ n. n.pins ≡ m.pins) _ m _ refl (λ e. refl)
pins_same m pass (call.Root slot) s = through_unless (λ n. n.pins ≡ m.pins) _ m _ refl (λ e. refl)
pins_same m pass (call.Purge slot) s = through_unless (λ n. n.pins ≡ m.pins) _ m _ refl (λ e. refl)
pins_same m pass (call.Load view key) s = absurd cc
pins_same m pass (call.Unpin id) s = absurd cc
pins_same m pass (call.Lease max_root) s = through_unless (λ n. n.pins ≡ m.pins) _ m _ refl (λ e. refl)
pins_same m pass (call.EndLease max_root) s = through_unless (λ n. n.pins ≡ m.pins) _ m _ refl (λ e. refl)
pins_same m pass (call.FlushBegin slot) s = through_unless (λ n. n.pins ≡ m.pins) _ m _ refl (λ e. refl)
pins_same m pass (call.FlushEnd slot) s = through_found (λ n. n.pins ≡ m.pins) (open_flush m slot) _ m _ refl (λ t e. refl)
pins_same m pass (call.FlushAbort slot) s = through_found (λ n. n.pins ≡ m.pins) (open_flush m slot) _ m _ refl (λ t e. refl)
pins_same m pass (call.Raise upto) s = through_unless (λ n. n.pins ≡ m.pins) _ m _ refl (λ e. refl)
pins_same m pass (call.Reclaim after most) s = refl
pins_same m pass (call.ShrinkBegin slot) s = through_found (λ n. n.pins ≡ m.pins) (live_storage m slot) _ m _ refl (λ old e. through_unless (λ n. n.pins ≡ m.pins) _ m _ refl (λ f. refl))
pins_same m pass (call.ShrinkEnd slot) s = through_found (λ n. n.pins ≡ m.pins) (open_shrink m slot) _ m _ refl (λ g e. ended (is_current m g) g)
  where
    ended : (b : Bool) (g : Shrink) → (let done : State × Reply = cond b (installed m g, Done) (copy_dropped m g, call.Superseded slot g.old) in done).0.pins ≡ m.pins
    ended true g = refl
    ended false g = refl
pins_same m pass (call.ShrinkAbort slot) s = through_found (λ n. n.pins ≡ m.pins) (open_shrink m slot) _ m _ refl (λ g e. refl)
pins_same m pass (call.SnapBegin slot) s = through_unless (λ n. n.pins ≡ m.pins) _ m _ refl (λ e. refl)
pins_same m pass (call.SnapEnd slot) s = through_found (λ n. n.pins ≡ m.pins) (open_snap m slot) _ m _ refl (λ n e. refl)
pins_same m pass call.Recycle s = refl
pins_same m pass call.Stats s = refl
