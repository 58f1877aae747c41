-- A new root keeps a sound state sound.
use Rattle.std.proofs.Common.{◌≡◌, ℕ, ◌<◌, ◌≤◌, eqb, IsTrue, List, [], ◌∷◌, ◌++◌, get_or, Contains, IsSomeAnd, Option, Some, None, refl, sym, subst, inl, inr, arith}
use Rattle.std.proofs.lemmas.List.Quantifiers.{all_pairs_push}
use Rattle.std.proofs.lemmas.List.Elements.{Contains-get_or}
use Rattle.adb_model.specs.Lists.{among, last}
use Rattle.adb_model.specs.State.{State}
use Rattle.adb_model.specs.Call.{RootOrder}
use Rattle.adb_model.specs.Callers.{root_step, rooted_by}
use Rattle.adb_model.specs.Gone.{IsGone}
use Rattle.adb_model.specs.Sound.{IsSound, SlotFits}
use Rattle.adb_model.proofs.Members.{any_append_left, among_at, contains_next}
use Rattle.adb_model.proofs.Filters.{last_push}
use Rattle.adb_model.proofs.Roots.{above_roots}
use Rattle.adb_model.proofs.Outcomes.{through_unless, nothing_mapped}

abbrev with_root : State → ℕ → State
with_root m slot = record m { roots = m.roots ++ slot ∷ [] }

still_root : (m : State) (slot s : ℕ) → IsTrue (among s m.roots) → IsTrue (among s (with_root m slot).roots)
still_root m slot s t = any_append_left (λ r. eqb r s) m.roots (slot ∷ []) t

gone_kept : (m : State) (slot s : ℕ) (k : List ℕ) → IsGone m s k → IsGone (with_root m slot) s k
gone_kept m slot s k (inl c) = inl (record { root = c.root; is_root = still_root m slot c.root c.is_root; above = c.above; upto = c.upto; stored = c.stored })
gone_kept m slot s k (inr b) = inr b

newest_contained : (ns : List ℕ) (n : ℕ) → last ns ≡ Some n → Contains ns n
newest_contained [] n e = absurd cc
newest_contained (x ∷ []) n e = (0, omega arith, cc)
newest_contained (x ∷ y ∷ ys) n e = let c = newest_contained (y ∷ ys) n e in contains_next x n (y ∷ ys) c

cleaned_kept : (m : State) (slot : ℕ) → ((r : ℕ) → IsTrue (among r m.roots) → r < slot) → (o : Option ℕ) → last m.roots ≡ o → IsSomeAnd o (λ newest. m.cleaned ≤ newest) → IsSomeAnd (last (with_root m slot).roots) (λ newest. m.cleaned ≤ newest)
cleaned_kept m slot above None e h = absurd h
cleaned_kept m slot above (Some n) e h =
    let lt = above n (among_at n m.roots (newest_contained m.roots n e)) in
    subst (λ o. IsSomeAnd o (λ newest. m.cleaned ≤ newest)) (sym (last_push m.roots slot)) (omega arith)

changed : (m : State) (slot : ℕ) → ((r : ℕ) → IsTrue (among r m.roots) → r < slot) → IsSound m → IsSound (with_root m slot)
changed m slot above h = record {
  limits = record {
    roots = all_pairs_push (λ r s. r < s) m.roots slot h.limits.roots (λ k d lt. above (get_or m.roots k d) (among_at _ m.roots (Contains-get_or m.roots k d lt)));
    cleaned = elim h.limits.cleaned [ inl zero_yet ↦ inl zero_yet | inr upto ↦ inr (cleaned_kept m slot above (last m.roots) refl upto) ];
    leases = h.limits.leases;
    passes = h.limits.passes;
    pins = h.limits.pins;
    bytes = h.limits.bytes;
    count = h.limits.count;
  };
  slots = record {
    roots = λ s f. still_root m slot s (h.slots.roots s f);
    named = h.slots.named;
    storages = λ k d lt.
        let fits : SlotFits m (get_or m.storages k d) = h.slots.storages k d lt in
        record { settled = fits.settled; rooted = λ f. still_root m slot _ (fits.rooted f); copied = fits.copied };
    one_live = h.slots.one_live;
    one_filling = h.slots.one_filling;
  };
  ids = h.ids;
  rows = h.rows;
  names = h.names;
  copies = h.copies;
  gone = λ s k st f u. gone_kept m slot s k (h.gone s k st f u);
}

pub root_keeps : (m : State) (slot : ℕ) → IsSound m → IsSound (root_step m slot).0
root_keeps m slot h = through_unless IsSound _ m _ h (λ free. changed m slot (above_roots m slot h.limits.roots (nothing_mapped (RootOrder slot) (rooted_by m slot) free)) h)
