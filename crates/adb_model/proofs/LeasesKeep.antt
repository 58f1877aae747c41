-- Leases keep a sound state sound, and so does a raise.
use Rattle.std.proofs.Common.{◌≡◌, ℕ, ◌≤◌, max, eqb, ltb, Bool, true, ◌&&◌, IsFalse, List, [], ◌∷◌, ◌++◌, map, All, Contains, get_or, IsSomeAnd, Option, Some, None, option_and_then, refl, subst, inl, inr, ◌⊎◌, arith}
use Rattle.std.specs.Option.{option_map_or}
use Rattle.std.proofs.lemmas.Bool.{ltb-false}
use Rattle.std.proofs.lemmas.List.Elements.{All-push, All-contains, Contains-get_or}
use Rattle.adb_model.specs.Lists.{last, least, without_last}
use Rattle.adb_model.specs.State.{Lease, State}
use Rattle.adb_model.specs.Call.{ViewTooOld, PastRoot, Leased}
use Rattle.adb_model.specs.Outcome.{refused_if}
use Rattle.adb_model.specs.Leases.{lease_step, end_lease_step, past_root, leased, raise_refusals, raise_step}
use Rattle.adb_model.specs.History.{IsPass}
use Rattle.adb_model.specs.Gone.{IsGone}
use Rattle.adb_model.specs.Sound.{IsSound}
use Rattle.adb_model.proofs.Members.{into_map, contains_none}
use Rattle.adb_model.proofs.Greatest.{least_below, least_none}
use Rattle.adb_model.proofs.Outcomes.{through_unless, not_refused, none_of}
use Rattle.adb_model.proofs.Taken.{All-without_last}

abbrev with_leases : State → List Lease → State
with_leases m leases = record m { leases = leases }

leases_changed : (m : State) (leases : List Lease) → All (λ l. IsPass l.pass × (m.cleaned ≤ l.max_root)) leases → IsSound m → IsSound (with_leases m leases)
leases_changed m leases fit h = record {
  limits = record {
    roots = h.limits.roots;
    cleaned = h.limits.cleaned;
    leases = fit;
    passes = h.limits.passes;
    pins = h.limits.pins;
    bytes = h.limits.bytes;
    count = h.limits.count;
  };
  slots = h.slots;
  ids = h.ids;
  rows = h.rows;
  names = h.names;
  copies = h.copies;
  gone = h.gone;
}

pub lease_keeps : (m : State) (pass max_root : ℕ) → IsPass pass → IsSound m → IsSound (lease_step m pass max_root).0
lease_keeps m pass max_root is h =
    let l : Lease = record { pass = pass; max_root = max_root } in
    through_unless IsSound _ m _ h (λ free.
    leases_changed m (m.leases ++ l ∷ []) (All-push (λ l. IsPass l.pass × (m.cleaned ≤ l.max_root)) m.leases l h.limits.leases
    (is, ltb-false max_root m.cleaned (not_refused (ltb max_root m.cleaned) (ViewTooOld max_root m.cleaned) free))) h)

pub end_lease_keeps : (m : State) (pass max_root : ℕ) → IsSound m → IsSound (end_lease_step m pass max_root).0
end_lease_keeps m pass max_root h =
    let test : Lease → Bool = λ l. eqb l.pass pass && eqb l.max_root max_root in
    through_unless IsSound _ m _ h (λ free.
    leases_changed m (without_last test m.leases) (All-without_last test (λ l. IsPass l.pass × (m.cleaned ≤ l.max_root)) m.leases h.limits.leases) h)

-- ---- a raise

not_past : (m : State) (upto : ℕ) → past_root m upto ≡ None → IsSomeAnd (last m.roots) (λ newest. upto ≤ newest)
not_past m upto free = by (last m.roots) (not_refused (option_map_or (λ newest. ltb newest upto) (last m.roots) true) (PastRoot upto (last m.roots)) free)
  where
    by : (o : Option ℕ) → IsFalse (option_map_or (λ newest. ltb newest upto) o true) → IsSomeAnd o (λ newest. upto ≤ newest)
    by None e = absurd cc
    by (Some n) e = ltb-false n upto e

none_leased : (m : State) (upto : ℕ) → leased m upto ≡ None → All (λ l. upto ≤ l.max_root) m.leases
none_leased m upto free k d lt = by (least (map (λ l. l.max_root) m.leases)) refl free
  where
    here : Contains (map (λ l. l.max_root) m.leases) (get_or m.leases k d).max_root
    here = into_map (λ (l : Lease). l.max_root) m.leases (get_or m.leases k d) (Contains-get_or m.leases k d lt)

    by : (o : Option ℕ) → least (map (λ l. l.max_root) m.leases) ≡ o → option_and_then (λ l. refused_if (ltb l upto) (Leased upto l)) o ≡ None → upto ≤ (get_or m.leases k d).max_root
    by None e free = absurd (contains_none _ (subst (λ ns. Contains ns (get_or m.leases k d).max_root) (least_none _ e) here))
    by (Some l) e free =
        let le : l ≤ (get_or m.leases k d).max_root = All-contains (λ n. l ≤ n) _ _ (least_below _ l e) here in
        omega (arith, ltb-false l upto (not_refused (ltb l upto) (Leased upto l) free))

abbrev with_cleaned : State → ℕ → State
with_cleaned m cleaned = record m { cleaned = cleaned }

gone_kept : (m : State) (upto s : ℕ) (k : List ℕ) → m.cleaned ≤ upto → IsGone m s k → IsGone (with_cleaned m upto) s k
gone_kept m upto s k up (inl c) = inl (record { root = c.root; is_root = c.is_root; above = c.above; upto = omega (arith, c.upto); stored = c.stored })
gone_kept m upto s k up (inr b) = inr (record { tomb = b.tomb; upto = omega (arith, b.upto); lowest = b.lowest })

both_upto : (o : Option ℕ) (a b : ℕ) → (a ≡ 0) ⊎ IsSomeAnd o (λ n. a ≤ n) → IsSomeAnd o (λ n. b ≤ n) → IsSomeAnd o (λ n. max a b ≤ n)
both_upto None a b h g = g
both_upto (Some n) a b h g = elim h [ inl e ↦ omega (arith, e, g) | inr le ↦ omega (arith, le, g) ]

pub raise_keeps : (m : State) (upto : ℕ) → IsSound m → IsSound (raise_step m upto).0
raise_keeps m upto h =
    through_unless IsSound _ m _ h (λ free.
    let none = none_of (raise_refusals m upto) free in
    let up : m.cleaned ≤ max m.cleaned upto = omega arith in
    record {
      limits = record {
        roots = h.limits.roots;
        cleaned = inr (both_upto (last m.roots) m.cleaned upto h.limits.cleaned (not_past m upto none.0));
        leases = λ k d lt. let fits = h.limits.leases k d lt in (fits.0, omega (arith, fits.1, none_leased m upto none.1.0 k d lt));
        passes = h.limits.passes;
        pins = h.limits.pins;
        bytes = h.limits.bytes;
        count = h.limits.count;
      };
      slots = h.slots;
      ids = h.ids;
      rows = h.rows;
      names = h.names;
      copies = h.copies;
      gone = λ s k st f u. gone_kept m (max m.cleaned upto) s k up (h.gone s k st f u);
    })
