-- Leases, and the slot up to which is cleaned, change nothing else.
use Rattle.std.proofs.Common.{◌≡◌, ◌<◌, ◌≤◌, ℕ, ◌∷◌, [], List, Bool, true, false, not, max, nat_lt, map, Option, Some, None, option_and_then, refl, ap, ◌∙◌}
use Rattle.std.specs.List.{list_any}
use Rattle.std.specs.Option.{option_map_or}
use Rattle.std.proofs.lemmas.Bool.{lt-ltb, le-ltb}
use Rattle.adb_model.specs.Lists.{last, least}
use Rattle.adb_model.specs.State.{Lease, State}
use Rattle.adb_model.specs.Leases.{with_lease, is_lease, without_lease, raised}
use Rattle.adb_model.specs.Call as machine
use Rattle.adb_model.specs.Call.{Refusal, Reply, Refused, Done, Raised, ViewTooOld, NotLeased, PastRoot, Leased}
use Rattle.adb_model.specs.Outcome.{unless, refused_if, first_of}
use Rattle.adb_model.specs.Step.{step}
use Rattle.book_parts.specs.Parts.{Parts}
use Rattle.book_parts.specs.Reflects.{Reflects}

pub reflects_leases : (p : Parts) (m : State) (leases : List Lease) → Reflects p m → Reflects (record p { leases = leases }) (record m { leases = leases })
reflects_leases p m leases r = record {
  marks = r.marks;
  placed = r.placed;
  held = r.held;
  expected = r.expected;
  rows = r.rows;
  roots = r.roots;
  cleaned = r.cleaned;
  leases = refl;
  cells = r.cells;
  slots = r.slots;
  counts = r.counts;
  limit = r.limit;
  next_id = r.next_id;
  snap = r.snap;
}

pub reflects_cleaned : (p : Parts) (m : State) (cleaned : ℕ) → Reflects p m → Reflects (record p { cleaned = cleaned }) (record m { cleaned = cleaned })
reflects_cleaned p m cleaned r = record {
  marks = r.marks;
  placed = r.placed;
  held = r.held;
  expected = r.expected;
  rows = r.rows;
  roots = r.roots;
  cleaned = refl;
  leases = r.leases;
  cells = r.cells;
  slots = r.slots;
  counts = r.counts;
  limit = r.limit;
  next_id = r.next_id;
  snap = r.snap;
}

-- a reply, and no change
abbrev pub refuses : State → Refusal → State × Reply
refuses m refusal = (m, Refused refusal)

module _ (m : State) (pass max_root : ℕ) where
  abbrev leased_if : Bool → State × Reply
  leased_if old = unless (refused_if old (ViewTooOld max_root m.cleaned)) m (with_lease m pass max_root, Done)

  pub lease_refused : max_root < m.cleaned → step m pass (machine.Lease max_root) ≡ refuses m (ViewTooOld max_root m.cleaned)
  lease_refused old = ap leased_if (lt-ltb max_root m.cleaned old)

  pub lease_done : m.cleaned ≤ max_root → step m pass (machine.Lease max_root) ≡ leased_if false
  lease_done new = ap leased_if (le-ltb max_root m.cleaned new)

  abbrev ended_if : Bool → State × Reply
  ended_if there = unless (refused_if (not there) (NotLeased max_root)) m (without_lease m pass max_root, Done)

  pub end_refused : list_any (is_lease pass max_root) m.leases ≡ false → step m pass (machine.EndLease max_root) ≡ refuses m (NotLeased max_root)
  end_refused none = ap ended_if none

  pub end_done : list_any (is_lease pass max_root) m.leases ≡ true → step m pass (machine.EndLease max_root) ≡ ended_if true
  end_done some = ap ended_if some

module _ (m : State) (pass upto : ℕ) where
  abbrev raised_unless : List (Option Refusal) → State × Reply
  raised_unless refusals = unless (first_of refusals) m (raised m upto, Raised (max m.cleaned upto))

  abbrev past_if : Option ℕ → Option Refusal
  past_if newest = refused_if (option_map_or (λ n. nat_lt n upto) newest true) (PastRoot upto newest)

  abbrev leased_below : Option ℕ → Option Refusal
  leased_below l = option_and_then (λ l. refused_if (nat_lt l upto) (Leased upto l)) l

  abbrev least_lease : Option ℕ
  least_lease = least (map (λ l. l.max_root) m.leases)

  raise_at : (newest : Option ℕ) → last m.roots ≡ newest → step m pass (machine.Raise upto) ≡ raised_unless (past_if newest ∷ leased_below least_lease ∷ [])
  raise_at newest e = ap (λ o. raised_unless (past_if o ∷ leased_below least_lease ∷ [])) e

  pub raise_rootless : last m.roots ≡ None → step m pass (machine.Raise upto) ≡ refuses m (PastRoot upto None)
  raise_rootless e = raise_at None e

  module _ (newest : ℕ) (root : last m.roots ≡ Some newest) where
    abbrev past_when : Bool → Option Refusal
    past_when b = refused_if b (PastRoot upto (Some newest))

    pub raise_past : newest < upto → step m pass (machine.Raise upto) ≡ refuses m (PastRoot upto (Some newest))
    raise_past lt = raise_at (Some newest) root ∙ ap (λ b. raised_unless (past_when b ∷ leased_below least_lease ∷ [])) (lt-ltb newest upto lt)

    raise_least : upto ≤ newest → (l : Option ℕ) → least_lease ≡ l → step m pass (machine.Raise upto) ≡ raised_unless (None ∷ leased_below l ∷ [])
    raise_least within l e =
        raise_at (Some newest) root ∙ ap (λ b. raised_unless (past_when b ∷ leased_below least_lease ∷ [])) (le-ltb newest upto within)
        ∙ ap (λ o. raised_unless (None ∷ leased_below o ∷ [])) e

    pub raise_unleased : upto ≤ newest → least_lease ≡ None → step m pass (machine.Raise upto) ≡ raised_unless []
    raise_unleased within e = raise_least within None e

    pub raise_leased : upto ≤ newest → (l : ℕ) → least_lease ≡ Some l → l < upto → step m pass (machine.Raise upto) ≡ refuses m (Leased upto l)
    raise_leased within l e lt = raise_least within (Some l) e ∙ ap (λ b. raised_unless (None ∷ refused_if b (Leased upto l) ∷ [])) (lt-ltb l upto lt)

    pub raise_done : upto ≤ newest → (l : ℕ) → least_lease ≡ Some l → upto ≤ l → step m pass (machine.Raise upto) ≡ raised_unless []
    raise_done within l e above = raise_least within (Some l) e ∙ ap (λ b. raised_unless (None ∷ refused_if b (Leased upto l) ∷ [])) (le-ltb l upto above)
