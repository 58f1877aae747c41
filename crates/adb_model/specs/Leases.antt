-- Leases, and the slot up to which is cleaned.
use Rattle.std.specs.Prelude.{ℕ, ◌==◌, nat_lt, max, ◌&&◌, not, Bool, true, List, [], ◌∷◌, ◌++◌, map, Option, option_and_then}
use Rattle.std.specs.List.{list_any}
use Rattle.std.specs.Option.{option_map_or}
use Rattle.adb_model.specs.Lists.{last, least, without_last}
use Rattle.adb_model.specs.State.{Lease, State}
use Rattle.adb_model.specs.Call.{ViewTooOld, NotLeased, PastRoot, Leased, Refusal, Reply, Done, Raised}
use Rattle.adb_model.specs.Outcome.{unless, refused_if, first_of}

-- one more lease, the last of all
abbrev pub with_lease : State → ℕ → ℕ → State
with_lease m pass max_root = record m { leases = m.leases ++ record { pass = pass; max_root = max_root } ∷ [] }

-- a pass holds on to the views from a greatest root on
abbrev pub lease_step : State → ℕ → ℕ → State × Reply
lease_step m pass max_root =
    unless (refused_if (nat_lt max_root m.cleaned) (ViewTooOld max_root m.cleaned)) m (with_lease m pass max_root, Done)

-- the lease is the pass's, of these views
abbrev pub is_lease : ℕ → ℕ → Lease → Bool
is_lease pass max_root l = l.pass == pass && l.max_root == max_root

-- the last such lease leaves
abbrev pub without_lease : State → ℕ → ℕ → State
without_lease m pass max_root = record m { leases = without_last (is_lease pass max_root) m.leases }

-- a pass lets go of such views
abbrev pub end_lease_step : State → ℕ → ℕ → State × Reply
end_lease_step m pass max_root =
    unless (refused_if (not (list_any (is_lease pass max_root) m.leases)) (NotLeased max_root)) m (without_lease m pass max_root, Done)

-- there is no root, or the slot is above the newest
abbrev pub past_root : State → ℕ → Option Refusal
past_root m upto = refused_if (option_map_or (λ newest. nat_lt newest upto) (last m.roots) true) (PastRoot upto (last m.roots))

-- a lease is below the slot
abbrev pub leased : State → ℕ → Option Refusal
leased m upto = option_and_then (λ l. refused_if (nat_lt l upto) (Leased upto l)) (least (map (λ l. l.max_root) m.leases))

-- it is past the newest root, or a lease is below it
abbrev pub raise_refusals : State → ℕ → List (Option Refusal)
raise_refusals m upto = past_root m upto ∷ leased m upto ∷ []

-- what is cleaned goes up to the slot, and never down
abbrev pub raised : State → ℕ → State
raised m upto = record m { cleaned = max m.cleaned upto }

-- the reply says up to where is cleaned then
abbrev pub raise_step : State → ℕ → State × Reply
raise_step m upto = unless (first_of (raise_refusals m upto)) m (raised m upto, Raised (raised m upto).cleaned)
