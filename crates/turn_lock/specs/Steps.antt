-- What each kind of step tells the seat that makes it, and what the functions over steps ensure of seats.
use Rattle.std.specs.Prelude.{◌≡◌, ◌≢◌, ℕ, ◌+◌, ◌-◌, ◌≤◌, min, List, [], ◌∷◌, ◌++◌, true, false, length, Option, Some, None}
use mathlib.Core.List.{IsPrefix}
use Rattle.atomic_table.specs.Table.{Me}
use Rattle.atomic_table.specs.Seated.{TableId}
use Rattle.turn_lock.specs.Numbers.{borne_by}
use Rattle.turn_lock.specs.Passes.{PassState, longer}
use Rattle.turn_lock.specs.Rule.{Every, Recalls, Knew, Unborn, ranges_of, LAST, Boxed}
use Rattle.turn_lock.specs.declared.numbers.Numbers.{Numbers}
use Rattle.turn_lock.specs.declared.rule.Knows.{Knows}

module _ {E : Type 0} where
  -- a view after it drew this ticket
  abbrev pub drawing : Knows E → ℕ → Knows E
  drawing v ticket = record v { ticket = Some ticket }

  -- after a look that found this ticket serving
  abbrev pub noting : Knows E → ℕ → Knows E
  noting v serving = record v { looks = v.looks + 1; noted = serving; found = None }

  -- after an exchange that found this ticket, another than the one it asked for
  abbrev pub finding : Knows E → ℕ → Knows E
  finding v ticket = record v { found = Some ticket }

  -- once it has the value, and has seen this history
  abbrev pub holding : Knows E → ℕ → List E → Knows E
  holding v ticket seen = record v { ticket = Some ticket; holds = true; seen = seen }

  -- once it has passed the turn on, with these entries added
  abbrev pub passing : Knows E → List E → Knows E
  passing v added = record v { ticket = None; holds = false; seen = v.seen ++ added }

  -- what the old view keeps at a split, and what the new one gets
  abbrev pub left_of : ℕ → Knows E → Knows E
  left_of share v = record v { stock = (v.stock.0 + 1, v.stock.1 - (1 + share)) }

  abbrev pub right_of : ℕ → Knows E → Knows E
  right_of share v = record v { own = v.stock.0; joined = []; stock = (v.stock.0 + (v.stock.1 - share), share) }

  -- Two views made one. It remembers the parts that it was made of, since a join itself tells nothing of the history.
  abbrev pub both_of : Knows E → Knows E → Knows E
  both_of v w = record v { joined = v.joined ++ w.stock ∷ ranges_of w; seen = longer v.seen w.seen; parts = (ranges_of v, v.seen) ∷ (ranges_of w, w.seen) ∷ (w.stock ∷ [], []) ∷ [] }

  abbrev pub forgetting : Knows E → Knows E
  forgetting v = record v { parts = [] }

  -- the number and the stock that a pass stores, which are numbers of passes
  abbrev pub Stores : Knows E → Numbers → Type 0
  Stores v n = (v.own ≡ n.own) × (v.stock ≡ (n.next, n.left)) × (1 ≤ n.own) × (n.own ≤ 65536) × (1 ≤ n.next) × (n.next + n.left ≤ 65537)

  -- the parts of a view that a wait leaves as they are
  abbrev pub SameNumbers : Knows E → Knows E → Type 0
  SameNumbers v w = (w.live ≡ v.live) × (w.own ≡ v.own) × (w.joined ≡ v.joined) × (w.stock ≡ v.stock)

  -- the view goes on from an older one, with no further entry of its own
  pub record Follows (bears : E → ℕ) (v w : Knows E) : Type 0 where
    pub same : SameNumbers v w
    pub seen : IsPrefix v.seen w.seen
    pub mine : borne_by bears (ranges_of w) w.seen ≡ borne_by bears (ranges_of v) v.seen

-- what contracts see of a view
abbrev pub state_of : {E : Type 0} → TableId → Knows E → PassState E
state_of id v = record { turn = id; number = v.own; numbers = ranges_of v; stock = v.stock; seen = v.seen; looks = v.looks; noted = v.noted; found = v.found }

module _ {V E : Type 0} where
  abbrev pub drew : Me (Option (Boxed V)) (Knows E) → ℕ → Me (Option (Boxed V)) (Knows E) → Type 0
  drew m ticket n = n ≡ (drawing m.0 ticket, m.1)

  abbrev pub glanced : Me (Option (Boxed V)) (Knows E) → ℕ → Me (Option (Boxed V)) (Knows E) → Type 0
  glanced m serving n = (n ≡ (noting m.0 serving, m.1)) × (serving ≤ LAST)

  abbrev pub passed : List E → Me (Option (Boxed V)) (Knows E) → Me (Option (Boxed V)) (Knows E) → Type 0
  passed added m n = n ≡ (passing m.0 added, [])

  -- a load after a join, or before a split, tells how the parts' histories go on, and that no entry bears a number of the stock
  abbrev pub told : (E → ℕ) → Me (Option (Boxed V)) (Knows E) → Me (Option (Boxed V)) (Knows E) → Type 0
  told bears m n = (n ≡ (forgetting m.0, m.1)) × Unborn bears m.0 × Every (λ p. length p.1 ≤ length m.0.seen → Recalls bears m.0.seen p) m.0.parts

  module _ (reads : List E → V → Type 0) (bears : E → ℕ) where
    -- the seat has the value, which stands for all that it has then seen
    abbrev pub Has : Knows E → Me (Option (Boxed V)) (Knows E) → Type 0
    Has v n = (x : Boxed V) × (n.1 ≡ (0, Some x) ∷ []) × reads n.0.seen x.value.value × (x.value.count ≡ min (length n.0.seen) 18446744073709551615) × Knew bears n.0.seen v

    abbrev pub looked : Me (Option (Boxed V)) (Knows E) → ℕ → Me (Option (Boxed V)) (Knows E) → Type 0
    looked m serving n =
        (m.0.ticket ≡ Some serving → Has m.0 n × (n.0 ≡ holding (noting m.0 serving) serving n.0.seen))
        × (m.0.ticket ≢ Some serving → n ≡ (noting m.0 serving, m.1))

    abbrev pub tried : Me (Option (Boxed V)) (Knows E) → ℕ → Me (Option (Boxed V)) (Knows E) → Type 0
    tried m ticket n =
        (ticket ≡ m.0.noted → Has m.0 n × (n.0 ≡ holding m.0 ticket n.0.seen))
        × (ticket ≢ m.0.noted → n ≡ (finding m.0 ticket, m.1))

  -- a pass that waits for nothing
  pub record Rests (m : Me (Option (Boxed V)) (Knows E)) : Type 0 where
    pub live : m.0.live ≡ true
    pub free : m.0.ticket ≡ None
    pub idle : m.0.holds ≡ false
    pub bare : m.1 ≡ []
    pub whole : m.0.parts ≡ []

  -- a pass that waits with this ticket
  pub record Queues (m : Me (Option (Boxed V)) (Knows E)) (ticket : ℕ) : Type 0 where
    pub live : m.0.live ≡ true
    pub has : m.0.ticket ≡ Some ticket
    pub idle : m.0.holds ≡ false
    pub bare : m.1 ≡ []
    pub whole : m.0.parts ≡ []

  -- a pass that has taken the value out of the slot, by this ticket
  pub record Holds (m : Me (Option (Boxed V)) (Knows E)) (count ticket : ℕ) : Type 0 where
    pub live : m.0.live ≡ true
    pub has : m.0.ticket ≡ Some ticket
    pub holds : m.0.holds ≡ true
    pub out : m.1 ≡ (0, None) ∷ []
    pub counts : count ≡ min (length m.0.seen) 18446744073709551615
    pub whole : m.0.parts ≡ []

  -- the seat has taken the value out of the slot, and knows what it stands for
  pub record Took (reads : List E → V → Type 0) (bears : E → ℕ) (v : Knows E) (m : Me (Option (Boxed V)) (Knows E)) (x : Boxed V) (ticket : ℕ) : Type 0 where
    pub holds : Holds m x.value.count ticket
    pub stood : reads m.0.seen x.value.value
    pub follows : Follows bears v m.0
