-- The rule of a turn: what holds of its words, its slot and all views between any two steps.
--
--  * Serving isn't above the next ticket. The tickets in views differ, and they are the numbers from serving up to the
--    next one. Only at the last ticket, which passes on by adding 0, serving itself is missing among them.
--  * Where no view has the ticket that is serving, the value is in the slot and stands for the history.
--  * What a view has seen begins the history.
--  * The entries of it that bear the view's numbers are its own, and no later entry bears them.
--  * Each number is among the numbers, or in the stock, of one view that isn't spent, and not in both.
--  * The own number of a view that isn't spent is among its numbers.
--  * Each entry bears a number, which is in no stock.
use Rattle.std.specs.Prelude.{◌≡◌, ◌⊎◌, ℕ, ◌+◌, ◌-◌, ◌<◌, ◌≤◌, min, List, [], ◌∷◌, ◌++◌, Bool, true, false, length, Option, Some, None, if◌then◌else◌, ◌==◌, nat_lt}
use mathlib.Core.Option as maybe
use mathlib.Core.Option.{some}
use lib.ListN.{get_elem?}
use Rattle.atomic_table.specs.Table.{State}
use Rattle.turn_lock.specs.declared.rule.Knows.{Knows}
use Rattle.turn_lock.specs.declared.rule.Counted.{Counted}
use Rattle.std.specs.declared.alloc.Global.{Global}
use Rattle.std.specs.declared.boxed.Box.{Box}

-- what the slot has, and the holder carries
abbrev pub Boxed : Type 0 → Type 0
Boxed V = Box (Counted V) Global

-- f of each member, added up
abbrev pub total : {A : Type 0} → (A → ℕ) → List A → ℕ
total f [] = 0
total f (v ∷ vs) = f v + total f vs

abbrev pub Every : {A : Type 0} → (A → Type 0) → List A → Type 0
Every P [] = Unit {0}
Every P (x ∷ xs) = P x × Every P xs

abbrev pub as_number : Bool → ℕ
as_number false = 0
as_number true = 1

abbrev pub if_live : Bool → ℕ → ℕ
if_live false n = 0
if_live true n = n

-- 1 where there is a ticket
abbrev pub queued : Option ℕ → ℕ
queued None = 0
queued (Some y) = 1

-- 1 where it is this ticket
abbrev pub is_ticket : ℕ → Option ℕ → ℕ
is_ticket x None = 0
is_ticket x (Some y) = if x == y then 1 else 0

-- 1 where x is below n
abbrev pub below : ℕ → ℕ → ℕ
below x n = as_number (nat_lt x n)

-- 1 where the range has x
abbrev pub in_range : ℕ → ℕ × ℕ → ℕ
in_range x range = below x (range.0 + range.1) - below x range.0

-- every number of a pass
abbrev pub everyone : ℕ × ℕ
everyone = (1, 65536)

-- The ticket that passes on by adding 0. At most 65,536 tickets follow it, so the word of the next ticket doesn't wrap.
abbrev pub LAST : ℕ
LAST = 18446744073709486078

-- the history goes on from an older one, with no entry that bears a number of these ranges
abbrev pub Recalls : {E : Type 0} → (E → ℕ) → List E → List (ℕ × ℕ) × List E → Type 0
Recalls {E} bears log part = (rest : List E) × (part.1 ++ rest ≡ log) × Every (λ e. total (in_range (bears e)) part.0 ≡ 0) rest

module _ {E : Type 0} where
  -- the ranges of a view's numbers
  abbrev pub ranges_of : Knows E → List (ℕ × ℕ)
  ranges_of v = (v.own, 1) ∷ v.joined

  -- how often a view has the number, and how often its stock has it
  abbrev pub numbers_of : ℕ → Knows E → ℕ
  numbers_of x v = if_live v.live (total (in_range x) (ranges_of v))

  abbrev pub stock_of : ℕ → Knows E → ℕ
  stock_of x v = if_live v.live (in_range x v.stock)

  -- how many numbers a view has, those of its stock included: at most so many tickets may be out with what it becomes
  abbrev pub weight : Knows E → ℕ
  weight v = if_live v.live (1 + (total (λ r. r.1) v.joined + v.stock.1))

  -- the first view, and what is left of one that joined another
  abbrev pub opener : Knows E
  opener = record { live = true; own = 1; joined = []; stock = (2, 65535); ticket = None; holds = false; seen = []; looks = 0; noted = 0; found = None; parts = [] }

  abbrev pub spent : Knows E
  spent = record { live = false; own = 0; joined = []; stock = (0, 0); ticket = None; holds = false; seen = []; looks = 0; noted = 0; found = None; parts = [] }

  -- the history goes on from what the view has seen, with no entry that bears its numbers
  abbrev pub Knew : (E → ℕ) → List E → Knows E → Type 0
  Knew bears log v = (rest : List E) × (v.seen ++ rest ≡ log) × Every (λ e. numbers_of (bears e) v ≡ 0) rest

  -- no entry that the view has seen bears a number of its stock
  abbrev pub Unborn : (E → ℕ) → Knows E → Type 0
  Unborn bears v = Every (λ e. stock_of (bears e) v ≡ 0) v.seen

  -- what the rule says of one view, by the history, serving, the first ticket that may be out, and the next one
  pub record Fits (bears : E → ℕ) (log : List E) (serving first next : ℕ) (v : Knows E) : Type 0 where
    pub room : queued v.ticket ≤ weight v
    pub range : (x : ℕ) → v.ticket ≡ Some x → (first ≤ x) × (x < next)
    pub knew : v.live ≡ true → Knew bears log v
    pub holder : v.holds ≡ true → (v.ticket ≡ Some serving) × (v.seen ≡ log)
    pub noted : v.noted ≤ serving
    pub parts : Every (λ p. Recalls bears log p × ((x : ℕ) → total (in_range x) p.0 ≤ numbers_of x v)) v.parts

module _ {V E : Type 0} (stands : V → List E → V → Type 0) where
  abbrev pub Stands : V → List E → Counted V → Type 0
  Stands start log x = stands start log x.value × (x.count ≡ min (length log) 18446744073709551615)

  -- the slot is at home, with a value that stands for the history
  abbrev pub Home : V → List E → List (maybe.Option (Option (Boxed V))) → Type 0
  Home start log homes = (x : Boxed V) × (homes ≡ some (Some x) ∷ []) × Stands start log x.value

  -- skip is 1 where serving is the last ticket and that has been passed on
  pub record Kept (bears : E → ℕ) (start : V) (s : State (Option (Boxed V)) (Knows E)) : Type 0 where
    pub log : List E
    pub serving : ℕ
    pub skip : ℕ
    pub next : ℕ
    pub words : s.words ≡ serving ∷ next ∷ []
    pub counted : (serving + skip) + total (λ v. queued v.ticket) s.views ≡ next
    pub apart : (x : ℕ) → total (λ v. is_ticket x v.ticket) s.views ≤ 1
    pub last : serving ≤ LAST
    pub skips : (skip ≡ 0) ⊎ ((skip ≡ 1) × (serving ≡ LAST))
    pub whose : (x : ℕ) → total (numbers_of x) s.views + total (stock_of x) s.views ≡ in_range x everyone
    pub weights : total weight s.views ≡ 65536
    pub borne : Every (λ e. (in_range (bears e) everyone ≡ 1) × (total (stock_of (bears e)) s.views ≡ 0)) log
    pub slot : total (λ v. as_number v.holds) s.views ≡ 0 → Home start log s.homes
    pub each : (i : ℕ) (v : Knows E) → get_elem? s.views i ≡ some v → Fits bears log serving (serving + skip) next v
