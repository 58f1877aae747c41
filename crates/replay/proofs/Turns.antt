-- What was made of a list so far, and the element at hand.
use Rattle.std.proofs.Common.{◌≡◌, ℕ, suc, ◌+◌, ◌<◌, ◌≤◌, List, [], ◌∷◌, ◌++◌, length, take, drop, get_or, map, Option, Result, Ok, Err, OnErr, Some, refl, sym, ap, subst, ◌∙◌, add-one, append_assoc}
use Rattle.std.proofs.Math.Seq.{drop-cons}
use Rattle.std.proofs.lemmas.List.{take-append-drop, take_more, map_push, take_all, append-nil}
use Rattle.adb_model.specs.State.{State}
use Rattle.adb_model.specs.Call as machine
use Rattle.adb_model.specs.Seen.{call_of, reply_of}
use Rattle.adb_model.specs.declared.call.Call.{Call}
use Rattle.adb_model.specs.declared.call.Reply.{Reply}
use Rattle.script.specs.declared.line.Line as code
use Rattle.dir_io.specs.Files.{Files}
use Rattle.script.specs.Seen.{line_seen}
use Rattle.book_parts.specs.Stands.{with_event}
use Rattle.replay.specs.Standing.{Lanes, PlayerStands, asked, HasMade, HasMadeFirst}
use Rattle.replay.specs.Journaled.{PlayedInPart, CutLater}

take_one : {X : Type 0} (xs : List X) (i : ℕ) (x : X) → i < length xs → x ≡ get_or xs i x → take (i + 1) xs ≡ take i xs ++ x ∷ []
take_one xs i x lt is = take_more xs i x lt ∙ ap (λ (y : _). take i xs ++ y ∷ []) (sym is)

split_here : {X : Type 0} (xs : List X) (i : ℕ) (x : X) → i < length xs → x ≡ get_or xs i x → xs ≡ take i xs ++ x ∷ drop (i + 1) xs
split_here xs i x lt is =
    let rest : drop i xs ≡ x ∷ drop (i + 1) xs = rw add-one (drop-cons xs i x lt ∙ ap (λ (y : _). y ∷ drop (suc i) xs) (sym is)) in
    sym (take-append-drop i xs) ∙ ap (λ (l : List _). take i xs ++ l) rest

pub map_over : {X Y : Type 0} (f : X → Y) (xs ys : List X) → map f (xs ++ ys) ≡ map f xs ++ map f ys
map_over f [] ys = refl
map_over f (x ∷ xs) ys = ap (λ (l : List _). f x ∷ l) (map_over f xs ys)

module _ {X Y : Type 0} (f : X → Y) (xs : List X) (i : ℕ) (x : X) where
  -- one more element
  pub mapped_more : i < length xs → x ≡ get_or xs i x → map f (take i xs) ++ f x ∷ [] ≡ map f (take (i + 1) xs)
  mapped_more lt is = sym (ap (λ (l : List X). map f l) (take_one xs i x lt is) ∙ map_push f (take i xs) x)

  -- the element at hand, and those after it
  pub mapped_split : i < length xs → x ≡ get_or xs i x → map f xs ≡ (map f (take i xs) ++ f x ∷ []) ++ map f (drop (i + 1) xs)
  mapped_split lt is =
      ap (λ (l : List X). map f l) (split_here xs i x lt is) ∙ map_over f (take i xs) (x ∷ drop (i + 1) xs)
      ∙ sym (append_assoc (map f (take i xs)) (f x ∷ []) (map f (drop (i + 1) xs)))

-- ---- lines

-- the line at hand was played in part
pub cut_short : (f h : Option Files) (a c : Option (List ℕ)) (budget : Option ℕ) (opened : Option (List ℕ)) (xs : List code.Line) (i : ℕ) (x : code.Line) → i < length xs → x ≡ get_or xs i x
    → PlayedInPart f h a c (record { budget = budget; opened = opened; lines = map line_seen (take i xs) ++ line_seen x ∷ [] }) → CutLater f h a c (record { budget = budget; opened = opened; lines = map line_seen xs })
cut_short f h a c budget opened xs i x lt is part = record {
  first = map line_seen (take i xs) ++ line_seen x ∷ [];
  rest = map line_seen (drop (i + 1) xs);
  split = mapped_split line_seen xs i x lt is;
  part = part;
}

-- ---- calls

module _ (p : Lanes) (start : State) (h : List machine.Event) (calls : List (ℕ × Call)) (i : ℕ) where
  -- one more call was made
  pub one_made : (q : Lanes) (x : ℕ × Call) (replies : List Reply) (reply : Reply) → i < length calls → x ≡ get_or calls i x
      → HasMade p start h (map asked (take i calls)) replies
      → ((g : List machine.Event) → PlayerStands p start g → PlayerStands q start (with_event g x.0 (call_of x.1) (Some (reply_of reply))))
      → HasMade q start h (map asked (take (i + 1) calls)) (replies ++ reply ∷ [])
  one_made q x replies reply lt is made step =
      let e : machine.Event = record { pass = x.0; call = call_of x.1; reply = reply_of reply } in
      record {
        events = made.events ++ e ∷ [];
        are_of = map_push (λ (v : machine.Event). (v.pass, v.call)) made.events e ∙ ap (λ (l : List (ℕ × machine.Call)). l ++ asked x ∷ []) made.are_of ∙ mapped_more asked calls i x lt is;
        replied = map_push (λ (v : machine.Event). v.reply) made.events e ∙ ap (λ (l : List machine.Reply). l ++ reply_of reply ∷ []) made.replied ∙ sym (map_push reply_of replies reply);
        stands = subst (λ (l : List machine.Event). PlayerStands q start l) (append_assoc h made.events (e ∷ [])) (step (h ++ made.events) made.stands);
      }

  -- the first calls were made, and no more
  pub first_made : (replies : List Reply) → HasMade p start h (map asked (take i calls)) replies → HasMadeFirst p start h (map asked calls)
  first_made replies made = record {
    first = map asked (take i calls);
    rest = map asked (drop i calls);
    split = ap (λ (l : List (ℕ × Call)). map asked l) (sym (take-append-drop i calls)) ∙ map_over asked (take i calls) (drop i calls);
    events = made.events;
    are_of = made.are_of;
    stands = made.stands;
  }

-- no call was made yet
pub nothing_made : (p : Lanes) (start : State) (h : List machine.Event) (calls : List (ℕ × Call)) (replies : List Reply) → PlayerStands p start h → replies ≡ [] → HasMade p start h (map asked (take 0 calls)) replies
nothing_made p start h calls replies st empty = record {
  events = [];
  are_of = refl;
  replied = sym (ap (λ (l : List Reply). map reply_of l) empty);
  stands = subst (λ (l : List machine.Event). PlayerStands p start l) (sym (append-nil h)) st;
}

-- all calls were made
pub all_made : (p : Lanes) (start : State) (h : List machine.Event) (calls : List (ℕ × Call)) (i : ℕ) (replies : List Reply) → length calls ≤ i → HasMade p start h (map asked (take i calls)) replies → HasMade p start h (map asked calls) replies
all_made p start h calls i replies le made = subst (λ (l : List (ℕ × Call)). HasMade p start h (map asked l) replies) (take_all i calls le) made

-- the player changed, and stands for what it stood for
pub kept_made : (p q : Lanes) (start : State) (h : List machine.Event) (calls : List (ℕ × machine.Call)) (replies : List Reply) → HasMade p start h calls replies
    → ((g : List machine.Event) → PlayerStands p start g → PlayerStands q start g) → HasMade q start h calls replies
kept_made p q start h calls replies made same = record { events = made.events; are_of = made.are_of; replied = made.replied; stands = same (h ++ made.events) made.stands }

pub always : {T E P : Type 0} (r : Result T E) → P → OnErr r P
always (Ok x) p = tt
always (Err e) p = p
