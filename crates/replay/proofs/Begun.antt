-- Which of a script's lines began a snapshot.
use Rattle.std.proofs.Common.{◌≡◌, ◌⊎◌, ℕ, List, [], ◌∷◌, ◌++◌, map, Option, Some, None, refl, sym, ap, ◌∙◌, subst, append_assoc, inl, inr}
use Rattle.adb_model.specs.Call.{Call, Reply, Event, SnapBegin, SnapBegun}
use Rattle.adb_model.specs.Plays as plays
use Rattle.adb_model.specs.Plays.{Follow, Plays, next_call}
use Rattle.script.specs.Said.{Order, Plain, Get, Flush, Clean, Shrink, Snap, Line, line_played}
use Rattle.replay.specs.Saved.{event_of, snap_line, Begins, HasBegun, BeginsSnap}
use Rattle.replay.specs.Playing.{snap_asked}
use Rattle.replay.proofs.Turns.{map_over}

-- ---- lists

head_same : {X : Type 0} {x y : X} {xs ys : List X} → x ∷ xs ≡ y ∷ ys → x ≡ y
head_same e = cc

tail_same : {X : Type 0} {x y : X} {xs ys : List X} → x ∷ xs ≡ y ∷ ys → xs ≡ ys
tail_same e = cc

rest_same : {X : Type 0} (xs ys zs : List X) → xs ++ ys ≡ xs ++ zs → ys ≡ zs
rest_same [] ys zs e = e
rest_same (x ∷ xs) ys zs e = rest_same xs ys zs (tail_same e)

not_empty : {X : Type 0} (xs : List X) (y : X) (ys : List X) → [] ≡ xs ++ y ∷ ys → ⊥
not_empty [] y ys e = absurd cc
not_empty (x ∷ xs) y ys e = absurd cc

-- an element of a list with one more is in the list, or the last
last_or_earlier : {X : Type 0} (xs : List X) (l s : X) (front rest : List X) → xs ++ l ∷ [] ≡ front ++ s ∷ rest
    → ((more : List X) × (xs ≡ front ++ s ∷ more)) ⊎ ((front ≡ xs) × (s ≡ l))
last_or_earlier [] l s [] rest e = inr (refl, sym (head_same e))
last_or_earlier [] l s (y ∷ front) rest e = absurd (not_empty front s rest (tail_same e))
last_or_earlier (x ∷ xs) l s [] rest e = inl (xs, ap (λ (z : _). z ∷ xs) (head_same e))
last_or_earlier (x ∷ xs) l s (y ∷ front) rest e = elim (last_or_earlier xs l s front rest (tail_same e)) [
  | inl h ↦ inl (h.0, ap (λ (z : _). z ∷ xs) (head_same e) ∙ ap (λ (t : List _). y ∷ t) h.1)
  | inr h ↦ inr (ap (λ (z : _). z ∷ front) (sym (head_same e)) ∙ ap (λ (t : List _). x ∷ t) h.0, h.1)
]

-- ---- a history's events are those of its lines in one way

none_some : {X : Type 0} {o : Option X} {x : X} → o ≡ None → o ≡ Some x → ⊥
none_some e f = let no : None ≡ Some _ = sym e ∙ f in absurd cc

follow_same : (line : plays.Line) (reply : Option Reply) (h g a b : List Event) → Follow line reply h → Follow line reply g → h ++ a ≡ g ++ b → h ≡ g
follow_same line reply [] [] a b f k e = refl
follow_same line reply [] (y ∷ g) a b f k e = absurd (none_some f k.1)
follow_same line reply (x ∷ h) [] a b f k e = absurd (none_some k f.1)
follow_same line reply (x ∷ h) (y ∷ g) a b f k e =
    let one : x ≡ y = head_same e in
    let rest = follow_same line (Some x.reply) h g a b f.2 (subst (λ (z : Event). Follow line (Some z.reply) g) (sym one) k.2) (tail_same e) in
    ap (λ (z : Event). z ∷ h) one ∙ ap (λ (t : List Event). y ∷ t) rest

pub plays_same : (xs : List plays.Line) (h g a b : List Event) → Plays xs h → Plays xs g → h ++ a ≡ g ++ b → h ≡ g
plays_same [] h g a b p q e = p ∙ sym q
plays_same (x ∷ xs) h g a b p q e =
    let left : h ++ a ≡ p.0 ++ (p.1 ++ a) = ap (λ (t : List Event). t ++ a) p.2 ∙ append_assoc p.0 p.1 a in
    let right : g ++ b ≡ q.0 ++ (q.1 ++ b) = ap (λ (t : List Event). t ++ b) q.2 ∙ append_assoc q.0 q.1 b in
    let both : p.0 ++ (p.1 ++ a) ≡ q.0 ++ (q.1 ++ b) = sym left ∙ e ∙ right in
    let first : p.0 ≡ q.0 = follow_same x None p.0 q.0 (p.1 ++ a) (q.1 ++ b) p.3 q.3 both in
    let rest : p.1 ≡ q.1 = plays_same xs p.1 q.1 a b p.4 q.4 (rest_same p.0 (p.1 ++ a) (q.1 ++ b) (both ∙ ap (λ (t : List Event). t ++ (q.1 ++ b)) (sym first))) in
    p.2 ∙ ap (λ (t : List Event). t ++ p.1) first ∙ ap (λ (t : List Event). q.0 ++ t) rest ∙ sym q.2

pub plays_split : (xs ys : List plays.Line) (h : List Event) → Plays (xs ++ ys) h → (a b : List Event) × (h ≡ a ++ b) × Plays xs a × Plays ys b
plays_split [] ys h p = ([], h, refl, refl, p)
plays_split (x ∷ xs) ys h p =
    let more = plays_split xs ys p.1 p.4 in
    (p.0 ++ more.0, more.1, p.2 ∙ ap (λ (t : List Event). p.0 ++ t) more.2 ∙ sym (append_assoc p.0 more.0 more.1), (p.0, more.0, refl, p.3, more.3), more.4)

-- ---- the last line

-- what begins with a line's events begins with those of the line
begins_front : (lane slot : ℕ) (name : List ℕ) (group rest events after : List Event) → Follow (line_played (snap_line lane slot name)) None group
    → (group ++ rest) ++ events ≡ after → Begins lane slot after → Begins lane slot (group ++ rest)
begins_front lane slot name [] rest events after follow is begins = absurd (none_some follow refl)
begins_front lane slot name (e ∷ group) rest events after follow is begins =
    (begins.0, group ++ rest, ap (λ (z : Event). z ∷ (group ++ rest)) (head_same (is ∙ begins.2)))

module _ (lines : List Line) (l : Line) (history events : List Event) (plays : Plays (map line_played lines) history) where
  -- a snapshot of one more line is an earlier one, or the last line's
  pub begun_last : (slot : ℕ) (name : List ℕ) (before : List Event) → HasBegun (lines ++ l ∷ []) (history ++ events) slot name before
      → HasBegun lines history slot name before ⊎ ((before ≡ history) × BeginsSnap l events slot name)
  begun_last slot name before h = elim (last_or_earlier lines l line h.front h.rest h.split) [
    | inl more ↦ inl (earlier more.0 more.1)
    | inr last ↦ inr (here last.0 last.1)
  ]
    where
      line : Line
      line = snap_line h.lane slot name

      earlier : (more : List Line) → lines ≡ h.front ++ line ∷ more → HasBegun lines history slot name before
      earlier more split =
          let played : Plays (map line_played h.front ++ map line_played (line ∷ more)) history =
          subst (λ (ls : List _). Plays ls history) (ap (map line_played) split ∙ map_over line_played h.front (line ∷ more)) plays in
          let parts = plays_split (map line_played h.front) (map line_played (line ∷ more)) history played in
          let own = parts.4 in
          let whole : parts.0 ++ (parts.1 ++ events) ≡ before ++ h.after =
          sym (append_assoc parts.0 parts.1 events) ∙ ap (λ (t : List Event). t ++ events) (sym parts.2) ∙ h.made in
          let same : parts.0 ≡ before = plays_same (map line_played h.front) parts.0 before (parts.1 ++ events) h.after parts.3 h.played whole in
          let after : parts.1 ++ events ≡ h.after = rest_same parts.0 (parts.1 ++ events) h.after (whole ∙ ap (λ (t : List Event). t ++ h.after) (sym same)) in
          record {
            front = h.front;
            lane = h.lane;
            rest = more;
            after = parts.1;
            split = split;
            made = parts.2 ∙ ap (λ (t : List Event). t ++ parts.1) same;
            played = h.played;
            begins = subst (Begins h.lane slot) (sym own.2) (begins_front h.lane slot name own.0 own.1 events h.after own.3 (ap (λ (t : List Event). t ++ events) (sym own.2) ∙ after) h.begins);
          }

      here : h.front ≡ lines → line ≡ l → (before ≡ history) × BeginsSnap l events slot name
      here front is =
          let same : before ≡ history = plays_same (map line_played lines) before history h.after events
          (subst (λ (ls : List Line). Plays (map line_played ls) before) front h.played) plays (sym h.made) in
          let after : events ≡ h.after = rest_same history events h.after (h.made ∙ ap (λ (t : List Event). t ++ h.after) same) in
          (same, record { lane = h.lane; is = sym is; begins = subst (Begins h.lane slot) (sym after) h.begins })

  -- the last line's snapshot
  pub begun_here : (slot : ℕ) (name : List ℕ) → BeginsSnap l events slot name → HasBegun (lines ++ l ∷ []) (history ++ events) slot name history
  begun_here slot name h = record {
    front = lines;
    lane = h.lane;
    rest = [];
    after = events;
    split = ap (λ (z : Line). lines ++ z ∷ []) h.is;
    made = refl;
    played = plays;
    begins = h.begins;
  }

-- a snapshot that began is one of more lines, too
pub begun_more : (lines ls : List Line) (history es : List Event) (slot : ℕ) (name : List ℕ) (before : List Event) → HasBegun lines history slot name before → HasBegun (lines ++ ls) (history ++ es) slot name before
begun_more lines ls history es slot name before h = record {
  front = h.front;
  lane = h.lane;
  rest = h.rest ++ ls;
  after = h.after ++ es;
  split = ap (λ (t : List Line). t ++ ls) h.split ∙ append_assoc h.front (snap_line h.lane slot name ∷ h.rest) ls;
  made = ap (λ (t : List Event). t ++ es) h.made ∙ append_assoc before h.after es;
  played = h.played;
  begins = (h.begins.0, h.begins.1 ++ es, ap (λ (t : List Event). t ++ es) h.begins.2);
}

-- none began without lines
pub none_begun : (history : List Event) (slot : ℕ) (name : List ℕ) (before : List Event) → HasBegun [] history slot name before → ⊥
none_begun history slot name before h = not_empty h.front (snap_line h.lane slot name) h.rest h.split

snap_slot : {slot other : ℕ} {name other_name : List ℕ} → Snap slot name ≡ Snap other other_name → slot ≡ other
snap_slot e = cc

snap_name : {slot other : ℕ} {name other_name : List ℕ} → Snap slot name ≡ Snap other other_name → name ≡ other_name
snap_name e = cc

-- a line asks for one snapshot
pub one_asked : (l : Line) (events : List Event) (slot other : ℕ) (name other_name : List ℕ) → BeginsSnap l events slot name → BeginsSnap l events other other_name → (slot ≡ other) × (name ≡ other_name)
one_asked l events slot other name other_name h k =
    let same : Snap slot name ≡ Snap other other_name = ap (λ (x : Line). x.order) (sym h.is ∙ k.is) in
    (snap_slot same, snap_name same)

-- a line that asks for this snapshot
pub asked_line : (l : Line) (slot : ℕ) (name : List ℕ) → snap_asked l.order ≡ Some (slot, name) → l ≡ snap_line l.lane slot name
asked_line l slot name e = ap (λ (o : Order). record { lane = l.lane; order = o }) (order l.order e)
  where
    order : (o : Order) → snap_asked o ≡ Some (slot, name) → o ≡ Snap slot name
    order (Plain call) e = absurd cc
    order (Get view key) e = absurd cc
    order (Flush s workers) e = absurd cc
    order (Clean upto) e = absurd cc
    order (Shrink s) e = absurd cc
    order (Snap s n) e = let same : (s, n) ≡ (slot, name) = cc in ap (λ (p : ℕ × List ℕ). Snap p.0 p.1) same

-- a line that asks for none began none
pub none_asked : (l : Line) (events : List Event) (slot : ℕ) (name : List ℕ) → snap_asked l.order ≡ None → BeginsSnap l events slot name → ⊥
none_asked l events slot name none h =
    let asked : Option (ℕ × List ℕ) = Some (slot, name) in
    let no : None ≡ asked = sym none ∙ ap (λ (x : Line). snap_asked x.order) h.is in
    absurd cc
