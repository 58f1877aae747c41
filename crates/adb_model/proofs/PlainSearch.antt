-- A search of the program's list of stores gives what the machine's words say of it.
use Rattle.std.proofs.Common.{◌≡◌, ℕ, Bool, true, false, cond, ◌==◌, ◌&&◌, List, [], ◌∷◌, map, filter, find, reverse, Option, Some, None, option_map, option_and_then, unwrap_or, refl, sym, ap, ◌∙◌}
use Rattle.std.specs.Option.{option_or}
use Rattle.std.specs.Str.{bytes_eq}
use Rattle.std.specs.declared.sync.Arc.{Arc}
use Rattle.std.specs.Global.{Global}
use mathlib.Core.List.{reverse-cons}
use Rattle.std.proofs.lemmas.List.Folds.{find-append}
use Rattle.adb_model.specs.Account.{Account}
use Rattle.adb_model.specs.View.{View}
use Rattle.adb_model.specs.State.{Stored}
use Rattle.adb_model.specs.Lists.{last, greatest}
use Rattle.adb_model.specs.Load.{sees, slots_with, last_store, unless_tomb, latest, answer}
use Rattle.adb_model.specs.Seen.{stored_of, state_with, place_in}
use Rattle.adb_model.specs.declared.key.Key.{Key}

abbrev Entry : Type 0
Entry = ℕ × Key × Arc Account Global

abbrev pub is_entry_of : ℕ → List ℕ → Entry → Bool
is_entry_of s k t = t.0 == s && bytes_eq t.1.0 k

-- the slots of the key's stores
abbrev pub slots_in : List Entry → List ℕ → List ℕ
slots_in stores k = map (λ t. t.0) (filter (λ t. bytes_eq t.1.0 k) stores)

-- the greatest of them that the view sees
abbrev pub greatest_in : List Entry → List ℕ → View → List ℕ → Option ℕ
greatest_in stores roots v k = greatest (filter (sees (state_with [] roots) v) (slots_in stores k))

slots_seen : (stores : List Entry) (roots : List ℕ) (k : List ℕ) → slots_with (state_with stores roots) k ≡ slots_in stores k
slots_seen [] roots k = refl
slots_seen (t ∷ stores) roots k = by (bytes_eq t.1.0 k) (slots_seen stores roots k)
  where
    by : (b : Bool) → map {A = Stored} {B = ℕ} (λ u. u.slot) (filter (λ u. bytes_eq u.key k) (map stored_of stores)) ≡ slots_in stores k → map {A = Stored} {B = ℕ} (λ u. u.slot) (cond b (stored_of t ∷ filter (λ u. bytes_eq u.key k) (map stored_of stores)) (filter (λ u. bytes_eq u.key k) (map stored_of stores)))
        ≡ map {A = Entry} {B = ℕ} (λ u. u.0) (cond b (t ∷ filter (λ u. bytes_eq u.1.0 k) stores) (filter (λ u. bytes_eq u.1.0 k) stores))
    by true e = ap (λ (l : List ℕ). t.0 ∷ l) e
    by false e = e

module _ {X Y : Type 0} (f : X → Y) (p : Y → Bool) where
  -- the last that passes, with one more element in front
  last_cons : (x : X) (b : Bool) (o : Option X) (ys : List Y) → last ys ≡ option_map f o → last (cond b (f x ∷ ys) ys) ≡ option_map f (option_or o (cond b (Some x) None))
  last_cons x true None ys e = ap (λ (l : Option Y). Some (unwrap_or l (f x))) e
  last_cons x true (Some y) ys e = ap (λ (l : Option Y). Some (unwrap_or l (f x))) e
  last_cons x false None ys e = e
  last_cons x false (Some y) ys e = e

  -- the last that passes is the first that passes from the end
  last_found : (xs : List X) → last (filter p (map f xs)) ≡ option_map f (find (λ x. p (f x)) (reverse xs))
  last_found [] = refl
  last_found (x ∷ xs) =
      last_cons x (p (f x)) (find (λ y. p (f y)) (reverse xs)) (filter p (map f xs)) (last_found xs)
      ∙ ap (option_map f) (sym (ap (find (λ y. p (f y))) (reverse-cons x xs) ∙ find-append (λ y. p (f y)) (reverse xs) (x ∷ [])))

-- the last store of the key in the slot
abbrev pub last_in : List Entry → ℕ → List ℕ → Option Entry
last_in stores s k = find (is_entry_of s k) (reverse stores)

last_seen : (stores : List Entry) (roots : List ℕ) (s : ℕ) (k : List ℕ) → last_store (state_with stores roots) s k ≡ option_map stored_of (last_in stores s k)
last_seen stores roots s k = last_found stored_of (λ t. t.slot == s && bytes_eq t.key k) stores

latest_seen : (stores : List Entry) (roots : List ℕ) (v : View) (k : List ℕ) (o : Option ℕ) → o ≡ greatest_in stores roots v k → latest (state_with stores roots) v k ≡ option_and_then (λ s. option_map stored_of (last_in stores s k)) o
latest_seen stores roots v k o e =
    ap (λ (slots : List ℕ). option_and_then (λ s. last_store (state_with stores roots) s k) (greatest (filter (sees (state_with [] roots) v) slots))) (slots_seen stores roots k)
    ∙ ap (λ (g : Option ℕ). option_and_then (λ s. last_store (state_with stores roots) s k) g) (sym e) ∙ by o
  where
    by : (g : Option ℕ) → option_and_then (λ s. last_store (state_with stores roots) s k) g ≡ option_and_then (λ s. option_map stored_of (last_in stores s k)) g
    by None = refl
    by (Some s) = last_seen stores roots s k

-- no slot that the view sees has a store of the key
pub answer_without_slot : (stores : List Entry) (roots : List ℕ) (v : View) (k : List ℕ) → None ≡ greatest_in stores roots v k → option_map place_in (answer (state_with stores roots) v k) ≡ None
answer_without_slot stores roots v k e = ap (λ (t : Option Stored). option_map place_in (option_and_then unless_tomb t)) (latest_seen stores roots v k None e)

-- the slot has no store of the key
pub answer_without_store : (stores : List Entry) (roots : List ℕ) (v : View) (k : List ℕ) (s : ℕ) → Some s ≡ greatest_in stores roots v k → last_in stores s k ≡ None → option_map place_in (answer (state_with stores roots) v k) ≡ None
answer_without_store stores roots v k s e none =
    ap (λ (t : Option Stored). option_map place_in (option_and_then unless_tomb t)) (latest_seen stores roots v k (Some s) e ∙ ap (option_map stored_of) none)

-- the slot's last store of the key, unless it is a tomb
pub answer_at_store : (stores : List Entry) (roots : List ℕ) (v : View) (k : List ℕ) (s : ℕ) (t : Entry) → Some s ≡ greatest_in stores roots v k → last_in stores s k ≡ Some t
    → option_map place_in (answer (state_with stores roots) v k) ≡ option_map place_in (unless_tomb (stored_of t))
answer_at_store stores roots v k s t e there =
    ap (λ (u : Option Stored). option_map place_in (option_and_then unless_tomb u)) (latest_seen stores roots v k (Some s) e ∙ ap (option_map stored_of) there)
