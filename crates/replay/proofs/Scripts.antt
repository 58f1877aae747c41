-- The lines of a script can be played.
use Rattle.std.proofs.Common.{◌≡◌, ℕ, Bool, true, false, cond, List, [], ◌∷◌, ◌++◌, map, Option, Some, None, refl, subst}
use Rattle.std.specs.List.{All, AllByRecursion}
use Rattle.std.proofs.lemmas.List.Elements.{All-from_recursion, All-head, All-tail, All-map}
use Rattle.adb_model.specs.Call.{Call, Reclaim}
use Rattle.text_fields.specs.Names.{is_name, name_of}
use Rattle.script.specs.Grammar.{IsOrder, AreLines, AreOpened, AreSaid}
use Rattle.script.specs.Said.{Order, Plain, Get, Flush, Clean, Shrink, Snap, Line}
use Rattle.script.specs.declared.line.Line as code
use Rattle.script.specs.Seen.{line_seen}
use Rattle.replay.specs.Standing.{IsOfFewKeys}
use Rattle.replay.specs.Saved.{snap_line}
use Rattle.replay.specs.Playing.{IsWithinLimits, IsPlayable}
use Rattle.replay.proofs.Snapshots.{AreNamed}

-- a word that is read as a name is one, and itself
is_own : (word name : List ℕ) → name_of word ≡ Some name → is_name name ≡ true
unfolding name_of
is_own word name read = by (is_name word) refl read
  where
    by : (b : Bool) → is_name word ≡ b → cond b (Some word) None ≡ Some name → is_name name ≡ true
    by true is e = let same : word ≡ name = cc in subst (λ (w : List ℕ). is_name w ≡ true) same is
    by false is e = absurd cc

few_keys : (ws : List (List ℕ)) (call : Call) → IsOrder ws (Plain call) → IsOfFewKeys call
few_keys ws (Reclaim after most) h = (h.most_is.least, h.most_is.most)
few_keys ws call h = tt

within_limits : (ws : List (List ℕ)) (order : Order) → IsOrder ws order → IsWithinLimits order
within_limits ws (Plain call) h = few_keys ws call h
within_limits ws (Get view key) h = tt
within_limits ws (Flush slot workers) h = (h.workers_are.least, h.workers_are.most)
within_limits ws (Clean upto) h = tt
within_limits ws (Shrink slot) h = tt
within_limits ws (Snap slot name) h = is_own h.name_word name h.name_is

each_is_playable : (words : List (List (List ℕ))) (lines : List code.Line) → AreLines words (map line_seen lines) → AllByRecursion (λ (l : code.Line). IsPlayable (line_seen l)) lines
each_is_playable [] [] h = tt
each_is_playable (ws ∷ words) [] h = tt
each_is_playable [] (l ∷ lines) h = absurd h
each_is_playable (ws ∷ words) (l ∷ lines) h = (((h.0.least, h.0.most), within_limits h.0.order_words (line_seen l).order h.0.order), each_is_playable words lines h.1)

lines_are_playable : (words : List (List (List ℕ))) (lines : List code.Line) → AreLines words (map line_seen lines) → All (λ (l : code.Line). IsPlayable (line_seen l)) lines
lines_are_playable words lines h = All-from_recursion (λ (l : code.Line). IsPlayable (line_seen l)) lines (each_is_playable words lines h)

opened_are_playable : (words : List (List (List ℕ))) (opened : Option (List ℕ)) (lines : List code.Line) → AreOpened words opened (map line_seen lines) → All (λ (l : code.Line). IsPlayable (line_seen l)) lines
opened_are_playable words None lines h = lines_are_playable words lines h
opened_are_playable [] (Some name) lines h = absurd h
opened_are_playable (ws ∷ words) (Some name) lines h = lines_are_playable words lines h.1

-- each line of a script can be played
pub are_playable : (words : List (List (List ℕ))) (budget : Option ℕ) (opened : Option (List ℕ)) (lines : List code.Line) → AreSaid words budget opened (map line_seen lines) → All (λ (l : code.Line). IsPlayable (line_seen l)) lines
are_playable words None opened lines h = opened_are_playable words opened lines h
are_playable [] (Some budget) opened lines h = absurd h
are_playable (ws ∷ words) (Some budget) opened lines h = opened_are_playable words opened lines h.1

-- the names that lines which can be played ask for
pub are_named : (lines : List code.Line) → All (λ (l : code.Line). IsPlayable (line_seen l)) lines → AreNamed (map line_seen lines)
are_named lines h front rest lane slot name split =
    (All-head IsPlayable (snap_line lane slot name) rest (All-drop_front front (snap_line lane slot name ∷ rest) (subst (λ (ls : List Line). All IsPlayable ls) split (All-map IsPlayable line_seen lines h)))).1
  where
    All-drop_front : (xs ys : List Line) → All IsPlayable (xs ++ ys) → All IsPlayable ys
    All-drop_front [] ys h = h
    All-drop_front (x ∷ xs) ys h = All-drop_front xs ys (All-tail IsPlayable x (xs ++ ys) h)
