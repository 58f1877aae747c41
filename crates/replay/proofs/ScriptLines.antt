-- Lines that were played, cut or not saved, as lines of their script.
use Rattle.std.proofs.Common.{◌≡◌, ℕ, ◌+◌, ◌<◌, List, [], ◌∷◌, ◌++◌, length, map, take, drop, get_or, Option, refl, sym, ap, subst, ◌∙◌, append_assoc}
use Rattle.std.specs.Prelude.{IfSome}
use Rattle.dir_io.specs.Files.{Files}
use Rattle.field_codec.specs.Paths.{prefix_of}
use Rattle.snap_write.specs.Changes.{HasSome}
use Rattle.script.specs.Said.{Line, Said}
use Rattle.script.specs.declared.line.Line as code
use Rattle.script.specs.Seen.{line_seen}
use Rattle.replay.specs.declared.stops.Halt.{Halt}
use Rattle.replay.specs.declared.stops.Halt.TheVariants as halts
use Rattle.replay.specs.Standing.{Lanes}
use Rattle.replay.specs.Saved.{snap_line}
use Rattle.replay.specs.Journaled.{start_of}
use Rattle.replay.specs.Ending.{HaltsLines}
use Rattle.replay.specs.Playing.{IsPlayable, HasPlayed, SavedLine, HaltsLine}
use Rattle.replay.proofs.Snapshots.{SnapshotLaws, AreNamed}
use Rattle.replay.proofs.Histories.{more_played, more_cut, unwritten, journal_lost, kept_lost}
use Rattle.replay.proofs.Turns.{mapped_more, mapped_split, cut_short}

module _ (laws : SnapshotLaws) (f g h : Option Files) (a b c : Option (List ℕ)) (budget : Option ℕ) (opened : Option (List ℕ))
    (xs : List code.Line) (i : ℕ) (x : code.Line) (lt : i < length xs) (is : x ≡ get_or xs i x) (named : AreNamed (map line_seen xs)) (p : Lanes) where
  abbrev upto : ℕ → Said
  upto n = record { budget = budget; opened = opened; lines = map line_seen (take n xs) }

  abbrev whole : Said
  whole = record { budget = budget; opened = opened; lines = map line_seen xs }

  split : map line_seen xs ≡ (map line_seen (take i xs) ++ line_seen x ∷ []) ++ map line_seen (drop (i + 1) xs)
  split = mapped_split line_seen xs i x lt is

  named_upto : AreNamed (map line_seen (take i xs) ++ line_seen x ∷ [])
  named_upto front rest lane slot name e =
      named front (rest ++ map line_seen (drop (i + 1) xs)) lane slot name
      (split ∙ ap (λ (l : List Line). l ++ map line_seen (drop (i + 1) xs)) e ∙ append_assoc front (snap_line lane slot name ∷ rest) (map line_seen (drop (i + 1) xs)))

  module _ (before : HasPlayed p f g a b (upto i)) where
    pub line_played : (q : Lanes) → SavedLine q (start_of (upto i) before.done.run.opened) before.done.run.history b c g h (line_seen x) → HasPlayed q f h a c (upto (i + 1))
    line_played q made =
        subst (λ (ls : List Line). HasPlayed q f h a c (record { budget = budget; opened = opened; lines = ls })) (mapped_more line_seen xs i x lt is)
        (more_played a b c f g h (upto i) (line_seen x) p before laws named_upto q made)

    pub line_halted : (halt : Halt) → HaltsLine (start_of (upto i) before.done.run.opened) before.done.run.history b c g h (line_seen x) halt → HaltsLines f h a c whole halt
    line_halted (halts.Cut stop) cut = cut_short f h a c budget opened xs i x lt is (more_cut a b c f g h (upto i) (line_seen x) p before laws cut)
    line_halted halts.DirFault lost = (
      lost.0,
      unwritten laws a b c f g h (upto i) (line_seen x) p before named_upto lost.0 lost.1 (map line_seen xs) (map line_seen (drop (i + 1) xs)) split,
      journal_lost laws a b c f g h (upto i) (line_seen x) p before named_upto lost.0 lost.1 (map line_seen xs) (map line_seen (drop (i + 1) xs)) split,
    )
    line_halted (halts.Refused text) found = (
      found.name,
      unwritten laws a b c f g h (upto i) (line_seen x) p before named_upto found.name found.lost (map line_seen xs) (map line_seen (drop (i + 1) xs)) split,
      journal_lost laws a b c f g h (upto i) (line_seen x) p before named_upto found.name found.lost (map line_seen xs) (map line_seen (drop (i + 1) xs)) split,
      found.says,
      subst (λ (o : Option Files). IfSome o (HasSome (prefix_of found.name))) (sym found.same) found.exists,
      kept_lost laws a b c f g h (upto i) (line_seen x) p before named_upto found.name found.lost (map line_seen xs) (map line_seen (drop (i + 1) xs)) split found.same,
    )
