-- What the files that a directory in memory keeps stand for, and what a directory over a folder keeps.
use Rattle.std.specs.Prelude.{ℕ, Bool, ◌==◌, ◌&&◌, not, List, map, length, string_bytes}
use Rattle.std.specs.BTreeSet.{BTreeSet}
use Rattle.std.specs.declared.string.String.{String}
use Rattle.std.specs.declared.vec.Vec.{Vec}
use Rattle.dir_io.specs.Files.{Files}

-- names and bytes as they are kept
abbrev pub seen : {A B : Type 0} → List (String A × Vec ℕ B) → Files
seen files = map (λ f. (string_bytes f.0, f.1.items)) files

-- none of the written files and folders is left to be synced, and no sync failed
abbrev pub is_synced : {A : Type 0} → BTreeSet (String A) → Bool → Bool
is_synced written is_lost = length written.keys == 0 && not is_lost
