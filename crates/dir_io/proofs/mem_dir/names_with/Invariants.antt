use Rattle.std.proofs.Common.{◌≡◌, ℕ, List, take}
use Rattle.std.specs.List.{list_any}
use Rattle.std.specs.BTreeSet.{contains_text}
use Rattle.dir_io.proofs.Listed.{is_wanted}
use Rattle.dir_io.proofs.mem_dir.names_with.Given as goal

abbrev pub invariant-loop-file : goal.invariant-loop-file
invariant-loop-file l = (q : List ℕ) → contains_text l.names q ≡ list_any (is_wanted l.prefix q) (take l.file-index l.file-items)
