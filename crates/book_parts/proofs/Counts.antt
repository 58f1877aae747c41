-- The counts of a state are those of the parts that reflect it.
use Rattle.std.proofs.Common.{◌≡◌, sym, ap}
use Rattle.adb_model.specs.State.{State}
use Rattle.adb_model.specs.Call.{Counted}
use Rattle.adb_model.specs.Stats.{counts_of}
use Rattle.book_parts.specs.Parts.{Parts}
use Rattle.book_parts.specs.Reflects.{Reflects, counts_in}

pub counted : (p : Parts) (m : State) → Reflects p m → Counted (counts_of m) ≡ Counted (counts_in p)
counted p m r = ap Counted (sym r.counts)
