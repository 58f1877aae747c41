use Rattle.std.proofs.Common.{◌≡◌, ℕ, List, take, cond, eqb, ◌&&◌, None}
use Rattle.write_cache.specs.Rows.{rows}
use Rattle.adb_model.specs.Presence.{has_row}
use Rattle.book_parts.specs.Reflects.{indexed}
use Rattle.book_parts.specs.Changes.{SameHolds}
use Rattle.book.proofs.purging.leave.Given as goal

abbrev pub invariant-loop-at : goal.invariant-loop-at
invariant-loop-at l = record {
  versions : (k : List ℕ) (s : ℕ) → indexed l.index s k ≡ cond (eqb l.slot s && has_row k (take l.at (rows l.cache l.slot))) None (indexed l.fn.index s k);
  holds : SameHolds l.fn.index l.index;
}
