use Rattle.std.proofs.Common.{◌≡◌, ◌++◌, List, ℕ, length}
use Rattle.std.specs.Io.KnownBytes.{Appends}
use Rattle.adb_model.specs.State.{State}
use Rattle.adb_model.specs.Call.{Event}
use Rattle.adb_model.specs.History.{state_after}
use Rattle.book_parts.specs.Stands.{Stands}
use Rattle.adb.proofs.Listed.{lines_of}
use Rattle.adb.proofs.opening.write_answers.Given as goal

-- the lines of the keys that were read are written
abbrev pub invariant-loop-accounts : goal.invariant-loop-accounts
invariant-loop-accounts g l = record {
  book : l.accounts.book ≡ l.fn.book;
  view : l.accounts.view ≡ l.fn.view;
  done : List (List ℕ);
  split : l.initial.accounts.keys ≡ done ++ l.accounts.keys;
  written : (start : State) (history : List Event) → Stands l.fn.book start history
      → Appends (g.K.Sink.taken l.fn.sink) (g.K.Sink.taken l.sink) (lines_of (state_after start history) l.fn.view done);
  kept : g.K.Sink.faults l.sink ≡ g.K.Sink.faults l.fn.sink;
}

abbrev pub decreases-loop-accounts : goal.decreases-loop-accounts
decreases-loop-accounts g l = length l.accounts.keys
