use Rattle.std.proofs.Common.{◌≡◌, ◌+◌, ◌≤◌, length}
use Rattle.std.specs.Str.Lines.{lines}
use Rattle.script.specs.Reader.{unskipped}
use Rattle.script.specs.Seen.{most_number}
use Rattle.script.proofs.parsing.past_skipped.Given as goal

abbrev pub invariant-loop-line : goal.invariant-loop-line
invariant-loop-line l = record {
  lines : unskipped l.number (lines l.bytes) ≡ unskipped l.rest.number (lines l.rest.bytes.now);
  counted : l.number + length l.bytes ≤ most_number l.rest;
}

abbrev pub decreases-loop-line : goal.decreases-loop-line
decreases-loop-line l = length l.bytes
