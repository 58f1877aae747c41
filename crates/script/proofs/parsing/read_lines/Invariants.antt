use Rattle.std.proofs.Common.{◌≡◌, ◌+◌, ◌≤◌, length}
use Rattle.std.specs.Prelude.{map}
use Rattle.std.specs.Str.Lines.{lines}
use Rattle.script.specs.Reader.{lines_from}
use Rattle.script.specs.Seen.{line_seen}
use Rattle.script.proofs.LineLemmas.{after_lines}
use Rattle.script.proofs.parsing.read_lines.Given as goal

abbrev pub invariant-loop-rest : goal.invariant-loop-rest
invariant-loop-rest l = record {
  said : after_lines (map line_seen l.lines.items) (lines_from l.number (lines l.rest)) ≡ lines_from l.first (lines l.bytes);
  counted : l.number + length l.rest ≤ l.first + length l.bytes;
}

abbrev pub decreases-loop-rest : goal.decreases-loop-rest
decreases-loop-rest l = length l.rest
