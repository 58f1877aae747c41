use Rattle.std.proofs.Common.{◌<◌, ◌^◌, drop}
use Rattle.text_fields.proofs.NumberLemmas.{HasRead}
use Rattle.text_fields.proofs.number.read_number.Given as goal

abbrev pub invariant-loop-byte : goal.invariant-loop-byte
invariant-loop-byte l = HasRead l.word l.number (drop l.byte-index l.word) × (l.number < 2 ^ 64)
