use Rattle.std.proofs.Common.{rules}
use Rattle.text_fields.proofs.HexTextLemmas.{more_put, all_put}
use Rattle.text_fields.proofs.hex_text.push_hex.Goals as goal

pub loop-left-preserved : goal.loop-left-preserved
loop-left-preserved c =
    rw (c.split_at.ensures.back) (more_put _ _ c.push_piece.new.text.bytes.items _ c.loop-left.left.now c.loop-left.invariant (rw (← c.split_at.ensures.front) (search rules)))

pub returns : goal.returns
returns c = all_put _ _ c.loop-left.left.now c.loop-left.invariant (search rules)
