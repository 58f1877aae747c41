use Rattle.std.proofs.Common.{◌*◌, length, arith, refl, ◌∙◌}
use Rattle.hex.proofs.Pairs.{decode_step, decode_done, decode_err, decode_sized-pairs}
use Rattle.text_fields.proofs.hex_digits.read_pairs.Goals as goal

pub returns-in-None : goal.returns-in-None
returns-in-None c =
    let bad = c.in-None.ensures.none refl (2 * c.loop-i.i) in
    let whole = decode_sized-pairs c.args.word.now (length c.args.out.now) (omega arith) (omega arith) in
    rw (whole ∙ decode_err c.args.word.now c.loop-i.out c.loop-i.i bad.0 (omega arith) bad.1 c.loop-i.invariant) refl

pub loop-i-preserved : goal.loop-i-preserved
loop-i-preserved c =
    decode_step c.args.word.now c.loop-i.out c.loop-i.i c.in-Some.byte (omega arith) (omega arith) (c.in-Some.ensures.some (2 * c.loop-i.i)) c.loop-i.invariant

pub returns : goal.returns
returns c =
    let whole = decode_sized-pairs c.args.word.now (length c.args.out.now) (omega arith) (omega arith) in
    rw (whole ∙ decode_done c.args.word.now c.loop-i.out c.loop-i.i (omega arith) (omega arith) c.loop-i.invariant) (refl, refl)
