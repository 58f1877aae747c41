use Rattle.std.proofs.Common.{ℕ, ◌/◌, ◌≤◌, length, arith, refl}
use Rattle.std.proofs.Math.ListN.{replicate}
use Rattle.std.proofs.lemmas.List.{length-take-le}
use Rattle.text_fields.proofs.KeyLemmas.{key_decoded, key_refused, key_odd}
use Rattle.text_fields.proofs.key.read_key.Goals as goal

pub returns-then-word-eq1 : goal.returns-then-word-eq1
returns-then-word-eq1 c = key_odd c.args.word.now (omega arith)

pub returns-then-read_pairs : goal.returns-then-read_pairs
returns-then-read_pairs c =
    let le : length c.args.word.now / 2 ≤ 32 = omega arith in
    key_decoded c.args.word.now c.read_pairs.new.out (length c.args.word.now / 2) c.read_pairs.result (rw (length-take-le {A = ℕ} (length c.args.word.now / 2) (replicate 32 0) le) at c.read_pairs.ensures) c.if-read_pairs.true refl (omega arith) (omega arith)

pub returns-else-read_pairs : goal.returns-else-read_pairs
returns-else-read_pairs c =
    let le : length c.args.word.now / 2 ≤ 32 = omega arith in
    key_refused c.args.word.now c.read_pairs.new.out (length c.args.word.now / 2) c.read_pairs.result (rw (length-take-le {A = ℕ} (length c.args.word.now / 2) (replicate 32 0) le) at c.read_pairs.ensures) c.if-read_pairs.false (omega arith) (omega arith) (omega arith)
