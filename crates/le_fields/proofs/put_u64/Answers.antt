use Rattle.std.proofs.Common.{◌≡◌, ◌+◌, ◌-◌, ℕ, List, [], ◌++◌, drop, take, length, ap, ◌∙◌, arith}
use Rattle.std.specs.Int.{w64, from_le_bytes, to_le_bytes}
use Rattle.std.proofs.lemmas.List.{length-drop, length-take, nil_from_length}
use Rattle.std.proofs.lemmas.Nat.{from_le_bytes-to_le_bytes_8}
use Rattle.std.proofs.lemmas.Slice.{between-put_mid}
use Rattle.le_fields.proofs.put_u64.Goals as goal

-- what stands in the range after the write
pub returns-clause-reads_back : goal.returns-clause-reads_back
returns-clause-reads_back c =
    let at = c.args.at in
    let part = take (at + 8 - at) (drop at c.args.bytes.now) in
    let none : drop 8 part ≡ [] = nil_from_length (drop 8 part) (omega (arith, length-drop 8 part, length-take (at + 8 - at) (drop at c.args.bytes.now))) in
    let now : c.write_u64.new.buf ≡ to_le_bytes w64 c.args.value = c.write_u64.ensures ∙ ap (λ (rest : List ℕ). to_le_bytes w64 c.args.value ++ rest) none in
    ap (λ (bytes : List ℕ). from_le_bytes w64 bytes) (between-put_mid at (at + 8 - at) c.args.bytes.now c.write_u64.new.buf (at + 8) (omega arith) (ap length now ∙ omega arith) ∙ now)
    ∙ from_le_bytes-to_le_bytes_8 c.args.value (omega arith)
