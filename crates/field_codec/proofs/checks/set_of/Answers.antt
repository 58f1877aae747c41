use Rattle.std.proofs.Common.{◌≡◌, true, ◌∙◌, string_bytes, rules, arith}
use Rattle.std.proofs.lemmas.Map.Text.{btree_set_updates_text}
use Rattle.field_codec.proofs.Listed.{one_more_in, all_in}
use Rattle.field_codec.proofs.checks.set_of.Goals as goal

pub loop-name-preserved : goal.loop-name-preserved
loop-name-preserved c = λ q.
    let key : string_bytes c.in_ok-clone.field-0 ≡ string_bytes c.name-item.result = search rules in
    btree_set_updates_text (string_bytes c.in_ok-clone.field-0) _ _ true c.in_ok-insert.ensures.updates q
    ∙ one_more_in c.args.names.now q c.loop-name.name-index c.name-item.result (string_bytes c.in_ok-clone.field-0) _ (omega arith) c.name-item.is key (c.loop-name.invariant q)

pub returns : goal.returns
returns c = λ q. all_in c.args.names.now q c.loop-name.name-index _ (omega arith) (c.loop-name.invariant q)
