use Rattle.std.proofs.Common.{sym, ◌∙◌}
use Rattle.accounts_index.specs.Index.{kept}
use Rattle.clean_plan.proofs.Dropping.{stored_there}
use Rattle.clean_plan.proofs.pairs.drop_pair.Goals as goal

pub drop_version-requires : goal.drop_version-requires
drop_version-requires c =
    let p = c.requires.0 in
    let m = c.requires.1 in
    let stands = c.requires.2 in
    let named = c.stored_versions_stand.ensures.named (record p { index = c.args.index.now; map = c.args.map.now }) m stands.midway stands.parts c.args.slot c.args.key.now.0 in
    stored_there (kept c.args.index.now c.args.key.now.0).versions c.args.slot (sym named ∙ c.requires.3)

pub lose-requires : goal.lose-requires
lose-requires c =
    let p = c.requires.0 in
    let m = c.requires.1 in
    let stands = c.requires.2 in
    c.dropped_version_reflects.ensures.alive (record p { index = c.args.index.now; map = c.args.map.now }) m stands.midway stands.parts c.args.slot c.args.key.now.0 c.requires.3

pub returns-clause-parts : goal.returns-clause-parts
returns-clause-parts c = λ p m stands named.
    c.dropped_version_reflects.ensures.done (record p { index = c.args.index.now; map = c.args.map.now }) m c.args.slot c.args.key.now.0 c.drop_version.new.self c.lose.new.self
    stands.midway stands.parts named c.drop_version.ensures c.lose.ensures.less
