use Rattle.std.proofs.Common.{◌∙◌, rules, of_calls, string_bytes}
use Rattle.std.specs.Cmp.Lexicographic.{slice_cmp}
use Rattle.std.specs.Ordering.{nat_cmp}
use Rattle.std.proofs.lemmas.Fn.{always_returns_same}
use Rattle.field_codec.proofs.Searching.{searched}
use Rattle.field_codec.proofs.checks.is_listed.Goals as goal

pub returns : goal.returns
returns c =
    let facts = c.binary_search_by.ensures in
    c.is_ok.ensures.value ∙ searched c.args.names.now c.args.path.now c.binary_search_by.result c.requires facts.bound
    (facts.position (λ n. slice_cmp nat_cmp (string_bytes n) c.args.path.now) (always_returns_same _ _ _ (λ a r f called. search (rules, of_calls))))
