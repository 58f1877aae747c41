use Rattle.std.proofs.Common.{◌≡◌, rules, sym, subst, true, string_bytes}
use Rattle.std.specs.String.{string_cmp}
use Rattle.dir_io.specs.Files.{has_prefix, AllBegin}
use Rattle.dir_io.proofs.Begun.{all_inserted}
use Rattle.dir_io.proofs.listing.visit.Goals as goal

pub returns-in_ok-insert-in-Ok-2-clause-begin : goal.returns-in_ok-insert-in-Ok-2-clause-begin
returns-in_ok-insert-in-Ok-2-clause-begin g c = λ all.
    let has : has_prefix c.args.prefix.now (string_bytes c.in_ok-name.name) ≡ true = search rules in
    subst (AllBegin c.args.prefix.now) (sym c.in_ok-insert-in-Ok-2.ensures.keys)
    (all_inserted (λ name. has_prefix c.args.prefix.now (string_bytes name) ≡ true) string_cmp c.args.names.now.keys c.in_ok-name.name all has)
