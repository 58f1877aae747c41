use Rattle.std.proofs.Common.{◌≡◌, ℕ, ◌<◌, List, length, subst, rules}
use Rattle.dir_io.specs.Files.{IsListing, texts}
use Rattle.field_codec.specs.Paths.{prefix_of}
use Rattle.snap_write.proofs.Steps.{some_listed}
use Rattle.snap_write.proofs.file.check_new.Goals as goal

pub returns-clause-exact : goal.returns-clause-exact
returns-clause-exact g c =
    let same : c.deref.result.now ≡ prefix_of c.args.name.now = search rules in
    let some : 0 < length c.in_ok-names.names.items = search rules in
    some_listed (g.D.Dir.files c.args.dir.now) (prefix_of c.args.name.now) c.in_ok-names.names.items
    (subst (λ (p : List ℕ). IsListing (g.D.Dir.files c.args.dir.now) p (texts c.in_ok-names.names.items)) same c.in_ok-names.ensures.names) some
