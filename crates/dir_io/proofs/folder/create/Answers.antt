use Rattle.std.proofs.Common.{rules, ◌≡◌, true, false, sym, subst, string_cmp}
use Rattle.std.specs.BTreeSet.{contains, IsSameSet}
use Rattle.dir_io.proofs.Noted.{forgotten, noted_again}
use Rattle.dir_io.proofs.folder.create.Goals as goal
use Rattle.dir_io.proofs.folder.create.Goals.{then-is_new, else-is_new}

pub returns-after-is_new-clause-err : goal.returns-after-is_new-clause-err
returns-after-is_new-clause-err g c = elim c.if-is_new.branch [
  | then-is_new w ↦
      let lacks : contains string_cmp c.args.written.now c.args.path.now ≡ false = search rules in
      subst (IsSameSet string_cmp c.args.written.now) (sym w.written-is) (forgotten _ _ _ c.args.path.now lacks c.in_ok-is_new.ensures.noted w.remove.ensures.updates)
  | else-is_new w ↦
      let has : contains string_cmp c.args.written.now c.args.path.now ≡ true = search rules in
      subst (IsSameSet string_cmp c.args.written.now) (sym w.written-is) (noted_again _ _ c.args.path.now has c.in_ok-is_new.ensures.noted)
]
