use Rattle.std.proofs.Common.{◌≡◌, ◌<◌, length, refl, arith}
use Rattle.std.proofs.lemmas.Grind.{common_steps}
use Rattle.accounts_index.proofs.Edited.{Reached, Opened, nothing_here, whole_group, kept_bin}
use Rattle.accounts_index.proofs.index.AccountsIndex.list.Goals as goal

pub returns-then-is_empty : goal.returns-then-is_empty
returns-then-is_empty c =
    let reached : Reached c.args.self.now c.self.inside.groups.items c.args.key.now.0 c.bin_of-number.result c.index-group.result.now = record { view = c.self.view_is; holds = c.self.invariant; is = c.bin_of-number.ensures.number; within = c.bin_of-number.ensures.within; read = c.index-group.ensures } in
    let none : length c.index-group.result.now.items ≡ 0 = grind (arith, common_steps) in
    nothing_here _ _ _ _ _ reached none

pub index-requires : goal.index-requires
index-requires c =
    let reached : Reached c.args.self.now c.self.inside.groups.items c.args.key.now.0 c.bin_of-number.result c.index-group.result.now = record { view = c.self.view_is; holds = c.self.invariant; is = c.bin_of-number.ensures.number; within = c.bin_of-number.ensures.within; read = c.index-group.ensures } in
    let some : 0 < length c.index-group.result.now.items = grind (arith, common_steps) in
    let grown = whole_group _ _ _ _ _ reached some in
    omega arith

pub returns : goal.returns
returns c =
    let reached : Reached c.args.self.now c.self.inside.groups.items c.args.key.now.0 c.bin_of-number.result c.index-group.result.now = record { view = c.self.view_is; holds = c.self.invariant; is = c.bin_of-number.ensures.number; within = c.bin_of-number.ensures.within; read = c.index-group.ensures } in
    let some : 0 < length c.index-group.result.now.items = grind (arith, common_steps) in
    let grown = whole_group _ _ _ _ _ reached some in
    let got : Opened c.index-group.result.now c.index-group.result.now c.bin_of-number.result c.index.result.now = record { grown = grown; same = refl; read = c.index.ensures } in
    rw (kept_bin _ _ _ _ _ reached _ _ got) c.list.ensures
