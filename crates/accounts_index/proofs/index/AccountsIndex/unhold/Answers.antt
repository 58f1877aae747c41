use Rattle.std.proofs.Common.{◌≡◌, ◌<◌, length, refl, arith}
use Rattle.std.proofs.lemmas.Grind.{common_steps}
use Rattle.slot_list.specs.Versions.{without_slot}
use Rattle.accounts_index.specs.Index.{Kept}
use Rattle.accounts_index.proofs.Edited.{Reached, Opened, whole_group, IsWith-regrown, Holds-regrown, IsWith-edited, Holds-edited}
use Rattle.accounts_index.proofs.index.AccountsIndex.unhold.Goals as goal

pub invariant_of-self : goal.invariant_of-self
invariant_of-self c =
    let reached : Reached c.args.self.now c.self.inside.groups.items c.args.key.now.0 c.bin_of-number.result c.index_mut-group.result.now = record { view = c.self.view_is; holds = c.self.invariant; is = c.bin_of-number.ensures.number; within = c.bin_of-number.ensures.within; read = c.index_mut-group.ensures.value } in
    Holds-regrown _ _ _ _ _ reached c.index_mut-group.result.now refl

pub returns-then-is_empty : goal.returns-then-is_empty
returns-then-is_empty c =
    let reached : Reached c.args.self.now c.self.inside.groups.items c.args.key.now.0 c.bin_of-number.result c.index_mut-group.result.now = record { view = c.self.view_is; holds = c.self.invariant; is = c.bin_of-number.ensures.number; within = c.bin_of-number.ensures.within; read = c.index_mut-group.ensures.value } in
    let none : length c.index_mut-group.result.now.items ≡ 0 = grind (arith, common_steps) in
    IsWith-regrown _ _ _ _ _ reached c.index_mut-group.result.now refl none (λ (k : Kept). record k { held = without_slot c.args.slot k.held }) refl

pub index_mut-bin-requires : goal.index_mut-bin-requires
index_mut-bin-requires c =
    let reached : Reached c.args.self.now c.self.inside.groups.items c.args.key.now.0 c.bin_of-number.result c.index_mut-group.result.now = record { view = c.self.view_is; holds = c.self.invariant; is = c.bin_of-number.ensures.number; within = c.bin_of-number.ensures.within; read = c.index_mut-group.ensures.value } in
    let some : 0 < length c.index_mut-group.result.now.items = grind (arith, common_steps) in
    let grown = whole_group _ _ _ _ _ reached some in
    omega arith

pub invariant_of-self-2 : goal.invariant_of-self-2
invariant_of-self-2 c =
    let reached : Reached c.args.self.now c.self.inside.groups.items c.args.key.now.0 c.bin_of-number.result c.index_mut-group.result.now = record { view = c.self.view_is; holds = c.self.invariant; is = c.bin_of-number.ensures.number; within = c.bin_of-number.ensures.within; read = c.index_mut-group.ensures.value } in
    let some : 0 < length c.index_mut-group.result.now.items = grind (arith, common_steps) in
    let grown = whole_group _ _ _ _ _ reached some in
    let got : Opened c.index_mut-group.result.now c.index_mut-group.result.now c.bin_of-number.result c.index_mut-bin.result.now = record { grown = grown; same = refl; read = c.index_mut-bin.ensures.value } in
    Holds-edited _ _ _ _ _ reached _ _ got _ c.unhold.ensures.used c.unhold.ensures.rise (λ (k : Kept). record k { held = without_slot c.args.slot k.held }) c.unhold.ensures.kept (λ (k : Kept) rise. rise)

pub returns : goal.returns
returns c =
    let reached : Reached c.args.self.now c.self.inside.groups.items c.args.key.now.0 c.bin_of-number.result c.index_mut-group.result.now = record { view = c.self.view_is; holds = c.self.invariant; is = c.bin_of-number.ensures.number; within = c.bin_of-number.ensures.within; read = c.index_mut-group.ensures.value } in
    let some : 0 < length c.index_mut-group.result.now.items = grind (arith, common_steps) in
    let grown = whole_group _ _ _ _ _ reached some in
    let got : Opened c.index_mut-group.result.now c.index_mut-group.result.now c.bin_of-number.result c.index_mut-bin.result.now = record { grown = grown; same = refl; read = c.index_mut-bin.ensures.value } in
    IsWith-edited _ _ _ _ _ reached _ _ got _ c.unhold.ensures.used c.unhold.ensures.rise (λ (k : Kept). record k { held = without_slot c.args.slot k.held }) c.unhold.ensures.kept
