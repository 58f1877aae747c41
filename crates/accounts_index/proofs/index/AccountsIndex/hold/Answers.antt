use Rattle.std.proofs.Common.{refl, arith}
use Rattle.slot_list.specs.Versions.{with_slot, without_slot}
use Rattle.accounts_index.specs.Index.{Kept}
use Rattle.accounts_index.proofs.Edited.{Reached, Opened, expected_has_bins, kept_bin, IsWith-edited, Holds-edited}
use Rattle.accounts_index.proofs.index.AccountsIndex.hold.Goals as goal

pub index_mut-bin-requires : goal.index_mut-bin-requires
index_mut-bin-requires c =
    let reached : Reached c.args.self.now c.self.inside.groups.items c.args.key.now.0 c.bin_of-number.result c.index_mut-group.result.now = record { view = c.self.view_is; holds = c.self.invariant; is = c.bin_of-number.ensures.number; within = c.bin_of-number.ensures.within; read = c.index_mut-group.ensures.value } in
    let grown = expected_has_bins _ _ _ _ _ reached c.args.slot c.requires.expected in
    omega arith

pub hold-requires-clause-expected : goal.hold-requires-clause-expected
hold-requires-clause-expected c =
    let reached : Reached c.args.self.now c.self.inside.groups.items c.args.key.now.0 c.bin_of-number.result c.index_mut-group.result.now = record { view = c.self.view_is; holds = c.self.invariant; is = c.bin_of-number.ensures.number; within = c.bin_of-number.ensures.within; read = c.index_mut-group.ensures.value } in
    let grown = expected_has_bins _ _ _ _ _ reached c.args.slot c.requires.expected in
    let got : Opened c.index_mut-group.result.now c.index_mut-group.result.now c.bin_of-number.result c.index_mut-bin.result.now = record { grown = grown; same = refl; read = c.index_mut-bin.ensures.value } in
    rw (kept_bin _ _ _ _ _ reached _ _ got) at c.requires.expected

pub hold-requires-clause-absent : goal.hold-requires-clause-absent
hold-requires-clause-absent c =
    let reached : Reached c.args.self.now c.self.inside.groups.items c.args.key.now.0 c.bin_of-number.result c.index_mut-group.result.now = record { view = c.self.view_is; holds = c.self.invariant; is = c.bin_of-number.ensures.number; within = c.bin_of-number.ensures.within; read = c.index_mut-group.ensures.value } in
    let grown = expected_has_bins _ _ _ _ _ reached c.args.slot c.requires.expected in
    let got : Opened c.index_mut-group.result.now c.index_mut-group.result.now c.bin_of-number.result c.index_mut-bin.result.now = record { grown = grown; same = refl; read = c.index_mut-bin.ensures.value } in
    rw (kept_bin _ _ _ _ _ reached _ _ got) at c.requires.absent

pub invariant_of-self : goal.invariant_of-self
invariant_of-self c =
    let reached : Reached c.args.self.now c.self.inside.groups.items c.args.key.now.0 c.bin_of-number.result c.index_mut-group.result.now = record { view = c.self.view_is; holds = c.self.invariant; is = c.bin_of-number.ensures.number; within = c.bin_of-number.ensures.within; read = c.index_mut-group.ensures.value } in
    let grown = expected_has_bins _ _ _ _ _ reached c.args.slot c.requires.expected in
    let got : Opened c.index_mut-group.result.now c.index_mut-group.result.now c.bin_of-number.result c.index_mut-bin.result.now = record { grown = grown; same = refl; read = c.index_mut-bin.ensures.value } in
    Holds-edited _ _ _ _ _ reached _ _ got _ c.hold.ensures.used c.hold.ensures.rise (λ (k : Kept). record k { held = with_slot c.args.slot k.held; expected = without_slot c.args.slot k.expected }) c.hold.ensures.kept (λ (k : Kept) rise. rise)

pub returns : goal.returns
returns c =
    let reached : Reached c.args.self.now c.self.inside.groups.items c.args.key.now.0 c.bin_of-number.result c.index_mut-group.result.now = record { view = c.self.view_is; holds = c.self.invariant; is = c.bin_of-number.ensures.number; within = c.bin_of-number.ensures.within; read = c.index_mut-group.ensures.value } in
    let grown = expected_has_bins _ _ _ _ _ reached c.args.slot c.requires.expected in
    let got : Opened c.index_mut-group.result.now c.index_mut-group.result.now c.bin_of-number.result c.index_mut-bin.result.now = record { grown = grown; same = refl; read = c.index_mut-bin.ensures.value } in
    IsWith-edited _ _ _ _ _ reached _ _ got _ c.hold.ensures.used c.hold.ensures.rise (λ (k : Kept). record k { held = with_slot c.args.slot k.held; expected = without_slot c.args.slot k.expected }) c.hold.ensures.kept
