use Rattle.std.proofs.Common.{refl, arith}
use Rattle.slot_list.specs.Versions.{rehomed, with_slot, without_slot}
use Rattle.accounts_index.specs.Index.{Kept}
use Rattle.accounts_index.proofs.Lists.{rehomed_rises}
use Rattle.accounts_index.proofs.Edited.{Reached, Opened, expected_has_bins, kept_bin, IsWith-edited, Holds-edited}
use Rattle.accounts_index.proofs.index.AccountsIndex.settle.Goals as goal

pub index_mut-bin-requires : goal.index_mut-bin-requires
index_mut-bin-requires c =
    let reached : Reached c.args.self.now c.self.inside.groups.items c.args.key.now.0 c.bin_of-number.result c.index_mut-group.result.now = record { view = c.self.view_is; holds = c.self.invariant; is = c.bin_of-number.ensures.number; within = c.bin_of-number.ensures.within; read = c.index_mut-group.ensures.value } in
    let grown = expected_has_bins _ _ _ _ _ reached c.args.slot c.requires.expected in
    omega arith

pub settle-requires-clause-expected : goal.settle-requires-clause-expected
settle-requires-clause-expected c =
    let reached : Reached c.args.self.now c.self.inside.groups.items c.args.key.now.0 c.bin_of-number.result c.index_mut-group.result.now = record { view = c.self.view_is; holds = c.self.invariant; is = c.bin_of-number.ensures.number; within = c.bin_of-number.ensures.within; read = c.index_mut-group.ensures.value } in
    let grown = expected_has_bins _ _ _ _ _ reached c.args.slot c.requires.expected in
    let got : Opened c.index_mut-group.result.now c.index_mut-group.result.now c.bin_of-number.result c.index_mut-bin.result.now = record { grown = grown; same = refl; read = c.index_mut-bin.ensures.value } in
    rw (kept_bin _ _ _ _ _ reached _ _ got) at c.requires.expected

pub settle-requires-clause-absent : goal.settle-requires-clause-absent
settle-requires-clause-absent c =
    let reached : Reached c.args.self.now c.self.inside.groups.items c.args.key.now.0 c.bin_of-number.result c.index_mut-group.result.now = record { view = c.self.view_is; holds = c.self.invariant; is = c.bin_of-number.ensures.number; within = c.bin_of-number.ensures.within; read = c.index_mut-group.ensures.value } in
    let grown = expected_has_bins _ _ _ _ _ reached c.args.slot c.requires.expected in
    let got : Opened c.index_mut-group.result.now c.index_mut-group.result.now c.bin_of-number.result c.index_mut-bin.result.now = record { grown = grown; same = refl; read = c.index_mut-bin.ensures.value } in
    rw (kept_bin _ _ _ _ _ reached _ _ got) at c.requires.absent

pub invariant_of-self : goal.invariant_of-self
invariant_of-self c =
    let reached : Reached c.args.self.now c.self.inside.groups.items c.args.key.now.0 c.bin_of-number.result c.index_mut-group.result.now = record { view = c.self.view_is; holds = c.self.invariant; is = c.bin_of-number.ensures.number; within = c.bin_of-number.ensures.within; read = c.index_mut-group.ensures.value } in
    let grown = expected_has_bins _ _ _ _ _ reached c.args.slot c.requires.expected in
    let got : Opened c.index_mut-group.result.now c.index_mut-group.result.now c.bin_of-number.result c.index_mut-bin.result.now = record { grown = grown; same = refl; read = c.index_mut-bin.ensures.value } in
    Holds-edited _ _ _ _ _ reached _ _ got _ c.settle.ensures.used c.settle.ensures.rise (λ (k : Kept). record { versions = rehomed c.args.slot c.args.place k.versions; held = with_slot c.args.slot k.held; expected = without_slot c.args.slot k.expected }) c.settle.ensures.kept (λ (k : Kept) rise. rehomed_rises c.args.slot c.args.place k.versions rise)

pub returns : goal.returns
returns c =
    let reached : Reached c.args.self.now c.self.inside.groups.items c.args.key.now.0 c.bin_of-number.result c.index_mut-group.result.now = record { view = c.self.view_is; holds = c.self.invariant; is = c.bin_of-number.ensures.number; within = c.bin_of-number.ensures.within; read = c.index_mut-group.ensures.value } in
    let grown = expected_has_bins _ _ _ _ _ reached c.args.slot c.requires.expected in
    let got : Opened c.index_mut-group.result.now c.index_mut-group.result.now c.bin_of-number.result c.index_mut-bin.result.now = record { grown = grown; same = refl; read = c.index_mut-bin.ensures.value } in
    IsWith-edited _ _ _ _ _ reached _ _ got _ c.settle.ensures.used c.settle.ensures.rise (λ (k : Kept). record { versions = rehomed c.args.slot c.args.place k.versions; held = with_slot c.args.slot k.held; expected = without_slot c.args.slot k.expected }) c.settle.ensures.kept

pub settle-requires-clause-there : goal.settle-requires-clause-there
settle-requires-clause-there c =
    let reached : Reached c.args.self.now c.self.inside.groups.items c.args.key.now.0 c.bin_of-number.result c.index_mut-group.result.now = record { view = c.self.view_is; holds = c.self.invariant; is = c.bin_of-number.ensures.number; within = c.bin_of-number.ensures.within; read = c.index_mut-group.ensures.value } in
    let grown = expected_has_bins _ _ _ _ _ reached c.args.slot c.requires.expected in
    let got : Opened c.index_mut-group.result.now c.index_mut-group.result.now c.bin_of-number.result c.index_mut-bin.result.now = record { grown = grown; same = refl; read = c.index_mut-bin.ensures.value } in
    rw (kept_bin _ _ _ _ _ reached _ _ got) at c.requires.there
