use Rattle.std.proofs.Common.{refl, arith}
use Rattle.slot_list.specs.Versions.{without}
use Rattle.accounts_index.specs.Index.{Kept}
use Rattle.accounts_index.proofs.Lists.{without_rises}
use Rattle.accounts_index.proofs.Edited.{Reached, Opened, version_has_bins, kept_bin, IsWith-edited, Holds-edited}
use Rattle.accounts_index.proofs.index.AccountsIndex.drop_version.Goals as goal

pub index_mut-bin-requires : goal.index_mut-bin-requires
index_mut-bin-requires c =
    let reached : Reached c.args.self.now c.self.inside.groups.items c.args.key.now.0 c.bin_of-number.result c.index_mut-group.result.now = record { view = c.self.view_is; holds = c.self.invariant; is = c.bin_of-number.ensures.number; within = c.bin_of-number.ensures.within; read = c.index_mut-group.ensures.value } in
    let grown = version_has_bins _ _ _ _ _ reached c.args.slot c.requires in
    omega arith

pub drop_version-requires : goal.drop_version-requires
drop_version-requires c =
    let reached : Reached c.args.self.now c.self.inside.groups.items c.args.key.now.0 c.bin_of-number.result c.index_mut-group.result.now = record { view = c.self.view_is; holds = c.self.invariant; is = c.bin_of-number.ensures.number; within = c.bin_of-number.ensures.within; read = c.index_mut-group.ensures.value } in
    let grown = version_has_bins _ _ _ _ _ reached c.args.slot c.requires in
    let got : Opened c.index_mut-group.result.now c.index_mut-group.result.now c.bin_of-number.result c.index_mut-bin.result.now = record { grown = grown; same = refl; read = c.index_mut-bin.ensures.value } in
    rw (kept_bin _ _ _ _ _ reached _ _ got) at c.requires

pub invariant_of-self : goal.invariant_of-self
invariant_of-self c =
    let reached : Reached c.args.self.now c.self.inside.groups.items c.args.key.now.0 c.bin_of-number.result c.index_mut-group.result.now = record { view = c.self.view_is; holds = c.self.invariant; is = c.bin_of-number.ensures.number; within = c.bin_of-number.ensures.within; read = c.index_mut-group.ensures.value } in
    let grown = version_has_bins _ _ _ _ _ reached c.args.slot c.requires in
    let got : Opened c.index_mut-group.result.now c.index_mut-group.result.now c.bin_of-number.result c.index_mut-bin.result.now = record { grown = grown; same = refl; read = c.index_mut-bin.ensures.value } in
    Holds-edited _ _ _ _ _ reached _ _ got _ c.drop_version.ensures.used c.drop_version.ensures.rise (λ (k : Kept). record k { versions = without c.args.slot k.versions }) c.drop_version.ensures.kept (λ (k : Kept) rise. without_rises c.args.slot k.versions rise)

pub returns : goal.returns
returns c =
    let reached : Reached c.args.self.now c.self.inside.groups.items c.args.key.now.0 c.bin_of-number.result c.index_mut-group.result.now = record { view = c.self.view_is; holds = c.self.invariant; is = c.bin_of-number.ensures.number; within = c.bin_of-number.ensures.within; read = c.index_mut-group.ensures.value } in
    let grown = version_has_bins _ _ _ _ _ reached c.args.slot c.requires in
    let got : Opened c.index_mut-group.result.now c.index_mut-group.result.now c.bin_of-number.result c.index_mut-bin.result.now = record { grown = grown; same = refl; read = c.index_mut-bin.ensures.value } in
    IsWith-edited _ _ _ _ _ reached _ _ got _ c.drop_version.ensures.used c.drop_version.ensures.rise (λ (k : Kept). record k { versions = without c.args.slot k.versions }) c.drop_version.ensures.kept
