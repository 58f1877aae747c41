use Rattle.std.proofs.lemmas.Result.{on_ok_weaker, on_err_weaker}
use Rattle.slot_list.specs.Versions.{put, with_slot}
use Rattle.accounts_index.specs.Index.{Kept}
use Rattle.accounts_index.proofs.Changes.{either, on_err_any}
use Rattle.accounts_index.proofs.Lists.{put_rises}
use Rattle.accounts_index.proofs.Edited.{Reached, Opened, joined-regrown, Holds-regrown, joined-unedited, Holds-unedited, IsWith-edited, Holds-edited, kept_bin}
use Rattle.accounts_index.proofs.index.AccountsIndex.put_held.Goals as goal

pub invariant_of-self : goal.invariant_of-self
invariant_of-self c =
    let reached : Reached c.args.self.now c.self.inside.groups.items c.args.key.now.0 c.bin_of-number.result c.index_mut-group.result.now = record { view = c.self.view_is; holds = c.self.invariant; is = c.bin_of-number.ensures.number; within = c.bin_of-number.ensures.within; read = c.index_mut-group.ensures.value } in
    Holds-regrown _ _ _ _ _ reached c.grow.new.group c.grow.ensures.same

pub returns-in_err-grow-clause-err : goal.returns-in_err-grow-clause-err
returns-in_err-grow-clause-err c =
    let reached : Reached c.args.self.now c.self.inside.groups.items c.args.key.now.0 c.bin_of-number.result c.index_mut-group.result.now = record { view = c.self.view_is; holds = c.self.invariant; is = c.bin_of-number.ensures.number; within = c.bin_of-number.ensures.within; read = c.index_mut-group.ensures.value } in
    on_err_any c.from_residual.result (joined-regrown _ _ _ _ _ reached c.grow.new.group c.grow.ensures.same)

pub invariant_of-self-2 : goal.invariant_of-self-2
invariant_of-self-2 c =
    let reached : Reached c.args.self.now c.self.inside.groups.items c.args.key.now.0 c.bin_of-number.result c.index_mut-group.result.now = record { view = c.self.view_is; holds = c.self.invariant; is = c.bin_of-number.ensures.number; within = c.bin_of-number.ensures.within; read = c.index_mut-group.ensures.value } in
    let got : Opened c.index_mut-group.result.now c.grow.new.group c.bin_of-number.result c.index_mut-bin.result.now = record { grown = c.in_ok-grow.ensures.grown; same = c.grow.ensures.same; read = c.index_mut-bin.ensures.value } in
    either c.put_held.result c.put_held.ensures.ok c.put_held.ensures.err
    (λ edit. Holds-edited _ _ _ _ _ reached _ _ got _ c.put_held.ensures.used c.put_held.ensures.rise (λ (k : Kept). record k { versions = put c.args.version k.versions; held = with_slot c.args.version.slot k.held }) edit (λ (k : Kept) rise. put_rises c.args.version k.versions rise))
    (λ same. Holds-unedited _ _ _ _ _ reached _ _ got _ c.put_held.ensures.used c.put_held.ensures.rise same)

pub returns-clause-ok : goal.returns-clause-ok
returns-clause-ok c =
    let reached : Reached c.args.self.now c.self.inside.groups.items c.args.key.now.0 c.bin_of-number.result c.index_mut-group.result.now = record { view = c.self.view_is; holds = c.self.invariant; is = c.bin_of-number.ensures.number; within = c.bin_of-number.ensures.within; read = c.index_mut-group.ensures.value } in
    let got : Opened c.index_mut-group.result.now c.grow.new.group c.bin_of-number.result c.index_mut-bin.result.now = record { grown = c.in_ok-grow.ensures.grown; same = c.grow.ensures.same; read = c.index_mut-bin.ensures.value } in
    on_ok_weaker c.put_held.result (λ edit. IsWith-edited _ _ _ _ _ reached _ _ got _ c.put_held.ensures.used c.put_held.ensures.rise (λ (k : Kept). record k { versions = put c.args.version k.versions; held = with_slot c.args.version.slot k.held }) edit) c.put_held.ensures.ok

pub returns-clause-err : goal.returns-clause-err
returns-clause-err c =
    let reached : Reached c.args.self.now c.self.inside.groups.items c.args.key.now.0 c.bin_of-number.result c.index_mut-group.result.now = record { view = c.self.view_is; holds = c.self.invariant; is = c.bin_of-number.ensures.number; within = c.bin_of-number.ensures.within; read = c.index_mut-group.ensures.value } in
    let got : Opened c.index_mut-group.result.now c.grow.new.group c.bin_of-number.result c.index_mut-bin.result.now = record { grown = c.in_ok-grow.ensures.grown; same = c.grow.ensures.same; read = c.index_mut-bin.ensures.value } in
    on_err_weaker c.put_held.result (λ same. joined-unedited _ _ _ _ _ reached _ _ got _ c.put_held.ensures.used c.put_held.ensures.rise same) c.put_held.ensures.err

pub returns-clause-was : goal.returns-clause-was
returns-clause-was c =
    let reached : Reached c.args.self.now c.self.inside.groups.items c.args.key.now.0 c.bin_of-number.result c.index_mut-group.result.now = record { view = c.self.view_is; holds = c.self.invariant; is = c.bin_of-number.ensures.number; within = c.bin_of-number.ensures.within; read = c.index_mut-group.ensures.value } in
    let got : Opened c.index_mut-group.result.now c.grow.new.group c.bin_of-number.result c.index_mut-bin.result.now = record { grown = c.in_ok-grow.ensures.grown; same = c.grow.ensures.same; read = c.index_mut-bin.ensures.value } in
    rw (kept_bin _ _ _ _ _ reached _ _ got) c.put_held.ensures.was
