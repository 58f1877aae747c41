use Rattle.std.proofs.Common.{◌≡◌, ◌+◌, ◌++◌, ◌∷◌, [], ℕ, List, length, ap, subst, sym, ◌∙◌, append_assoc, rules}
use Rattle.std.specs.Vec.Iter.{into_iter_items}
use Rattle.std.proofs.lemmas.Result.{err_from_is_err_and}
use Rattle.vec_scan.specs.Image.{Image}
use Rattle.snap_open.specs.Images.{AreSealed, IsStorage}
use Rattle.snap_open.specs.declared.reading.Loaded.{Loaded}
use Rattle.snap_open.proofs.Sealing.{add_slot, add_storage, first_fault}
use Rattle.snap_open.proofs.images.seal_files.Goals as goal

pub loop-loaded-preserved-then-loaded-eq0 : goal.loop-loaded-preserved-then-loaded-eq0
loop-loaded-preserved-then-loaded-eq0 c =
    let f = c.loop-loaded.invariant.front in
    let l = c.in-Some.loaded in
    let rest = into_iter_items c.next.new.self in
    let parts = append_assoc f.0 (l ∷ []) rest ∙ ap (λ (x : List Loaded). f.0 ++ x) (sym c.in-Some.ensures.steps.0) ∙ f.1 in
    let done : List Loaded = f.0 ++ l ∷ [] in
    let sealed = add_slot f.0 c.loop-loaded.storages.items c.loop-loaded.without_rows.items f.2 l c.if-loaded-eq0.true in
    record {
      can_next = tt;
      is_finite = tt;
      front = (done, parts, subst (λ (x : List ℕ). AreSealed done c.loop-loaded.storages.items x) (sym c.in_ok-push.ensures.items) sealed);
    }

pub returns-in_err-seal_file-clause-refused : goal.returns-in_err-seal_file-clause-refused
returns-in_err-seal_file-clause-refused c =
    let p = err_from_is_err_and c.from_residual-in_err-seal_file.result c.from_residual-in_err-seal_file.ensures.1 in
    let f = c.loop-loaded.invariant.front in
    let parts = sym f.1 ∙ ap (λ (x : List Loaded). f.0 ++ x) c.in-Some.ensures.steps.0 in
    rw (p.1, p.2)
    (first_fault c.args.files.items f.0 c.in-Some.loaded (into_iter_items c.next.new.self) c.loop-loaded.storages.items c.loop-loaded.without_rows.items c.in_err-seal_file.field-0.0 f.2 parts c.in_err-seal_file.ensures.refused)

pub loop-loaded-preserved : goal.loop-loaded-preserved
loop-loaded-preserved c =
    let f = c.loop-loaded.invariant.front in
    let l = c.in-Some.loaded in
    let rest = into_iter_items c.next.new.self in
    let parts = append_assoc f.0 (l ∷ []) rest ∙ ap (λ (x : List Loaded). f.0 ++ x) (sym c.in-Some.ensures.steps.0) ∙ f.1 in
    let done : List Loaded = f.0 ++ l ∷ [] in
    let count : c.len.result ≡ length c.loop-loaded.storages.items = search rules in
    let sealed = add_storage f.0 c.loop-loaded.storages.items c.loop-loaded.without_rows.items f.2 l c.in_ok-seal_file.field-0 (subst (λ (n : ℕ). IsStorage (n + 1) l c.in_ok-seal_file.field-0) count c.in_ok-seal_file.ensures.storage) in
    record {
      can_next = tt;
      is_finite = tt;
      front = (done, parts, subst (λ (x : List Image). AreSealed done x c.loop-loaded.without_rows.items) (sym c.in_ok-push-2.ensures.items) sealed);
    }
