use Rattle.std.proofs.Common.{◌≡◌, ℕ, ◌∷◌, [], ◌++◌, List, length, map, refl, sym, ap, subst, ◌∙◌, arith, append_assoc, append-nil}
use Rattle.std.specs.Vec.Iter.{into_iter_items}
use Rattle.std.proofs.lemmas.Result.{err_from_is_err_and}
use Rattle.adb_model.specs.Opened.{opened, opened_roots}
use Rattle.cell_table.specs.Cells.{IsUnused}
use Rattle.vec_scan.specs.Image.{Image, IsImage}
use Rattle.vec_scan.specs.Shown.{stored}
use Rattle.book_parts.specs.Opening.{AreOpenable, MayFollow, sizes_of}
use Rattle.book_parts.specs.Stands.{Stands}
use Rattle.open_plan.specs.Parts.{HasNothing}
use Rattle.open_plan.specs.Causes.{IsCauseOf, IsWhyNotRebuilt}
use Rattle.open_plan.proofs.Openings.{Opens, parts_after, id_unused, slot_unused, why_not, opens_more}
use Rattle.open_plan.proofs.opening.open.Goals as goal

pub add-requires-clause-id : goal.add-requires-clause-id
add-requires-clause-id c =
    let at = c.loop-storage in
    let image = c.in-Some.storage in
    let steps : into_iter_items at.storage-iterator ≡ image ∷ into_iter_items c.next.new.self = c.in-Some.ensures.steps.0 in
    let all : at.yielded ++ image ∷ into_iter_items c.next.new.self ≡ c.args.storages.items = rw (← steps) at.invariant.0 in
    let follows = c.opened_parts_reflect.ensures.follows c.args.slot at.yielded (into_iter_items c.next.new.self) image (subst (AreOpenable c.args.slot) (sym all) c.requires.storages) in
    subst (λ (i : Image). IsUnused i.id at.cells.cells) (sym c.in_ok-image.ensures.ok)
    (id_unused c.args.cells.limit c.args.slot c.args.more_roots.now at.yielded at.index at.cells at.map at.invariant.2 image follows)

pub add-requires-clause-slot : goal.add-requires-clause-slot
add-requires-clause-slot c =
    let at = c.loop-storage in
    let image = c.in-Some.storage in
    let steps : into_iter_items at.storage-iterator ≡ image ∷ into_iter_items c.next.new.self = c.in-Some.ensures.steps.0 in
    let all : at.yielded ++ image ∷ into_iter_items c.next.new.self ≡ c.args.storages.items = rw (← steps) at.invariant.0 in
    let follows = c.opened_parts_reflect.ensures.follows c.args.slot at.yielded (into_iter_items c.next.new.self) image (subst (AreOpenable c.args.slot) (sym all) c.requires.storages) in
    subst (λ (i : Image). HasNothing i.slot at.index at.map) (sym c.in_ok-image.ensures.ok)
    (slot_unused c.args.cells.limit c.args.slot c.args.more_roots.now at.yielded at.index at.cells at.map at.invariant.2 image follows)

pub loop-storage-preserved : goal.loop-storage-preserved
loop-storage-preserved c =
    let at = c.loop-storage in
    let image = c.in-Some.storage in
    let steps : into_iter_items at.storage-iterator ≡ image ∷ into_iter_items c.next.new.self = c.in-Some.ensures.steps.0 in
    let all : at.yielded ++ image ∷ into_iter_items c.next.new.self ≡ c.args.storages.items = rw (← steps) at.invariant.0 in
    let follows = c.opened_parts_reflect.ensures.follows c.args.slot at.yielded (into_iter_items c.next.new.self) image (subst (AreOpenable c.args.slot) (sym all) c.requires.storages) in
    let budget = c.args.cells.limit in
    let more = c.args.more_roots.now in
    let shared = c.in_ok-image.image in
    let same : shared.value ≡ image = c.in_ok-image.ensures.ok in
    let opens = c.in_ok-add.ensures.ok in
    let images = map stored at.yielded in
    let so_far = at.invariant.2 in
    let p = parts_after c.args.slot more at.yielded at.index at.cells at.map in
    let next : MayFollow c.args.slot images shared.value = subst (MayFollow c.args.slot images) (sym same) follows in (
      append_assoc at.yielded (image ∷ []) _ ∙ all,
      omega (arith, at.invariant.1, c.in-Some.ensures.steps.1, ap length steps),
      opens_more budget c.args.slot more at.yielded at.index at.cells at.map so_far image follows shared same opens.0 c.add.new.index c.add.new.cells c.add.new.map opens.1
          (c.rows_take_bytes.ensures image (subst (λ (i : Image). IsImage i.bytes i.rows) same c.add.ensures.image))
          (c.opened_parts_reflect.ensures.next p c.add.new.index c.add.new.cells c.add.new.map budget c.args.slot opens.0 images more shared so_far.may so_far.reflects next opens.1)
          (c.opened_parts_reflect.ensures.may p c.add.new.index c.add.new.cells c.add.new.map budget c.args.slot opens.0 images more shared so_far.may so_far.reflects next opens.1),
    )

pub returns-in_err-add-clause-fault : goal.returns-in_err-add-clause-fault
returns-in_err-add-clause-fault c =
    let at = c.loop-storage in
    let image = c.in-Some.storage in
    let steps : into_iter_items at.storage-iterator ≡ image ∷ into_iter_items c.next.new.self = c.in-Some.ensures.steps.0 in
    let all : at.yielded ++ image ∷ into_iter_items c.next.new.self ≡ c.args.storages.items = rw (← steps) at.invariant.0 in
    let follows = c.opened_parts_reflect.ensures.follows c.args.slot at.yielded (into_iter_items c.next.new.self) image (subst (AreOpenable c.args.slot) (sym all) c.requires.storages) in
    let budget = c.args.cells.limit in
    let rest = into_iter_items c.next.new.self in
    let fault = c.in_err-add.field-0.0 in
    let cause : IsCauseOf at.cells (length image.bytes) fault =
    subst (λ (i : Image). IsCauseOf at.cells (length i.bytes) fault) c.in_ok-image.ensures.ok c.in_err-add.ensures.fault in
    let why = why_not budget c.args.slot c.args.more_roots.now at.yielded at.index at.cells at.map at.invariant.2 image follows rest fault cause in
    let p = err_from_is_err_and c.from_residual-in_err-add.result c.from_residual-in_err-add.ensures.1 in
    rw (p.1, p.2) (subst (λ (images : List Image). IsWhyNotRebuilt budget (sizes_of images) fault) all why)

nothing_left : {X : Type 0} (l : List X) → length l ≡ 0 → l ≡ []
nothing_left [] none = refl
nothing_left (x ∷ xs) none = absurd (omega (arith, none))

pub returns-clause-ok : goal.returns-clause-ok
returns-clause-ok c =
    let at = c.loop-storage in
    let budget = c.args.cells.limit in
    let slot = c.args.slot in
    let more = c.args.more_roots.now in
    let so_far = at.invariant.2 in
    let storages = c.args.storages.items in
    let empty : into_iter_items at.storage-iterator ≡ [] = nothing_left _ (sym at.invariant.1 ∙ c.in-None.ensures.steps.0) in
    let all : at.yielded ≡ storages = sym (append-nil at.yielded) ∙ rw empty at at.invariant.0 in
    let stands = c.opened_parts_stand.ensures (parts_after slot more at.yielded at.index at.cells at.map) budget slot (map stored at.yielded) more so_far.may so_far.bytes so_far.reflects in
    let roots : opened_roots slot (map stored storages) more ≡ c.in_ok-roots.roots =
    sym (c.in_ok-roots.ensures ∙ ap (λ (images : List Image). opened_roots slot (map stored images) more) c.deref.ensures.value) in
    subst (λ (rs : List ℕ). Stands (record (parts_after slot more storages at.index at.cells at.map) { roots = rs }) (opened budget slot (map stored storages) more) []) roots
    (subst (λ (images : List Image). Stands (parts_after slot more images at.index at.cells at.map) (opened budget slot (map stored images) more) []) all stands)
