-- Snapshots that files hold.
use Rattle.std.proofs.Common.{◌≡◌, ◌⊎◌, ℕ, ◌≤◌, List, [], ◌∷◌, ◌++◌, length, map, Option, Some, None, Result, Ok, Err, refl, sym, ap, subst, ◌∙◌, inl, inr, arith, string_bytes}
use Rattle.std.specs.Prelude.{IsSomeAnd, sum_by}
use Rattle.std.proofs.lemmas.List.Sums.{sum_by-append, sum_by-cons}
use Rattle.adb_model.specs.Laws.{MayOpen}
use Rattle.adb_model.specs.Opened as machine
use Rattle.open_plan.specs.Causes.{IsFirstFull, IsOutOfCells}
use Rattle.dir_io.specs.Files.{Files, file_of}
use Rattle.field_codec.specs.Forms.{Finds, Flaw, Found, HoldsForm, NamedFile, file_for, form_in}
use Rattle.field_codec.specs.Manifest.{Content}
use Rattle.vec_scan.specs.declared.fault.LayoutFault.{LayoutFault}
use Rattle.vec_scan.specs.Image.{HasImage, Placed}
use Rattle.snap_write.specs.Snapshot.{HasRows, HoldsSnapshot}
use Rattle.snap_write.specs.Written.{slots_without_rows, with_rows}
use Rattle.snap_open.specs.Faults.{HoldsFormOf, HoldsImage, IsBadLayout, IsNoImage, WhyNotOpened, flaw_of}
use Rattle.snap_open.specs.Sizes.{sizes_in}
use Rattle.snap_open.specs.Steps.{AreImagesIn}
use Rattle.snap_open.specs.declared.fault.OpenFault.{OpenFault}
use Rattle.snap_open.specs.declared.fault.OpenFault.TheVariants as faults
use Rattle.snap_open.proofs.Laid.{HaveOneReading, laid_in, same_images, sizes_within}

-- ---- what keeps a book from being opened, where there is room and each file is an image

never_full : (budget : ℕ) (sizes : List ℕ) (used wanted limit : ℕ) → sum_by (λ size. size) sizes ≤ budget → IsFirstFull budget sizes used wanted limit → ⊥
never_full budget sizes used wanted limit fits full =
    let parts = ap (sum_by (λ size. size)) full.parts ∙ sum_by-append (λ (size : ℕ). size) full.front (wanted ∷ full.rest) in
    let next = sum_by-cons (λ (size : ℕ). size) wanted full.rest in
    omega (arith, parts, next, fits, full.used_is, full.above)

has_image : (len : ℕ) (image : machine.Image) (file : Option (List ℕ)) → IsSomeAnd file (HasRows len image) → IsSomeAnd file (λ bytes. (rows : List Placed) × HasImage bytes len rows)
has_image len image None is = is
has_image len image (Some bytes) is = (is.0, is.1)

image_at : (files : Files) (front : List NamedFile) (file : NamedFile) (rest : List NamedFile) (laid : List machine.Image) → AreImagesIn files (front ++ file ∷ rest) laid → HoldsImage files file
image_at files [] file rest [] are = absurd are
image_at files [] file rest (image ∷ laid) are = has_image file.len image (file_of files file.path) (let is = are.0 in is.rows)
image_at files (f ∷ front) file rest [] are = absurd are
image_at files (f ∷ front) file rest (image ∷ laid) are = image_at files front file rest laid are.1

no_fault : (len : ℕ) (fault : LayoutFault) (file : Option (List ℕ)) → IsSomeAnd file (λ bytes. (rows : List Placed) × HasImage bytes len rows) → IsSomeAnd file (IsNoImage len fault) → ⊥
no_fault len fault None is bad = is
no_fault len fault (Some bytes) is bad = bad.none is.0 is.1

never_bad : (files : Files) (budget : ℕ) (path : List ℕ) (fault : LayoutFault) (storages : List NamedFile) (laid : List machine.Image) → AreImagesIn files storages laid → IsBadLayout files budget path fault storages → ⊥
never_bad files budget path fault storages laid are bad =
    let first = bad.first in
    let image = image_at files first.front first.file first.rest laid (subst (λ (l : List NamedFile). AreImagesIn files l laid) first.parts are) in
    no_fault first.file.len fault (file_of files path) (subst (λ (p : List ℕ). IsSomeAnd (file_of files p) (λ bytes. (rows : List Placed) × HasImage bytes first.file.len rows)) (sym first.path_is) image) first.no_image

-- ---- the laws

module _ (found : (files : Files) (name : List ℕ) (content : Content) (found : Result Found Flaw) → HoldsForm files name content → Finds files name found → found ≡ Ok (form_in name content))
    (one : (files : Files) (name : List ℕ) (content other : Content) → HoldsForm files name content → HoldsForm files name other → content ≡ other)
    (files : Files) (name : List ℕ) where
  -- what is so of the storages of the form that files hold
  of_form : (Is : List NamedFile → Type 0) (content : Content) → HoldsForm files name content → HoldsFormOf files name Is → Is (map (file_for name) content.storages)
  of_form Is content h of = subst (λ (c : Content). Is (map (file_for name) c.storages)) (one files name of.content content of.form h) of.is

  no_flaw : (content : Content) → HoldsForm files name content → (flaw : Option Flaw) → IsSomeAnd flaw (λ f. Finds files name (Err f)) → ⊥
  no_flaw content h None why = why
  no_flaw content h (Some flaw) why = let never : Err flaw ≡ Ok (form_in name content) = found files name content (Err flaw) h why in absurd cc

  module _ (slot budget : ℕ) (images : List machine.Image) (more : List ℕ) (h : HoldsSnapshot files name slot images more) (may : MayOpen budget images) where
    abbrev storages : List NamedFile
    storages = map (file_for name) h.content.storages

    are : AreImagesIn files storages h.laid
    are = laid_in files name h.content.storages h.laid h.are_laid

    within : (sum_by (λ size. size) (sizes_in storages) ≤ budget) × (length (sizes_in storages) ≤ 1048576)
    within =
        let sizes = sizes_within files storages h.laid are in
        let bytes = ap (sum_by (λ (i : machine.Image). i.bytes)) h.images_are in
        let count = ap length h.images_are in
        (omega (arith, sizes.0, bytes, may.fits), omega (arith, sizes.1, count, may.cells))

    pub opens : (fault : OpenFault) → WhyNotOpened files name budget fault → (fault ≡ faults.DirFault) ⊎ (fault ≡ faults.NoMemory)
    opens (faults.Form fault) why = absurd (no_flaw h.content h.form (flaw_of fault) why)
    opens (faults.Full used wanted limit) why =
        absurd (never_full budget (sizes_in storages) used wanted limit within.0 (of_form (λ l. IsFirstFull budget (sizes_in l) used wanted limit) h.content h.form why))
    opens (faults.NoCell limit) why =
        let out = of_form (λ l. IsOutOfCells budget (sizes_in l) limit) h.content h.form why in
        absurd (omega (arith, within.1, out.many))
    opens faults.DirFault why = inl refl
    opens (faults.Gone path) why = absurd why
    opens (faults.Layout path fault) why =
        absurd (never_bad files budget (string_bytes path) fault storages h.laid are (of_form (IsBadLayout files budget (string_bytes path) fault) h.content h.form why))
    opens faults.NoMemory why = inr refl

  -- two snapshots that files hold are one
  pub one_snapshot : HaveOneReading → (slot other : ℕ) (images others : List machine.Image) (more further : List ℕ) → HoldsSnapshot files name slot images more → HoldsSnapshot files name other others further
      → (slot ≡ other) × (images ≡ others) × (more ≡ further)
  one_snapshot reading slot other images others more further h g =
      let contents = one files name h.content g.content h.form g.form in
      let first = laid_in files name h.content.storages h.laid h.are_laid in
      let second = laid_in files name g.content.storages g.laid g.are_laid in
      let laid : h.laid ≡ g.laid = same_images reading files (map (file_for name) g.content.storages) h.laid g.laid (subst (λ (c : Content). AreImagesIn files (map (file_for name) c.storages) h.laid) contents first) second in (
        sym h.slot_is ∙ ap (λ (c : Content). c.slot) contents ∙ g.slot_is,
        h.images_are ∙ ap with_rows laid ∙ sym g.images_are,
        h.more_are ∙ ap slots_without_rows laid ∙ sym g.more_are,
      )
