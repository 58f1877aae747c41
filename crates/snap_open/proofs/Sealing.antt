-- One more file among those that are images.
use Rattle.std.proofs.Common.{◌≡◌, ℕ, ◌+◌, Bool, true, false, not, List, [], ◌∷◌, ◌++◌, All, length, map, filter, refl, sym, ap, ◌∙◌, arith, append-nil}
use Rattle.std.specs.List.{enumerate_from}
use Rattle.std.proofs.lemmas.Bool.{lt-ltb}
use Rattle.std.proofs.lemmas.List.{length-map, map-append}
use Rattle.std.proofs.lemmas.List.Elements.{All-cons, All-nil, filter-append}
use Rattle.adb_model.specs.Opened as machine
use Rattle.snap_write.specs.Written.{has_rows, slots_without_rows, with_rows}
use Rattle.vec_scan.specs.Image.{HasImage, Image, Placed}
use Rattle.vec_scan.specs.Shown.{stored}
use Rattle.snap_open.specs.Images.{AreImagesOf, AreSealed, IsFileFault, IsFilesFault, IsImageOf, IsStorage}
use Rattle.snap_open.specs.declared.fault.OpenFault.{OpenFault}
use Rattle.snap_open.specs.declared.fault.OpenFault.TheVariants as faults
use Rattle.snap_open.specs.declared.reading.Loaded.{Loaded}

images-push : (done : List Loaded) (laid : List machine.Image) (loaded : Loaded) (image : machine.Image) → AreImagesOf done laid → IsImageOf loaded image → AreImagesOf (done ++ loaded ∷ []) (laid ++ image ∷ [])
images-push [] [] loaded image are is = (is, tt)
images-push [] (x ∷ laid) loaded image are is = absurd are
images-push (l ∷ done) [] loaded image are is = absurd are
images-push (l ∷ done) (x ∷ laid) loaded image are is = (are.0, images-push done laid loaded image are.1 is)

-- ---- an image with rows, and one without

with-push : (laid : List machine.Image) (image : machine.Image) → has_rows image ≡ true → with_rows (laid ++ image ∷ []) ≡ with_rows laid ++ image ∷ []
with-push laid image some = filter-append has_rows laid (image ∷ []) ∙ (rw some refl)

with-pass : (laid : List machine.Image) (image : machine.Image) → has_rows image ≡ false → with_rows (laid ++ image ∷ []) ≡ with_rows laid
with-pass laid image none = filter-append has_rows laid (image ∷ []) ∙ (rw none (append-nil (with_rows laid)))

abbrev empty : machine.Image → Bool
empty image = not (has_rows image)

without-push : (laid : List machine.Image) (image : machine.Image) → has_rows image ≡ false → slots_without_rows (laid ++ image ∷ []) ≡ slots_without_rows laid ++ image.slot ∷ []
without-push laid image none =
    let parts : filter empty (laid ++ image ∷ []) ≡ filter empty laid ++ image ∷ [] = filter-append empty laid (image ∷ []) ∙ (rw none refl) in
    ap (map (λ (i : machine.Image). i.slot)) parts ∙ map-append (λ (i : machine.Image). i.slot) (filter empty laid) (image ∷ [])

without-pass : (laid : List machine.Image) (image : machine.Image) → has_rows image ≡ true → slots_without_rows (laid ++ image ∷ []) ≡ slots_without_rows laid
without-pass laid image some =
    let parts : filter empty (laid ++ image ∷ []) ≡ filter empty laid = filter-append empty laid (image ∷ []) ∙ (rw some (append-nil (filter empty laid))) in
    ap (map (λ (i : machine.Image). i.slot)) parts

-- ---- the ids

ids-push : (n : ℕ) (xs : List Image) (x : Image) → map (λ p. p.0) (enumerate_from n (xs ++ x ∷ [])) ≡ map (λ p. p.0) (enumerate_from n xs) ++ (n + length xs) ∷ []
ids-push n [] x = ap (λ (m : ℕ). m ∷ []) (omega arith)
ids-push n (y ∷ xs) x = ap (λ (l : List ℕ). n ∷ l) (ids-push (n + 1) xs x ∙ ap (λ (m : ℕ). map (λ p. p.0) (enumerate_from (n + 1) xs) ++ m ∷ []) (omega arith))

module _ (done : List Loaded) (storages : List Image) (more : List ℕ) (sealed : AreSealed done storages more) (loaded : Loaded) where
  pub add_storage : (image : Image) → IsStorage (length storages + 1) loaded image → AreSealed (done ++ loaded ∷ []) (storages ++ image ∷ []) more
  add_storage image is =
      let some : has_rows (stored image) ≡ true = lt-ltb 0 (length (map (λ (p : Placed). p.row) image.rows)) (let len = length-map image.rows (λ (p : Placed). p.row) in omega (arith, len, is.some)) in
      record {
        laid = sealed.laid ++ stored image ∷ [];
        are_images = images-push done sealed.laid loaded (stored image) sealed.are_images is.is_image;
        storages_are = map-append stored storages (image ∷ []) ∙ ap (λ (l : List machine.Image). l ++ stored image ∷ []) sealed.storages_are ∙ sym (with-push sealed.laid (stored image) some);
        more_are = sealed.more_are ∙ sym (without-pass sealed.laid (stored image) some);
        ids = map-append (λ (i : Image). i.id) storages (image ∷ []) ∙ ap (λ (l : List ℕ). l ++ image.id ∷ []) sealed.ids
            ∙ ap (λ (n : ℕ). map (λ p. p.0) (enumerate_from 1 storages) ++ n ∷ []) (is.id_is ∙ omega arith) ∙ sym (ids-push 1 storages image);
      }

  pub add_slot : loaded.file.len ≡ 0 → AreSealed (done ++ loaded ∷ []) storages (more ++ loaded.file.slot ∷ [])
  add_slot none =
      let image : machine.Image = record { slot = loaded.file.slot; rows = []; bytes = 0 } in
      let is : IsImageOf loaded image = record { slot = refl; bytes = rw none refl; small = omega (arith, none); rows = ([], (omega (arith, none), rw none refl), refl) } in
      record {
        laid = sealed.laid ++ image ∷ [];
        are_images = images-push done sealed.laid loaded image sealed.are_images is;
        storages_are = sealed.storages_are ∙ sym (with-pass sealed.laid image refl);
        more_are = ap (λ (l : List ℕ). l ++ loaded.file.slot ∷ []) sealed.more_are ∙ sym (without-push sealed.laid image refl);
        ids = sealed.ids;
      }

-- ---- a file that is no image

abbrev pub IsSound : Loaded → Type 0
IsSound l = (rows : List Placed) × HasImage l.bytes.items l.file.len rows

pub all_sound : (done : List Loaded) (laid : List machine.Image) → AreImagesOf done laid → All IsSound done
all_sound [] laid are = All-nil IsSound
all_sound (l ∷ done) [] are = absurd are
all_sound (l ∷ done) (image ∷ laid) are = let is = are.0 in let rows = is.rows in All-cons IsSound l done (rows.0, rows.1) (all_sound done laid are.1)

pub first_fault : (files done : List Loaded) (loaded : Loaded) (rest : List Loaded) (storages : List Image) (more : List ℕ) (fault : OpenFault) → AreSealed done storages more → files ≡ done ++ loaded ∷ rest → IsFileFault loaded fault → IsFilesFault files fault
first_fault files done loaded rest storages more (faults.Form f) sealed parts is = is
first_fault files done loaded rest storages more (faults.Full used wanted limit) sealed parts is = is
first_fault files done loaded rest storages more (faults.NoCell limit) sealed parts is = is
first_fault files done loaded rest storages more faults.DirFault sealed parts is = is
first_fault files done loaded rest storages more (faults.Gone name) sealed parts is = is
first_fault files done loaded rest storages more faults.NoMemory sealed parts is = tt
first_fault files done loaded rest storages more (faults.Layout name fault) sealed parts is = record {
  front = done;
  loaded = loaded;
  rest = rest;
  parts = parts;
  sound = all_sound done sealed.laid sealed.are_images;
  name_is = is.0;
  no_image = is.1;
}
