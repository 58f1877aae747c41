-- The first storages, and one more.
use Rattle.std.proofs.Common.{◌≡◌, ℕ, ◌+◌, ◌<◌, List, [], ◌∷◌, ◌++◌, length, map, take, drop, get_or, All, refl, sym, ap, subst, ◌∙◌, arith}
use Rattle.std.specs.Global.{Global}
use Rattle.std.specs.declared.sync.Arc.{Arc}
use Rattle.std.specs.List.Sorted.{IsStrictlyIncreasing}
use Rattle.std.proofs.lemmas.Grind.{common_steps}
use Rattle.std.proofs.lemmas.List.{get_or-map, map-append, take-append-drop, take-map}
use Rattle.std.proofs.lemmas.List.Elements.{All-push}
use Rattle.dir_io.specs.Files.{Files}
use Rattle.field_codec.specs.declared.fields.FieldStorage.{FieldStorage}
use Rattle.vec_scan.specs.Image.{Image}
use Rattle.vec_scan.specs.Shown.{images_of}
use Rattle.snap_write.specs.Written.{IsFit, storage_file, storage_of}
use Rattle.snap_write.proofs.Lookups.{SlotsApart, front_below, slots_below, storage_apart}
use Rattle.snap_write.proofs.Steps.{Apart, Within, within_front}

module _ (name : List ℕ) (storages : List (Arc Image Global)) where
  -- the files of the first storages
  abbrev pub front : ℕ → Files
  front i = map (storage_file name) (images_of (take i storages))

  pub front_within : (i : ℕ) → Within (front i) (map (storage_file name) (images_of storages))
  front_within i =
      let rest = map (storage_file name) (images_of (drop i storages)) in
      let parts : map (storage_file name) (images_of storages) ≡ front i ++ rest =
      ap (λ (l : List (Arc Image Global)). map (storage_file name) (images_of l)) (sym (take-append-drop i storages))
      ∙ ap (map (storage_file name)) (map-append (λ (s : Arc Image Global). s.value) (take i storages) (drop i storages))
      ∙ map-append (storage_file name) (images_of (take i storages)) (images_of (drop i storages)) in
      subst (Within (front i)) (sym parts) (within_front (front i) rest)

  module _ (i : ℕ) (s : Arc Image Global) (lt : i < length storages) (here : s ≡ get_or storages i s) where
    pub images_next : images_of (take (i + 1) storages) ≡ images_of (take i storages) ++ s.value ∷ []
    images_next = more s lt ∙ ap (λ (x : Arc Image Global). images_of (take i storages) ++ x.value ∷ []) (sym here)
      where
        more : (d : Arc Image Global) → i < length storages → images_of (take (i + 1) storages) ≡ images_of (take i storages) ++ (get_or storages i d).value ∷ []
        more d within = grind (arith, common_steps)

    pub front_next : front (i + 1) ≡ front i ++ storage_file name s.value ∷ []
    front_next = ap (map (storage_file name)) images_next ∙ map-append (storage_file name) (images_of (take i storages)) (s.value ∷ [])

    pub next_within : Within (front i ++ storage_file name s.value ∷ []) (map (storage_file name) (images_of storages))
    next_within = subst (λ (a : Files). Within a (map (storage_file name) (images_of storages))) front_next (front_within (i + 1))

    pub fields_next : (written new : List FieldStorage) (storage : FieldStorage) → written ≡ map storage_of (images_of (take i storages)) → storage ≡ storage_of s.value → new ≡ written ++ storage ∷ [] → new ≡ map storage_of (images_of (take (i + 1) storages))
    fields_next written new storage before is added =
        added ∙ ap (λ (l : List FieldStorage). l ++ storage ∷ []) before ∙ ap (λ (x : FieldStorage). map storage_of (images_of (take i storages)) ++ x ∷ []) is
        ∙ sym (ap (map storage_of) images_next ∙ map-append storage_of (images_of (take i storages)) (s.value ∷ []))

    pub fit_next : All IsFit (images_of (take i storages)) → IsFit s.value → All IsFit (images_of (take (i + 1) storages))
    fit_next all one = subst (All IsFit) (sym images_next) (All-push IsFit (images_of (take i storages)) s.value all one)

    pub apart_next : SlotsApart → IsStrictlyIncreasing (map (λ image. image.slot) (images_of storages)) → All IsFit (images_of (take i storages)) → IsFit s.value → Apart (front i) (storage_file name s.value ∷ [])
    apart_next slots rise all one =
        let images = images_of storages in
        let fronts : take i images ≡ images_of (take i storages) = take-map (λ (x : Arc Image Global). x.value) i storages in
        let at : get_or images i s.value ≡ s.value = get_or-map (λ (x : Arc Image Global). x.value) storages i s s.value lt ∙ ap (λ (x : Arc Image Global). x.value) (sym here) in
        let within : i < length images = grind (arith, common_steps) in
        let below = front_below images i s.value (slots_below images rise) within in
        storage_apart slots name (images_of (take i storages)) s.value all one
        (subst (λ (l : List Image). All (λ x. x.slot < s.value.slot) l) fronts (subst (λ (y : Image). All (λ x. x.slot < y.slot) (take i images)) at below))

-- the slots of what the manifest says
pub slots_same : (images : List Image) → map (λ s. s.slot) (map storage_of images) ≡ map (λ image. image.slot) images
slots_same [] = refl
slots_same (image ∷ images) = ap (λ (l : List ℕ). image.slot ∷ l) (slots_same images)
