-- What is so of files that were read, as of the files of a directory.
use Rattle.std.proofs.Common.{◌≡◌, List, [], ◌∷◌, ◌++◌, All, ℕ, Option, Some, None, sym, ap, subst, ◌∙◌, string_bytes}
use Rattle.std.specs.Prelude.{IfSome, IsSomeAnd}
use Rattle.std.specs.Global.{Global}
use Rattle.std.specs.declared.string.String.{String}
use Rattle.std.proofs.lemmas.List.{map-append}
use Rattle.std.proofs.lemmas.List.Elements.{All-cons, All-head, All-nil, All-tail}
use Rattle.adb_model.specs.Opened as machine
use Rattle.open_plan.specs.declared.fault.RebuildFault.{RebuildFault}
use Rattle.open_plan.specs.declared.fault.RebuildFault.TheVariants as rebuilds
use Rattle.open_plan.specs.Causes.{IsWhyNotRebuilt}
use Rattle.dir_io.specs.Files.{Files, file_of}
use Rattle.field_codec.specs.Forms.{NamedFile}
use Rattle.field_codec.specs.FormFaults.{file_seen}
use Rattle.snap_write.specs.Snapshot.{HasRows}
use Rattle.vec_scan.specs.declared.fault.LayoutFault.{LayoutFault}
use Rattle.vec_scan.specs.Fault.{HasFault}
use Rattle.vec_scan.specs.Image.{HasImage, Placed}
use Rattle.snap_open.specs.Faults.{HoldsImage, IsBadLayout, IsFirstFaulty, IsNoImage, rebuild_fault_for}
use Rattle.snap_open.specs.Images.{AreImagesOf, HasBytes, IsFilesFault, IsFirstBad, files_of}
use Rattle.snap_open.specs.Sizes.{HasRoom, sizes_in}
use Rattle.snap_open.specs.Steps.{AreImagesIn, WhyFormNotOpened}
use Rattle.snap_open.specs.declared.fault.OpenFault.{OpenFault}
use Rattle.snap_open.specs.declared.fault.OpenFault.TheVariants as faults
use Rattle.snap_open.specs.declared.reading.Loaded.{Loaded}
use Rattle.snap_open.proofs.Sealing.{IsSound}

module _ (told : Files) where
  abbrev Told : Loaded → Type 0
  Told l = file_of told (string_bytes l.file.name) ≡ Some l.bytes.items

  pub images_in : (files : List Loaded) (laid : List machine.Image) → All (HasBytes (Some told)) files → AreImagesOf files laid → AreImagesIn told (files_of files) laid
  images_in [] [] all are = tt
  images_in [] (image ∷ laid) all are = absurd are
  images_in (l ∷ files) [] all are = absurd are
  images_in (l ∷ files) (image ∷ laid) all are =
      let is = are.0 in
      let bytes = All-head Told l files all in
      (record { slot = is.slot; bytes = is.bytes; rows = subst (λ (o : Option (List ℕ)). IsSomeAnd o (HasRows l.file.len image)) (sym bytes) is.rows }, images_in files laid (All-tail Told l files all) are.1)

  sound_in : (l : Loaded) → Told l → IsSound l → HoldsImage told (file_seen l.file)
  sound_in l bytes is = subst (λ (o : Option (List ℕ)). IsSomeAnd o (λ b. (rows : List Placed) × HasImage b l.file.len rows)) (sym bytes) is

  all_sound : (front rest : List Loaded) → All Told (front ++ rest) → All IsSound front → All (HoldsImage told) (files_of front)
  all_sound [] rest all sound = All-nil (HoldsImage told)
  all_sound (l ∷ front) rest all sound =
      All-cons (HoldsImage told) (file_seen l.file) (files_of front) (sound_in l (All-head Told l (front ++ rest) all) (All-head IsSound l front sound))
      (all_sound front rest (All-tail Told l (front ++ rest) all) (All-tail IsSound l front sound))

  behind : (front : List Loaded) (l : Loaded) (rest : List Loaded) → All Told (front ++ l ∷ rest) → Told l
  behind [] l rest all = All-head Told l rest all
  behind (x ∷ front) l rest all = behind front l rest (All-tail Told x (front ++ l ∷ rest) all)

  first_faulty : (files : List Loaded) (name : String Global) (fault : LayoutFault) → All Told files → IsFirstBad files name fault → IsFirstFaulty told (string_bytes name) fault (files_of files)
  first_faulty files name fault all bad =
      let each = subst (All Told) bad.parts all in
      let path : string_bytes name ≡ string_bytes bad.loaded.file.name = ap string_bytes bad.name_is in
      let there : file_of told (string_bytes name) ≡ Some bad.loaded.bytes.items = ap (file_of told) path ∙ behind bad.front bad.loaded bad.rest each in
      record {
        front = files_of bad.front;
        file = file_seen bad.loaded.file;
        rest = files_of bad.rest;
        parts = ap files_of bad.parts ∙ map-append (λ (l : Loaded). file_seen l.file) bad.front (bad.loaded ∷ bad.rest);
        sound = all_sound bad.front (bad.loaded ∷ bad.rest) each bad.sound;
        path_is = path;
        no_image = subst (λ (o : Option (List ℕ)). IsSomeAnd o (IsNoImage bad.loaded.file.len fault)) (sym there) bad.no_image;
      }

pub all_in : (files : Option Files) (read : List Loaded) (laid : List machine.Image) (storages : List NamedFile) → files_of read ≡ storages → All (HasBytes files) read → AreImagesOf read laid → IfSome files (λ told. AreImagesIn told storages laid)
all_in None read laid storages same all are = tt
all_in (Some told) read laid storages same all are = subst (λ (l : List NamedFile). AreImagesIn told l laid) same (images_in told read laid all are)

bad_layout : (files : Option Files) (budget : ℕ) (storages : List NamedFile) (read : List Loaded) (name : String Global) (fault : LayoutFault) → HasRoom budget (sizes_in storages) → files_of read ≡ storages → All (HasBytes files) read → IsFirstBad read name fault
    → IfSome files (λ told. IsBadLayout told budget (string_bytes name) fault storages)
bad_layout None budget storages read name fault room same all bad = tt
bad_layout (Some told) budget storages read name fault room same all bad = record {
  room = room;
  first = subst (IsFirstFaulty told (string_bytes name) fault) same (first_faulty told read name fault all bad);
}

pub why_no_images : (files : Option Files) (budget : ℕ) (storages : List NamedFile) (read : List Loaded) (fault : OpenFault) → HasRoom budget (sizes_in storages) → files_of read ≡ storages → All (HasBytes files) read → IsFilesFault read fault → WhyFormNotOpened files budget storages fault
why_no_images files budget storages read (faults.Form f) room same all why = why
why_no_images files budget storages read (faults.Full used wanted limit) room same all why = absurd why
why_no_images files budget storages read (faults.NoCell limit) room same all why = absurd why
why_no_images files budget storages read faults.DirFault room same all why = absurd why
why_no_images files budget storages read (faults.Gone name) room same all why = absurd why
why_no_images files budget storages read (faults.Layout name fault) room same all why =
    let bad = why.no_image in
    (λ none. subst (HasFault why.loaded.bytes.items why.loaded.file.len) none bad.has_fault, bad_layout files budget storages read name fault room same all why)
why_no_images files budget storages read faults.NoMemory room same all why = tt

pub why_no_book : (files : Option Files) (budget : ℕ) (storages : List NamedFile) (sizes : List ℕ) (fault : RebuildFault) → sizes ≡ sizes_in storages → IsWhyNotRebuilt budget sizes fault → WhyFormNotOpened files budget storages (rebuild_fault_for fault)
why_no_book files budget storages sizes fault same why = of fault (subst (λ (l : List ℕ). IsWhyNotRebuilt budget l fault) same why)
  where
    of : (f : RebuildFault) → IsWhyNotRebuilt budget (sizes_in storages) f → WhyFormNotOpened files budget storages (rebuild_fault_for f)
    of (rebuilds.Full used wanted limit) w = w
    of (rebuilds.NoCell limit) w = w
    of rebuilds.NoMemory w = tt
