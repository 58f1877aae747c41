-- A form that was found, and the snapshot that files hold.
use Rattle.std.proofs.Common.{◌≡◌, List, [], ℕ, Option, Some, None, Result, Ok, Err, is_some, true, refl, sym, ap, subst, ◌∙◌, string_bytes}
use Rattle.std.specs.Prelude.{IfErr, IfSome}
use Rattle.std.proofs.lemmas.List.Elements.{All-map}
use Rattle.adb_model.specs.Opened as machine
use Rattle.adb_model.specs.Opened.{opened}
use Rattle.open_plan.specs.Causes.{IsFirstFull, IsOutOfCells}
use Rattle.book_parts.specs.Parts.{Parts}
use Rattle.book_parts.specs.Stands.{Stands}
use Rattle.dir_io.specs.Files.{Files, file_of}
use Rattle.field_codec.specs.declared.fields.FieldStorage.{FieldStorage}
use Rattle.field_codec.specs.Forms.{Finds, Found, HoldsForm, NamedFile, file_for, form_in}
use Rattle.field_codec.specs.Manifest.{Content}
use Rattle.field_codec.specs.Paths.{storage_path}
use Rattle.snap_write.specs.Snapshot.{HoldsSnapshot}
use Rattle.snap_write.specs.Written.{slots_without_rows, with_rows}
use Rattle.snap_open.specs.Faults.{HoldsFormOf, IsBadLayout, WhyNotOpened}
use Rattle.snap_open.specs.Opening.{OpenedFrom}
use Rattle.snap_open.specs.Sizes.{sizes_in}
use Rattle.snap_open.specs.Steps.{AreImagesIn, OpenedForm, WhyFormNotOpened}
use Rattle.snap_open.specs.declared.fault.OpenFault.{OpenFault}
use Rattle.snap_open.specs.declared.fault.OpenFault.TheVariants as faults
use Rattle.snap_open.proofs.Laid.{in_laid}
use Rattle.snap_open.proofs.Openable.{all_through}
use Rattle.snap_open.proofs.ReadParts.{AreThere}

module _ (held : (files : Files) (name : List ℕ) (form : Found) → Finds files name (Ok form) → (content : Content) × HoldsForm files name content × (form ≡ form_in name content)) (name : List ℕ) (form : Found) where
  -- the form was found in files, where they are told
  abbrev pub IsFound : Option Files → Type 0
  IsFound files = IfSome files (λ told. Finds told name (Ok form))

  pub all_there : (old new : Option Files) → new ≡ old → IsFound old → IfSome new (AreThere form.files)
  all_there old new same found = subst (λ (o : Option Files). IfSome o (AreThere form.files)) (sym same) (of old found)
    where
      of : (files : Option Files) → IsFound files → IfSome files (AreThere form.files)
      of None finds = tt
      of (Some told) finds =
          let h = held told name form finds in
          let is = h.1 in
          let each = all_through (λ path. is_some (file_of told path) ≡ true) (λ (s : FieldStorage). storage_path name s.slot s.id) h.0.storages is.there in
          subst (λ (f : Found). AreThere f.files told) (sym h.2) (All-map (λ (f : NamedFile). is_some (file_of told f.path) ≡ true) (file_for name) h.0.storages each)

  -- ---- what was opened

  holds : (files : Option Files) (slot : ℕ) (laid : List machine.Image) → slot ≡ form.slot → IsFound files → IfSome files (λ told. AreImagesIn told form.files laid) → IfSome files (λ told. HoldsSnapshot told name slot (with_rows laid) (slots_without_rows laid))
  holds None slot laid same finds are = tt
  holds (Some told) slot laid same finds are =
      let h = held told name form finds in
      record {
        content = h.0;
        form = h.1;
        slot_is = sym (same ∙ ap (λ (f : Found). f.slot) h.2);
        laid = laid;
        are_laid = in_laid told name h.0.storages laid (subst (λ (f : Found). AreImagesIn told f.files laid) h.2 are);
        images_are = refl;
        more_are = refl;
      }

  pub opened_from : (budget : ℕ) (files now : Option Files) → now ≡ files → IsFound files → (answer : Parts × ℕ) → OpenedForm budget now form answer → OpenedFrom budget name files answer
  opened_from budget files now same finds answer o = record {
    images = with_rows o.laid;
    more = slots_without_rows o.laid;
    room = o.room;
    stands = subst (λ (slot : ℕ). Stands answer.0 (opened budget slot (with_rows o.laid) (slots_without_rows o.laid)) []) (sym o.slot_is) o.stands;
    holds = holds files answer.1 o.laid o.slot_is finds (subst (λ (f : Option Files). IfSome f (λ told. AreImagesIn told form.files o.laid)) same o.are_images);
  }

  -- ---- why nothing was

  of_form : (told : Files) → Finds told name (Ok form) → (Is : List NamedFile → Type 0) → Is form.files → HoldsFormOf told name Is
  of_form told finds Is is =
      let h = held told name form finds in
      record { content = h.0; form = h.1; is = subst (λ (f : Found). Is f.files) h.2 is }

  why : (budget : ℕ) (told : Files) → Finds told name (Ok form) → (fault : OpenFault) → WhyFormNotOpened (Some told) budget form.files fault → WhyNotOpened told name budget fault
  why budget told finds (faults.Form f) w = absurd w
  why budget told finds (faults.Full used wanted limit) w = of_form told finds (λ l. IsFirstFull budget (sizes_in l) used wanted limit) w
  why budget told finds (faults.NoCell limit) w = of_form told finds (λ l. IsOutOfCells budget (sizes_in l) limit) w
  why budget told finds faults.DirFault w = tt
  why budget told finds (faults.Gone path) w = absurd cc
  why budget told finds (faults.Layout path fault) w = of_form told finds (IsBadLayout told budget (string_bytes path) fault) w.1
  why budget told finds faults.NoMemory w = tt

  by_answer : {X : Type 0} (budget : ℕ) (files : Option Files) → IsFound files → (r : Result X OpenFault) → IfErr r (WhyFormNotOpened files budget form.files) → IfSome files (λ told. IfErr r (WhyNotOpened told name budget))
  by_answer budget None finds r refused = tt
  by_answer budget (Some told) finds (Ok x) refused = tt
  by_answer budget (Some told) finds (Err fault) refused = why budget told finds fault refused

  pub why_not : {X : Type 0} (budget : ℕ) (files now : Option Files) → now ≡ files → IsFound files → (r : Result X OpenFault) → IfErr r (WhyFormNotOpened now budget form.files) → IfSome files (λ told. IfErr r (WhyNotOpened told name budget))
  why_not budget files now same finds r refused = by_answer budget files finds r (subst (λ (f : Option Files). IfErr r (WhyFormNotOpened f budget form.files)) same refused)
