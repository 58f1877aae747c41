-- A scan, row by row.
use Rattle.std.proofs.Common.{◌≡◌, ℕ, ◌+◌, ◌-◌, ◌%◌, ◌<◌, ◌≤◌, List, [], ◌∷◌, ◌++◌, length, take, drop, reverse, get_or, cond, Ok, Err, Option, Some, None, refl, sym, ap, subst, ◌∙◌, inl, inr, arith, append_assoc, length-append}
use Rattle.std.specs.List.Sorted.{IsStrictlyIncreasing}
use Rattle.std.proofs.Math.Seq.{take-add}
use Rattle.std.proofs.lemmas.Bool.{cases_lt}
use Rattle.std.proofs.lemmas.List.{append-nil, take_all, take_at, length-take, length-drop, take-append-drop, map_push, reverse-append, get_or_push, get_or_append_left}
use Rattle.le_fields.specs.Fields.{number_bytes}
use Rattle.account_layout.specs.Record.{HasFields, header_bytes}
use Rattle.adb_model.specs.Account as machine
use Rattle.vec_scan.specs.declared.fault.LayoutFault.{LayoutFault}
use Rattle.vec_scan.specs.declared.fault.LayoutFault.TheVariants.{ShortFile, HeaderCut, DataCut, DataTooLong, BadExecutable, TailCut, NoMemory}
use Rattle.vec_scan.specs.Image.{Placed, Fills, FillsOrEnds, EndsWith, AreRows, EndInRows, IsImage, placed_at}
use Rattle.vec_scan.specs.Fault.{FailsWith, fault_at}
use Rattle.vec_scan.specs.Forward.{BeginsWith, next_start, Passes, Steps, rows_of, IsScanned, IsRefused, Scans}
use Rattle.vec_scan.proofs.Forwards.{ImageFrom, FaultFrom, image_from, fault_from}
use Rattle.vec_scan.proofs.Passing.{drop_on, lengths}
use Rattle.vec_scan.proofs.Rounding.{rounded-mod}

-- a record isn't empty
pub part_some : (part key : List ℕ) (fields : machine.Account) → HasFields part key fields → 0 < length part
part_some part key fields h =
    let skipped = h.skipped in
    let header = header_bytes skipped key fields in
    let rest : List ℕ = key ++ (number_bytes fields.lamports ++ (number_bytes fields.rent_epoch ++ (fields.owner ++ ((cond fields.executable 1 0 ∷ []) ++ (skipped.padding ++ (skipped.hash ++ [])))))) in
    let version : length header ≡ length skipped.version + length (number_bytes (length fields.bytes) ++ rest) = length-append skipped.version (number_bytes (length fields.bytes) ++ rest) in
    let whole : length part ≡ length header + length fields.bytes = ap length h.parts ∙ length-append header fields.bytes in
    omega arith

-- the rows before a place were read, and images and faults go on from there
pub record Scanned (image : List ℕ) (at : ℕ) (offsets : List ℕ) : Type 0 where
  pub inside : at ≤ length image
  pub before : IsImage (take at image) (rows_of image offsets)
  pub rows : at < length image → AreRows (take at image) (reverse (rows_of image offsets))
  pub aligned : at < length image → at % 8 ≡ 0
  pub rise : IsStrictlyIncreasing offsets
  pub last : (d : ℕ) → 0 < length offsets → get_or offsets (length offsets - 1) d < at
  pub images : (rows : List Placed) → IsImage image rows → (rest : List Placed) × (rows ≡ rows_of image offsets ++ rest) × ImageFrom at (drop at image) rest
  pub faults : (fault : LayoutFault) → FailsWith image fault → (rest : List Placed) × FaultFrom image fault at (drop at image) rest

pub scanned_none : (image : List ℕ) → Scanned image 0 []
scanned_none image = record {
  inside = omega arith;
  before = refl;
  rows = λ _. refl;
  aligned = λ _. refl;
  rise = λ k lt. absurd (omega arith);
  last = λ d lt. absurd (omega arith);
  images = λ rows is. (rows, refl, image_from image rows is);
  faults = λ fault is. fault_from image fault is;
}

-- a number above the last one, behind numbers that rise
rise_push : (xs : List ℕ) (y : ℕ) → IsStrictlyIncreasing xs → (0 < length xs → get_or xs (length xs - 1) 0 < y) → IsStrictlyIncreasing (xs ++ y ∷ [])
rise_push xs y rise last k lt =
    let len = length-append xs (y ∷ []) in
    elim (cases_lt (k + 1) (length xs)) [
      | inl inside ↦ rw (get_or_append_left xs (y ∷ []) 0 k (omega arith), get_or_append_left xs (y ∷ []) 0 (k + 1) inside) (rise k inside)
      | inr end ↦
          let here : length xs ≡ k + 1 = omega arith in
          let before : length xs - 1 ≡ k = omega arith in
          let below : get_or xs (length xs - 1) 0 < y = last (omega arith) in
          rw (get_or_append_left xs (y ∷ []) 0 k (omega arith), get_or_push xs y 0 (k + 1) here) (subst (λ (n : ℕ). get_or xs n 0 < y) before below)
    ]

rows_push : (image : List ℕ) (offsets : List ℕ) (at : ℕ) → rows_of image (offsets ++ at ∷ []) ≡ rows_of image offsets ++ placed_at image at ∷ []
rows_push image offsets at = map_push (placed_at image) offsets at

back_push : (image : List ℕ) (offsets : List ℕ) (at : ℕ) → reverse (rows_of image (offsets ++ at ∷ [])) ≡ placed_at image at ∷ reverse (rows_of image offsets)
back_push image offsets at = ap reverse (rows_push image offsets at) ∙ reverse-append (rows_of image offsets) (placed_at image at ∷ [])

take_on : (image : List ℕ) (at : ℕ) (part gap more : List ℕ) → drop at image ≡ part ++ (gap ++ more) → take (at + length part + length gap) image ≡ take at image ++ (part ++ gap)
take_on image at part gap more is =
    let n : at + length part + length gap ≡ at + length (part ++ gap) = omega (arith, length-append part gap) in
    rw n (take-add at (length (part ++ gap)) image)
    ∙ ap (λ (xs : List ℕ). take at image ++ xs) (ap (take (length (part ++ gap))) (is ∙ sym (append_assoc part gap more)) ∙ take_at (part ++ gap) more (length (part ++ gap)) refl)

ends_with : (image : List ℕ) (at next : ℕ) (p : Passes image at next) (Gap : List ℕ → List ℕ → Type 0) → at ≤ length image → Gap p.first.part p.first.gap → EndsWith Gap (take at image) (take next image) (placed_at image at)
ends_with image at next p Gap le is =
    let b = p.first in
    record {
      part = b.part;
      gap = b.gap;
      parts = ap (λ (n : ℕ). take n image) p.next_is ∙ take_on image at b.part b.gap b.more b.parts;
      offset = b.offset ∙ omega (arith, length-take at image);
      is_record = b.is_record;
      is_gap = is;
    }

-- nothing stands at a place where bytes are left
nothing_left : {B : Type 0} (image : List ℕ) (at : ℕ) → at < length image → drop at image ≡ [] → B
nothing_left image at lt none = let len : length (drop at image) ≡ 0 = ap length none in absurd (omega (arith, length-drop at image))

go_on : (F : ℕ → List ℕ → List Placed → Type 0) (image : List ℕ) (at next : ℕ) (row : Placed) (rows : List Placed) (b : BeginsWith at (drop at image) row) → next ≡ next_start b → F (next_start b) b.more rows → F next (drop next image) rows
go_on F image at next row rows b is tail =
    let more : b.more ≡ drop next image = sym (ap (λ (n : ℕ). drop n image) is ∙ drop_on image at b.part b.gap b.more b.parts) in
    subst (λ (xs : List ℕ). F next xs rows) more (subst (λ (n : ℕ). F n b.more rows) (sym is) tail)

images_more : (image : List ℕ) (at next : ℕ) (offsets : List ℕ) → at < length image → Steps image at (Ok next) → (rows rest : List Placed) → rows ≡ rows_of image offsets ++ rest → ImageFrom at (drop at image) rest
    → (rest' : List Placed) × (rows ≡ rows_of image (offsets ++ at ∷ []) ++ rest') × ImageFrom next (drop next image) rest'
images_more image at next offsets lt steps rows [] is from = nothing_left image at lt from
images_more image at next offsets lt steps rows (row ∷ rest) is from =
    let one = steps.1 row from.0 from.1 in (
      rest,
      is ∙ ap (λ (r : Placed). rows_of image offsets ++ (r ∷ rest)) one.0 ∙ sym (append_assoc (rows_of image offsets) (placed_at image at ∷ []) rest) ∙ ap (λ (rs : List Placed). rs ++ rest) (sym (rows_push image offsets at)),
      go_on ImageFrom image at next row rest from.0 one.1 from.2,
    )

faults_more : (image : List ℕ) (at next : ℕ) (fault : LayoutFault) → Steps image at (Ok next) → (rest : List Placed) → FaultFrom image fault at (drop at image) rest
    → (rest' : List Placed) × FaultFrom image fault next (drop next image) rest'
faults_more image at next fault steps [] from = absurd (none_some (fault_at image at) fault steps.0.sound from.1)
  where
    none_some : (o : Option LayoutFault) (f : LayoutFault) → o ≡ None → o ≡ Some f → ⊥
    none_some o f n s = cc
faults_more image at next fault steps (row ∷ rest) from =
    let one = steps.1 row from.0 (inl from.1) in
    (rest, go_on (FaultFrom image fault) image at next row rest from.0 one.1 from.2)

pub scanned_more : (image : List ℕ) (at next : ℕ) (offsets : List ℕ) → at < length image → Scanned image at offsets → Steps image at (Ok next) → Scanned image next (offsets ++ at ∷ [])
scanned_more image at next offsets lt s steps =
    let p = steps.0 in
    let b = p.first in
    let inside = s.inside in
    let later = p.later in
    let back = back_push image offsets at in
    let whole : next < length image → Fills b.part b.gap = λ below. elim p.is_row [
      | inl fills ↦ fills
      | inr ends ↦
          let no_more : length b.more ≡ 0 = ap length ends.1 in
          let len = lengths image at b.part b.gap b.more b.parts in
          let next_is = p.next_is in
          absurd (omega arith)
    ] in
    record {
      inside = p.inside;
      before = subst (λ (rs : List Placed). EndInRows (take next image) rs) (sym back) (take at image, s.rows lt, ends_with image at next p FillsOrEnds inside (elim p.is_row [ inl fills ↦ inl fills | inr ends ↦ inr ends.0 ]));
      rows = λ more. subst (λ (rs : List Placed). AreRows (take next image) rs) (sym back) (take at image, s.rows lt, ends_with image at next p Fills inside (whole more));
      aligned = λ more.
          let fills = whole more in
          let at-is = s.aligned lt in
          let next_is = p.next_is in
          let eights = rounded-mod (length b.part) in
          omega arith;
      rise = rise_push offsets at s.rise (s.last 0);
      last = λ d some. let at-is = get_or_push offsets at d (length (offsets ++ at ∷ []) - 1) (omega (arith, length-append offsets (at ∷ []))) in omega arith;
      images = λ rows is. let old = s.images rows is in images_more image at next offsets lt steps rows old.0 old.1 old.2;
      faults = λ fault is. let old = s.faults fault is in faults_more image at next fault steps old.0 old.1;
    }

-- no row begins where nothing is left
no_row : {B : Type 0} (image : List ℕ) (at : ℕ) (row : Placed) → length image ≤ at → BeginsWith at (drop at image) row → B
no_row image at row le b =
    let len = lengths image at b.part b.gap b.more b.parts in
    let some = part_some b.part row.row.key b.is_record.0 b.is_record.1 in
    absurd (omega arith)

no_more_rows : (image : List ℕ) (at : ℕ) (rows found rest : List Placed) → length image ≤ at → rows ≡ found ++ rest → ImageFrom at (drop at image) rest → rows ≡ found
no_more_rows image at rows found [] le is from = is ∙ append-nil found
no_more_rows image at rows found (row ∷ rest) le is from = no_row image at row le from.0

no_fault_left : (image : List ℕ) (at : ℕ) (fault : LayoutFault) (rest : List Placed) → length image ≤ at → FaultFrom image fault at (drop at image) rest → ⊥
no_fault_left image at fault [] le from = let some = from.0 in absurd (omega (arith, length-drop at image))
no_fault_left image at fault (row ∷ rest) le from = no_row image at row le from.0

pub scanned_all : (image : List ℕ) (at : ℕ) (offsets : List ℕ) → length image ≤ at → Scanned image at offsets → IsScanned image offsets
scanned_all image at offsets le s = record {
  are_rows = subst (λ (xs : List ℕ). IsImage xs (rows_of image offsets)) (take_all at image le) s.before;
  rise = s.rise;
  only = λ rows is. let old = s.images rows is in no_more_rows image at rows (rows_of image offsets) old.0 le old.1 old.2;
  sound = λ fault is. let old = s.faults fault is in no_fault_left image at fault old.0 le old.1;
}

no_rows : (image : List ℕ) (at : ℕ) (fault : LayoutFault) (rest : List Placed) → at < length image → Steps image at (Err fault) → ImageFrom at (drop at image) rest → ⊥
no_rows image at fault [] lt steps from = nothing_left image at lt from
no_rows image at fault (row ∷ rest) lt steps from = steps.1 row from.0 from.1

same_fault : (image : List ℕ) (at : ℕ) (fault other : LayoutFault) (rest : List Placed) → Steps image at (Err fault) → FaultFrom image other at (drop at image) rest → other ≡ fault
same_fault image at fault other [] steps from = same (fault_at image at) steps.0 from.1
  where
    same : (o : Option LayoutFault) → o ≡ Some fault → o ≡ Some other → other ≡ fault
    same o a b = cc
same_fault image at fault other (row ∷ rest) steps from = absurd (steps.1 row from.0 (inl from.1))

refused : (image : List ℕ) (fault : LayoutFault) → IsRefused image fault → Scans image (Err fault)
refused image (ShortFile have want) is = is
refused image (HeaderCut at) is = is
refused image (DataCut at len) is = is
refused image (DataTooLong len) is = is
refused image (BadExecutable at byte) is = is
refused image (TailCut at len) is = is
refused image NoMemory is = tt

pub scanned_not : (image : List ℕ) (at : ℕ) (offsets : List ℕ) (fault : LayoutFault) → at < length image → Scanned image at offsets → Steps image at (Err fault) → Scans image (Err fault)
scanned_not image at offsets fault lt s steps =
    let le = s.inside in
    let place : at ≡ length (take at image) = omega (arith, length-take at image) in
    refused image fault (record {
      fails = record {
        front = take at image;
        rest = drop at image;
        rows = reverse (rows_of image offsets);
        parts = sym (take-append-drop at image);
        are_rows = s.rows lt;
        more = omega (arith, length-drop at image);
        fault_is = ap (fault_at image) (sym place) ∙ steps.0;
      };
      none = λ rows is. let old = s.images rows is in no_rows image at fault old.0 lt steps old.2;
      only = λ other is. let old = s.faults other is in same_fault image at fault other old.0 steps old.1;
    })
