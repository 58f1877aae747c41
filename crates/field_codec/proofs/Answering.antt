-- Answers of reading a form, one part after another.
use Rattle.std.proofs.Common.{◌≡◌, ℕ, true, false, List, Option, Some, None, Result, Ok, Err, refl, sym, subst, ap, ◌∙◌, arith, string_bytes}
use Rattle.field_codec.specs.declared.fault.FieldFault.{FieldFault}
use Rattle.field_codec.specs.declared.fault.FieldFault.TheVariants as fields
use Rattle.field_codec.specs.declared.form_fault.FormFault.{FormFault}
use Rattle.field_codec.specs.declared.form_fault.FormFault.TheVariants as faults
use Rattle.field_codec.specs.declared.form.Form.{Form}
use Rattle.field_codec.specs.Manifest.{Content, IsManifest}
use Rattle.field_codec.specs.Reading.{Fails, manifest_in}
use Rattle.field_codec.specs.Forms.{Flaw, FindsAt, Found, NoVersion, BadVersion, NoManifest, ManyManifests, BadManifest, SlotMismatch, SlotAbove, NoFile, UnknownFile, above, flaw_in, form_in, known_paths, known_with, mismatch, missing, or_flaw, paths_of, read, unknown, unless, unread}
use Rattle.field_codec.specs.FormFaults.{Given, PassesUnless, HasFormCause, is_dir_fault, form_seen, form_fault_of}

-- a flaw of one part is one of the whole
pub given_err : {X Y Z W : Type 0} {lost may : Type 0} (view : X → Y) (other : Z → W) (Is : Result Y Flaw → Type 0) (Has : Result W Flaw → Type 0) (fault : FormFault) → (lost → may) → ((flaw : Flaw) → Is (Err flaw) → Has (Err flaw)) → Given lost view Is (Err fault) → Given may other Has (Err fault)
given_err view other Is Has faults.NoVersion may h g = h NoVersion g
given_err view other Is Has faults.BadVersion may h g = h BadVersion g
given_err view other Is Has faults.NoManifest may h g = h NoManifest g
given_err view other Is Has (faults.ManyManifests count) may h g = h (ManyManifests count) g
given_err view other Is Has (faults.Manifest fault) may h g = h (BadManifest fault) g
given_err view other Is Has (faults.SlotMismatch name field) may h g = h (SlotMismatch name field) g
given_err view other Is Has (faults.SlotAbove slot snapshot) may h g = h (SlotAbove slot snapshot) g
given_err view other Is Has (faults.NoFile name) may h g = h (NoFile (string_bytes name)) g
given_err view other Is Has (faults.UnknownFile name) may h g = h (UnknownFile (string_bytes name)) g
given_err view other Is Has faults.DirFault may h g = may g
given_err view other Is Has (faults.Gone name) may h g = g
given_err view other Is Has faults.NoMemory may h g = tt

-- what the part gives is what the whole gives
pub given_all : {X Y : Type 0} {lost may : Type 0} (view : X → Y) (Is Has : Result Y Flaw → Type 0) (r : Result X FormFault) → (lost → may) → ((found : Result Y Flaw) → Is found → Has found) → Given lost view Is r → Given may view Has r
given_all view Is Has (Ok x) may h g = h (Ok (view x)) g
given_all view Is Has (Err fault) may h g = given_err view view Is Has fault may (λ flaw. h (Err flaw)) g

pub none_is : (o : Option Flaw) → Ok true ≡ unless o true → o ≡ None
none_is None e = refl
none_is (Some flaw) e = absurd cc

pub some_is : (o : Option Flaw) (flaw : Flaw) → Err flaw ≡ unless o true → o ≡ Some flaw
some_is None flaw e = absurd cc
some_is (Some other) flaw e = cc

-- a check fails before the others
pub fails_first : {X Y : Type 0} (Z : Type 0) (view : X → Y) (first rest all : Option Flaw) (y : Y) (fault : FormFault) → all ≡ or_flaw first rest → PassesUnless {X = Z} first (Err fault) → Given ⊥ view (λ found. found ≡ unless all y) (Err fault)
fails_first Z view first rest all y fault whole h =
    given_err (λ (z : Z). true) view (λ found. found ≡ unless first true) (λ found. found ≡ unless all y) fault (λ x. x)
    (λ flaw e. let is = some_is first flaw e in subst (λ (o : Option Flaw). Err flaw ≡ unless o y) (sym (whole ∙ ap (λ (o : Option Flaw). or_flaw o rest) is)) refl) h

pub passes_on : (first rest all : Option Flaw) → all ≡ or_flaw first rest → Ok true ≡ unless first true → all ≡ rest
passes_on first rest all whole passes = whole ∙ ap (λ (o : Option Flaw). or_flaw o rest) (none_is first passes)

pub flaws_join : (a b c : Option Flaw) → or_flaw a (or_flaw b c) ≡ or_flaw (or_flaw a b) c
flaws_join None b c = refl
flaws_join (Some flaw) b c = refl

-- the checks of a form, one after another
module _ (name : List ℕ) (names : List (List ℕ)) (slot : ℕ) (content : Content) (paths : List (List ℕ)) (named : paths ≡ paths_of name content.storages) (passes : Ok true ≡ unless (or_flaw (mismatch slot content) (above content)) true) where
  after_first : flaw_in name names slot content ≡ or_flaw (missing names paths) (unknown (known_with name content.slot paths) names)
  after_first =
      passes_on (or_flaw (mismatch slot content) (above content)) (or_flaw (missing names (paths_of name content.storages)) (unknown (known_paths name content) names)) (flaw_in name names slot content)
      (flaws_join (mismatch slot content) (above content) (or_flaw (missing names (paths_of name content.storages)) (unknown (known_paths name content) names))) passes
      ∙ ap (λ (l : List (List ℕ)). or_flaw (missing names l) (unknown (known_with name content.slot l) names)) (sym named)

  pub second_fails : {X : Type 0} (Z : Type 0) (view : X → Found) (fault : FormFault) → PassesUnless {X = Z} (missing names paths) (Err fault) → Given ⊥ view (λ found. found ≡ unless (flaw_in name names slot content) (form_in name content)) (Err fault)
  second_fails Z view fault h = fails_first Z view (missing names paths) (unknown (known_with name content.slot paths) names) (flaw_in name names slot content) (form_in name content) fault after_first h

  after_second : Ok true ≡ unless (missing names paths) true → flaw_in name names slot content ≡ unknown (known_with name content.slot paths) names
  after_second listed = passes_on (missing names paths) (unknown (known_with name content.slot paths) names) (flaw_in name names slot content) after_first listed

  none_after : (o : Option Flaw) → o ≡ or_flaw o None
  none_after None = refl
  none_after (Some flaw) = refl

  pub third_fails : {X : Type 0} (Z : Type 0) (view : X → Found) (fault : FormFault) → Ok true ≡ unless (missing names paths) true → PassesUnless {X = Z} (unknown (known_with name content.slot paths) names) (Err fault) → Given ⊥ view (λ found. found ≡ unless (flaw_in name names slot content) (form_in name content)) (Err fault)
  third_fails Z view fault listed h =
      fails_first Z view (unknown (known_with name content.slot paths) names) None (flaw_in name names slot content) (form_in name content) fault (after_second listed ∙ none_after _) h

  pub all_pass : (found : Found) → found ≡ form_in name content → Ok true ≡ unless (missing names paths) true → Ok true ≡ unless (unknown (known_with name content.slot paths) names) true → Ok found ≡ unless (flaw_in name names slot content) (form_in name content)
  all_pass found is listed known = ap (λ (f : Found). Ok f) is ∙ sym (ap (λ (o : Option Flaw). unless o (form_in name content)) (after_second listed ∙ none_is _ known))

-- bytes that are no manifest
pub unread_gives : (name : List ℕ) (names : List (List ℕ)) (slot : ℕ) (bytes : List ℕ) (fault : FieldFault) → Fails fault (manifest_in bytes) → Given {X = Form} ⊥ form_seen (FindsAt name names slot bytes) (Err (form_fault_of fault))
unread_gives name names slot bytes (fields.Cut at) h = unread (fields.Cut at) h refl
unread_gives name names slot bytes (fields.SlotTwice at) h = unread (fields.SlotTwice at) h refl
unread_gives name names slot bytes (fields.Storages at count) h = unread (fields.Storages at count) h refl
unread_gives name names slot bytes (fields.Trailing at) h = unread (fields.Trailing at) h refl
unread_gives name names slot bytes fields.NoMemory h = tt

-- bytes that are one
pub read_gives : (name : List ℕ) (names : List (List ℕ)) (slot : ℕ) (bytes : List ℕ) (content : Content) (r : Result Form FormFault) → IsManifest bytes content → Given ⊥ form_seen (λ found. found ≡ unless (flaw_in name names slot content) (form_in name content)) r → Given ⊥ form_seen (FindsAt name names slot bytes) r
read_gives name names slot bytes content r is g = given_all form_seen _ (FindsAt name names slot bytes) r (λ x. x) (λ found e. read content is e) g

-- ---- the causes of a directory's faults

-- a part that asks nothing of the directory
pub asks_nothing : {X Y : Type 0} (view : X → Y) (Is : Result Y Flaw → Type 0) (r : Result X FormFault) → Given ⊥ view Is r → is_dir_fault r ≡ false
asks_nothing view Is (Ok x) g = refl
asks_nothing view Is (Err faults.NoVersion) g = refl
asks_nothing view Is (Err faults.BadVersion) g = refl
asks_nothing view Is (Err faults.NoManifest) g = refl
asks_nothing view Is (Err (faults.ManyManifests count)) g = refl
asks_nothing view Is (Err (faults.Manifest fault)) g = refl
asks_nothing view Is (Err (faults.SlotMismatch name field)) g = refl
asks_nothing view Is (Err (faults.SlotAbove slot snapshot)) g = refl
asks_nothing view Is (Err (faults.NoFile name)) g = refl
asks_nothing view Is (Err (faults.UnknownFile name)) g = refl
asks_nothing view Is (Err faults.DirFault) g = absurd g
asks_nothing view Is (Err (faults.Gone name)) g = refl
asks_nothing view Is (Err faults.NoMemory) g = refl

pub same_fault : (X Y : Type 0) (fault : FormFault) → is_dir_fault {X = X} (Err fault) ≡ is_dir_fault {X = Y} (Err fault)
same_fault X Y faults.NoVersion = refl
same_fault X Y faults.BadVersion = refl
same_fault X Y faults.NoManifest = refl
same_fault X Y (faults.ManyManifests count) = refl
same_fault X Y (faults.Manifest fault) = refl
same_fault X Y (faults.SlotMismatch name field) = refl
same_fault X Y (faults.SlotAbove slot snapshot) = refl
same_fault X Y (faults.NoFile name) = refl
same_fault X Y (faults.UnknownFile name) = refl
same_fault X Y faults.DirFault = refl
same_fault X Y (faults.Gone name) = refl
same_fault X Y faults.NoMemory = refl

-- no call was made, or all were done
pub no_cause : {X : Type 0} (before now : ℕ) (r : Result X FormFault) → now ≡ before → is_dir_fault r ≡ false → HasFormCause before now r
no_cause before now r same not_failed = record {
  later = omega arith;
  failed = λ failed. absurd (cc (sym failed ∙ not_failed));
  kept = λ h. same;
}

-- a fault goes up as it is
pub cause_up : {X Y : Type 0} (before now : ℕ) (fault : FormFault) → HasFormCause {X = X} before now (Err fault) → HasFormCause {X = Y} before now (Err fault)
cause_up {X = X} {Y = Y} before now fault cause = record {
  later = cause.later;
  failed = λ failed. cause.failed (same_fault X Y fault ∙ failed);
  kept = λ kept. cause.kept (same_fault X Y fault ∙ kept);
}

-- what follows a part that was done
pub cause_after : {X Y : Type 0} (before mid now : ℕ) (x : X) (r : Result Y FormFault) → HasFormCause before mid (Ok x) → HasFormCause mid now r → HasFormCause before now r
cause_after before mid now x r first next = subst (λ (n : ℕ). HasFormCause n now r) (first.kept refl) next
