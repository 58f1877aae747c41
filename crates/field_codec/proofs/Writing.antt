-- What is written is a manifest, and begins no other.
use Rattle.std.proofs.Common.{◌≡◌, ℕ, ◌+◌, ◌*◌, ◌<◌, List, [], ◌∷◌, ◌++◌, length, take, get_or, All, Ok, refl, sym, ap, subst, ◌∙◌, inr, arith, append_assoc, length-append}
use Rattle.std.specs.Prelude.{replicate}
use Rattle.std.specs.List.{flat_map}
use Rattle.std.proofs.lemmas.List.{append-nil, append_cancel_left, take_more}
use Rattle.std.proofs.lemmas.List.Concat.{flat_map-append}
use Rattle.std.proofs.lemmas.List.Elements.{All-push}
use Rattle.std.proofs.lemmas.List.Sorted.{IsPermutation-refl}
use Rattle.le_fields.specs.Fields.{number_bytes}
use Rattle.field_codec.specs.declared.fields.FieldStorage.{FieldStorage}
use Rattle.field_codec.specs.Manifest.{AreByRisingSlot, Content, Fits, IsManifest, IsSequence, entry_bytes, map_bytes}
use Rattle.field_codec.specs.Written.{IsWritable, written_manifest}
use Rattle.field_codec.specs.Reading.{manifest_in, number_in, storages_in}
use Rattle.field_codec.proofs.Alone.{entries_differ}
use Rattle.field_codec.proofs.Manifests.{Front, front_there, manifest_there}
use Rattle.field_codec.proofs.Numbers.{ok_is}

as_they_stand : (content : Content) → IsWritable content → AreByRisingSlot content.storages content.storages
as_they_stand content w = record { same = IsPermutation-refl content.storages; rise = w.rise }

empty : (width : ℕ) → IsSequence width (number_bytes 0)
empty width = record { count = 0; items = []; count_fits = omega arith; items_len = omega arith; parts = refl }

pub written_is_manifest : (content : Content) → IsWritable content → IsManifest (written_manifest content) content
written_is_manifest content w = record {
  entries = content.storages;
  version = replicate 8 0;
  opaque = replicate 104 0;
  rest = number_bytes 0 ++ number_bytes 0;
  count_fits = w.count_fits;
  entries_fit = w.storages_fit;
  slot_fits = w.slot_fits;
  version_len = refl;
  opaque_len = refl;
  sequences = inr (number_bytes 0, number_bytes 0, refl, empty 8, inr (empty 40));
  parts = refl;
  by_slot = as_they_stand content w;
}

pub written_again : (content : Content) → IsWritable content → manifest_in (written_manifest content) ≡ Ok (content.slot, content.storages)
unfolding written_is_manifest
written_again content w = manifest_there (written_manifest content) content (written_is_manifest content w)

entries_len : (storages : List FieldStorage) → length (flat_map entry_bytes storages) ≡ 32 * length storages
entries_len [] = refl
entries_len (s ∷ storages) = length-append (entry_bytes s) (flat_map entry_bytes storages) ∙ ap (λ (n : ℕ). 32 + n) (entries_len storages) ∙ omega arith

pub written_len : (content : Content) → length (written_manifest content) ≡ 144 + 32 * length content.storages
written_len content =
    let back : List ℕ = replicate 8 0 ++ (number_bytes content.slot ++ (replicate 104 0 ++ (number_bytes 0 ++ number_bytes 0))) in
    let front : length (map_bytes content.storages) ≡ 8 + length (flat_map entry_bytes content.storages) = length-append (number_bytes (length content.storages)) (flat_map entry_bytes content.storages) in
    let back_len : length back ≡ 136 = refl in
    let entries = entries_len content.storages in
    length-append (map_bytes content.storages) back ∙ omega arith

-- the front of bytes that go on behind a written manifest
front_of : (content : Content) (rest : List ℕ) → IsWritable content → Front (written_manifest content ++ rest) content.storages content.slot (replicate 104 0 ++ (number_bytes 0 ++ (number_bytes 0 ++ rest)))
front_of content rest w =
    let back : List ℕ = replicate 8 0 ++ (number_bytes content.slot ++ (replicate 104 0 ++ (number_bytes 0 ++ number_bytes 0))) in
    front_there (written_manifest content ++ rest) content.storages (replicate 8 0) content.slot (replicate 104 0 ++ (number_bytes 0 ++ (number_bytes 0 ++ rest))) w.count_fits w.storages_fit
    (entries_differ content.storages content.storages (as_they_stand content w)) refl w.slot_fits (append_assoc (map_bytes content.storages) back rest)

pub one_form : (content other : Content) (rest more : List ℕ) → IsWritable content → IsWritable other → written_manifest content ++ rest ≡ written_manifest other ++ more → (content ≡ other) × (rest ≡ more)
one_form content other rest more w w' same =
    let f = front_of content rest w in
    let g = front_of other more w' in
    let count : length content.storages ≡ length other.storages = ok_is _ _ (sym f.count ∙ ap (λ (xs : List ℕ). number_in xs 0) same ∙ g.count) in
    let one : List FieldStorage × ℕ = (content.storages, 8 + 32 * length content.storages) in
    let two : List FieldStorage × ℕ = (other.storages, 8 + 32 * length other.storages) in
    let read = ok_is one two (sym f.read ∙ (λ i. storages_in (same i) (count i) [] 8) ∙ g.read) in
    let storages : content.storages ≡ other.storages = ap (λ (x : List FieldStorage × ℕ). x.0) read in
    let slot : content.slot ≡ other.slot = ok_is _ _ (sym f.slot_is ∙ (λ i. number_in (same i) (8 + 32 * count i + 8)) ∙ g.slot_is) in
    let content-is : content ≡ other = λ i. record { slot = slot i; storages = storages i } in
    (content-is, append_cancel_left (written_manifest content) rest more (same ∙ ap (λ (x : Content). written_manifest x ++ more) (sym content-is)))

-- one more entry behind those before it
pub entries_more : (storages : List FieldStorage) (i : ℕ) (d : FieldStorage) → i < length storages → flat_map entry_bytes (take (i + 1) storages) ≡ flat_map entry_bytes (take i storages) ++ entry_bytes (get_or storages i d)
entries_more storages i d lt =
    ap (flat_map entry_bytes) (take_more storages i d lt) ∙ flat_map-append entry_bytes (take i storages) (get_or storages i d ∷ [])
    ∙ ap (λ (xs : List ℕ). flat_map entry_bytes (take i storages) ++ xs) (append-nil (entry_bytes (get_or storages i d)))

pub map_more : (before now after : List ℕ) (storages : List FieldStorage) (i : ℕ) (d : FieldStorage) → i < length storages → now ≡ before ++ (number_bytes (length storages) ++ flat_map entry_bytes (take i storages))
    → after ≡ now ++ entry_bytes (get_or storages i d) → after ≡ before ++ (number_bytes (length storages) ++ flat_map entry_bytes (take (i + 1) storages))
map_more before now after storages i d lt so_far adds =
    let n = number_bytes (length storages) in
    let some = flat_map entry_bytes (take i storages) in
    let one = entry_bytes (get_or storages i d) in
    adds ∙ ap (λ (xs : List ℕ). xs ++ one) so_far ∙ append_assoc before (n ++ some) one ∙ ap (λ (xs : List ℕ). before ++ xs) (append_assoc n some one)
    ∙ ap (λ (xs : List ℕ). before ++ (n ++ xs)) (sym (entries_more storages i d lt))

pub fits_more : (storages : List FieldStorage) (i : ℕ) (d : FieldStorage) → i < length storages → All Fits (take i storages) → Fits (get_or storages i d) → All Fits (take (i + 1) storages)
fits_more storages i d lt some one = subst (λ (xs : List FieldStorage). All Fits xs) (sym (take_more storages i d lt)) (All-push Fits (take i storages) (get_or storages i d) some one)
