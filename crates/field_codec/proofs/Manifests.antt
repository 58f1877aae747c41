-- What is read is a manifest, and a manifest is read.
use Rattle.std.proofs.Common.{◌≡◌, ℕ, ◌+◌, ◌*◌, ◌^◌, ◌<◌, true, eqb, List, [], ◌++◌, length, take, drop, Result, Ok, Err, refl, sym, ap, subst, ◌∙◌, arith, append_assoc}
use Rattle.std.specs.Prelude.{if◌then◌else◌, ◌==◌, MatchResult, IfOk}
use Rattle.std.specs.List.{AllByRecursion, IsDistinct, flat_map}
use Rattle.std.proofs.lemmas.Bool.{eqb-true, eq-eqb}
use Rattle.le_fields.specs.Fields.{number_bytes}
use Rattle.field_codec.specs.declared.fault.FieldFault.{FieldFault}
use Rattle.field_codec.specs.declared.fault.FieldFault.TheVariants.{Cut, SlotTwice, Storages, Trailing, NoMemory}
use Rattle.field_codec.specs.declared.fields.FieldStorage.{FieldStorage}
use Rattle.field_codec.specs.declared.fields.Fields.{Fields}
use Rattle.field_codec.specs.Manifest.{AreByRisingSlot, AreSequences, Content, Fits, IsManifest, OrEnds, content_of, entry_bytes, map_bytes, slots_of}
use Rattle.field_codec.specs.Reading.{◌>>=◌, GivesFields, field_end, manifest_in, number_in, pair_end, sequence_or_end, storages_in}
use Rattle.field_codec.proofs.Alone.{entries_differ, one_order}
use Rattle.field_codec.proofs.Entries.{storages_take, storages_there}
use Rattle.field_codec.proofs.Numbers.{IsBytes, behind, bind_ok, cut, cut_len, field_takes, field_there, guard_is, number_behind, number_takes, number_there, ok_is, within}
use Rattle.field_codec.proofs.Sequences.{sequences_take, sequences_there}

-- what is read of the parts up to the slot of the snapshot
pub record Front (bytes : List ℕ) (entries : List FieldStorage) (slot : ℕ) (rest : List ℕ) : Type 0 where
  pub count : number_in bytes 0 ≡ Ok (length entries)
  pub read : storages_in bytes (length entries) [] 8 ≡ Ok (entries, 8 + 32 * length entries)
  pub skipped : field_end bytes 8 (8 + 32 * length entries) ≡ Ok (8 + 32 * length entries + 8)
  pub slot_is : number_in bytes (8 + 32 * length entries + 8) ≡ Ok slot
  pub next : drop (8 + 32 * length entries + 8 + 8) bytes ≡ rest

pub front_there : (bytes : List ℕ) (entries : List FieldStorage) (version : List ℕ) (slot : ℕ) (rest : List ℕ) → length entries < 2 ^ 64 → AllByRecursion Fits entries → IsDistinct eqb (slots_of entries) → length version ≡ 8 → slot < 2 ^ 64
    → bytes ≡ map_bytes entries ++ (version ++ (number_bytes slot ++ rest)) → Front bytes entries slot rest
front_there bytes entries version slot rest count_fits fit differ version_len slot_fits parts =
    let n = length entries in
    let r2 = number_bytes slot ++ rest in
    let r1 = version ++ r2 in
    let d0 : drop 0 bytes ≡ number_bytes n ++ (flat_map entry_bytes entries ++ r1) = parts ∙ append_assoc (number_bytes n) (flat_map entry_bytes entries) r1 in
    let d1 : drop 8 bytes ≡ flat_map entry_bytes entries ++ r1 = number_behind bytes 0 n (flat_map entry_bytes entries ++ r1) d0 in
    let es = storages_there entries [] bytes 8 r1 fit differ d1 in
    let at = 8 + 32 * n in
    let inside = within bytes at version r2 (omega arith) es.1 in
    let d3 : drop (at + 8) bytes ≡ r2 = behind bytes at 8 version r2 version_len es.1 in
    record {
      count = number_there bytes 0 n (flat_map entry_bytes entries ++ r1) count_fits d0;
      read = es.0;
      skipped = field_there bytes 8 at (omega arith);
      slot_is = number_there bytes (at + 8) slot rest slot_fits d3;
      next = number_behind bytes (at + 8) slot rest d3;
    }

-- reading goes on after a part
abbrev after_second : List ℕ → ℕ → List FieldStorage → ℕ → Result (ℕ × List FieldStorage) FieldFault
after_second bytes slot entries second = if second == length bytes then Ok (slot, entries) else Err (Trailing second)

abbrev after_first : List ℕ → ℕ → List FieldStorage → ℕ → Result (ℕ × List FieldStorage) FieldFault
after_first bytes slot entries first = sequence_or_end bytes (pair_end bytes) first >>= after_second bytes slot entries

abbrev after_opaque : List ℕ → ℕ → List FieldStorage → ℕ → Result (ℕ × List FieldStorage) FieldFault
after_opaque bytes slot entries opaque = sequence_or_end bytes (field_end bytes 8) opaque >>= after_first bytes slot entries

abbrev after_slot : List ℕ → List FieldStorage → ℕ → ℕ → Result (ℕ × List FieldStorage) FieldFault
after_slot bytes entries version slot = field_end bytes 104 (version + 8) >>= after_opaque bytes slot entries

abbrev after_version : List ℕ → List FieldStorage → ℕ → Result (ℕ × List FieldStorage) FieldFault
after_version bytes entries version = number_in bytes version >>= after_slot bytes entries version

abbrev after_entries : List ℕ → List FieldStorage × ℕ → Result (ℕ × List FieldStorage) FieldFault
after_entries bytes entries = field_end bytes 8 entries.1 >>= after_version bytes entries.0

abbrev after_count : List ℕ → ℕ → Result (ℕ × List FieldStorage) FieldFault
after_count bytes count = storages_in bytes count [] 8 >>= after_entries bytes

goes_on : {A B : Type 0} (r : Result A FieldFault) (x : A) (f : A → Result B FieldFault) → r ≡ Ok x → (r >>= f) ≡ f x
goes_on {A = A} r x f is = ap (λ (s : Result A FieldFault). s >>= f) is

-- a manifest is read
pub manifest_there : (bytes : List ℕ) (content : Content) (m : IsManifest bytes content) → manifest_in bytes ≡ Ok (content.slot, m.entries)
unfolding manifest_in
manifest_there bytes content m =
    let front = front_there bytes m.entries m.version content.slot (m.opaque ++ m.rest) m.count_fits m.entries_fit (entries_differ m.entries content.storages m.by_slot) m.version_len m.slot_fits m.parts in
    let at = 8 + 32 * length m.entries + 8 in
    let len = m.opaque_len in
    let inside = within bytes (at + 8) m.opaque m.rest (omega arith) front.next in
    let opaque = field_there bytes 104 (at + 8) (omega arith) in
    let d5 : drop (at + 8 + 104) bytes ≡ m.rest = behind bytes (at + 8) 104 m.opaque m.rest m.opaque_len front.next in
    let s = sequences_there bytes (at + 8 + 104) (omega arith) (subst (λ (xs : List ℕ). OrEnds AreSequences xs) (sym d5) m.sequences) in
    goes_on (number_in bytes 0) (length m.entries) (after_count bytes) front.count
    ∙ goes_on (storages_in bytes (length m.entries) [] 8) (m.entries, 8 + 32 * length m.entries) (after_entries bytes) front.read
    ∙ goes_on (field_end bytes 8 (8 + 32 * length m.entries)) at (after_version bytes m.entries) front.skipped
    ∙ goes_on (number_in bytes at) content.slot (after_slot bytes m.entries at) front.slot_is
    ∙ goes_on (field_end bytes 104 (at + 8)) (at + 8 + 104) (after_opaque bytes content.slot m.entries) opaque
    ∙ goes_on (sequence_or_end bytes (field_end bytes 8) (at + 8 + 104)) s.0 (after_first bytes content.slot m.entries) s.1
    ∙ goes_on (sequence_or_end bytes (pair_end bytes) s.0) (length bytes) (after_second bytes content.slot m.entries) s.2
    ∙ (let ends : eqb (length bytes) (length bytes) ≡ true = eq-eqb (length bytes) (length bytes) refl in rw ends refl)

-- what is read is a manifest
pub manifest_takes : (bytes : List ℕ) (content : Content) (entries : List FieldStorage) → IsBytes bytes → manifest_in bytes ≡ Ok (content.slot, entries) → AreByRisingSlot entries content.storages → IsManifest bytes content
unfolding manifest_in
manifest_takes bytes content entries fits e by_slot =
    let y : ℕ × List FieldStorage = (content.slot, entries) in
    let a = bind_ok (number_in bytes 0) (after_count bytes) y e in
    let b = bind_ok (storages_in bytes a.0 [] 8) (after_entries bytes) y a.2 in
    let c = bind_ok (field_end bytes 8 b.0.1) (after_version bytes b.0.0) y b.2 in
    let d = bind_ok (number_in bytes c.0) (after_slot bytes b.0.0 c.0) y c.2 in
    let f = bind_ok (field_end bytes 104 (c.0 + 8)) (after_opaque bytes d.0 b.0.0) y d.2 in
    let g = bind_ok (sequence_or_end bytes (field_end bytes 8) f.0) (after_first bytes d.0 b.0.0) y f.2 in
    let h = bind_ok (sequence_or_end bytes (pair_end bytes) g.0) (after_second bytes d.0 b.0.0) y g.2 in
    let made : ℕ × List FieldStorage = (d.0, b.0.0) in
    let ends = guard_is (eqb h.0 (length bytes)) (Trailing h.0) made y h.2 in
    let n = number_takes bytes 0 a.0 fits a.1 in
    let es = storages_take a.0 [] bytes 8 b.0 fits b.1 in
    let v = field_takes bytes 8 b.0.1 c.0 c.1 in
    let s = number_takes bytes c.0 d.0 fits d.1 in
    let o = field_takes bytes 104 (c.0 + 8) f.0 f.1 in
    let v-is = v.0 in
    let v-le = v.1 in
    let o-is = o.0 in
    let o-le = o.1 in
    let last : sequence_or_end bytes (pair_end bytes) g.0 ≡ Ok (length bytes) = h.1 ∙ ap (λ (m : ℕ). Ok m) (eqb-true h.0 (length bytes) ends.0) in
    let version = take 8 (drop b.0.1 bytes) in
    let opaque = take 104 (drop (c.0 + 8) bytes) in
    let rest = drop f.0 bytes in
    let slot-is : d.0 ≡ content.slot = ap (λ (x : ℕ × List FieldStorage). x.0) ends.1 in
    let entries-is : es.entries ≡ entries = sym es.all ∙ ap (λ (x : ℕ × List FieldStorage). x.1) ends.1 in
    let p3 : drop (c.0 + 8) bytes ≡ opaque ++ rest = cut bytes (c.0 + 8) 104 ∙ ap (λ (m : ℕ). opaque ++ drop m bytes) o-is in
    let p2 : drop c.0 bytes ≡ number_bytes content.slot ++ (opaque ++ rest) = s.parts ∙ (λ i. number_bytes (slot-is i) ++ p3 i) in
    let p1 : drop b.0.1 bytes ≡ version ++ (number_bytes content.slot ++ (opaque ++ rest)) = cut bytes b.0.1 8 ∙ ap (λ (m : ℕ). version ++ drop m bytes) v-is ∙ ap (λ (xs : List ℕ). version ++ xs) p2 in
    let back = version ++ (number_bytes content.slot ++ (opaque ++ rest)) in
    let count-is : a.0 ≡ length entries = sym es.count ∙ ap length entries-is in
    let p00 : drop 8 bytes ≡ flat_map entry_bytes entries ++ back = es.parts ∙ (λ j. flat_map entry_bytes (entries-is j) ++ p1 j) in
    let p0 : bytes ≡ number_bytes (length entries) ++ (flat_map entry_bytes entries ++ back) = n.parts ∙ (λ i. number_bytes (count-is i) ++ p00 i) in
    record {
      entries = entries;
      version = version;
      opaque = opaque;
      rest = rest;
      count_fits = subst (λ (m : ℕ). m < 2 ^ 64) count-is n.below;
      entries_fit = subst (λ (xs : List FieldStorage). AllByRecursion Fits xs) entries-is es.fit;
      slot_fits = subst (λ (m : ℕ). m < 2 ^ 64) slot-is s.below;
      version_len = cut_len bytes b.0.1 8 (omega arith);
      opaque_len = cut_len bytes (c.0 + 8) 104 (omega arith);
      sequences = sequences_take bytes f.0 g.0 fits o-le g.1 last;
      parts = p0 ∙ sym (append_assoc (number_bytes (length entries)) (flat_map entry_bytes entries) back);
      by_slot = by_slot;
    }

-- bytes have one reading
pub one_reading : (bytes : List ℕ) (content other : Content) → IsManifest bytes content → IsManifest bytes other → content ≡ other
one_reading bytes content other m k =
    let one : ℕ × List FieldStorage = (content.slot, m.entries) in
    let two : ℕ × List FieldStorage = (other.slot, k.entries) in
    let same = ok_is one two (sym (manifest_there bytes content m) ∙ manifest_there bytes other k) in
    let entries : m.entries ≡ k.entries = ap (λ (x : ℕ × List FieldStorage). x.1) same in
    let order = one_order k.entries content.storages other.storages (subst (λ (xs : List FieldStorage). AreByRisingSlot xs content.storages) entries m.by_slot) k.by_slot in
    (λ i. record { slot = ap (λ (x : ℕ × List FieldStorage). x.0) same i; storages = order i })

-- a result that reading gives is what a manifest says
pub is_found : (bytes : List ℕ) (r : Result Fields FieldFault) → IsBytes bytes → GivesFields r (manifest_in bytes) → IfOk r (λ fields. IsManifest bytes (content_of fields))
is_found bytes (Ok fields) fits gives = manifest_takes bytes (content_of fields) gives.0 fits gives.1 gives.2
is_found bytes (Err fault) fits gives = tt

no_fault : (fault : FieldFault) (read : Result (ℕ × List FieldStorage) FieldFault) (x : ℕ × List FieldStorage) → read ≡ Ok x → GivesFields (Err fault) read → fault ≡ NoMemory
no_fault NoMemory read x is gives = refl
no_fault (Cut at) read x is gives = absurd cc
no_fault (SlotTwice slot) read x is gives = absurd cc
no_fault (Storages slot count) read x is gives = absurd cc
no_fault (Trailing at) read x is gives = absurd cc

pub is_only : (bytes : List ℕ) (r : Result Fields FieldFault) (content : Content) → GivesFields r (manifest_in bytes) → IsManifest bytes content → MatchResult r (λ fields. content_of fields ≡ content) (λ fault. fault ≡ NoMemory)
is_only bytes (Ok fields) content gives m =
    let one : ℕ × List FieldStorage = (fields.slot, gives.0) in
    let two : ℕ × List FieldStorage = (content.slot, m.entries) in
    let same = ok_is one two (sym gives.1 ∙ manifest_there bytes content m) in
    let entries : gives.0 ≡ m.entries = ap (λ (x : ℕ × List FieldStorage). x.1) same in
    let order = one_order m.entries fields.storages.items content.storages (subst (λ (xs : List FieldStorage). AreByRisingSlot xs fields.storages.items) entries gives.2) m.by_slot in
    (λ i. record { slot = ap (λ (x : ℕ × List FieldStorage). x.0) same i; storages = order i })
is_only bytes (Err fault) content gives m = no_fault fault (manifest_in bytes) (content.slot, m.entries) (manifest_there bytes content m) gives
