-- The entries that are read are those that stand in the map.
use Rattle.std.proofs.Common.{◌≡◌, ℕ, zero, suc, ◌+◌, ◌*◌, ◌^◌, ◌<◌, Bool, false, eqb, List, [], ◌∷◌, ◌++◌, length, drop, Ok, Err, refl, sym, ap, subst, ◌∙◌, arith, append_assoc}
use Rattle.std.specs.Prelude.{if◌then◌else◌, ◌==◌}
use Rattle.std.specs.List.{AllByRecursion, IsDistinct, flat_map}
use Rattle.std.proofs.lemmas.Bool.{eqb-true}
use Rattle.std.proofs.lemmas.List.{append-nil}
use Rattle.le_fields.specs.Fields.{number_bytes}
use Rattle.field_codec.specs.declared.fault.FieldFault.TheVariants.{SlotTwice, Storages}
use Rattle.field_codec.specs.declared.fields.FieldStorage.{FieldStorage}
use Rattle.field_codec.specs.Manifest.{Fits, entry_bytes, slots_of}
use Rattle.field_codec.specs.Reading.{◌>>=◌, has_slot, number_in, one_in, slot_in, storage_in, storages_in}
use Rattle.field_codec.proofs.Numbers.{IsBytes, bind_ok, guard_ok, guard_is, ok_is, number_takes, number_there, number_behind}
use Rattle.field_codec.proofs.Rising.{eqb_flips}

-- four numbers, regrouped
regroup : (s : FieldStorage) (rest : List ℕ) → entry_bytes s ++ rest ≡ number_bytes s.slot ++ (number_bytes 1 ++ (number_bytes s.id ++ (number_bytes s.len ++ rest)))
regroup s rest = refl

-- an entry that stands at a place is read there
pub entry_there : (bytes : List ℕ) (stood : ℕ → Bool) (at : ℕ) (s : FieldStorage) (rest : List ℕ) → Fits s → stood s.slot ≡ false → drop at bytes ≡ entry_bytes s ++ rest
    → (slot_in bytes stood at ≡ Ok s.slot) × (storage_in bytes s.slot (at + 8) ≡ Ok s) × (drop (at + 32) bytes ≡ rest)
unfolding slot_in storage_in one_in
entry_there bytes stood at s rest fits fresh is =
    let r3 = number_bytes s.len ++ rest in
    let r2 = number_bytes s.id ++ r3 in
    let r1 = number_bytes 1 ++ r2 in
    let d0 : drop at bytes ≡ number_bytes s.slot ++ r1 = is ∙ regroup s rest in
    let d1 : drop (at + 8) bytes ≡ r1 = number_behind bytes at s.slot r1 d0 in
    let d2 : drop (at + 8 + 8) bytes ≡ r2 = number_behind bytes (at + 8) 1 r2 d1 in
    let d3 : drop (at + 8 + 16) bytes ≡ r3 = ap (λ (n : ℕ). drop n bytes) (omega arith) ∙ number_behind bytes (at + 8 + 8) s.id r3 d2 in
    let d4 : drop (at + 32) bytes ≡ rest = ap (λ (n : ℕ). drop n bytes) (omega arith) ∙ number_behind bytes (at + 8 + 16) s.len rest d3 in
    let n0 = number_there bytes at s.slot r1 fits.slot d0 in
    let n1 = number_there bytes (at + 8) 1 r2 (omega arith) d1 in
    let n2 = number_there bytes (at + 8 + 8) s.id r3 fits.id d2 in
    let n3 = number_there bytes (at + 8 + 16) s.len rest fits.len d3 in
    (rw (n0, fresh) refl, rw (n1, n2, n3) refl, d4)

-- an entry that is read stands there
pub entry_takes : (bytes : List ℕ) (stood : ℕ → Bool) (at slot : ℕ) (s : FieldStorage) → IsBytes bytes → slot_in bytes stood at ≡ Ok slot → storage_in bytes slot (at + 8) ≡ Ok s
    → Fits s × (drop at bytes ≡ entry_bytes s ++ drop (at + 32) bytes)
unfolding slot_in storage_in one_in
entry_takes bytes stood at slot s fits e f =
    let a = bind_ok (number_in bytes at) (λ n. if stood n then Err (SlotTwice n) else Ok n) slot e in
    let g = guard_ok (stood a.0) (SlotTwice a.0) a.0 slot a.2 in
    let b = bind_ok (one_in bytes slot (at + 8)) (λ one. number_in bytes (at + 8 + 8) >>= λ id. number_in bytes (at + 8 + 16) >>= λ len. Ok (record { slot = slot; id = id; len = len })) s f in
    let b1 = bind_ok (number_in bytes (at + 8)) (λ n. if n == 1 then Ok n else Err (Storages slot n)) b.0 b.1 in
    let h = guard_is (eqb b1.0 1) (Storages slot b1.0) b1.0 b.0 b1.2 in
    let c = bind_ok (number_in bytes (at + 8 + 8)) (λ id. number_in bytes (at + 8 + 16) >>= λ len. Ok (record { slot = slot; id = id; len = len })) s b.2 in
    let d = bind_ok (number_in bytes (at + 8 + 16)) (λ len. Ok (record { slot = slot; id = c.0; len = len })) s c.2 in
    let t0 = number_takes bytes at a.0 fits a.1 in
    let t1 = number_takes bytes (at + 8) b1.0 fits b1.1 in
    let t2 = number_takes bytes (at + 8 + 8) c.0 fits c.1 in
    let t3 = number_takes bytes (at + 8 + 16) d.0 fits d.1 in
    let made : FieldStorage = record { slot = slot; id = c.0; len = d.0 } in
    let rest = drop (at + 32) bytes in
    let p3 : drop (at + 8 + 16) bytes ≡ number_bytes d.0 ++ rest = t3.parts ∙ ap (λ (n : ℕ). number_bytes d.0 ++ drop n bytes) (omega arith) in
    let p2 : drop (at + 8 + 8) bytes ≡ number_bytes c.0 ++ (number_bytes d.0 ++ rest) = t2.parts ∙ ap (λ (n : ℕ). number_bytes c.0 ++ drop n bytes) (omega arith) ∙ ap (λ (xs : List ℕ). number_bytes c.0 ++ xs) p3 in
    let p1 : drop (at + 8) bytes ≡ number_bytes 1 ++ (number_bytes c.0 ++ (number_bytes d.0 ++ rest)) = t1.parts ∙ (λ i. number_bytes (eqb-true b1.0 1 h.0 i) ++ p2 i) in
    let p0 : drop at bytes ≡ entry_bytes made ++ rest = t0.parts ∙ (λ i. number_bytes (g.1 i) ++ p1 i) in
    subst (λ (t : FieldStorage). Fits t × (drop at bytes ≡ entry_bytes t ++ rest)) (ok_is made s d.2) (record { slot = subst (λ (n : ℕ). n < 2 ^ 64) g.1 t0.below; id = t2.below; len = t3.below }, p0)

-- a slot is none of those before it
at_slot : (P : ℕ → Type 0) (before : List FieldStorage) (s : FieldStorage) (entries : List FieldStorage) → AllByRecursion P (slots_of (before ++ s ∷ entries)) → P s.slot
at_slot P [] s entries all = all.0
at_slot P (t ∷ before) s entries all = at_slot P before s entries all.1

new_slot : (before : List FieldStorage) (s : FieldStorage) (entries : List FieldStorage) → IsDistinct eqb (slots_of (before ++ s ∷ entries)) → has_slot before s.slot ≡ false
unfolding IsDistinct
new_slot [] s entries different = refl
new_slot (t ∷ before) s entries different =
    let apart : eqb s.slot t.slot ≡ false = eqb_flips s.slot t.slot ∙ at_slot (λ slot. eqb t.slot slot ≡ false) before s entries different.0 in
    rw (apart, new_slot before s entries different.1) refl

-- entries that stand one after another are read
pub storages_there : (entries before : List FieldStorage) (bytes : List ℕ) (at : ℕ) (rest : List ℕ) → AllByRecursion Fits entries → IsDistinct eqb (slots_of (before ++ entries)) → drop at bytes ≡ flat_map entry_bytes entries ++ rest
    → (storages_in bytes (length entries) before at ≡ Ok (before ++ entries, at + 32 * length entries)) × (drop (at + 32 * length entries) bytes ≡ rest)
unfolding storages_in
storages_there [] before bytes at rest fits different is =
    let here : at ≡ at + 32 * 0 = omega arith in
    ((λ i. Ok (sym (append-nil before) i, here i)), ap (λ (n : ℕ). drop n bytes) (sym here) ∙ is)
storages_there (s ∷ entries) before bytes at rest fits different is =
    let more = flat_map entry_bytes entries ++ rest in
    let first = entry_there bytes (has_slot before) at s more fits.0 (new_slot before s entries different) (is ∙ append_assoc (entry_bytes s) (flat_map entry_bytes entries) rest) in
    let same = append_assoc before (s ∷ []) entries in
    let others = storages_there entries (before ++ s ∷ []) bytes (at + 32) rest fits.1 (subst (λ (xs : List FieldStorage). IsDistinct eqb (slots_of xs)) (sym same) different) first.2 in
    let end : at + 32 + 32 * length entries ≡ at + 32 * length (s ∷ entries) = omega arith in
    (rw (first.0, first.1) (others.0 ∙ (λ i. Ok (same i, end i))), ap (λ (n : ℕ). drop n bytes) (sym end) ∙ others.1)

-- what is read before and behind a place
pub record Taken (bytes : List ℕ) (n at : ℕ) (before : List FieldStorage) (x : List FieldStorage × ℕ) : Type 0 where
  pub entries : List FieldStorage
  pub all : x.0 ≡ before ++ entries
  pub count : length entries ≡ n
  pub fit : AllByRecursion Fits entries
  pub parts : drop at bytes ≡ flat_map entry_bytes entries ++ drop x.1 bytes

-- entries that are read stand one after another
pub storages_take : (n : ℕ) (before : List FieldStorage) (bytes : List ℕ) (at : ℕ) (x : List FieldStorage × ℕ) → IsBytes bytes → storages_in bytes n before at ≡ Ok x → Taken bytes n at before x
unfolding storages_in
storages_take zero before bytes at x fits e =
    subst (λ (y : List FieldStorage × ℕ). Taken bytes 0 at before y) (ok_is (before, at) x e) (record { entries = []; all = sym (append-nil before); count = refl; fit = tt; parts = refl })
storages_take (suc n) before bytes at x fits e =
    let a = bind_ok (slot_in bytes (has_slot before) at) (λ slot. storage_in bytes slot (at + 8) >>= λ s. storages_in bytes n (before ++ s ∷ []) (at + 32)) x e in
    let b = bind_ok (storage_in bytes a.0 (at + 8)) (λ s. storages_in bytes n (before ++ s ∷ []) (at + 32)) x a.2 in
    let first = entry_takes bytes (has_slot before) at a.0 b.0 fits a.1 b.1 in
    let others = storages_take n (before ++ b.0 ∷ []) bytes (at + 32) x fits b.2 in
    record {
      entries = b.0 ∷ others.entries;
      all = others.all ∙ append_assoc before (b.0 ∷ []) others.entries;
      count = ap suc others.count;
      fit = (first.0, others.fit);
      parts = first.1 ∙ ap (λ (xs : List ℕ). entry_bytes b.0 ++ xs) others.parts ∙ sym (append_assoc (entry_bytes b.0) (flat_map entry_bytes others.entries) (drop x.1 bytes));
    }
