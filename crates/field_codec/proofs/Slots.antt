-- Reading the entries of slots one after another, as a loop does.
use Rattle.std.proofs.Common.{◌≡◌, ℕ, suc, ◌-◌, ◌+◌, ◌≤◌, ◌<◌, List, [], ◌∷◌, ◌++◌, length, Bool, true, false, cond, eqb, Ok, Err, sym, ap, ◌∙◌, refl, arith}
use Rattle.std.specs.Prelude.{◌||◌}
use Rattle.std.specs.List.{IsDistinct, list_any}
use Rattle.std.specs.BTreeMap.{is_at}
use Rattle.std.specs.Ordering.{nat_cmp}
use Rattle.std.proofs.lemmas.Map.Keys.{IsDistinct-push}
use Rattle.std.proofs.lemmas.List.{map_push}
use Rattle.field_codec.specs.declared.fault.FieldFault.{FieldFault}
use Rattle.field_codec.specs.declared.fields.FieldStorage.{FieldStorage}
use Rattle.field_codec.specs.Manifest.{slots_of}
use Rattle.field_codec.specs.Reading.{Fails, has_slot, slot_in, storage_in, storages_in}
use Rattle.field_codec.proofs.Faults.{fails_on}
use Rattle.field_codec.proofs.Rising.{eqb_equivalence}

-- some slots are read, and reading the others from this place on is reading all; a slot stood before where it is one of theirs
pub record Standing (bytes : List ℕ) (count done : ℕ) (before : List FieldStorage) (stood : ℕ → Bool) (at : ℕ) : Type 0 where
  pub told : storages_in bytes (count - done) before at ≡ storages_in bytes count [] 8
  pub inside : at ≤ length bytes
  pub same : (slot : ℕ) → stood slot ≡ has_slot before slot
  pub different : IsDistinct eqb (slots_of before)

-- the slot is read alike
slot_same : (bytes : List ℕ) (count done : ℕ) (before : List FieldStorage) (stood : ℕ → Bool) (at : ℕ) → Standing bytes count done before stood at → slot_in bytes (has_slot before) at ≡ slot_in bytes stood at
slot_same bytes count done before stood at s i = slot_in bytes (λ slot. sym (s.same slot) i) at

any_slot : (storages : List FieldStorage) (slot : ℕ) → list_any (eqb slot) (slots_of storages) ≡ has_slot storages slot
any_slot [] slot = refl
any_slot (s ∷ storages) slot = ap (λ (b : Bool). eqb slot s.slot || b) (any_slot storages slot)

pub has_slot-push : (storages : List FieldStorage) (s : FieldStorage) (slot : ℕ) → has_slot (storages ++ s ∷ []) slot ≡ (has_slot storages slot || eqb slot s.slot)
has_slot-push [] s slot = or_none (eqb slot s.slot)
  where
    or_none : (b : Bool) → (b || false) ≡ b
    or_none true = refl
    or_none false = refl
has_slot-push (t ∷ storages) s slot = ap (λ (b : Bool). eqb slot t.slot || b) (has_slot-push storages s slot) ∙ assoc (eqb slot t.slot) (has_slot storages slot) (eqb slot s.slot)
  where
    assoc : (a b c : Bool) → (a || (b || c)) ≡ ((a || b) || c)
    assoc true b c = refl
    assoc false b c = refl

pub at_slot : (slot q : ℕ) → is_at (nat_cmp slot) q ≡ eqb q slot
at_slot slot q = grind arith

-- a set with a further slot
pub one_more : (slot q : ℕ) (has had : Bool) → has ≡ cond (is_at (nat_cmp slot) q) true had → has ≡ (had || eqb q slot)
one_more slot q has had is = is ∙ ap (λ (b : Bool). cond b true had) (at_slot slot q) ∙ swapped (eqb q slot) had
  where
    swapped : (a b : Bool) → cond a true b ≡ (b || a)
    swapped true true = refl
    swapped true false = refl
    swapped false true = refl
    swapped false false = refl

pub standing_more : (bytes : List ℕ) (count done : ℕ) (before : List FieldStorage) (stood after : ℕ → Bool) (at slot : ℕ) (storage : FieldStorage) → done < count → Standing bytes count done before stood at
    → slot_in bytes stood at ≡ Ok slot → stood slot ≡ false → storage_in bytes slot (at + 8) ≡ Ok storage → storage.slot ≡ slot → at + 32 ≤ length bytes
    → ((q : ℕ) → after q ≡ (stood q || eqb q slot)) → Standing bytes count (done + 1) (before ++ storage ∷ []) after (at + 32)
unfolding storages_in
standing_more bytes count done before stood after at slot storage lt s slot-is fresh storage-is same-slot le updates =
    let k : count - done ≡ suc (count - (done + 1)) = omega arith in
    let read = slot_same bytes count done before stood at s ∙ slot-is in
    let one : storages_in bytes (count - done) before at ≡ storages_in bytes (count - (done + 1)) (before ++ storage ∷ []) (at + 32) = rw (k, read, storage-is) refl in
    let none : list_any (eqb storage.slot) (slots_of before) ≡ false = ap (λ (n : ℕ). list_any (eqb n) (slots_of before)) same-slot ∙ any_slot before slot ∙ sym (s.same slot) ∙ fresh in
    record {
      told = sym one ∙ s.told;
      inside = le;
      same = λ q. updates q ∙ ap (λ (b : Bool). b || eqb q slot) (s.same q) ∙ ap (λ (n : ℕ). has_slot before q || eqb q n) (sym same-slot) ∙ sym (has_slot-push before storage q);
      different = rw (map_push (λ (t : FieldStorage). t.slot) before storage) (IsDistinct-push eqb_equivalence (slots_of before) storage.slot s.different none);
    }

pub standing_stops : (bytes : List ℕ) (count done : ℕ) (before : List FieldStorage) (stood : ℕ → Bool) (at : ℕ) (fault : FieldFault) → done < count → Standing bytes count done before stood at
    → Fails fault (slot_in bytes stood at) → Fails fault (storages_in bytes count [] 8)
unfolding storages_in
standing_stops bytes count done before stood at fault lt s fails =
    let k : count - done ≡ suc (count - (done + 1)) = omega arith in
    fails_on fault (slot_in bytes stood at) (storages_in bytes count [] 8)
    (λ f is. let read = slot_same bytes count done before stood at s ∙ is in sym s.told ∙ (let one : storages_in bytes (count - done) before at ≡ Err f = rw (k, read) refl in one)) fails

pub standing_fails : (bytes : List ℕ) (count done : ℕ) (before : List FieldStorage) (stood : ℕ → Bool) (at slot : ℕ) (fault : FieldFault) → done < count → Standing bytes count done before stood at
    → slot_in bytes stood at ≡ Ok slot → Fails fault (storage_in bytes slot (at + 8)) → Fails fault (storages_in bytes count [] 8)
unfolding storages_in
standing_fails bytes count done before stood at slot fault lt s slot-is fails =
    let k : count - done ≡ suc (count - (done + 1)) = omega arith in
    let read = slot_same bytes count done before stood at s ∙ slot-is in
    fails_on fault (storage_in bytes slot (at + 8)) (storages_in bytes count [] 8)
    (λ f is. sym s.told ∙ (let one : storages_in bytes (count - done) before at ≡ Err f = rw (k, read, is) refl in one)) fails

pub standing_all : (bytes : List ℕ) (count done : ℕ) (before : List FieldStorage) (stood : ℕ → Bool) (at : ℕ) → count ≤ done → Standing bytes count done before stood at → storages_in bytes count [] 8 ≡ Ok (before, at)
unfolding storages_in
standing_all bytes count done before stood at le s =
    let k : count - done ≡ 0 = omega arith in
    let one : storages_in bytes (count - done) before at ≡ Ok (before, at) = rw k refl in
    sym s.told ∙ one

pub standing_none : (bytes : List ℕ) (count : ℕ) (stood : ℕ → Bool) → 8 ≤ length bytes → ((q : ℕ) → stood q ≡ false) → Standing bytes count 0 [] stood 8
unfolding IsDistinct
standing_none bytes count stood le none = record { told = ap (λ (n : ℕ). storages_in bytes n [] 8) (omega arith); inside = le; same = none; different = tt }
