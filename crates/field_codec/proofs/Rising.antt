-- Storages by rising slot.
use Rattle.std.proofs.Common.{◌≡◌, ℕ, List, length, eqb, ap, arith}
use Rattle.std.specs.Cmp.{IsEquivalence}
use Rattle.std.specs.List.{IsDistinct}
use Rattle.std.specs.List.Sorted.{IsPermutation, IsNonDecreasing, IsNonDecreasingBy}
use Rattle.std.proofs.lemmas.Bool.{eq-eqb, eqb-true}
use Rattle.std.proofs.lemmas.List.{get_or-map, length-map}
use Rattle.std.proofs.lemmas.List.Sorted.{IsPermutation-map}
use Rattle.std.proofs.lemmas.Map.Keys.{IsStrictlyIncreasing-from_distinct, IsDistinct-IsPermutation}
use Rattle.field_codec.specs.declared.fields.FieldStorage.{FieldStorage}
use Rattle.field_codec.specs.Manifest.{AreByRisingSlot, slots_of}

no_storage : FieldStorage
no_storage = record { slot = 0; id = 0; len = 0 }

slots_rise : (storages : List FieldStorage) → IsNonDecreasingBy (λ s. s.slot) storages → IsNonDecreasing (slots_of storages)
slots_rise storages up i j d le lt =
    let len : length (slots_of storages) ≡ length storages = length-map storages (λ (s : FieldStorage). s.slot) in
    let low = get_or-map (λ (s : FieldStorage). s.slot) storages i no_storage d (omega arith) in
    let high = get_or-map (λ (s : FieldStorage). s.slot) storages j no_storage d (omega arith) in
    rw (low, high) (up i j no_storage le (omega arith))

pub eqb_flips : (x y : ℕ) → eqb x y ≡ eqb y x
eqb_flips x y = grind arith

pub eqb_equivalence : IsEquivalence eqb
eqb_equivalence = record { refl = λ x. eq-eqb x x (omega arith); symm = eqb_flips; congr = λ x y z e. ap (λ (n : ℕ). eqb n z) (eqb-true x y e) }

-- a sort by slots that differ
pub sorted_storages : (entries storages : List FieldStorage) → IsDistinct eqb (slots_of entries) → IsPermutation entries storages → IsNonDecreasingBy (λ s. s.slot) storages → AreByRisingSlot entries storages
sorted_storages entries storages different same up = record {
  same = same;
  rise = IsStrictlyIncreasing-from_distinct (slots_of storages) (slots_rise storages up)
      (IsDistinct-IsPermutation eqb eqb_flips (slots_of entries) (slots_of storages) (IsPermutation-map (λ (s : FieldStorage). s.slot) entries storages same) different);
}
