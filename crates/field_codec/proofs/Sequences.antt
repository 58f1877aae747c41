-- The sequences that are skipped are those that stand last.
use Rattle.std.proofs.Common.{◌≡◌, ℕ, zero, suc, ◌+◌, ◌-◌, ◌*◌, ◌<◌, ◌≤◌, ◌⊎◌, Bool, true, false, cond, eqb, List, [], ◌++◌, length, take, drop, Result, Ok, refl, sym, ap, subst, ◌∙◌, inl, inr, arith, append_assoc, length-append}
use Rattle.std.proofs.Math.Nat.{mul-suc}
use Rattle.std.proofs.lemmas.Bool.{eqb-true, eq-eqb}
use Rattle.std.proofs.lemmas.List.{append-nil, length-drop, drop_all}
use Rattle.le_fields.specs.Fields.{number_bytes}
use Rattle.field_codec.specs.declared.fault.FieldFault.{FieldFault}
use Rattle.field_codec.specs.Manifest.{AreSequences, IsSequence, OrEnds}
use Rattle.field_codec.specs.Reading.{field_end, items_end, number_in, pair_end, sequence_end, sequence_or_end}
use Rattle.field_codec.proofs.Numbers.{IsBytes, behind, bind_ok, cut, cut_len, field_there, field_takes, number_takes, number_there, ok_is, within}

-- an item that takes this many bytes wherever they are there, and is read only there
pub record Sized (len width : ℕ) (item : ℕ → Result ℕ FieldFault) : Type 0 where
  pub there : (at : ℕ) → at + width ≤ len → item at ≡ Ok (at + width)
  pub takes : (at end : ℕ) → item at ≡ Ok end → (at + width ≡ end) × (end ≤ len)

pub numbers_sized : (bytes : List ℕ) → Sized (length bytes) 8 (field_end bytes 8)
numbers_sized bytes = record { there = field_there bytes 8; takes = field_takes bytes 8 }

pub pairs_sized : (bytes : List ℕ) → Sized (length bytes) 40 (pair_end bytes)
pairs_sized bytes = record {
  there = λ at le.
      let one = field_there bytes 8 at (omega arith) in
      let two = field_there bytes 32 (at + 8) (omega arith) in
      rw (one, two) (ap (λ (n : ℕ). Ok n) (omega arith));
  takes = λ at end e.
      let a = bind_ok (field_end bytes 8 at) (field_end bytes 32) end e in
      let one = field_takes bytes 8 at a.0 a.1 in
      let two = field_takes bytes 32 a.0 end a.2 in
      let first = one.0 in
      let second = two.0 in
      (omega arith, two.1);
}

times_more : (w n : ℕ) → w * suc n ≡ w + w * n
times_more w n = mul-suc w n ∙ omega arith

-- that many items
pub items_there : (len width : ℕ) (item : ℕ → Result ℕ FieldFault) (n at : ℕ) → Sized len width item → at + width * n ≤ len → items_end item n at ≡ Ok (at + width * n)
unfolding items_end
items_there len width item zero at sized le = ap (λ (n : ℕ). Ok n) (let none : width * 0 ≡ 0 = omega arith in omega arith)
items_there len width item (suc n) at sized le =
    let more : width * suc n ≡ width + width * n = times_more width n in
    let first = sized.there at (omega arith) in
    rw first (items_there len width item n (at + width) sized (omega arith) ∙ ap (λ (m : ℕ). Ok m) (omega arith))

pub items_take : (len width : ℕ) (item : ℕ → Result ℕ FieldFault) (n at end : ℕ) → Sized len width item → at ≤ len → items_end item n at ≡ Ok end → (at + width * n ≡ end) × (end ≤ len)
unfolding items_end
items_take len width item zero at end sized le e =
    let same = ok_is at end e in
    let none : width * 0 ≡ 0 = omega arith in
    (omega arith, omega arith)
items_take len width item (suc n) at end sized le e =
    let a = bind_ok (item at) (items_end item n) end e in
    let first = sized.takes at a.0 a.1 in
    let rest = items_take len width item n a.0 end sized first.1 a.2 in
    let more : width * suc n ≡ width + width * n = times_more width n in
    let one = first.0 in
    let two = rest.0 in
    (omega arith, rest.1)

-- a sequence that stands at a place is skipped
pub sequence_there : (bytes : List ℕ) (width : ℕ) (item : ℕ → Result ℕ FieldFault) (at : ℕ) (part rest : List ℕ) → Sized (length bytes) width item → IsSequence width part → drop at bytes ≡ part ++ rest
    → sequence_end bytes item at ≡ Ok (at + length part)
unfolding sequence_end
sequence_there bytes width item at part rest sized s is =
    let whole : drop at bytes ≡ number_bytes s.count ++ (s.items ++ rest) = is ∙ ap (λ (xs : List ℕ). xs ++ rest) s.parts ∙ append_assoc (number_bytes s.count) s.items rest in
    let count = number_there bytes at s.count (s.items ++ rest) s.count_fits whole in
    let len : length part ≡ 8 + width * s.count = ap length s.parts ∙ length-append (number_bytes s.count) s.items ∙ ap (λ (n : ℕ). 8 + n) s.items_len in
    let inside = within bytes at part rest (omega arith) is in
    rw count (items_there (length bytes) width item s.count (at + 8) sized (omega arith) ∙ ap (λ (n : ℕ). Ok n) (omega arith))

-- what is skipped is a sequence
pub sequence_takes : (bytes : List ℕ) (width : ℕ) (item : ℕ → Result ℕ FieldFault) (at end : ℕ) → Sized (length bytes) width item → IsBytes bytes → sequence_end bytes item at ≡ Ok end
    → (part : List ℕ) × IsSequence width part × (drop at bytes ≡ part ++ drop end bytes) × (end ≤ length bytes) × (at < end)
unfolding sequence_end
sequence_takes bytes width item at end sized fits e =
    let a = bind_ok (number_in bytes at) (λ n. items_end item n (at + 8)) end e in
    let n = number_takes bytes at a.0 fits a.1 in
    let i = items_take (length bytes) width item a.0 (at + 8) end sized n.inside a.2 in
    let items = take (width * a.0) (drop (at + 8) bytes) in
    let end-is = i.0 in
    let le = i.1 in
    let parts : drop at bytes ≡ (number_bytes a.0 ++ items) ++ drop end bytes =
    n.parts ∙ ap (λ (xs : List ℕ). number_bytes a.0 ++ xs) (cut bytes (at + 8) (width * a.0) ∙ ap (λ (m : ℕ). items ++ drop m bytes) end-is) ∙ sym (append_assoc (number_bytes a.0) items (drop end bytes)) in
    (number_bytes a.0 ++ items, record { count = a.0; items = items; count_fits = n.below; items_len = cut_len bytes (at + 8) (width * a.0) (omega arith); parts = refl }, parts, le, omega arith)

picked : {A : Type 0} (b : Bool) (x y z : A) → cond b x y ≡ z → ((b ≡ true) × (x ≡ z)) ⊎ ((b ≡ false) × (y ≡ z))
picked true x y z e = inl (refl, e)
picked false x y z e = inr (refl, e)

skipped : {A : Type 0} (b : Bool) (x y z : A) → b ≡ false → y ≡ z → cond b x y ≡ z
skipped true x y z stays is = absurd cc
skipped false x y z stays is = is

taken : {A : Type 0} (b : Bool) (x y : A) → b ≡ true → cond b x y ≡ x
taken true x y is = refl
taken false x y is = absurd cc

-- at the end of the bytes nothing is skipped
pub ends_there : (bytes : List ℕ) (item : ℕ → Result ℕ FieldFault) (at : ℕ) → at ≡ length bytes → sequence_or_end bytes item at ≡ Ok at
ends_there bytes item at is = taken (eqb at (length bytes)) (Ok at) (sequence_end bytes item at) (eq-eqb at (length bytes) is)

-- a sequence, or the end of the bytes
pub or_end_there : (bytes : List ℕ) (width : ℕ) (item : ℕ → Result ℕ FieldFault) (at : ℕ) (part rest : List ℕ) → Sized (length bytes) width item → IsSequence width part → drop at bytes ≡ part ++ rest
    → sequence_or_end bytes item at ≡ Ok (at + length part)
or_end_there bytes width item at part rest sized s is =
    let len : length part ≡ 8 + width * s.count = ap length s.parts ∙ length-append (number_bytes s.count) s.items ∙ ap (λ (n : ℕ). 8 + n) s.items_len in
    let inside = within bytes at part rest (omega arith) is in
    skipped (eqb at (length bytes)) _ _ _ (grind arith) (sequence_there bytes width item at part rest sized s is)

-- where nothing stands the bytes end
ended : (bytes : List ℕ) (at : ℕ) → at ≤ length bytes → drop at bytes ≡ [] → at ≡ length bytes
ended bytes at le none = let len : length bytes - at ≡ 0 = sym (length-drop at bytes) ∙ ap length none in omega arith

-- sequences that stand last are skipped
pub sequences_there : (bytes : List ℕ) (at : ℕ) → at ≤ length bytes → OrEnds AreSequences (drop at bytes)
    → (mid : ℕ) × (sequence_or_end bytes (field_end bytes 8) at ≡ Ok mid) × (sequence_or_end bytes (pair_end bytes) mid ≡ Ok (length bytes))
sequences_there bytes at le (inl none) =
    let end = ended bytes at le none in
    (at, ends_there bytes (field_end bytes 8) at end, ends_there bytes (pair_end bytes) at end ∙ ap (λ (n : ℕ). Ok n) end)
sequences_there bytes at le (inr are) =
    let first = are.0 in
    let second = are.1 in
    let s = are.3 in
    let len : length first ≡ 8 + 8 * s.count = ap length s.parts ∙ length-append (number_bytes s.count) s.items ∙ ap (λ (n : ℕ). 8 + n) s.items_len in
    let inside = within bytes at first second (omega arith) are.2 in
    let mid = at + length first in
    let next : drop mid bytes ≡ second = behind bytes at (length first) first second refl are.2 in
    (mid, or_end_there bytes 8 (field_end bytes 8) at first second (numbers_sized bytes) s are.2, last mid second inside next are.4)
  where
    last : (mid : ℕ) (second : List ℕ) → mid ≤ length bytes → drop mid bytes ≡ second → OrEnds (IsSequence 40) second → sequence_or_end bytes (pair_end bytes) mid ≡ Ok (length bytes)
    last mid second le next (inl none) = let end = ended bytes mid le (next ∙ none) in ends_there bytes (pair_end bytes) mid end ∙ ap (λ (n : ℕ). Ok n) end
    last mid second le next (inr s) =
        let whole = next ∙ sym (append-nil second) in
        let end : length bytes - mid ≡ length second = sym (length-drop mid bytes) ∙ ap length next in
        or_end_there bytes 40 (pair_end bytes) mid second [] (pairs_sized bytes) s whole ∙ ap (λ (n : ℕ). Ok n) (omega arith)

-- what is skipped up to the end of the bytes are sequences
pub sequences_take : (bytes : List ℕ) (at mid : ℕ) → IsBytes bytes → at ≤ length bytes → sequence_or_end bytes (field_end bytes 8) at ≡ Ok mid → sequence_or_end bytes (pair_end bytes) mid ≡ Ok (length bytes)
    → OrEnds AreSequences (drop at bytes)
sequences_take bytes at mid fits le e f =
    elim (picked (eqb at (length bytes)) (Ok at) (sequence_end bytes (field_end bytes 8) at) (Ok mid) e) [
      | inl here ↦ let end = eqb-true at (length bytes) here.0 in inl (drop_all at bytes (omega arith))
      | inr on ↦
          let s = sequence_takes bytes 8 (field_end bytes 8) at mid (numbers_sized bytes) fits on.1 in
          inr (s.0, drop mid bytes, s.2, s.1, last)
    ]
  where
    last : OrEnds (IsSequence 40) (drop mid bytes)
    last =
        elim (picked (eqb mid (length bytes)) (Ok mid) (sequence_end bytes (pair_end bytes) mid) (Ok (length bytes)) f) [
          | inl here ↦ let end = eqb-true mid (length bytes) here.0 in inl (drop_all mid bytes (omega arith))
          | inr on ↦
              let s = sequence_takes bytes 40 (pair_end bytes) mid (length bytes) (pairs_sized bytes) fits on.1 in
              let none = drop_all (length bytes) bytes (omega arith) in
              inr (subst (λ (xs : List ℕ). IsSequence 40 xs) (sym (s.2 ∙ ap (λ (xs : List ℕ). s.0 ++ xs) none ∙ append-nil s.0)) s.1)
        ]
