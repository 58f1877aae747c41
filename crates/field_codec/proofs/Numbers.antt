-- A field that is read stands at its place, and one that stands there is read.
use Rattle.std.proofs.Common.{◌≡◌, ℕ, ◌+◌, ◌-◌, ◌^◌, ◌<◌, ◌≤◌, Bool, true, false, cond, ltb, List, ◌++◌, length, get_or, take, drop, Result, Ok, Err, refl, sym, ap, subst, ◌∙◌, inl, inr, arith, length-append}
use Rattle.std.specs.List.{All}
use Rattle.std.specs.Int.{w64, from_le_bytes}
use Rattle.std.proofs.lemmas.Bool.{cases_lt, ltb-false, le-ltb}
use Rattle.std.proofs.lemmas.List.{take_at, drop_at, take-append-drop, drop-drop, length-take, length-drop, get_or-drop, get_or-take, get_or_past}
use Rattle.std.proofs.lemmas.Nat.{le_bytes_8, from_le_bytes-to_le_bytes_8}
use Rattle.le_fields.specs.Fields.{number_at, number_bytes}
use Rattle.field_codec.specs.declared.fault.FieldFault.{FieldFault}
use Rattle.field_codec.specs.declared.fault.FieldFault.TheVariants.{Cut}
use Rattle.field_codec.specs.Reading.{◌>>=◌, field_end, number_in}

abbrev pub IsBytes : List ℕ → Type 0
IsBytes bytes = (i : ℕ) → get_or bytes i 0 < 256

-- the value of a step that had no fault
pub bind_ok : {A B : Type 0} (r : Result A FieldFault) (f : A → Result B FieldFault) (y : B) → (r >>= f) ≡ Ok y → (x : A) × (r ≡ Ok x) × (f x ≡ Ok y)
bind_ok (Ok x) f y e = (x, refl, e)
bind_ok (Err d) f y e = absurd cc

-- a test that let no fault through
pub guard_ok : {A : Type 0} (b : Bool) (d : FieldFault) (x y : A) → cond b (Err d) (Ok x) ≡ Ok y → (b ≡ false) × (x ≡ y)
guard_ok true d x y e = absurd cc
guard_ok false d x y e = (refl, cc)

pub guard_is : {A : Type 0} (b : Bool) (d : FieldFault) (x y : A) → cond b (Ok x) (Err d) ≡ Ok y → (b ≡ true) × (x ≡ y)
guard_is true d x y e = (refl, cc)
guard_is false d x y e = absurd cc

abbrev done : {A : Type 0} → A → Result A FieldFault
done x = Ok x

pub ok_is : {A : Type 0} (x y : A) → done x ≡ done y → x ≡ y
ok_is x y e = cc

-- what stands behind a part
pub behind : (bytes : List ℕ) (at width : ℕ) (part rest : List ℕ) → length part ≡ width → drop at bytes ≡ part ++ rest → drop (at + width) bytes ≡ rest
behind bytes at width part rest len is = sym (drop-drop width at bytes) ∙ ap (drop width) is ∙ drop_at part rest width len

-- a part stands within the bytes
pub within : (bytes : List ℕ) (at : ℕ) (part rest : List ℕ) → 0 < length part → drop at bytes ≡ part ++ rest → at + length part ≤ length bytes
within bytes at part rest some is =
    let len : length bytes - at ≡ length part + length rest = sym (length-drop at bytes) ∙ ap length is ∙ length-append part rest in
    omega arith

-- the bytes from a place on, in two
pub cut : (bytes : List ℕ) (at width : ℕ) → drop at bytes ≡ take width (drop at bytes) ++ drop (at + width) bytes
cut bytes at width = sym (take-append-drop width (drop at bytes)) ∙ ap (λ (xs : List ℕ). take width (drop at bytes) ++ xs) (drop-drop width at bytes)

pub cut_len : (bytes : List ℕ) (at width : ℕ) → at + width ≤ length bytes → length (take width (drop at bytes)) ≡ width
cut_len bytes at width le = omega (arith, length-take width (drop at bytes), length-drop at bytes)

part_fits : (bytes : List ℕ) (at width : ℕ) → IsBytes bytes → IsBytes (take width (drop at bytes))
part_fits bytes at width fits i =
    elim (cases_lt i width) [
      | inl lt ↦ rw (get_or-take width (drop at bytes) i 0 lt, get_or-drop) (fits (at + i))
      | inr le ↦ rw (get_or_past (take width (drop at bytes)) i 0 (omega (arith, length-take width (drop at bytes)))) (omega arith)
    ]

-- the eight bytes of a number
number_part : (bytes : List ℕ) (at : ℕ) → number_at bytes at ≡ from_le_bytes w64 (take 8 (drop at bytes))
number_part bytes at = ap (λ (n : ℕ). from_le_bytes w64 (take n (drop at bytes))) (let n : at + 8 - at ≡ 8 = omega arith in n)

-- a number stands at a place
pub record Stands (bytes : List ℕ) (at n : ℕ) : Type 0 where
  pub parts : drop at bytes ≡ number_bytes n ++ drop (at + 8) bytes
  pub below : n < 2 ^ 64
  pub inside : at + 8 ≤ length bytes

pub number_takes : (bytes : List ℕ) (at n : ℕ) → IsBytes bytes → number_in bytes at ≡ Ok n → Stands bytes at n
number_takes bytes at n fits e =
    let g = guard_ok (ltb (length bytes) (at + 8)) (Cut at) (number_at bytes at) n e in
    let le : at + 8 ≤ length bytes = ltb-false _ _ g.0 in
    let part = take 8 (drop at bytes) in
    let f = part_fits bytes at 8 fits in
    let n-is : from_le_bytes w64 part ≡ n = sym (number_part bytes at) ∙ g.1 in
    let spelled : number_bytes n ≡ part = le_bytes_8 part n (cut_len bytes at 8 le) f (sym n-is) in
    record {
      parts = cut bytes at 8 ∙ ap (λ (xs : List ℕ). xs ++ drop (at + 8) bytes) (sym spelled);
      below = subst (λ (m : ℕ). m < 2 ^ 64) n-is (omega (arith, f 0, f 1, f 2, f 3, f 4, f 5, f 6, f 7));
      inside = le;
    }

pub number_there : (bytes : List ℕ) (at n : ℕ) (rest : List ℕ) → n < 2 ^ 64 → drop at bytes ≡ number_bytes n ++ rest → number_in bytes at ≡ Ok n
number_there bytes at n rest lt is =
    let le = within bytes at (number_bytes n) rest (omega arith) is in
    let room : ltb (length bytes) (at + 8) ≡ false = le-ltb _ _ le in
    let part : take 8 (drop at bytes) ≡ number_bytes n = ap (take 8) is ∙ take_at (number_bytes n) rest 8 refl in
    rw room (ap (λ (m : ℕ). done m) (number_part bytes at ∙ ap (from_le_bytes w64) part ∙ from_le_bytes-to_le_bytes_8 n lt))

pub number_behind : (bytes : List ℕ) (at n : ℕ) (rest : List ℕ) → drop at bytes ≡ number_bytes n ++ rest → drop (at + 8) bytes ≡ rest
number_behind bytes at n rest is = behind bytes at 8 (number_bytes n) rest refl is

-- a field that is skipped
pub field_takes : (bytes : List ℕ) (width at end : ℕ) → field_end bytes width at ≡ Ok end → (at + width ≡ end) × (end ≤ length bytes)
field_takes bytes width at end e =
    let g = guard_ok (ltb (length bytes) (at + width)) (Cut at) (at + width) end e in
    let le : at + width ≤ length bytes = ltb-false _ _ g.0 in
    (g.1, subst (λ (n : ℕ). n ≤ length bytes) g.1 le)

pub field_there : (bytes : List ℕ) (width at : ℕ) → at + width ≤ length bytes → field_end bytes width at ≡ Ok (at + width)
field_there bytes width at le = let room : ltb (length bytes) (at + width) ≡ false = le-ltb _ _ le in rw room refl

pub all_bytes : (bytes : List ℕ) → All (λ byte. byte < 256) bytes → IsBytes bytes
all_bytes bytes all i =
    elim (cases_lt i (length bytes)) [
      | inl lt ↦ all i 0 lt
      | inr le ↦ rw (get_or_past bytes i 0 le) (omega arith)
    ]
