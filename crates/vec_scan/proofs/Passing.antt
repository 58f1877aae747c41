-- The row at a place is the one that was read there.
use Rattle.std.proofs.Common.{◌≡◌, ℕ, ◌+◌, ◌-◌, ◌%◌, ◌<◌, ◌≤◌, List, ◌++◌, length, take, drop, Bool, true, false, cond, ltb, ◌&&◌, Result, Ok, Err, Some, None, refl, sym, ap, subst, ◌∙◌, inl, inr, arith, length-append}
use Rattle.std.specs.Prelude.{slice_range, MatchResult}
use Rattle.std.proofs.lemmas.Bool.{le-ltb, lt-ltb}
use Rattle.std.proofs.lemmas.List.{drop-drop, drop_at, take_at, drop_all, length-drop, take-append-drop, nil_from_length}
use Rattle.std.proofs.lemmas.List.Edits.{length-between}
use Rattle.le_fields.specs.Fields.{rounded}
use Rattle.adb_model.specs.Account as machine
use Rattle.account_layout.specs.declared.record.Record.{Record}
use Rattle.account_layout.specs.declared.record.RecordFault.{RecordFault}
use Rattle.account_layout.specs.Record.{HasFields, account_in}
use Rattle.account_layout.specs.Reading.{Entry, entry_at, entry_of, fields_of, record_at}
use Rattle.vec_scan.specs.declared.fault.LayoutFault.{LayoutFault}
use Rattle.vec_scan.specs.declared.fault.LayoutFault.TheVariants.{TailCut}
use Rattle.vec_scan.specs.Gaps.{IsGapEnd}
use Rattle.vec_scan.specs.Image.{Placed, placed_at}
use Rattle.vec_scan.specs.Fault.{fault_of, layout_fault}
use Rattle.vec_scan.specs.Forward.{BeginsWith, Passes, Steps}
use Rattle.vec_scan.proofs.Rounding.{rounded_from, le-rounded}

-- what stands behind a part and its gap
pub drop_on : (whole : List ℕ) (at : ℕ) (part gap more : List ℕ) → drop at whole ≡ part ++ (gap ++ more) → drop (at + length part + length gap) whole ≡ more
drop_on whole at part gap more is =
    sym (drop-drop (length gap) (at + length part) whole)
    ∙ ap (drop (length gap)) (sym (drop-drop (length part) at whole) ∙ ap (drop (length part)) is ∙ drop_at part (gap ++ more) (length part) refl)
    ∙ drop_at gap more (length gap) refl

-- where a part stands
pub part_at : (whole : List ℕ) (at : ℕ) (part rest : List ℕ) → drop at whole ≡ part ++ rest → slice_range whole at (at + length part) ≡ part
part_at whole at part rest is =
    let n : at + length part - at ≡ length part = omega arith in
    rw n (ap (take (length part)) is ∙ take_at part rest (length part) refl)

-- the lengths of what stands from a place on
pub lengths : (whole : List ℕ) (at : ℕ) (part gap more : List ℕ) → drop at whole ≡ part ++ (gap ++ more) → length whole - at ≡ length part + length gap + length more
lengths whole at part gap more is =
    sym (length-drop at whole) ∙ ap length is ∙ length-append part (gap ++ more) ∙ ap (λ (n : ℕ). length part + n) (length-append gap more) ∙ omega arith

-- a list from a place on, in three parts
pub cut_on : (whole : List ℕ) (at end next : ℕ) → at ≤ end → end ≤ next → drop at whole ≡ slice_range whole at end ++ (slice_range whole end next ++ drop next whole)
cut_on whole at end next le le' =
    let one : (a b : ℕ) → a ≤ b → drop a whole ≡ slice_range whole a b ++ drop b whole = λ a b ab.
    let to : a + (b - a) ≡ b = omega arith in
    sym (take-append-drop (b - a) (drop a whole)) ∙ ap (λ (xs : List ℕ). slice_range whole a b ++ xs) (drop-drop (b - a) a whole ∙ ap (λ (n : ℕ). drop n whole) to) in
    one at end le ∙ ap (λ (xs : List ℕ). slice_range whole at end ++ xs) (one end next le')

-- what a read of a record at a place tells, in the words of its contract
pub record Read (image : List ℕ) (at : ℕ) (r : Record) : Type 0 where
  pub exact : record_at image at (length image) ≡ Ok (entry_of r)
  pub places : entry_of r ≡ entry_at image at
  pub begins : at + 136 ≤ r.end
  pub ends : r.end ≤ length image
  pub found : HasFields (slice_range image at r.end) r.key.0 (fields_of r)
  pub only : (to : ℕ) (key : List ℕ) (fields : machine.Account) → to ≤ length image → HasFields (slice_range image at to) key fields → entry_of r ≡ record { key = key; fields = fields; end = to }

-- no cut of the gap
no_cut : (end len next : ℕ) → IsGapEnd end len next → (ltb end len && ltb len (rounded end)) ≡ false
no_cut end len next g =
    elim g.is [
      | inl up ↦ let no_room : ltb len (rounded end) ≡ false = le-ltb len (rounded end) (let inside = g.inside in omega arith) in rw no_room (both (ltb end len))
      | inr here ↦ let ends : ltb end len ≡ false = le-ltb end len (let e = here.1 in omega arith) in rw ends refl
    ]
  where
    both : (b : Bool) → (b && false) ≡ false
    both true = refl
    both false = refl

passes : (image : List ℕ) (at next : ℕ) (r : Record) → at < length image → at % 8 ≡ 0 → Read image at r → IsGapEnd r.end (length image) next → Passes image at next
passes image at next r lt aligned read g =
    let part = slice_range image at r.end in
    let gap = slice_range image r.end next in
    let begins = read.begins in
    let ends = read.ends in
    let inside = g.inside in
    let later = g.later in
    let part_len : length part ≡ r.end - at = length-between image at r.end ends in
    let gap_len : length gap ≡ next - r.end = length-between image r.end next inside in
    let P : Entry → Type 0 = λ entry. HasFields part entry.key entry.fields in
    let b : BeginsWith at (drop at image) (placed_at image at) = record {
      part = part;
      gap = gap;
      more = drop next image;
      parts = cut_on image at r.end next (omega arith) later;
      offset = refl;
      is_record = ((entry_at image at).fields, subst P read.places read.found, refl);
    } in
    record {
      first = b;
      is_row = elim g.is [
        | inl up ↦
            let from : rounded (at + (r.end - at)) ≡ at + rounded (r.end - at) = rounded_from at (r.end - at) aligned in
            let end-is : at + (r.end - at) ≡ r.end = omega arith in
            let up' : rounded r.end ≡ at + rounded (r.end - at) = ap rounded (sym end-is) ∙ from in
            inl (let sum : length part + length gap ≡ rounded (r.end - at) = omega arith in sum ∙ ap rounded (sym part_len))
        | inr here ↦
            let same = here.0 in
            let last = here.1 in
            inr (nil_from_length gap (omega arith), drop_all next image (omega arith))
      ];
      next_is = omega arith;
      inside = inside;
      later = omega arith;
      sound = ap (fault_of (length image)) read.exact ∙ ap (λ (b : Bool). cond b (Some (TailCut r.end (length image))) None) (no_cut r.end (length image) next g);
    }

-- a row that stands there is the one that was read
same_row : (image : List ℕ) (at : ℕ) (r : Record) (row : Placed) → at < length image → Read image at r → (b : BeginsWith at (drop at image) row) → (row ≡ placed_at image at) × (at + length b.part ≡ r.end)
same_row image at r row lt read b =
    let fields = b.is_record.0 in
    let to = at + length b.part in
    let len = lengths image at b.part b.gap b.more b.parts in
    let here = part_at image at b.part (b.gap ++ b.more) b.parts in
    let h : HasFields (slice_range image at to) row.row.key fields = subst (λ (xs : List ℕ). HasFields xs row.row.key fields) (sym here) b.is_record.1 in
    let entry = read.only to row.row.key fields (omega arith) h in
    let is : record { key = row.row.key; fields = fields; end = to } ≡ entry_at image at = sym entry ∙ read.places in (
      λ i. record {
        offset = b.offset i;
        row = record { key = (is i).key; account = (b.is_record.2 ∙ ap (λ (e : Entry). account_in e.fields) is) i };
      },
      sym (ap (λ (e : Entry). e.end) entry),
    )

-- the step at a place where a record was read
pub steps_on : (image : List ℕ) (at : ℕ) (r : Record) (result : Result ℕ LayoutFault) → at < length image → at % 8 ≡ 0 → Read image at r
    → MatchResult result (IsGapEnd r.end (length image)) (λ fault. (fault ≡ TailCut r.end (length image)) × (r.end < length image) × (length image < rounded r.end)) → Steps image at result
steps_on image at r (Ok next) lt aligned read g = (
  passes image at next r lt aligned read g,
  λ row b is_row.
      let same = same_row image at r row lt read b in
      let end = same.1 in
      let len = lengths image at b.part b.gap b.more b.parts in
      let inside = g.inside in
      let later = g.later in
      let up = le-rounded r.end in
      let from : rounded (at + length b.part) ≡ at + rounded (length b.part) = rounded_from at (length b.part) aligned in
      let up' : rounded r.end ≡ at + rounded (length b.part) = ap rounded (sym end) ∙ from in (
        same.0,
        elim is_row [
          | inl fills ↦ elim g.is [
            | inl at_eight ↦ omega arith
            | inr at_end ↦ let e0 = at_end.0 in let e1 = at_end.1 in omega arith
          ]
          | inr ends ↦
              let no_gap : length b.gap ≡ 0 = ap length ends.0 in
              let no_more : length b.more ≡ 0 = ap length ends.1 in
              omega arith
        ],
      ),
)
steps_on image at r (Err fault) lt aligned read g =
    let cut : (ltb r.end (length image) && ltb (length image) (rounded r.end)) ≡ true = rw (lt-ltb r.end (length image) g.1, lt-ltb (length image) (rounded r.end) g.2) refl in (
      ap (fault_of (length image)) read.exact ∙ ap (λ (b : Bool). cond b (Some (TailCut r.end (length image))) None) cut ∙ ap (λ (f : LayoutFault). Some f) (sym g.0),
      λ row b is_row.
          let same = same_row image at r row lt read b in
          let end = same.1 in
          let len = lengths image at b.part b.gap b.more b.parts in
          let below = g.1 in
          let short = g.2 in
          let from : rounded (at + length b.part) ≡ at + rounded (length b.part) = rounded_from at (length b.part) aligned in
          let up' : rounded r.end ≡ at + rounded (length b.part) = ap rounded (sym end) ∙ from in
          elim is_row [
            | inl fills ↦ absurd (omega arith)
            | inr ends ↦
                let no_gap : length b.gap ≡ 0 = ap length ends.0 in
                let no_more : length b.more ≡ 0 = ap length ends.1 in
                absurd (omega arith)
          ],
    )

-- the step at a place where no record was read
pub steps_not : (image : List ℕ) (at : ℕ) (fault : RecordFault) → at < length image → record_at image at (length image) ≡ Err fault
    → ((to : ℕ) (key : List ℕ) (fields : machine.Account) → to ≤ length image → HasFields (slice_range image at to) key fields → ⊥) → Steps image at (Err (layout_fault fault))
steps_not image at fault lt exact none = (
  ap (fault_of (length image)) exact,
  λ row b is_row.
      let len = lengths image at b.part b.gap b.more b.parts in
      let here = part_at image at b.part (b.gap ++ b.more) b.parts in
      none (at + length b.part) row.row.key b.is_record.0 (omega arith) (subst (λ (xs : List ℕ). HasFields xs row.row.key b.is_record.0) (sym here) b.is_record.1),
)
