use Rattle.std.proofs.Common.{ℕ, Result, Ok, Err, IsOk, OnOk, sym, ap, ◌∙◌, refl, set}
use Rattle.std.proofs.lemmas.List.{set-get_or}
use Rattle.std.proofs.lemmas.List.Kept.{AllPairs-from_increasing}
use Rattle.slot_list.proofs.Places.{any_at, any_gap, put_at, put_gap, insert_rises, IsStrictlyIncreasing-from_rising}
use Rattle.slot_list.proofs.edits.put_slot.Goals as goal

-- what holds of a success, where there is one
of_ok : {T E P : Type 0} (r : Result T E) → IsOk r → OnOk r P → P
of_ok (Ok x) ok holds = holds
of_ok (Err e) ok holds = absurd (cc ok)

-- ---- the slot is there

pub returns-in-Ok-clause-there : goal.returns-in-Ok-clause-there
returns-in-Ok-clause-there c =
    let found = rw c.as_slice.ensures at c.in-Ok.ensures.found in
    sym (any_at (λ (s : ℕ). s) c.args.slots.now.items c.args.slot c.in-Ok.field-0 found 0)

pub returns-in-Ok-clause-items : goal.returns-in-Ok-clause-items
returns-in-Ok-clause-items c =
    let found = rw c.as_slice.ensures at c.in-Ok.ensures.found in
    let items = c.args.slots.now.items in
    sym (put_at (λ (s : ℕ). s) items c.args.slot c.in-Ok.field-0 found c.args.slot
    ∙ ap (set items c.in-Ok.field-0) (sym (found.has_slot 0)) ∙ set-get_or items c.in-Ok.field-0 0)

-- ---- it is not

pub returns-in-Err-clause-there : goal.returns-in-Err-clause-there
returns-in-Err-clause-there c =
    let gap = rw c.as_slice.ensures at c.in-Err.ensures.absent in
    sym (any_gap (λ (s : ℕ). s) c.args.slots.now.items c.args.slot c.in-Err.place gap)

pub returns-in-Err-clause-items : goal.returns-in-Err-clause-items
returns-in-Err-clause-items c =
    let gap = rw c.as_slice.ensures at c.in-Err.ensures.absent in
    let inserted = of_ok c.insert.result (c.insert.ensures.succeeds c.requires.room) c.insert.ensures.ok in
    inserted ∙ sym (put_gap (λ (s : ℕ). s) c.args.slots.now.items c.args.slot c.in-Err.place gap c.args.slot)

pub returns-in-Err-clause-rise : goal.returns-in-Err-clause-rise
returns-in-Err-clause-rise c =
    let gap = rw c.as_slice.ensures at c.in-Err.ensures.absent in
    let inserted = of_ok c.insert.result (c.insert.ensures.succeeds c.requires.room) c.insert.ensures.ok in
    rw inserted (IsStrictlyIncreasing-from_rising _ (insert_rises (λ (s : ℕ). s) c.args.slots.now.items c.args.slot c.in-Err.place gap c.args.slot refl (AllPairs-from_increasing _ c.requires.rise)))
