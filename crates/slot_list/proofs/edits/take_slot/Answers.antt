use Rattle.std.proofs.Common.{ℕ, sym, ◌∙◌}
use Rattle.std.proofs.lemmas.List.Kept.{AllPairs-from_increasing}
use Rattle.slot_list.proofs.Places.{any_gap, without_at, without_gap, remove_rises, IsStrictlyIncreasing-from_rising}
use Rattle.slot_list.proofs.edits.take_slot.Goals as goal

pub returns-in-Ok-clause-rise : goal.returns-in-Ok-clause-rise
returns-in-Ok-clause-rise c =
    let found = rw c.as_slice.ensures at c.in-Ok.ensures.found in
    rw c.remove.ensures.items (IsStrictlyIncreasing-from_rising _ (remove_rises (λ (s : ℕ). s) c.args.slots.now.items c.args.slot c.in-Ok.place found (AllPairs-from_increasing _ c.requires)))

pub returns-in-Ok-clause-items : goal.returns-in-Ok-clause-items
returns-in-Ok-clause-items c =
    let found = rw c.as_slice.ensures at c.in-Ok.ensures.found in
    c.remove.ensures.items ∙ sym (without_at (λ (s : ℕ). s) c.args.slots.now.items c.args.slot c.in-Ok.place found)

pub returns-in-Err-clause-there : goal.returns-in-Err-clause-there
returns-in-Err-clause-there c =
    let gap = rw c.as_slice.ensures at c.in-Err.ensures.absent in
    sym (any_gap (λ (s : ℕ). s) c.args.slots.now.items c.args.slot c.in-Err.field-0 gap)

pub returns-in-Err-clause-items : goal.returns-in-Err-clause-items
returns-in-Err-clause-items c =
    let gap = rw c.as_slice.ensures at c.in-Err.ensures.absent in
    sym (without_gap (λ (s : ℕ). s) c.args.slots.now.items c.args.slot c.in-Err.field-0 gap)
