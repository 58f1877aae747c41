use Rattle.std.proofs.Common.{◌≡◌, ◌+◌, true, Some, None, refl, sym, ap, ◌∙◌, sum_by, arith}
use Rattle.std.specs.BTreeMap.{is_at}
use Rattle.std.specs.Map.{lookup, values_of}
use Rattle.std.specs.Option.{option_map, unwrap_or}
use Rattle.std.specs.Ordering.{nat_cmp}
use Rattle.std.proofs.lemmas.Map.Views.{All-map-remove_entry, All-values-set_value}
use Rattle.storage_map.specs.Slots.{Slots, is_filled}
use Rattle.storage_map.proofs.Entries.{changed, must_be, none_in, removed_sums, written_sums}
use Rattle.storage_map.proofs.slots.change_entry.Goals as goal

-- nothing is left of the slot
pub returns-then-not-is_filled-clause-changed : goal.returns-then-not-is_filled-clause-changed
returns-then-not-is_filled-clause-changed c =
    let es = c.args.slots.now.entries in
    let k = c.args.slot in
    let gone = c.remove.ensures in
    let empty = none_in c.args.entry (sym c.is_filled.ensures ∙ c.if-not-is_filled.true) in
    changed es c.remove.new.self.entries k None c.args.entry 0
    (record {
      updates = gone.updates.0;
      sums = λ f.
          ap (λ (fs : Slots). sum_by f (values_of fs) + unwrap_or (option_map f (lookup (is_at (nat_cmp k)) es)) 0) gone.entries
          ∙ removed_sums es k f;
    }) (sym empty.0) (sym empty.1) (omega arith)

-- the entry is written over
pub returns-in-Some-clause-changed : goal.returns-in-Some-clause-changed
returns-in-Some-clause-changed c =
    let es = c.args.slots.now.entries in
    let k = c.args.slot in
    let entry = c.args.entry in
    let holds = c.get_mut.follows.holds entry in
    changed es (c.get_mut.follows.lender entry).entries k (Some entry) entry 0
    (record {
      updates = (holds.3 (rw (← c.in-Some.ensures.value) refl)).0;
      sums = λ f.
          ap (λ (fs : Slots). sum_by f (values_of fs) + unwrap_or (option_map f (lookup (is_at (nat_cmp k)) es)) 0) holds.0
          ∙ written_sums es k c.in-Some.place.now entry (sym c.in-Some.ensures.value) f;
    }) refl refl (rw (← c.in-Some.ensures.value) (omega arith))

pub returns-then-not-is_filled-clause-filled : goal.returns-then-not-is_filled-clause-filled
returns-then-not-is_filled-clause-filled c =
    rw c.remove.ensures.entries
    (All-map-remove_entry (is_at (nat_cmp c.args.slot)) (λ e. e.1) (λ e. is_filled e ≡ true) c.args.slots.now.entries c.requires.filled)

pub returns-in-Some-clause-filled : goal.returns-in-Some-clause-filled
returns-in-Some-clause-filled c =
    let entry = c.args.entry in
    rw (c.get_mut.follows.holds entry).0
    (All-values-set_value (is_at (nat_cmp c.args.slot)) (λ e. is_filled e ≡ true) c.args.slots.now.entries entry c.requires.filled (sym c.is_filled.ensures ∙ c.if-not-is_filled.false))

pub returns-in_default-clause-changed : goal.returns-in_default-clause-changed
returns-in_default-clause-changed c =
    absurd (must_be c.args.slots.now.entries c.args.slot c.args.entry (sym c.is_filled.ensures ∙ c.if-not-is_filled.false) c.requires.live c.requires.begun c.in_default.ensures.value)
