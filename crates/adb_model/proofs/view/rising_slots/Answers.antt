use Rattle.std.proofs.Common.{rules, ◌≡◌, eqb, sym, subst}
use Rattle.std.specs.List.{dedup}
use Rattle.std.specs.List.Sorted.{IsStrictlyIncreasing}
use Rattle.std.proofs.lemmas.List.Filters.{dedup_is}
use Rattle.std.proofs.lemmas.Map.Keys.{IsStrictlyIncreasing-dedup}
use Rattle.adb_model.proofs.Rising.{rising_of_increasing, sorted_once}
use Rattle.adb_model.proofs.view.rising_slots.Goals as goal

pub returns-then-do_rise-clause-slots : goal.returns-then-do_rise-clause-slots
returns-then-do_rise-clause-slots c = search (rules, rising_of_increasing)

pub returns-clause-slots : goal.returns-clause-slots
returns-clause-slots c =
    let kept : c.dedup.new.self.items ≡ dedup eqb c.sort_unstable.new.self.items = dedup_is eqb _ _ c.dedup.ensures.filtered in
    sorted_once c.args.slots.items c.sort_unstable.new.self.items c.dedup.new.self.items c.sort_unstable.ensures.permutation c.sort_unstable.ensures.sorted kept

pub returns-clause-rise : goal.returns-clause-rise
returns-clause-rise c =
    subst (λ l. IsStrictlyIncreasing l) (sym (dedup_is eqb _ _ c.dedup.ensures.filtered)) (IsStrictlyIncreasing-dedup _ c.sort_unstable.ensures.sorted)
