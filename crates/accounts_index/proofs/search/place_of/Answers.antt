use Rattle.std.proofs.Common.{◌+◌, ◌-◌, ◌/◌, ◌^◌, ◌<◌, length, ap, sym, ◌∙◌, arith}
use Rattle.std.specs.declared.cmp.Ordering.TheVariants.{Less, Equal, Greater}
use Rattle.accounts_index.proofs.Searches.{compared, lower_upto, higher_from, found_there, halved, doubled, next_power, middle_within, upper_half, lower_half}
use Rattle.accounts_index.proofs.search.place_of.Goals as goal

pub loop-low-preserved-in-Less : goal.loop-low-preserved-in-Less
loop-low-preserved-in-Less g c =
    let low = c.loop-low.low in
    let high = c.loop-low.high in
    let m = low + (high - low) / 2 in
    let inv = c.loop-low.invariant in
    let mid = middle_within low high c.loop-low-test.true in
    let in_range : m < length c.args.entries.now = omega (arith, inv.within, mid.1) in
    let less = compared c.args.entries.now c.requires c.args.key.now.0 m in_range c.index-entries-middle.result Less (sym c.in-Less.ensures) in
    let power = ap (λ n. 2 ^ (n - c.args.steps.now)) c.tick.ensures ∙ next_power c.loop-low.steps c.args.steps.now inv.later in
    record {
      order = omega (arith, mid.1);
      within = inv.within;
      lower = lower_upto c.args.entries.now c.requires c.args.key.now.0 m in_range less;
      higher = inv.higher;
      later = omega (arith, c.tick.ensures, inv.later);
      left = rw power (halved _ (high - low) (high - (m + 1)) _ inv.left (upper_half low high c.loop-low-test.true));
      few = rw power (doubled _ (high - low) _ inv.left (omega arith));
    }

pub loop-low-preserved : goal.loop-low-preserved
loop-low-preserved g c =
    let low = c.loop-low.low in
    let high = c.loop-low.high in
    let m = low + (high - low) / 2 in
    let inv = c.loop-low.invariant in
    let mid = middle_within low high c.loop-low-test.true in
    let in_range : m < length c.args.entries.now = omega (arith, inv.within, mid.1) in
    let greater = compared c.args.entries.now c.requires c.args.key.now.0 m in_range c.index-entries-middle.result Greater (sym c.in-Greater.ensures) in
    let power = ap (λ n. 2 ^ (n - c.args.steps.now)) c.tick.ensures ∙ next_power c.loop-low.steps c.args.steps.now inv.later in
    record {
      order = mid.0;
      within = omega (arith, in_range);
      lower = inv.lower;
      higher = higher_from c.args.entries.now c.requires c.args.key.now.0 m in_range greater;
      later = omega (arith, c.tick.ensures, inv.later);
      left = rw power (halved _ (high - low) (m - low) _ inv.left (lower_half low high c.loop-low-test.true));
      few = rw power (doubled _ (high - low) _ inv.left (omega arith));
    }

pub returns-in-Equal-clause-found : goal.returns-in-Equal-clause-found
returns-in-Equal-clause-found g c =
    let low = c.loop-low.low in
    let high = c.loop-low.high in
    let m = low + (high - low) / 2 in
    let in_range : m < length c.args.entries.now = omega (arith, c.loop-low.invariant.within, (middle_within low high c.loop-low-test.true).1) in
    found_there c.args.entries.now c.requires c.args.key.now.0 m in_range
    (compared c.args.entries.now c.requires c.args.key.now.0 m in_range c.index-entries-middle.result Equal (sym c.in-Equal.ensures))

pub returns-in-Equal-clause-cost : goal.returns-in-Equal-clause-cost
returns-in-Equal-clause-cost g c =
    let inv = c.loop-low.invariant in
    let power = ap (λ n. 2 ^ (n - c.args.steps.now)) c.tick.ensures ∙ next_power c.loop-low.steps c.args.steps.now inv.later in
    rw power (doubled _ (c.loop-low.high - c.loop-low.low) _ inv.left (omega arith))
