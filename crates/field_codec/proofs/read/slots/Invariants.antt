use Rattle.std.specs.Ordering.{nat_cmp}
use Rattle.std.specs.BTreeSet.{contains}
use Rattle.field_codec.proofs.Slots.{Standing}
use Rattle.field_codec.proofs.read.slots.Given as goal

abbrev pub invariant-loop : goal.invariant-loop
invariant-loop l = Standing l.bytes l.count l.counter l.storages.items (contains nat_cmp l.stood) l.at
