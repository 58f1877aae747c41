use Rattle.std.proofs.Common.{refl}
use Rattle.adb_model.specs.State.{fresh}
use Rattle.book_parts.proofs.HeldPins.{new_held, still_held}
use Rattle.book_parts.proofs.laws.pins_are_held.Goals as goal

pub returns : goal.returns
returns c = record {
  new = new_held;
  stay = still_held;
  fresh = λ budget id pass is. new_held (fresh budget id) pass is refl;
}
