use Rattle.std.proofs.Common.{List, Option, sym, ap, refl}
use Rattle.std.specs.Option.{option_map_or}
use Rattle.adb_model.specs.Call.{Reclaim, Reclaimed, NothingLeft}
use Rattle.book_parts.proofs.cleaning.reclaim_stands.Goals as goal

pub returns-clause-done : goal.returns-clause-done
returns-clause-done c = λ old new m0 h pass most after answer st e r.
    c.step_stands.ensures.of_any old new m0 h pass (Reclaim after most) (option_map_or Reclaimed answer NothingLeft) refl st
    (ap (λ (o : Option (List _)). option_map_or Reclaimed o NothingLeft) (sym e)) r
