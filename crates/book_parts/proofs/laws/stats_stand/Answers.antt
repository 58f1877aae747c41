use Rattle.std.proofs.Common.{refl}
use Rattle.adb_model.specs.Call.{Stats, Counted}
use Rattle.adb_model.specs.History.{state_after}
use Rattle.book_parts.specs.Reflects.{counts_in}
use Rattle.book_parts.proofs.Counts.{counted}
use Rattle.book_parts.proofs.laws.stats_stand.Goals as goal

pub returns : goal.returns
returns c = λ p m0 h pass st. c.step_stands.ensures.of_any p p m0 h pass Stats (Counted (counts_in p)) refl st (counted p (state_after m0 h) st.parts) st.parts
