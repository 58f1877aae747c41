use Rattle.adb_model.specs.History.{state_after}
use Rattle.book_parts.proofs.NextKeys.{next_key}
use Rattle.book_parts.proofs.laws.next_key_stands.Goals as goal

pub returns : goal.returns
returns c = λ p m0 h after st ordered. next_key p (state_after m0 h) after st.parts ordered
