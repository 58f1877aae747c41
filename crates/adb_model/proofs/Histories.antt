-- Histories that go on.
use Rattle.std.proofs.Common.{◌≡◌, List, [], ◌∷◌, ◌++◌, refl}
use Rattle.adb_model.specs.State.{State}
use Rattle.adb_model.specs.Call.{Event}
use Rattle.adb_model.specs.Step.{step}
use Rattle.adb_model.specs.History.{state_after, IsLegal, IsPass, AreOfPasses}

pub state_append : (m : State) (h g : List Event) → state_after m (h ++ g) ≡ state_after (state_after m h) g
state_append m [] g = refl
state_append m (e ∷ h) g = state_append (step m e.pass e.call).0 h g

pub legal_append : (m : State) (h g : List Event) → IsLegal m h → IsLegal (state_after m h) g → IsLegal m (h ++ g)
legal_append m [] g legal more = more
legal_append m (e ∷ h) g legal more = (legal.0, legal_append (step m e.pass e.call).0 h g legal.1 more)

-- the front of a legal history is legal, and what follows goes on being legal
pub legal_front : (m : State) (h g : List Event) → IsLegal m (h ++ g) → IsLegal m h
legal_front m [] g legal = tt
legal_front m (e ∷ h) g legal = (legal.0, legal_front (step m e.pass e.call).0 h g legal.1)

pub legal_rest : (m : State) (h g : List Event) → IsLegal m (h ++ g) → IsLegal (state_after m h) g
legal_rest m [] g legal = legal
legal_rest m (e ∷ h) g legal = legal_rest (step m e.pass e.call).0 h g legal.1

pub legal_push : (m : State) (h : List Event) (e : Event) → IsLegal m h → e.reply ≡ (step (state_after m h) e.pass e.call).1 → IsLegal m (h ++ e ∷ [])
legal_push m h e legal reply = legal_append m h (e ∷ []) legal (reply, tt)

pub passes_push : (h : List Event) (e : Event) → AreOfPasses h → IsPass e.pass → AreOfPasses (h ++ e ∷ [])
passes_push [] e passes is = (is, tt)
passes_push (f ∷ h) e passes is = (passes.0, passes_push h e passes.1 is)
