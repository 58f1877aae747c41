-- An event by what was asked and told.
use Rattle.std.proofs.Common.{◌≡◌, ℕ, List, Option, Some, None, refl, sym, ap, ◌∙◌, subst}
use Rattle.std.specs.Option.{option_map, option_copied}
use denote.Ref.{Bor}
use Rattle.adb_model.specs.declared.key.Key.{Key}
use Rattle.adb_model.specs.State.{State}
use Rattle.adb_model.specs.Call as machine
use Rattle.book_parts.specs.Stands.{with_event}
use Rattle.replay.specs.Standing.{Lanes, PlayerStands}

pub as_asked : (q : Lanes) (start : State) (h : List machine.Event) (lane : ℕ) (call asked : machine.Call) (reply told : Option machine.Reply) → asked ≡ call → told ≡ reply
    → PlayerStands q start (with_event h lane call reply) → PlayerStands q start (with_event h lane asked told)
as_asked q start h lane call asked reply told same replied st =
    subst (λ (r : Option machine.Reply). PlayerStands q start (with_event h lane asked r)) (sym replied)
    (subst (λ (c : machine.Call). PlayerStands q start (with_event h lane c reply)) (sym same) st)

-- the key after which to go on, as the call has it
pub key_lent : (lent : Option (Bor Key)) (after : Option Key) → option_copied lent ≡ after → option_map (λ (k : Bor Key). k.now.0) lent ≡ option_map (λ (k : Key). k.0) after
key_lent lent after e = copied lent ∙ ap (option_map (λ (k : Key). k.0)) e
  where
    copied : (o : Option (Bor Key)) → option_map (λ (k : Bor Key). k.now.0) o ≡ option_map (λ (k : Key). k.0) (option_copied o)
    copied None = refl
    copied (Some k) = refl
