use Rattle.std.proofs.Common.{◌≡◌, ℕ, ◌+◌, ◌-◌, ◌++◌, ◌∷◌, [], List, sym, ap, subst, ◌∙◌, arith}
use Rattle.pass_pins.specs.Pins.{Pins}
use Rattle.replay.proofs.NoPins.{FirstHaveNone, none_pushed, none_first, all_have_none}
use Rattle.replay.proofs.player.no_pins.Goals as goal

pub loop-lane-init : goal.loop-lane-init
loop-lane-init c = none_first c.in_ok-pins.pins.items c.in_ok-pins.ensures.items

pub loop-lane-preserved : goal.loop-lane-preserved
loop-lane-preserved c =
    let n : c.loop-lane.lane - 1 + 1 ≡ c.loop-lane.lane = omega arith in
    let m : c.loop-lane.lane - 1 + 1 ≡ c.loop-lane.lane + 1 - 1 = omega arith in
    let more = none_pushed (c.loop-lane.lane - 1) c.loop-lane.pins.items c.new.result c.loop-lane.invariant (c.new.ensures ∙ ap (λ (k : ℕ). record { pass = k; pins = [] }) (sym n)) in
    let kept : FirstHaveNone (c.loop-lane.lane + 1 - 1) (c.loop-lane.pins.items ++ c.new.result ∷ []) = subst (λ (k : ℕ). FirstHaveNone k (c.loop-lane.pins.items ++ c.new.result ∷ [])) m more in
    subst (λ (ps : List Pins). FirstHaveNone (c.loop-lane.lane + 1 - 1) ps) (sym c.in_ok-push.ensures.items) kept

pub returns : goal.returns
returns c = all_have_none (c.loop-lane.lane - 1) c.loop-lane.pins.items (omega arith) c.loop-lane.invariant
