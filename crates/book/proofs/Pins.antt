-- The pins in hand, where no pin of an id is among them.
use Rattle.std.proofs.Common.{◌≡◌, ℕ, Bool, false, cond, ◌&&◌, ◌||◌, List, [], ◌∷◌, refl, ap, ◌∙◌}
use Rattle.std.specs.List.{list_any}
use Rattle.std.proofs.lemmas.Bool.{or_parts}
use Rattle.pass_pins.specs.declared.Pin.{Pin}
use Rattle.pass_pins.specs.Pins.{has_id, is_finished, without_first, without_one}

none_finished : (id : ℕ) (pins : List Pin) → list_any (has_id id) pins ≡ false → list_any (is_finished id) pins ≡ false
none_finished id [] none = refl
none_finished id (p ∷ ps) none =
    let parts = or_parts (has_id id p) (list_any (has_id id) ps) none in
    ap (λ b. (b && p.finished) || list_any (is_finished id) ps) parts.0 ∙ none_finished id ps parts.1

none_left_out : (test : Pin → Bool) (pins : List Pin) → list_any test pins ≡ false → without_first test pins ≡ pins
none_left_out test [] none = refl
none_left_out test (p ∷ ps) none =
    let parts = or_parts (test p) (list_any test ps) none in
    ap (λ b. cond b ps (p ∷ without_first test ps)) parts.0 ∙ ap (λ (qs : List Pin). p ∷ qs) (none_left_out test ps parts.1)

pub none_taken : (id : ℕ) (pins : List Pin) → list_any (has_id id) pins ≡ false → without_one id pins ≡ pins
none_taken id pins none =
    ap (λ b. cond b (without_first (is_finished id) pins) (without_first (has_id id) pins)) (none_finished id pins none) ∙ none_left_out (has_id id) pins none
