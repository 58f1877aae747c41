-- What a mark in the index says of a pair.
use Rattle.std.proofs.Common.{◌≡◌, Bool, true, false, cond, Option, Some, None, refl, sym, ap}

abbrev mark : Bool → Bool → Bool → Option (Bool × Bool)
mark p t c = cond p (Some (t, c)) None

pub unmarked : (p t c : Bool) → None ≡ mark p t c → p ≡ false
unmarked true t c e = absurd cc
unmarked false t c e = refl

pub marked : (p t c : Bool) (x : Bool × Bool) → Some x ≡ mark p t c → (p ≡ true) × (t ≡ x.0) × (c ≡ x.1)
marked true t c x e =
    let both : Bool × Bool = (t, c) in
    let given : Some x ≡ Some both = e in
    let same : x ≡ both = cc in
    (refl, ap (λ (y : Bool × Bool). y.0) (sym same), ap (λ (y : Bool × Bool). y.1) (sym same))
marked false t c x e = absurd cc
