use Rattle.std.proofs.Common.{◌≡◌, subst, sym}
use Rattle.turn_lock.specs.Passes.{IsWhole, mine_of}
use Rattle.turn_lock.proofs.Ends.{ends, taken, stood_with}
use Rattle.turn_lock.proofs.turn.Turn.close.Goals as goal

pub unreachable-requires : goal.unreachable-requires
unreachable-requires g c =
    let r = c.pass.invariant.0 in
    let e = ends g.V.Standing.stands g.V.Standing.bears _ _ _ r.live r.free (subst IsWhole (sym c.pass.view_is) c.requires.whole) _ _ c.close_with-closed.ensures.values.2 in
    c.in_default.not-Some e.value (taken g.V.Standing.stands g.V.Standing.bears _ _ _ _ e c.take.ensures.value)

pub returns-clause-stands : goal.returns-clause-stands
returns-clause-stands g c =
    let r = c.pass.invariant.0 in
    let e = ends g.V.Standing.stands g.V.Standing.bears _ _ _ r.live r.free (subst IsWhole (sym c.pass.view_is) c.requires.whole) _ _ c.close_with-closed.ensures.values.2 in
    let x = c.into_inner.result.value in
    subst (λ p. g.V.Standing.stands c.args.self.start p.seen x) c.pass.view_is
    (subst (λ t. g.V.Standing.stands t.start c.pass.inside.seat.me.0.seen x) c.self.view_is
    (subst (λ y. g.V.Standing.stands c.self.inside.table.shared.key.value c.pass.inside.seat.me.0.seen y.value) (sym c.into_inner.ensures) (stood_with g.V.Standing.stands g.V.Standing.bears _ _ _ _ _ e c.take.ensures.value c.in-Some.is)))

pub returns-clause-mine : goal.returns-clause-mine
returns-clause-mine g c =
    let r = c.pass.invariant.0 in
    let e = ends g.V.Standing.stands g.V.Standing.bears _ _ _ r.live r.free (subst IsWhole (sym c.pass.view_is) c.requires.whole) _ _ c.close_with-closed.ensures.values.2 in
    subst (λ p. mine_of g.V.Standing.bears p ≡ p.seen) c.pass.view_is e.mine
