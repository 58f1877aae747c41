use Rattle.std.proofs.Common.{◌≡◌, ℕ, ◌≤◌, Option, Some, None, subst}
use Rattle.std.specs.Prelude.{IfSome, IsSome}
use Rattle.storage_map.specs.Slots.{Slots, live_at}
use Rattle.book_parts.specs.Snaps.{AreInUse}
use Rattle.vec_scan.specs.Shown.{images_of}
use Rattle.book.specs.Snapping.{IsNextUpto, is_before}
use Rattle.book.proofs.SnapImages.{none_yet, one_image, some_at}
use Rattle.book.proofs.snapping.storages_upto.Goals as goal

-- the slot that comes next is within, and has a storage in use
next_there : (slots : Slots) (after : Option ℕ) (upto : ℕ) (at : Option ℕ) → IsNextUpto (λ q. live_at slots q ≡ None) after upto at → IfSome at (λ found. (found ≤ upto) × IsSome (live_at slots found))
next_there slots after upto None next = tt
next_there slots after upto (Some found) next = (next.0, some_at slots after upto found next)

-- what is said of it where there is one
within : (o : Option ℕ) (found : ℕ) (P : ℕ → Type 0) → o ≡ Some found → IfSome o P → P found
within None found P e p = absurd cc
within (Some n) found P e p = subst P (let same : n ≡ found = cc in same) p

pub loop-at-init : goal.loop-at-init
loop-at-init c = record {
  used = none_yet c.args.cells.now c.args.map.now c.args.slot c.next_in_use-at.result c.new-storages.result.items c.new-storages.ensures.items c.next_in_use-at.ensures;
  there = next_there c.args.map.now None c.args.slot c.next_in_use-at.result c.next_in_use-at.ensures;
}

pub loop-at-preserved : goal.loop-at-preserved
loop-at-preserved c =
    let there = within c.loop-at.at c.in-Some.found (λ (found : ℕ). (found ≤ c.args.slot) × IsSome (live_at c.args.map.now found)) c.in-Some.is c.loop-at.invariant.there in
    let used = subst (λ (o : Option ℕ). AreInUse (is_before c.args.slot o) c.args.cells.now c.args.map.now (images_of c.loop-at.storages.items)) c.in-Some.is c.loop-at.invariant.used in
    record {
      used = one_image c.args.cells.now c.args.map.now c.args.slot c.in-Some.found c.next_in_use-at-in-Some.result c.loop-at.storages.items c.push.new.self.items c.in_ok-share.field-0 c.in_ok-push.ensures.items
          there.0 there.1 c.next_in_use-at-in-Some.ensures c.in_ok-share.ensures used;
      there = next_there c.args.map.now (Some c.in-Some.found) c.args.slot c.next_in_use-at-in-Some.result c.next_in_use-at-in-Some.ensures;
    }
