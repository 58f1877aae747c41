use Rattle.std.proofs.Common.{ℕ, List, length, Some, sym, ap, subst, arith}
use Rattle.adb_model.specs.State.{State}
use Rattle.adb_model.specs.Call as machine
use Rattle.book_parts.specs.Parts.{Shared, Parts}
use Rattle.book_parts.specs.Snaps.{Snapshot, MayPin, PinsEach, ids_of}
use Rattle.book_parts.specs.Stands.{Stands, After}
use Rattle.book.specs.Inside.{seen}
use Rattle.vec_scan.specs.Shown.{images_of}
use Rattle.book.proofs.SnapPins.{as_many}
use Rattle.book.proofs.SnapRefusals.{Answered, why_stands}
use Rattle.book.proofs.book.Book.snap_begin.Goals as goal

pub returns-in-Some-clause-stands : goal.returns-in-Some-clause-stands
returns-in-Some-clause-stands c = λ m0 h pass st.
    let p = seen c.self.inside in
    let slot = c.args.slot in
    let stands = subst (λ (q : Parts). Stands q m0 h) (sym c.self.view_is) st in
    let law = c.snap_begin_stands.ensures in
    subst (λ (q : Parts). Answered q m0 h pass slot c.in-Some.refusal) c.self.view_is
    (why_stands p m0 h pass slot (λ s. law.is_open p m0 h pass slot s stands) (law.no_root p m0 h pass slot stands) (law.too_old p m0 h pass slot stands) (λ r. law.unflushed p m0 h pass slot r stands)
    c.in-Some.refusal c.in-Some.ensures)

pub storages_upto-requires : goal.storages_upto-requires
storages_upto-requires c = λ s live e.
    let i = c.self.invariant in
    c.snap_begin_stands.ensures.filled (seen c.self.inside) i.start i.history s live i.stands e

pub pin_each-requires-clause-live : goal.pin_each-requires-clause-live
pin_each-requires-clause-live c =
    let i = c.self.invariant in
    let p = seen c.self.inside in
    let items = c.in_ok-storages.storages.items in
    let may = c.snap_begin_stands.ensures.may p i.start i.history c.args.slot (images_of items) i.stands c.in_default.ensures c.in_ok-storages.ensures in
    subst (λ (storages : List Shared). MayPin (images_of storages) p.cells) (sym c.deref.ensures.value) may.0

pub pin_each-requires-clause-fits : goal.pin_each-requires-clause-fits
pin_each-requires-clause-fits c =
    let i = c.self.invariant in
    let p = seen c.self.inside in
    let items = c.in_ok-storages.storages.items in
    let may = c.snap_begin_stands.ensures.may p i.start i.history c.args.slot (images_of items) i.stands c.in_default.ensures c.in_ok-storages.ensures in
    omega (arith, may.1, as_many items, ap (λ (storages : List Shared). length storages) c.deref.ensures.value)

-- what the call leaves, from each history for which the book stood
begun : (c : goal.After-new) (m0 : State) (h : List machine.Event) (pass : ℕ) → Stands (seen c.self.inside) m0 h
    → After (record (seen c.self.inside) { cells = c.pin_each.new.cells; snap = Some c.args.slot }) m0 h pass (machine.SnapBegin c.args.slot)
    (Some (machine.SnapBegun (length (images_of c.in_ok-storages.storages.items))))
begun c m0 h pass st =
    let p = seen c.self.inside in
    let items = c.in_ok-storages.storages.items in
    let each = subst (λ (storages : List Shared). PinsEach (ids_of (images_of storages)) p.cells c.pin_each.new.cells) c.deref.ensures.value c.pin_each.ensures in
    c.snap_begin_stands.ensures.done p m0 h pass c.args.slot (images_of items) c.pin_each.new.cells st c.in_default.ensures c.in_ok-storages.ensures each

pub invariant_of-self : goal.invariant_of-self
invariant_of-self c =
    let i = c.self.invariant in
    record { start = i.start; history = _; stands = begun c i.start i.history 1 i.stands }

pub returns-clause-stands : goal.returns-clause-stands
returns-clause-stands c = λ m0 h pass st.
    let stands = subst (λ (q : Parts). Stands q m0 h) (sym c.self.view_is) st in
    subst (λ (job : Snapshot). After (record (seen c.self.inside) { cells = c.pin_each.new.cells; snap = Some c.args.slot }) m0 h pass (machine.SnapBegin c.args.slot)
    (Some (machine.SnapBegun (length job.storages)))) (sym c.new.ensures) (begun c m0 h pass stands)
