use Rattle.std.proofs.Common.{◌≡◌, ℕ, ◌+◌, ◌++◌, ◌∷◌, [], List, length, Bool, true, false, cond, eqb, ◌&&◌, Some, sym, ap, ◌∙◌, subst}
use Rattle.std.specs.List.{list_any}
use Rattle.cell_table.specs.Cells.{Table}
use Rattle.pass_pins.specs.declared.Pin.{Pin}
use Rattle.pass_pins.specs.Pins.{Pins, has_id, count_of}
use Rattle.adb_model.specs.State.{State}
use Rattle.adb_model.specs.Call as machine
use Rattle.adb_model.specs.History.{state_after}
use Rattle.book_parts.specs.Parts.{Shared, Parts}
use Rattle.book_parts.specs.Pins.{HoldsPins}
use Rattle.book_parts.specs.Stands.{Stands, AfterWithPins}
use Rattle.book.specs.Inside.{seen}
use Rattle.book.proofs.Pins.{none_taken}
use Rattle.book.proofs.book.Book.unpin.Goals as goal

pub returns-then-not-take-clause-stands : goal.returns-then-not-take-clause-stands
returns-then-not-take-clause-stands c = λ m0 h st held.
    let id = c.args.id in
    let pins = c.args.pins.now in
    let none : list_any (has_id id) pins.pins ≡ false = sym c.take.ensures.there ∙ c.if-not-take.true in
    let same : pins ≡ c.take.new.self = sym (c.take.ensures.pins ∙ ap (λ (ps : List Pin). record pins { pins = ps }) (none_taken id pins.pins none)) in
    subst (λ (q : Pins). AfterWithPins c.args.self.now q m0 h (machine.Unpin id) (Some (machine.Refused (machine.NotPinned id)))) same
    (c.unpin_stands.ensures.none c.args.self.now pins m0 h id st held none)

abbrev one_if : Bool → ℕ
one_if b = cond b 1 0

-- what the call leaves, from each history for which the book stood
after_unpin : (c : goal.After-unpin) (m0 : State) (h : List machine.Event) → Stands (seen c.self.inside) m0 h → HoldsPins c.args.pins.now (state_after m0 h)
    → AfterWithPins (record (seen c.self.inside) { cells = c.unpin.new.self }) c.take.new.self m0 h (machine.Unpin c.args.id) (Some machine.Done)
after_unpin c m0 h st held =
    let id = c.args.id in
    let pins = c.args.pins.now in
    let after = c.take.new.self in
    let cell = c.in-Some.cell in
    let some : list_any (has_id id) pins.pins ≡ true = sym c.take.ensures.there ∙ c.if-not-take.false in
    let each : (q : ℕ) → count_of q pins.pins ≡ count_of q after.pins + one_if (eqb id q) =
    λ q. c.take.ensures.each q ∙ ap (λ b. count_of q after.pins + one_if (b && eqb id q)) c.if-not-take.false in
    let shorter : length pins.pins ≡ length after.pins + 1 = c.take.ensures.count ∙ ap (λ b. length after.pins + one_if b) c.if-not-take.false in
    subst (λ (cells : Table Shared). AfterWithPins (record (seen c.self.inside) { cells = cells }) after m0 h (machine.Unpin id) (Some machine.Done)) (sym c.unpin.ensures)
    (c.unpin_stands.ensures.done (seen c.self.inside) pins after m0 h id cell st held some ((c.cell_of.ensures cell).0 c.in-Some.is) (ap (λ (p : Pins). p.pass) c.take.ensures.pins) each shorter)

pub invariant_of-self : goal.invariant_of-self
invariant_of-self c =
    let r = c.requires in
    record {
      start = r.start;
      history = r.history ++ record { pass = c.take.new.self.pass; call = machine.Unpin c.args.id; reply = machine.Done } ∷ [];
      stands = (after_unpin c r.start r.history (subst (λ (p : Parts). Stands p r.start r.history) (sym c.self.view_is) r.stands) r.pins).stands;
    }

pub returns-clause-stands : goal.returns-clause-stands
returns-clause-stands c = λ m0 h st held. after_unpin c m0 h (subst (λ (p : Parts). Stands p m0 h) (sym c.self.view_is) st) held
