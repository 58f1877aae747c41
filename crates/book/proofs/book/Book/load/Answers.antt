use Rattle.std.proofs.Common.{◌≡◌, ℕ, ◌<◌, ◌≤◌, List, length, Option, None, Some, option_map, sym, ap, ◌∙◌, subst, arith, is_some}
use Rattle.std.proofs.lemmas.Bool.{true≢false}
use Rattle.slot_list.specs.Latest.{sees, IsLatest}
use Rattle.accounts_index.specs.Index.{kept}
use Rattle.write_cache.specs.Rows.{rows, account_at}
use Rattle.vec_scan.specs.Seal.{row_there}
use Rattle.cell_table.specs.Phases.{value_of}
use Rattle.cell_table.specs.Cells.{Table, cell_at}
use Rattle.adb_model.specs.Account.{Account}
use Rattle.adb_model.specs.State.{Row, State}
use Rattle.adb_model.specs.Call as machine
use Rattle.adb_model.specs.Call.{Reply}
use Rattle.adb_model.specs.History.{state_after}
use Rattle.book_parts.specs.Parts.{Shared, Parts}
use Rattle.book_parts.specs.Pins.{HoldsPins}
use Rattle.book_parts.specs.Stands.{Stands, AfterWithPins}
use Rattle.book.specs.Inside.{seen}
use Rattle.book.proofs.Images.{row_of_image}
use Rattle.book.proofs.book.Book.load.Goals as goal

pub returns-in_default-clause-stands : goal.returns-in_default-clause-stands
returns-in_default-clause-stands c = λ m0 h st held.
    let view = c.args.view.now in
    let key = c.args.key.now.0 in
    let new = subst (λ (p : Parts). p.cleaned ≤ view.max_root) c.self.view_is (subst (λ (n : ℕ). c.self.inside.cleaned ≤ n) c.max_root-max_root.ensures c.if-max_root-self.false) in
    let few : length c.args.pins.now.pins < 64 = omega arith in
    let l = subst (λ (p : Parts). IsLatest (sees view.ancestors p.roots view.max_root) (kept p.index key).versions None) c.self.view_is c.in_default.ensures in
    c.load_stands.ensures.none c.args.self.now c.args.pins.now m0 h view key st held new few l

pub returns-then-version-clause-stands : goal.returns-then-version-clause-stands
returns-then-version-clause-stands c = λ m0 h st held.
    let view = c.args.view.now in
    let key = c.args.key.now.0 in
    let new = subst (λ (p : Parts). p.cleaned ≤ view.max_root) c.self.view_is (subst (λ (n : ℕ). c.self.inside.cleaned ≤ n) c.max_root-max_root.ensures c.if-max_root-self.false) in
    let few : length c.args.pins.now.pins < 64 = omega arith in
    let l = subst (λ (p : Parts). IsLatest (sees view.ancestors p.roots view.max_root) (kept p.index key).versions (Some c.in-Some.version)) c.self.view_is c.in-Some.ensures in
    c.load_stands.ensures.tomb c.args.self.now c.args.pins.now m0 h view key c.in-Some.version st held new few l c.if-version.true

pub returns-then-count-eq-MAX_PINS-clause-stands : goal.returns-then-count-eq-MAX_PINS-clause-stands
returns-then-count-eq-MAX_PINS-clause-stands c = λ m0 h st held.
    let view = c.args.view.now in
    let new = subst (λ (p : Parts). p.cleaned ≤ view.max_root) c.self.view_is (subst (λ (n : ℕ). c.self.inside.cleaned ≤ n) c.max_root-max_root.ensures c.if-max_root-self.false) in
    let many : 64 ≤ length c.args.pins.now.pins = omega (arith, c.count.ensures.count, c.if-count-eq-MAX_PINS.true) in
    c.load_stands.ensures.many c.args.self.now c.args.pins.now m0 h view c.args.key.now.0 st held new many

pub unreachable-requires : goal.unreachable-requires
unreachable-requires c =
    let i = c.self.invariant in
    let there = c.load_stands.ensures.there (seen c.self.inside) i.start i.history c.args.key.now.0 c.in-Some.version i.stands c.in-Some.ensures.0 c.in-Cached.is in
    absurd (true≢false (sym there ∙ ap is_some (sym c.in-None.ensures)))

pub returns-in_ok-clone-in-Some-get-clause-stands : goal.returns-in_ok-clone-in-Some-get-clause-stands
returns-in_ok-clone-in-Some-get-clause-stands c = λ m0 h st held.
    let view = c.args.view.now in
    let key = c.args.key.now.0 in
    let new = subst (λ (p : Parts). p.cleaned ≤ view.max_root) c.self.view_is (subst (λ (n : ℕ). c.self.inside.cleaned ≤ n) c.max_root-max_root.ensures c.if-max_root-self.false) in
    let few : length c.args.pins.now.pins < 64 = omega arith in
    let v = c.in-Some.version in
    let l = subst (λ (p : Parts). IsLatest (sees view.ancestors p.roots view.max_root) (kept p.index key).versions (Some v)) c.self.view_is c.in-Some.ensures in
    let row = ap (λ (p : Parts). account_at (rows p.cache v.slot) key) (sym c.self.view_is) ∙ sym c.in-Some-get.ensures in
    subst (λ (a : Account). AfterWithPins c.args.self.now c.args.pins.now m0 h (machine.Load view key) (Some (machine.Found v.slot machine.Cached a))) (sym c.in_ok-clone-in-Some-get.ensures.cases)
    (c.load_stands.ensures.cached c.args.self.now c.args.pins.now m0 h view key v c.in-Some-get.account.now.value st held new few l c.if-version.false c.in-Cached.is row)

pub pin-requires-clause-live : goal.pin-requires-clause-live
pin-requires-clause-live c =
    let i = c.self.invariant in
    c.stored_load_stands.ensures.live (seen c.self.inside) i.start i.history c.args.key.now.0 c.in-Some.version c.in-Stored.cell c.in-Stored.offset i.stands c.in-Some.ensures.0 c.in-Stored.is

-- what the call leaves where the version stands in a storage, from each history for which the book stood
after_load : (c : goal.After-add) (m0 : State) (h : List machine.Event) → Stands (seen c.self.inside) m0 h → HoldsPins c.args.pins.now (state_after m0 h)
    → AfterWithPins (record (seen c.self.inside) { cells = c.pin.new.cells }) c.add.new.self m0 h (machine.Load c.args.view.now c.args.key.now.0)
    (option_map (λ (r : Row). machine.Found c.in-Some.version.slot (machine.InStorage c.in_ok-id-in-Stored.field-0.id) r.account)
    (row_there c.in_ok-id-in-Stored.field-0.sealed.value.rows c.in-Stored.offset))
after_load c m0 h st held =
    let view = c.args.view.now in
    let key = c.args.key.now.0 in
    let before = seen c.self.inside in
    let pins = c.args.pins.now in
    let after = c.add.new.self in
    let v = c.in-Some.version in
    let cell = c.in-Stored.cell in
    let offset = c.in-Stored.offset in
    let id = c.in_ok-id-in-Stored.field-0.id in
    let image = c.in_ok-id-in-Stored.field-0.sealed.value in
    let new = subst (λ (n : ℕ). c.self.inside.cleaned ≤ n) c.max_root-max_root.ensures c.if-max_root-self.false in
    let few : length pins.pins < 64 = omega arith in
    let there = c.stored_load_stands.ensures.row before m0 h key v cell offset st c.in-Some.ensures.0 c.in-Stored.is in
    let row = there.0 in
    let found : Row → Reply = λ r. machine.Found v.slot (machine.InStorage id) r.account in
    let is = row_of_image (value_of (cell_at c.self.inside.cells.cells cell)) image offset row c.in_ok-id-in-Stored.ensures.image there.1 in
    let reply : Some (found row) ≡ option_map found (row_there image.rows offset) = sym (ap (option_map found) is) in
    let done = c.stored_load_stands.ensures.done before pins after m0 h view key v cell offset id row st held new few c.in-Some.ensures c.if-version.false c.in-Stored.is
    c.in_ok-id-in-Stored.ensures.id there.1 c.add.ensures.pins c.add.ensures.each in
    subst (λ (o : Option Reply). AfterWithPins (record before { cells = c.pin.new.cells }) after m0 h (machine.Load view key) o) reply
    (subst (λ (cells : Table Shared). AfterWithPins (record before { cells = cells }) after m0 h (machine.Load view key) (Some (found row))) (sym c.in_ok-id-in-Stored.ensures.pinned) done)

pub invariant_of-self-in-Stored : goal.invariant_of-self-in-Stored
invariant_of-self-in-Stored c =
    let r = c.requires in
    let after = after_load c r.start r.history (subst (λ (p : Parts). Stands p r.start r.history) (sym c.self.view_is) r.stands) r.pins in
    record { start = r.start; history = _; stands = after.stands }

pub returns-in_ok-id-in-Stored-clause-stands : goal.returns-in_ok-id-in-Stored-clause-stands
returns-in_ok-id-in-Stored-clause-stands c = λ m0 h st held. after_load c m0 h (subst (λ (p : Parts). Stands p m0 h) (sym c.self.view_is) st) held
