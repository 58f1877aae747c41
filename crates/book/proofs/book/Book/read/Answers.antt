use Rattle.std.proofs.Common.{◌≡◌, Some, option_map, option_and_then, sym, ap, ◌∙◌, subst, is_some, IfSome}
use Rattle.std.proofs.lemmas.Bool.{true≢false}
use Rattle.slot_list.specs.Versions.{at}
use Rattle.accounts_index.specs.Index.{kept}
use Rattle.write_cache.specs.Rows.{rows, account_at}
use Rattle.vec_scan.specs.Image.{Image, Placed}
use Rattle.vec_scan.specs.Seal.{row_there, placed}
use Rattle.account_layout.specs.Record.{account_in}
use Rattle.account_layout.specs.Reading.{fields_of}
use Rattle.adb_model.specs.Account.{Account}
use Rattle.adb_model.specs.State.{Stored}
use Rattle.adb_model.specs.History.{state_after}
use Rattle.book_parts.specs.Parts.{Shared, Parts}
use Rattle.book_parts.specs.Cells.{row_in}
use Rattle.cell_table.specs.Cells.{cell_at}
use Rattle.book.specs.Inside.{seen}
use Rattle.book.specs.Listing.{IsSeen}
use Rattle.book.proofs.Told.{same_account, whole_answer, whole_fields}
use Rattle.book.proofs.book.Book.read.Goals as goal

pub returns-then-version : goal.returns-then-version
returns-then-version c = λ m0 h view st new seen.
    let l = subst (IsSeen c.args.self.now view c.args.key.now.0) c.in-Some.is seen in
    sym (c.latest_versions_answer.ensures.tomb c.args.self.now m0 h view c.args.key.now.0 c.in-Some.version st new l c.if-version.true)

pub unreachable-requires : goal.unreachable-requires
unreachable-requires c =
    let i = c.self.invariant in
    let there_is = subst (λ (p : Parts). at c.in-Some.version.slot (kept p.index c.args.key.now.0).versions ≡ Some c.in-Some.version) (sym c.self.view_is) (subst (λ o. IfSome o (λ version. at version.slot (kept c.args.self.now.index c.args.key.now.0).versions ≡ Some version)) c.in-Some.is c.requires) in
    let there = c.load_stands.ensures.there (seen c.self.inside) i.start i.history c.args.key.now.0 c.in-Some.version i.stands there_is c.in-Cached.is in
    absurd (true≢false (sym there ∙ ap is_some (sym c.in-None.ensures)))

pub returns-in-Some-get : goal.returns-in-Some-get
returns-in-Some-get c = λ m0 h view st new seen.
    let l = subst (IsSeen c.args.self.now view c.args.key.now.0) c.in-Some.is seen in
    let key = c.args.key.now.0 in
    let v = c.in-Some.version in
    let account = c.in-Some-get.account.now.value in
    let row = ap (λ (p : Parts). account_at (rows p.cache v.slot) key) (sym c.self.view_is) ∙ sym c.in-Some-get.ensures in
    let read : Account = record { lamports = c.head.result.lamports; owner = c.head.result.owner; executable = c.head.result.executable; rent_epoch = c.head.result.rent_epoch; bytes = c.data.result.now } in
    let same = same_account read account
    (c.head.ensures.lamports ∙ ap (λ (a : Account). a.lamports) c.deref.ensures)
    (c.head.ensures.owner ∙ ap (λ (a : Account). a.owner) c.deref.ensures)
    (c.head.ensures.executable ∙ ap (λ (a : Account). a.executable) c.deref.ensures)
    (c.head.ensures.rent_epoch ∙ ap (λ (a : Account). a.rent_epoch) c.deref.ensures)
    (c.data.ensures.data ∙ ap (λ (a : Account). a.bytes) c.deref-in-Some-get.ensures) in
    ap (λ (a : Account). let t : Stored = record { slot = v.slot; key = key; account = a } in Some t) same
    ∙ sym (c.latest_versions_answer.ensures.cached c.args.self.now m0 h view key v account st new l c.if-version.false row)

pub returns-in-Stored : goal.returns-in-Stored
returns-in-Stored c = λ m0 h view st new seen.
    let l = subst (IsSeen c.args.self.now view c.args.key.now.0) c.in-Some.is seen in
    let key = c.args.key.now.0 in
    let v = c.in-Some.version in
    let cell = c.in-Stored.cell in
    let offset = c.in-Stored.offset in
    let record_there = c.record_at-record.result in
    let fields = fields_of record_there in
    let found : Stored = record { slot = v.slot; key = key; account = account_in fields } in
    let row = ap (λ (p : Parts). row_in (cell_at p.cells.cells cell) offset) (sym c.self.view_is)
    ∙ ap (option_and_then (λ (image : Shared). row_there image.value.rows offset)) c.get-in-Stored.ensures
    ∙ ap (λ (i : Image). row_there i.rows offset) (sym c.deref-in-Stored.ensures)
    ∙ ap (option_map (λ (q : Placed). q.row)) c.record_at-record.ensures.row in
    let answered = c.latest_versions_answer.ensures.stored c.args.self.now m0 h view key v cell offset (placed offset record_there).row st new l c.if-version.false c.in-Stored.is row in
    let whole = whole_fields fields (whole_answer (state_after m0 h) view key found answered) in
    ap (λ (a : Account). let t : Stored = record { slot = v.slot; key = key; account = a } in Some t) (sym whole) ∙ sym answered
