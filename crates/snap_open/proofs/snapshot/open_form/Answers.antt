use Rattle.std.proofs.Common.{ℕ, List, [], map, subst, sym, ◌∙◌, refl}
use Rattle.std.proofs.lemmas.Result.{err_from_is_err_and}
use Rattle.adb_model.specs.Opened as machine
use Rattle.adb_model.specs.Opened.{opened}
use Rattle.book_parts.specs.Stands.{Stands}
use Rattle.book_parts.specs.Opening.{AreFurther}
use Rattle.field_codec.specs.declared.form.FormFile.{FormFile}
use Rattle.field_codec.specs.FormFaults.{file_seen, form_seen}
use Rattle.snap_write.specs.Written.{with_rows}
use Rattle.snap_open.specs.Sizes.{HasRoom, sizes_in}
use Rattle.snap_open.proofs.Openable.{further, may_open, openable, sizes_are}
use Rattle.snap_open.proofs.Told.{all_in, why_no_book, why_no_images}
use Rattle.snap_open.proofs.snapshot.open_form.Goals as goal

pub returns-in_err-images-clause-refused : goal.returns-in_err-images-clause-refused
returns-in_err-images-clause-refused g c =
    let p = err_from_is_err_and c.from_residual-in_err-images.result c.from_residual-in_err-images.ensures.1 in
    rw (p.1, p.2)
    (why_no_images (g.D.Dir.files c.args.dir.now) c.args.budget (map file_seen c.args.form.files.items) c.in_ok-read_files.field-0.items c.in_err-images.field-0.0 (subst (λ (l : List FormFile). HasRoom c.args.budget (sizes_in (map file_seen l))) c.deref.ensures.value c.in_ok-check_room.ensures.room) c.in_ok-read_files.ensures.read c.in_ok-read_files.ensures.bytes
    c.in_err-images.ensures.refused)

pub rebuild-requires-clause-storages : goal.rebuild-requires-clause-storages
rebuild-requires-clause-storages g c =
    openable (form_seen c.args.form) c.requires.order c.in_ok-read_files.field-0.items c.in_ok-read_files.ensures.read c.in_ok-images.images.storages.items c.in_ok-images.images.without_rows.items c.in_ok-images.ensures.sealed

pub rebuild-requires-clause-more : goal.rebuild-requires-clause-more
rebuild-requires-clause-more g c =
    subst (AreFurther c.args.form.slot c.in_ok-images.images.storages.items) (sym c.deref-2.ensures.value)
    (further (form_seen c.args.form) c.requires.order c.in_ok-read_files.field-0.items c.in_ok-read_files.ensures.read c.in_ok-images.images.storages.items c.in_ok-images.images.without_rows.items c.in_ok-images.ensures.sealed)

pub returns-in_err-book-clause-refused : goal.returns-in_err-book-clause-refused
returns-in_err-book-clause-refused g c =
    let p = err_from_is_err_and c.from_residual-in_err-book.result c.from_residual-in_err-book.ensures.1 in
    let sizes = sizes_are (form_seen c.args.form) c.requires.order c.in_ok-read_files.field-0.items c.in_ok-read_files.ensures.read c.in_ok-images.images.storages.items c.in_ok-images.images.without_rows.items c.in_ok-images.ensures.sealed in
    rw (p.1, p.2) (why_no_book (g.D.Dir.files c.args.dir.now) c.args.budget (map file_seen c.args.form.files.items) _ c.in_err-book.field-0.0 sizes c.in_err-book.ensures.refused)

pub returns-clause-opened : goal.returns-clause-opened
returns-clause-opened g c =
    let sealed = c.in_ok-images.ensures.sealed in
    let read = c.in_ok-read_files.ensures.read in
    let more = c.deref-2.ensures.value ∙ sealed.more_are in
    let stands = c.in_ok-book.ensures.opened in
    record {
      laid = sealed.laid;
      slot_is = refl;
      room = may_open (form_seen c.args.form) c.requires.order c.in_ok-read_files.field-0.items read sealed.laid sealed.are_images c.args.budget (subst (λ (l : List FormFile). HasRoom c.args.budget (sizes_in (map file_seen l))) c.deref.ensures.value c.in_ok-check_room.ensures.room);
      stands = subst (λ (l : List ℕ). Stands c.in_ok-book.book (opened c.args.budget c.args.form.slot (with_rows sealed.laid) l) []) more
          (subst (λ (l : List machine.Image). Stands c.in_ok-book.book (opened c.args.budget c.args.form.slot l c.deref-2.result.now) []) sealed.storages_are stands);
      are_images = all_in (g.D.Dir.files c.args.dir.now) c.in_ok-read_files.field-0.items sealed.laid (map file_seen c.args.form.files.items) read c.in_ok-read_files.ensures.bytes sealed.are_images;
    }
