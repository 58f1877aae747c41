use Rattle.std.proofs.Common.{List, sym, subst}
use Rattle.vec_scan.specs.Image.{Image}
use Rattle.book_parts.specs.Parts.{Parts}
use Rattle.book_parts.specs.Snaps.{MayUnpin, UnpinsEach, ids_of}
use Rattle.book_parts.specs.Stands.{Stands}
use Rattle.book.specs.Inside.{seen}
use Rattle.book.proofs.book.Book.snap_end.Goals as goal

pub unpin_each-requires : goal.unpin_each-requires
unpin_each-requires c =
    let r = c.requires in
    let may = c.snap_end_stands.ensures.may (seen c.self.inside) r.0 r.1 c.args.job (subst (λ (p : Parts). Stands p r.0 r.1) (sym c.self.view_is) r.2) r.3 in
    subst (λ (images : List Image). MayUnpin images c.self.inside.cells) (sym c.storages.ensures) may

pub invariant_of-self : goal.invariant_of-self
invariant_of-self c =
    let r = c.requires in
    let each = subst (λ (images : List Image). UnpinsEach (ids_of images) c.self.inside.cells c.unpin_each.new.cells) c.storages.ensures c.unpin_each.ensures in
    record {
      start = r.0;
      history = _;
      stands = c.snap_end_stands.ensures.done (seen c.self.inside) r.0 r.1 1 c.args.job c.unpin_each.new.cells (subst (λ (p : Parts). Stands p r.0 r.1) (sym c.self.view_is) r.2) r.3 each;
    }

pub returns : goal.returns
returns c = λ m0 h pass st is_open.
    let each = subst (λ (images : List Image). UnpinsEach (ids_of images) c.self.inside.cells c.unpin_each.new.cells) c.storages.ensures c.unpin_each.ensures in
    c.snap_end_stands.ensures.done (seen c.self.inside) m0 h pass c.args.job c.unpin_each.new.cells (subst (λ (p : Parts). Stands p m0 h) (sym c.self.view_is) st) is_open each
