use Rattle.std.proofs.Common.{◌≡◌, sym, ap, ◌∙◌, subst, Some, arith}
use Rattle.cell_table.specs.Cells.{counts_of}
use Rattle.adb_model.specs.Call as machine
use Rattle.adb_model.specs.Call.{Counts}
use Rattle.book_parts.specs.Reflects.{counts_in}
use Rattle.book_parts.specs.Stands.{After}
use Rattle.book.specs.Inside.{seen}
use Rattle.book.proofs.book.Book.stats.Goals as goal

pub sums-named-requires-clause-alive : goal.sums-named-requires-clause-alive
sums-named-requires-clause-alive c =
    let i = c.self.invariant in
    c.sums_fit.ensures.alive (seen c.self.inside) i.start i.history i.stands (omega (arith, c.limit-limit.ensures, c.limit-limit.type_inv))

pub sums-named-requires-clause-total : goal.sums-named-requires-clause-total
sums-named-requires-clause-total c =
    let i = c.self.invariant in
    c.sums_fit.ensures.total (seen c.self.inside) i.start i.history i.stands (omega (arith, c.limit-limit.ensures, c.limit-limit.type_inv))

pub returns : goal.returns
returns c = λ m0 h pass st.
    let cached = sym c.total.ensures in
    let of_cells : counts_of c.self.inside.cells.cells ≡ c.counts-counts.result = sym c.counts-counts.ensures in
    let named = sym c.sums-named.ensures.alive in
    let rows = sym c.sums-named.ensures.total in
    let bytes = sym c.used.ensures.used in
    let answered : Counts = record {
      cached = c.total.result;
      filling = c.counts-counts.result.filling;
      live = c.counts-counts.result.live;
      retired = c.counts-counts.result.retired;
      named = c.sums-named.result.0;
      rows = c.sums-named.result.1;
      bytes = c.used.result;
      pins = c.counts-counts.result.pins;
    } in
    let is : counts_in (seen c.self.inside) ≡ answered = λ i. record {
      cached = cached i;
      filling = (of_cells i).filling;
      live = (of_cells i).live;
      retired = (of_cells i).retired;
      named = named i;
      rows = rows i;
      bytes = bytes i;
      pins = (of_cells i).pins;
    } in
    subst (λ (n : Counts). After c.args.self.now m0 h pass machine.Stats (Some (machine.Counted n))) (ap counts_in (sym c.self.view_is) ∙ is)
    (c.stats_stand.ensures c.args.self.now m0 h pass st)
