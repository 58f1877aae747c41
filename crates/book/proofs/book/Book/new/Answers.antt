use Rattle.std.proofs.Common.{◌≡◌, ℕ, List, [], None, sym, ap, subst}
use Rattle.accounts_index.specs.Index.{Index}
use Rattle.write_cache.specs.Rows.{Cache}
use Rattle.cell_table.specs.Cells.{Table}
use Rattle.storage_map.specs.Slots.{Slots}
use Rattle.adb_model.specs.State.{Lease, fresh}
use Rattle.book_parts.specs.Parts.{Shared, Parts, new_parts}
use Rattle.book_parts.specs.Stands.{Stands}
use Rattle.book.specs.Leasing.{leases_of}
use Rattle.book.proofs.book.Book.new.Goals as goal

stands_new : (index : Index) (cache : Cache) (roots : List ℕ) (leases : List Lease) (cells : Table Shared) (map : Slots) (budget id : ℕ) → index ≡ [] → cache ≡ [] → roots ≡ [] → leases ≡ [] → map ≡ [] → cells.limit ≡ budget
    → Stands (new_parts cells id) (fresh cells.limit id) []
    → Stands (record { index = index; cache = cache; roots = roots; cleaned = 0; leases = leases; cells = cells; map = map; snap = None; next_id = id }) (fresh budget id) []
stands_new index cache roots leases cells map budget id no_index no_cache no_roots no_leases no_map limit st =
    let parts : Parts = record { index = index; cache = cache; roots = roots; cleaned = 0; leases = leases; cells = cells; map = map; snap = None; next_id = id } in
    let is : parts ≡ new_parts cells id = λ i. record { index = no_index i; cache = no_cache i; roots = no_roots i; cleaned = 0; leases = no_leases i; cells = cells; map = no_map i; snap = None; next_id = id } in
    subst (λ (n : ℕ). Stands parts (fresh n id) []) limit (subst (λ (p : Parts). Stands p (fresh cells.limit id) []) (sym is) st)

pub invariant_of-result : goal.invariant_of-result
invariant_of-result c =
    let cells = c.new-5.result in
    record {
      start = fresh c.args.budget c.args.first_id;
      history = [];
      stands = stands_new c.in_ok-new.field-0 c.new-2.result c.new-3.result (leases_of c.new-4.result.items) cells c.new-6.result c.args.budget c.args.first_id c.in_ok-new.ensures c.new-2.ensures c.new-3.ensures (ap leases_of c.new-4.ensures.items) c.new-6.ensures c.new-5.ensures.limit
          (c.new_parts_stand.ensures cells c.args.first_id c.new-5.ensures.cells c.new-5.ensures.free);
    }

pub returns : goal.returns
returns c =
    let cells = c.new-5.result in
    stands_new c.in_ok-new.field-0 c.new-2.result c.new-3.result (leases_of c.new-4.result.items) cells c.new-6.result c.args.budget c.args.first_id c.in_ok-new.ensures c.new-2.ensures c.new-3.ensures (ap leases_of c.new-4.ensures.items) c.new-6.ensures c.new-5.ensures.limit
    (c.new_parts_stand.ensures cells c.args.first_id c.new-5.ensures.cells c.new-5.ensures.free)
