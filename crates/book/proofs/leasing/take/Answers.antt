use Rattle.std.proofs.Common.{◌≡◌, List, length, false, sym, ap, ◌∙◌, subst}
use Rattle.std.specs.List.{AllWithin}
use Rattle.adb_model.specs.Leases.{is_lease}
use Rattle.book.specs.declared.leasing.Lease.{Lease}
use Rattle.book.specs.Leasing.{IsLastPlace, lease_of, leases_of, is_of}
use Rattle.book.proofs.Leases.{none_pass, without_none, passes_at, without_at, any_map, without_map}
use Rattle.book.proofs.leasing.take.Goals as goal

pub returns-in-Some-clause-there : goal.returns-in-Some-clause-there
returns-in-Some-clause-there c =
    let last = subst (λ (ls : List Lease). IsLastPlace (is_of c.args.pass c.args.max_root) ls c.in-Some.place) c.deref.ensures.value c.in-Some.ensures in
    sym (any_map lease_of (is_lease c.args.pass c.args.max_root) c.args.leases.now.items ∙ passes_at (is_of c.args.pass c.args.max_root) c.args.leases.now.items c.in-Some.place last.in_range last.passes)

pub returns-in-Some-clause-left : goal.returns-in-Some-clause-left
returns-in-Some-clause-left c =
    let last = subst (λ (ls : List Lease). IsLastPlace (is_of c.args.pass c.args.max_root) ls c.in-Some.place) c.deref.ensures.value c.in-Some.ensures in
    ap leases_of c.remove.ensures.items
    ∙ ap leases_of (sym (without_at (is_of c.args.pass c.args.max_root) c.args.leases.now.items c.in-Some.place last))
    ∙ sym (without_map lease_of (is_lease c.args.pass c.args.max_root) c.args.leases.now.items)

pub returns-in-None-clause-there : goal.returns-in-None-clause-there
returns-in-None-clause-there c =
    let none = subst (λ (ls : List Lease). AllWithin (λ l. is_of c.args.pass c.args.max_root l ≡ false) ls 0 (length ls)) c.deref.ensures.value c.in-None.ensures in
    sym (any_map lease_of (is_lease c.args.pass c.args.max_root) c.args.leases.now.items ∙ none_pass (is_of c.args.pass c.args.max_root) c.args.leases.now.items none)

pub returns-in-None-clause-left : goal.returns-in-None-clause-left
returns-in-None-clause-left c =
    let none = subst (λ (ls : List Lease). AllWithin (λ l. is_of c.args.pass c.args.max_root l ≡ false) ls 0 (length ls)) c.deref.ensures.value c.in-None.ensures in
    ap leases_of (sym (without_none (is_of c.args.pass c.args.max_root) c.args.leases.now.items (none_pass (is_of c.args.pass c.args.max_root) c.args.leases.now.items none)))
    ∙ sym (without_map lease_of (is_lease c.args.pass c.args.max_root) c.args.leases.now.items)
