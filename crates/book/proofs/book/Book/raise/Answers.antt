use Rattle.std.proofs.Common.{◌≡◌, ℕ, max, List, map, Option, Some, None, Err, sym, subst, refl}
use Rattle.adb_model.specs.Lists.{least}
use Rattle.adb_model.specs.State.{State}
use Rattle.adb_model.specs.Call as machine
use Rattle.book_parts.specs.Parts.{Parts}
use Rattle.book_parts.specs.Stands.{Stands, After}
use Rattle.book.specs.declared.leasing.Lease.{Lease}
use Rattle.book.specs.declared.refusals.RaiseRefusal.{RaiseRefusal}
use Rattle.book.specs.declared.refusals.RaiseRefusal.TheVariants.{PastRoot, Leased}
use Rattle.book.specs.Inside.{seen}
use Rattle.book.specs.Leasing.{leases_of, MayRaise, IsWhyNotRaised}
use Rattle.book.specs.Replies.{raise_reply}
use Rattle.book.proofs.book.Book.raise.Goals as goal

refused : (c : goal.In-Some) (refusal : RaiseRefusal) (m0 : State) (h : List machine.Event) (pass : ℕ)
    → IsWhyNotRaised c.self.inside.roots (leases_of c.self.inside.leases.items) c.args.upto refusal → Stands (seen c.self.inside) m0 h
    → After (seen c.self.inside) m0 h pass (machine.Raise c.args.upto) (Some (raise_reply (Err refusal)))
refused c (PastRoot upto None) m0 h pass why st =
    subst (λ (n : ℕ). After (seen c.self.inside) m0 h pass (machine.Raise c.args.upto) (Some (machine.Refused (machine.PastRoot n None)))) (sym why.0)
    (c.raise_stands.ensures.no_root (seen c.self.inside) m0 h pass c.args.upto st why.1)
refused c (PastRoot upto (Some newest)) m0 h pass why st =
    subst (λ (n : ℕ). After (seen c.self.inside) m0 h pass (machine.Raise c.args.upto) (Some (machine.Refused (machine.PastRoot n (Some newest))))) (sym why.0)
    (c.raise_stands.ensures.past (seen c.self.inside) m0 h pass c.args.upto newest st why.1 why.2)
refused c (Leased upto l) m0 h pass why st =
    subst (λ (n : ℕ). After (seen c.self.inside) m0 h pass (machine.Raise c.args.upto) (Some (machine.Refused (machine.Leased n l)))) (sym why.0)
    (c.raise_stands.ensures.leased (seen c.self.inside) m0 h pass c.args.upto why.1 l st why.2 why.3 why.4 why.5)

pub returns-in-Some : goal.returns-in-Some
returns-in-Some c = λ m0 h pass st.
    let why = subst (λ (ls : List Lease). IsWhyNotRaised c.self.inside.roots (leases_of ls) c.args.upto c.in-Some.refusal) c.deref.ensures.value c.in-Some.ensures in
    subst (λ (p : Parts). After p m0 h pass (machine.Raise c.args.upto) (Some (raise_reply (Err c.in-Some.refusal)))) c.self.view_is
    (refused c c.in-Some.refusal m0 h pass why (subst (λ (p : Parts). Stands p m0 h) (sym c.self.view_is) st))

-- what the call leaves, whatever the least lease is
abbrev RaisedTo : goal.After-self-1 → ℕ → State → List machine.Event → ℕ → Type 0
RaisedTo c cleaned m0 h pass = After (record (seen c.self.inside) { cleaned = cleaned }) m0 h pass (machine.Raise c.args.upto) (Some (machine.Raised cleaned))

raised : (c : goal.After-self-1) (l : Option ℕ) (m0 : State) (h : List machine.Event) (pass : ℕ) → least (map (λ l. l.max_root) (leases_of c.self.inside.leases.items)) ≡ l
    → MayRaise c.self.inside.roots (leases_of c.self.inside.leases.items) c.args.upto → Stands (seen c.self.inside) m0 h
    → RaisedTo c (max c.self.inside.cleaned c.args.upto) m0 h pass
raised c None m0 h pass e may st = c.raise_stands.ensures.unleased (seen c.self.inside) m0 h pass c.args.upto may.newest st may.last_is may.within e
raised c (Some l) m0 h pass e may st = c.raise_stands.ensures.done (seen c.self.inside) m0 h pass c.args.upto may.newest l st may.last_is may.within e (may.unleased l e)

after : (c : goal.After-self-1) (m0 : State) (h : List machine.Event) (pass : ℕ) → Stands (seen c.self.inside) m0 h → RaisedTo c c.max-self-inside.result m0 h pass
after c m0 h pass st =
    let may = subst (λ (ls : List Lease). MayRaise c.self.inside.roots (leases_of ls) c.args.upto) c.deref.ensures.value c.in_default.ensures in
    subst (λ (n : ℕ). RaisedTo c n m0 h pass) (sym c.max-self-inside.ensures) (raised c (least (map (λ l. l.max_root) (leases_of c.self.inside.leases.items))) m0 h pass refl may st)

pub invariant_of-self : goal.invariant_of-self
invariant_of-self c = let i = c.self.invariant in record { start = i.start; history = _; stands = after c i.start i.history 1 i.stands }

pub returns : goal.returns
returns c = λ m0 h pass st. after c m0 h pass (subst (λ (p : Parts). Stands p m0 h) (sym c.self.view_is) st)
