use Rattle.std.proofs.Common.{◌≡◌, ℕ, ◌+◌, List, ◌++◌, length, take, Result, Ok, Err, MatchResult, Option, sym, subst, arith, length-append}
use Rattle.std.specs.Result.{IsErrAnd}
use Rattle.std.specs.Io.KnownBytes.{Consumes}
use Rattle.std.proofs.lemmas.List.{length-take}
use Rattle.std.proofs.KnownBytes.{Consumes-trans}
use Rattle.stream_io.proofs.source.read_whole.Goals as goal

-- what was kept, and then a piece that was read
taken_more : (a b c : Option (List ℕ)) (kept piece : List ℕ) (count : ℕ) → Consumes a b kept → Consumes b c (take count piece)
    → count ≡ length (take count piece) → (bytes : List ℕ) × Consumes a c bytes × (length bytes ≡ length kept + count)
taken_more a b c kept piece count before read front =
    (kept ++ take count piece, Consumes-trans a b c kept (take count piece) before read, omega (arith, length-append kept (take count piece)))

-- what holds of the one fault that it may be
at_fault : {T E : Type 0} (result : Result T E) (fault : E) (P : T → Type 0) (Q : E → Type 0) → IsErrAnd result (λ e. e ≡ fault) → Q fault
    → MatchResult result P Q
at_fault (Ok x) fault P Q is q = absurd is
at_fault (Err e) fault P Q is q = subst Q (sym is) q

pub returns-then-count-room-clause-taken : goal.returns-then-count-room-clause-taken
returns-then-count-room-clause-taken g c =
    let all = taken_more _ _ _ _ _ _ c.pieces.invariant.read c.in_ok-count.ensures.bytes.0 c.in_ok-count.ensures.bound.1 in
    (all.0, all.1, omega (arith, all.2, length-take c.min-wanted.result c.pieces.piece, c.in_ok-count.ensures.bound.0))

pub returns-in_err-extend_from_slice-clause-taken : goal.returns-in_err-extend_from_slice-clause-taken
returns-in_err-extend_from_slice-clause-taken g c =
    let all = taken_more _ _ _ _ _ _ c.pieces.invariant.read c.in_ok-count.ensures.bytes.0 c.in_ok-count.ensures.bound.1 in
    at_fault _ _ _ _ c.from_residual-in_err-extend_from_slice.ensures.1
    (all.0, all.1, omega (arith, all.2, c.pieces.invariant.short, c.len.ensures, c.if-count-room.false))
