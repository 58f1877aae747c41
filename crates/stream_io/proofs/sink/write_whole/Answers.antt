use Rattle.std.proofs.Common.{ℕ, ◌<◌, List, length, take, Option, None, Some, IfSome, OnErr, Result, Ok, Err, ap, ◌∙◌, arith, length-append}
use Rattle.std.proofs.lemmas.List.{length-take}
use Rattle.std.specs.Io.KnownBytes.{Appends}
use Rattle.std.proofs.Math.Seq.{take-add}
use Rattle.std.proofs.KnownBytes.{Appends-kept, Appends-trans}
use Rattle.stream_io.proofs.sink.write_whole.Goals as goal

-- a sink that took fewer bytes didn't take all
took_fewer : (a b : Option (List ℕ)) (count : ℕ) (bytes : List ℕ) → count < length bytes → Appends a b (take count bytes) → IfSome a (λ _. ¬ Appends a b bytes)
took_fewer None b count bytes less took = tt
took_fewer (Some xs) None count bytes less took = absurd took
took_fewer (Some xs) (Some ys) count bytes less took =
    λ all. omega (arith, ap length took, ap length all, length-append xs bytes, length-append xs (take count bytes), length-take count bytes)

on_err : {T E : Type 0} (result : Result T E) (P : Type 0) → P → OnErr result P
on_err (Ok x) P p = tt
on_err (Err e) P p = p

pub returns-in_err-done-clause-not_all : goal.returns-in_err-done-clause-not_all
returns-in_err-done-clause-not_all g c =
    let took = Appends-kept _ _ _ _ c.loop-done.invariant.taken c.in_err-done.ensures.bytes in
    on_err _ _ (took_fewer _ _ _ _ c.loop-done-test.true took)

pub loop-done-preserved : goal.loop-done-preserved
loop-done-preserved g c = record {
  taken = rw take-add (Appends-trans _ _ _ _ _ c.loop-done.invariant.taken (rw c.split_at.ensures.back at c.in_ok-done.ensures.bytes));
  within = omega (arith, c.in_ok-done.ensures.bound, c.split_at.ensures.back_len);
  kept = c.in_ok-done.ensures.cause.kept ∙ c.loop-done.invariant.kept;
}
