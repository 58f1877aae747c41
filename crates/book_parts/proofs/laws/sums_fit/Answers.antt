use Rattle.std.proofs.Common.{◌≡◌, ap, arith}
use Rattle.storage_map.specs.Slots.{alive_sum, total_sum}
use Rattle.adb_model.specs.History.{state_after}
use Rattle.adb_model.specs.Stats.{counts_of}
use Rattle.book_parts.proofs.laws.sums_fit.Goals as goal

pub returns-clause-alive : goal.returns-clause-alive
returns-clause-alive c = λ p m0 h st small.
    let m = state_after m0 h in
    let is : alive_sum p.map ≡ (counts_of m).named = ap (λ n. n.named) st.parts.counts in
    let few = c.counts_are_bounded.ensures.named m st.sound st.once in
    let rows = c.counts_are_bounded.ensures.rows m st.sound st.bytes in
    omega (arith, is, few, rows, st.parts.limit, small)

pub returns-clause-total : goal.returns-clause-total
returns-clause-total c = λ p m0 h st small.
    let m = state_after m0 h in
    let is : total_sum p.map ≡ (counts_of m).rows = ap (λ n. n.rows) st.parts.counts in
    let rows = c.counts_are_bounded.ensures.rows m st.sound st.bytes in
    omega (arith, is, rows, st.parts.limit, small)
