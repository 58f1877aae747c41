-- A slot that may be shrunk has dead rows.
use Rattle.std.proofs.Common.{◌≡◌, ◌≢◌, ℕ, ◌<◌, ◌≤◌, Some, sym, subst, ◌∙◌, inl, inr, arith}
use Rattle.std.proofs.lemmas.Bool.{cases_lt}
use Rattle.std.proofs.lemmas.Option.{same_Some}
use Rattle.storage_map.specs.declared.entry.Live.{Live}
use Rattle.storage_map.specs.Slots.{Slots, live_at}
use Rattle.book.specs.Shrinking.{MayShrink}

pub some_dead : (map : Slots) (slot : ℕ) (live : Live) → MayShrink map slot → live_at map slot ≡ Some live → live.alive ≤ live.total → live.alive < live.total
some_dead map slot live may entry le =
    let apart : live.alive ≢ live.total = subst (λ (l : Live). l.alive ≢ l.total) (same_Some may.live live (sym may.entry ∙ entry)) may.some_dead in
    elim (cases_lt live.alive live.total) [
      | inl lt ↦ lt
      | inr ge ↦ absurd (apart (omega (arith, le, ge)))
    ]
