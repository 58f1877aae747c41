use Rattle.std.proofs.Common.{◌≡◌, ◌≢◌, ℕ, ◌≤◌, true, []}
use Rattle.std.specs.Prelude.{IfSome}
use Rattle.write_cache.specs.Rows.{rows}
use Rattle.adb_model.specs.Lists.{among}
use Rattle.book.specs.Snapping.{is_before}
use Rattle.book.proofs.NextSlots.{left_upto}
use Rattle.book.proofs.snapping.first_unflushed.Given as goal

abbrev pub invariant-loop-at : goal.invariant-loop-at
invariant-loop-at l = record {
  flushed : (q : ℕ) → is_before l.upto l.at q ≡ true → among q l.roots ≡ true → rows l.cache q ≡ [];
  there : IfSome l.at (λ slot. (slot ≤ l.upto) × (rows l.cache slot ≢ []));
}

abbrev pub decreases-loop-at : goal.decreases-loop-at
decreases-loop-at l = left_upto l.upto l.at
