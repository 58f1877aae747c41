-- Where a search of bytes stops.
use Rattle.std.proofs.Common.{◌≡◌, ℕ, ◌+◌, ◌<◌, Bool, false, cond, eqb, not, List, ◌++◌, length, Option, Some, None, sym, ap, ◌∙◌, inl, inr, arith}
use Rattle.std.specs.Prelude.{slice_index, unwrap_or}
use Rattle.std.specs.List.{position_or_len}
use Rattle.std.proofs.lemmas.Bool.{cases_Bool, eq-eqb}
use Rattle.std.proofs.lemmas.List.Folds.{prefix_len-append}
use Rattle.std.proofs.lemmas.List.Sums.{position_or_len_is}
use Rattle.memchr.specs.Find.{IsFirstByte, Passes, Nowhere}

fails : (test : ℕ → Bool) (hay : List ℕ) (i k : ℕ) → Nowhere (Passes test hay) 0 i → k < i → test (slice_index hay k) ≡ false
fails test hay i k none lt = elim (cases_Bool (test (slice_index hay k))) [
  | inl passes ↦ absurd (none k (omega arith) lt passes)
  | inr other ↦ other
]

-- the place that was found, or the length
pub place_or_len : (test : ℕ → Bool) (hay : List ℕ) (r : Option ℕ) → IsFirstByte test hay r → unwrap_or r (length hay) ≡ position_or_len test hay
place_or_len test hay None none = sym (position_or_len_is test hay (length hay) 0 (omega arith) (λ k lt. fails test hay (length hay) k none lt) (λ lt. absurd (omega arith)))
place_or_len test hay (Some at) found = sym (position_or_len_is test hay at 0 (omega (arith, found.0.high)) (λ k lt. fails test hay at k found.0.before lt) (λ lt. found.1))

-- where none is in the front, the place is looked for behind it
pub near_or_far : (test : ℕ → Bool) (near far : List ℕ) → position_or_len test near ≡ length near → position_or_len test (near ++ far) ≡ length near + position_or_len test far
near_or_far test near far none =
    prefix_len-append (λ b. not (test b)) near far
    ∙ ap (λ (b : Bool). cond b (length near + position_or_len test far) (position_or_len test near)) (eq-eqb (position_or_len test near) (length near) none)
