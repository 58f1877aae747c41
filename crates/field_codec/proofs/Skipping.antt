-- Skipping items one after another, as a loop does.
use Rattle.std.proofs.Common.{◌≡◌, ℕ, suc, ◌-◌, ◌+◌, ◌≤◌, ◌<◌, Result, Ok, Err, sym, ◌∙◌, refl, arith}
use Rattle.field_codec.specs.declared.fault.FieldFault.{FieldFault}
use Rattle.field_codec.specs.Reading.{Fails, items_end}
use Rattle.field_codec.proofs.Faults.{fails_on}

-- some items are skipped, and skipping the others from this place on is skipping all from the start on
pub record Skipping (item : ℕ → Result ℕ FieldFault) (len count done start at : ℕ) : Type 0 where
  pub told : items_end item (count - done) at ≡ items_end item count start
  pub inside : at ≤ len

pub skipping_more : (item : ℕ → Result ℕ FieldFault) (len count done start at next : ℕ) → done < count → Skipping item len count done start at → item at ≡ Ok next → next ≤ len → Skipping item len count (done + 1) start next
unfolding items_end
skipping_more item len count done start at next lt s is le =
    let k : count - done ≡ suc (count - (done + 1)) = omega arith in
    let one : items_end item (count - done) at ≡ items_end item (count - (done + 1)) next = rw (k, is) refl in
    record { told = sym one ∙ s.told; inside = le }

pub skipping_stops : (item : ℕ → Result ℕ FieldFault) (len count done start at : ℕ) (fault : FieldFault) → done < count → Skipping item len count done start at → Fails fault (item at) → Fails fault (items_end item count start)
unfolding items_end
skipping_stops item len count done start at fault lt s fails =
    let k : count - done ≡ suc (count - (done + 1)) = omega arith in
    fails_on fault (item at) (items_end item count start) (λ f is. sym s.told ∙ (let one : items_end item (count - done) at ≡ Err f = rw (k, is) refl in one)) fails

pub skipping_all : (item : ℕ → Result ℕ FieldFault) (len count done start at : ℕ) → count ≤ done → Skipping item len count done start at → items_end item count start ≡ Ok at
unfolding items_end
skipping_all item len count done start at le s =
    let k : count - done ≡ 0 = omega arith in
    let one : items_end item (count - done) at ≡ Ok at = rw k refl in
    sym s.told ∙ one
