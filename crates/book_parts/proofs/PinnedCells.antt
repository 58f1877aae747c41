-- Cells of which one has a pin more, or one fewer.
use Rattle.std.proofs.Common.{◌≡◌, ◌≢◌, ℕ, ◌+◌, ◌<◌, List, length, set, true, refl, sym, ap, ◌∙◌, subst, arith}
use Rattle.std.proofs.lemmas.Bool.{true≢false}
use Rattle.cell_table.specs.declared.phase.Phase.{Phase}
use Rattle.cell_table.specs.declared.phase.Phase.TheVariants.{Free, Filling, Live, Retired}
use Rattle.cell_table.specs.Phases.{has_id, value_of, bytes_of, pins_of, is_free, is_filling, is_live, is_retired, pinned, unpinned}
use Rattle.cell_table.specs.Cells.{cell_at}
use Rattle.adb_model.specs.State.{Storage, State}
use Rattle.adb_model.specs.Storages.{storage_with, pin_count}
use Rattle.book_parts.specs.Parts.{Shared}
use Rattle.book_parts.specs.Cells.{CellsFit, IsCellOf}
use Rattle.book_parts.proofs.CellChanges.{cells_change, one_if}
use Rattle.book_parts.proofs.CellOfStorage.{one_id}
use Rattle.book_parts.proofs.CellSums.{in_range}

-- all but the pins is as it was
pub record SameButPins (was now : Phase Shared) : Type 0 where
  pub ids : (q : ℕ) → has_id q now ≡ has_id q was
  pub value : value_of now ≡ value_of was
  pub bytes : bytes_of now ≡ bytes_of was
  pub free : is_free now ≡ is_free was
  pub filling : is_filling now ≡ is_filling was
  pub live : is_live now ≡ is_live was
  pub retired : is_retired now ≡ is_retired was

pub unpinned_same : (was : Phase Shared) → SameButPins was (unpinned was)
unpinned_same Free = record { ids = λ q. refl; value = refl; bytes = refl; free = refl; filling = refl; live = refl; retired = refl }
unpinned_same (Filling id bytes) = record { ids = λ q. refl; value = refl; bytes = refl; free = refl; filling = refl; live = refl; retired = refl }
unpinned_same (Live id bytes pins image) = record { ids = λ q. refl; value = refl; bytes = refl; free = refl; filling = refl; live = refl; retired = refl }
unpinned_same (Retired id bytes pins image) = record { ids = λ q. refl; value = refl; bytes = refl; free = refl; filling = refl; live = refl; retired = refl }

pub pinned_same : (was : Phase Shared) → SameButPins was (pinned was)
pinned_same Free = record { ids = λ q. refl; value = refl; bytes = refl; free = refl; filling = refl; live = refl; retired = refl }
pinned_same (Filling id bytes) = record { ids = λ q. refl; value = refl; bytes = refl; free = refl; filling = refl; live = refl; retired = refl }
pinned_same (Live id bytes pins image) = record { ids = λ q. refl; value = refl; bytes = refl; free = refl; filling = refl; live = refl; retired = refl }
pinned_same (Retired id bytes pins image) = record { ids = λ q. refl; value = refl; bytes = refl; free = refl; filling = refl; live = refl; retired = refl }

pub one_fewer : (was : Phase Shared) → 0 < pins_of was → pins_of was ≡ pins_of (unpinned was) + 1
one_fewer Free some = absurd (omega (arith, some))
one_fewer (Filling id bytes) some = absurd (omega (arith, some))
one_fewer (Live id bytes pins image) some = omega (arith, some)
one_fewer (Retired id bytes pins image) some = omega (arith, some)

pub one_more : (was : Phase Shared) → is_live was ≡ true → pins_of (pinned was) ≡ pins_of was + 1
one_more Free live = absurd (true≢false (sym live))
one_more (Filling id bytes) live = absurd (true≢false (sym live))
one_more (Live id bytes pins image) live = refl
one_more (Retired id bytes pins image) live = absurd (true≢false (sym live))

-- the storages are as they were, and how often the one of this cell is pinned is told by the cell
pub repinned_fit : (m n : State) (cells : List (Phase Shared)) (i id : ℕ) (now : Phase Shared) → CellsFit m cells → has_id id (cell_at cells i) ≡ true
    → ((q : ℕ) → storage_with n q ≡ storage_with m q) → length n.storages ≡ length m.storages → SameButPins (cell_at cells i) now
    → ((t : Storage) → IsCellOf t (pin_count m id) (cell_at cells i) → IsCellOf t (pin_count n id) now)
    → ((q : ℕ) → id ≢ q → pin_count n q ≡ pin_count m q) → CellsFit n (set cells i now)
repinned_fit m n cells i id now f has with_id storages same fits others =
    cells_change cells i (cell_at cells i) now (in_range cells id i has) refl m n f
    (λ q t g. absurd (true≢false (sym t ∙ same.ids q ∙ g)))
    (λ q t g. absurd (true≢false (sym t ∙ sym (same.ids q) ∙ g)))
    (λ q t.
    let here : has_id q (cell_at cells i) ≡ true = sym (same.ids q) ∙ t in
    let o = f.each i q here in
    let one : id ≡ q = one_id id q (cell_at cells i) has here in
    (o.0, with_id q ∙ o.1, subst (λ k. IsCellOf o.0 (pin_count n k) now) one (fits o.0 (subst (λ k. IsCellOf o.0 (pin_count m k) (cell_at cells i)) (sym one) o.2))))
    (λ q a b. with_id q)
    (λ q a b. others q (λ one. true≢false (sym has ∙ ap (λ k. has_id k (cell_at cells i)) one ∙ a)))
    (omega (arith, storages, ap one_if same.free))
