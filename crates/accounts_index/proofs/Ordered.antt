-- The keys of a bin rise, and so do those of all bins together.
use Rattle.std.proofs.Common.{◌≡◌, ℕ, suc, ◌<◌, ◌≤◌, List, [], ◌∷◌, ◌++◌, get_or, All, subst, arith}
use Rattle.std.specs.declared.cmp.Ordering.TheVariants.{Less}
use Rattle.std.proofs.lemmas.List.Elements.{All-append}
use Rattle.std.proofs.lemmas.List.Kept.{AllPairs-cons}
use Rattle.accounts_index.specs.declared.entry.Entry.{Entry}
use Rattle.accounts_index.specs.Bins.{bin_of, joined, AreBins}
use Rattle.accounts_index.specs.Index.{Index, Kept, key_cmp, IsOrdered}
use Rattle.accounts_index.specs.Inside.{seen, AreEntries}
use Rattle.accounts_index.proofs.Keys.{lower_key}
use Rattle.accounts_index.proofs.Joined.{From, next_from, here_from, numbered_from}
use Rattle.accounts_index.proofs.Walks.{seen_rises}

pub seen_ordered : (es : List Entry) → AreEntries es → IsOrdered (seen es)
seen_ordered es all = seen_rises es all.rise

abbrev Comes : List ℕ × Kept → List ℕ × Kept → Type 0
Comes a b = key_cmp a.0 b.0 ≡ Less

-- ordered keys before ordered keys that are all higher
ordered_append : (xs ys : Index) → IsOrdered xs → IsOrdered ys → All (λ x. All (Comes x) ys) xs → IsOrdered (xs ++ ys)
ordered_append [] ys low high cross = high
ordered_append (x ∷ xs) ys low high cross =
    AllPairs-cons Comes x (xs ++ ys)
    (All-append (Comes x) xs ys (λ k d lt. low 0 (suc k) d (omega arith) (omega (arith, lt))) (cross 0 x (omega arith)))
    (ordered_append xs ys (λ i j d lt within. low (suc i) (suc j) d (omega (arith, lt)) (omega (arith, within))) high (λ k d lt. cross (suc k) d (omega arith)))

-- bins that are numbered from first on have keys of these numbers
numbers_from : (first : ℕ) (bins : List Index) → From first bins → All (λ e. first ≤ bin_of e.0) (joined bins)
numbers_from first [] numbered k d lt = absurd (omega arith)
numbers_from first (bin ∷ bins) numbered k d lt =
    All-append (λ e. first ≤ bin_of e.0) bin (joined bins)
    (λ k d lt. omega (arith, here_from first bin bins numbered k d lt))
    (λ k d lt. omega (arith, numbers_from (suc first) bins (next_from first bin bins numbered) k d lt)) k d lt

ordered_from : (first : ℕ) (bins : List Index) → From first bins → All IsOrdered bins → IsOrdered (joined bins)
ordered_from first [] numbered ordered = λ i j d lt within. let h : j < 0 = within in absurd (omega (arith, h))
ordered_from first (bin ∷ bins) numbered ordered =
    ordered_append bin (joined bins) (ordered 0 bin (omega arith))
    (ordered_from (suc first) bins (next_from first bin bins numbered) (λ k d lt. ordered (suc k) d (omega arith)))
    (λ k d lt i e within. lower_key (get_or bin k d).0 (get_or (joined bins) i e).0
    (omega (arith, here_from first bin bins numbered k d lt, numbers_from (suc first) bins (next_from first bin bins numbered) i e within)))

-- the keys of the whole index rise
pub joined_ordered : (index : Index) (bins : List Index) → joined bins ≡ index → AreBins bins → IsOrdered index
joined_ordered index bins view all = subst IsOrdered view (ordered_from 0 bins (numbered_from bins all) all.ordered)
