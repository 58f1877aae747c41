-- Something is kept of each key of a bin.
use Rattle.std.proofs.Common.{◌≢◌, ℕ, zero, suc, ◌<◌, List, [], ◌∷◌, length, get_or, ap, arith}
use Rattle.accounts_index.specs.declared.entry.Entry.{Entry}
use Rattle.accounts_index.specs.declared.entry.Lists.{Lists}
use Rattle.accounts_index.specs.Index.{Kept, nothing}
use Rattle.accounts_index.specs.Inside.{seen, kept_of, IsUsed, AreEntries}
use Rattle.accounts_index.specs.Bins.{AreUsed}

something : (lists : Lists) → IsUsed lists → kept_of lists ≢ nothing
something lists used is =
    let versions = ap (λ (k : Kept). length k.versions) is in
    let held = ap (λ (k : Kept). length k.held) is in
    let expected = ap (λ (k : Kept). length k.expected) is in
    omega (arith, versions, held, expected, used)

each_used : (es : List Entry) → ((k : ℕ) (d : Entry) → k < length es → IsUsed (get_or es k d).lists.value) → AreUsed (seen es)
each_used [] used k d lt = absurd (omega arith)
each_used (e ∷ es) used zero d lt = something e.lists.value (used 0 e (omega arith))
each_used (e ∷ es) used (suc k) d lt = each_used es (λ k d lt. used (suc k) d (omega arith)) k d (omega arith)

pub used_seen : (es : List Entry) → AreEntries es → AreUsed (seen es)
used_seen es all = each_used es all.used
