-- Why no snapshot begins, and the images and the slots that it looks at.
use Rattle.std.specs.Prelude.{◌≡◌, ◌<◌, ◌≤◌, ℕ, nat_lt, nat_le, Bool, true, false, List, Option, Some, None}
use Rattle.write_cache.specs.Rows.{Cache}
use Rattle.adb_model.specs.Lists.{among}
use Rattle.book_parts.specs.Snaps.{IsFirstUnflushed}
use Rattle.book.specs.declared.refusals.SnapRefusal.{SnapRefusal}
use Rattle.book.specs.declared.refusals.SnapRefusal.TheVariants.{SnapOpen, NotRoot, SnapTooOld, Unflushed, NoMemory}

-- the slot is above another one, if one is given
abbrev pub IsAfter : Option ℕ → ℕ → Type 0
IsAfter None q = Unit {0}
IsAfter (Some after) q = after < q

-- the least slot above another one, if one is given, and up to a third, that has something
abbrev pub IsNextUpto : (ℕ → Type 0) → Option ℕ → ℕ → Option ℕ → Type 0
IsNextUpto HasNone after upto None = (q : ℕ) → IsAfter after q → q ≤ upto → HasNone q
IsNextUpto HasNone after upto (Some slot) =
    (slot ≤ upto) × IsAfter after slot × (HasNone slot → ⊥) × ((q : ℕ) → IsAfter after q → q < slot → HasNone q)

-- the slot is below one that was found, or up to a last one where none was
abbrev pub is_before : ℕ → Option ℕ → ℕ → Bool
is_before upto None q = nat_le q upto
is_before upto (Some slot) q = nat_lt q slot

-- a snapshot is open, or the slot is no root, is below the cleaned one, or not all roots up to it are flushed; each where the ones before it are not so
abbrev pub IsWhyNotSnapped : Option ℕ → List ℕ → ℕ → Cache → ℕ → SnapRefusal → Type 0
IsWhyNotSnapped snap roots cleaned cache slot (SnapOpen of_slot) = snap ≡ Some of_slot
IsWhyNotSnapped snap roots cleaned cache slot (NotRoot of_slot) = (of_slot ≡ slot) × (snap ≡ None) × (among slot roots ≡ false)
IsWhyNotSnapped snap roots cleaned cache slot (SnapTooOld of_slot upto) =
    (of_slot ≡ slot) × (upto ≡ cleaned) × (snap ≡ None) × (among slot roots ≡ true) × (slot < cleaned)
IsWhyNotSnapped snap roots cleaned cache slot (Unflushed root) =
    (snap ≡ None) × (among slot roots ≡ true) × (cleaned ≤ slot) × IsFirstUnflushed roots cache slot (Some root)
IsWhyNotSnapped snap roots cleaned cache slot NoMemory = ⊥
