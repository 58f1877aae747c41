-- Snapshots that stand among files, after one more line.
use Rattle.std.proofs.Common.{◌≡◌, ◌⊎◌, ℕ, Bool, true, false, List, [], ◌∷◌, ◌++◌, map, Option, Some, None, is_some, refl, sym, ap, ◌∙◌, subst, inl, inr}
use Rattle.std.specs.Prelude.{IfSome}
use Rattle.std.specs.Str.{bytes_eq}
use Rattle.std.specs.Cmp.Lexicographic.{bytes_decides}
use Rattle.adb_model.specs.State.{State}
use Rattle.adb_model.specs.Opened as machine
use Rattle.adb_model.specs.Call.{Event}
use Rattle.adb_model.specs.History.{state_after}
use Rattle.adb_model.specs.Plays.{Plays}
use Rattle.dir_io.specs.Files.{Files, file_of, has_prefix}
use Rattle.field_codec.specs.Paths.{prefix_of}
use Rattle.text_fields.specs.Names.{is_name}
use Rattle.snap_write.specs.Changes.{HasNone, HasSome, LeavesOutside}
use Rattle.snap_write.specs.Snapshot.{HoldsSnapshot}
use Rattle.script.specs.Said.{Line, line_played}
use Rattle.replay.specs.Saved.{snap_line, HasBegun, BeginsSnap, HoldsLive, AreNew, AllStand, AreSaved, IsElsewhere, KeepsElsewhere, WhereTold}
use Rattle.replay.specs.Playing.{SavesOne}
use Rattle.replay.proofs.Begun.{begun_last, begun_more, begun_here, none_begun, one_asked}

-- ---- what is known of snapshots

abbrev pub SnapshotsKept : Type 0
SnapshotsKept = (old new : Files) (name : List ℕ) → ((path : List ℕ) → has_prefix (prefix_of name) path ≡ true → file_of new path ≡ file_of old path)
    → (slot : ℕ) (images : List machine.Image) (more : List ℕ) → HoldsSnapshot old name slot images more → HoldsSnapshot new name slot images more

abbrev pub OneName : Type 0
OneName = (name other path : List ℕ) → is_name name ≡ true → is_name other ≡ true → has_prefix (prefix_of name) path ≡ true → has_prefix (prefix_of other) path ≡ true → name ≡ other

abbrev pub HaveFiles : Type 0
HaveFiles = (files : Files) (name : List ℕ) (slot : ℕ) (images : List machine.Image) (more : List ℕ) → HoldsSnapshot files name slot images more → HasSome (prefix_of name) files

pub record SnapshotLaws : Type 0 where
  pub kept : SnapshotsKept
  pub one_name : OneName
  pub there : HaveFiles

-- each name that a line asks for is one
abbrev pub AreNamed : List Line → Type 0
AreNamed lines = (front rest : List Line) (lane slot : ℕ) (name : List ℕ) → lines ≡ front ++ snap_line lane slot name ∷ rest → is_name name ≡ true

-- ---- one more line

none_or_some : (files : Files) (prefix : List ℕ) → HasNone prefix files → HasSome prefix files → ⊥
none_or_some files prefix none some = let no : false ≡ true = sym (ap (λ (o : Option (List ℕ)). is_some o) (none some.0 some.1)) ∙ some.2 in absurd cc

not_under : OneName → (name other path : List ℕ) → is_name name ≡ true → is_name other ≡ true → (name ≡ other → ⊥) → has_prefix (prefix_of name) path ≡ true → has_prefix (prefix_of other) path ≡ false
not_under one_name name other path is is' apart under = by (has_prefix (prefix_of other) path) refl
  where
    by : (b : Bool) → has_prefix (prefix_of other) path ≡ b → has_prefix (prefix_of other) path ≡ false
    by true e = absurd (apart (one_name name other path is is' under e))
    by false e = e

-- files of other names are as they were
abbrev pub KeepsOthers : List ℕ → Files → Files → Type 0
KeepsOthers name old new = (path : List ℕ) → has_prefix (prefix_of name) path ≡ false → file_of new path ≡ file_of old path

-- a snapshot of another name stands still
stands_on : SnapshotLaws → (name other : List ℕ) → is_name name ≡ true → is_name other ≡ true → (name ≡ other → ⊥) → (f g : Files) → KeepsOthers other f g
    → (slot : ℕ) (m : State) → HoldsLive f name slot m → HoldsLive g name slot m
stands_on laws name other is is' apart f g same slot m h = record {
  images = h.images;
  holds = laws.kept f g name (λ path under. same path (not_under laws.one_name name other path is is' apart under)) slot h.images [] h.holds;
  live = h.live;
  bytes = h.bytes;
  answers = h.answers;
}

module _ (laws : SnapshotLaws) (start : State) (lines : List Line) (l : Line) (history events : List Event) (plays : Plays (map line_played lines) history) where
  abbrev lines' : List Line
  lines' = lines ++ l ∷ []

  abbrev history' : List Event
  history' = history ++ events

  abbrev NoneBegins : Type 0
  NoneBegins = (slot : ℕ) (name : List ℕ) → BeginsSnap l events slot name → ⊥

  -- where the line began none, those that began are the earlier ones
  only_earlier : NoneBegins → (slot : ℕ) (name : List ℕ) (before : List Event) → HasBegun lines' history' slot name before → HasBegun lines history slot name before
  only_earlier none slot name before h = elim (begun_last lines l history events plays slot name before h) [
    | inl earlier ↦ earlier
    | inr here ↦ absurd (none slot name here.1)
  ]

  pub saved_quiet : NoneBegins → (f g : Files) → AreSaved start lines history f g → AreSaved start lines' history' f g
  saved_quiet none f g saved = record {
    fresh = record {
      none = λ slot name before h. saved.fresh.none slot name before (only_earlier none slot name before h);
      once = λ slot other name before later h k. saved.fresh.once slot other name before later (only_earlier none slot name before h) (only_earlier none other name later k);
    };
    stand = λ slot name before h. saved.stand slot name before (only_earlier none slot name before h);
  }

  pub elsewhere_still : (f g : Files) → KeepsElsewhere lines history f g → KeepsElsewhere lines' history' f g
  elsewhere_still f g keeps path away = keeps path (λ slot name before h. away slot name before (begun_more lines (l ∷ []) history events slot name before h))

  module _ (slot : ℕ) (name : List ℕ) (begins : BeginsSnap l events slot name) where
    pub elsewhere_more : (f g h : Files) → KeepsElsewhere lines history f g → KeepsOthers name g h → KeepsElsewhere lines' history' f h
    elsewhere_more f g h keeps others path away =
        others path (away slot name history (begun_here lines l history events plays slot name begins)) ∙ elsewhere_still f g keeps path away

    module _ (named : AreNamed lines') (f g h : Files) (saved : AreSaved start lines history f g) (keeps : KeepsElsewhere lines history f g) (one : SavesOne (state_after start history) slot name g h) where
      is : (slot : ℕ) (name : List ℕ) (before : List Event) → HasBegun lines' history' slot name before → is_name name ≡ true
      is slot name before b = named b.front b.rest b.lane slot name b.split

      own : is_name name ≡ true
      own = is slot name history (begun_here lines l history events plays slot name begins)

      is_earlier : (other : ℕ) (name' : List ℕ) (before : List Event) → HasBegun lines history other name' before → is_name name' ≡ true
      is_earlier other name' before b = is other name' before (begun_more lines (l ∷ []) history events other name' before b)

      -- no earlier one has this name
      apart : (other : ℕ) (name' : List ℕ) (before : List Event) → HasBegun lines history other name' before → name' ≡ name → ⊥
      apart other name' before b same =
          let stood = saved.stand other name' before b in
          none_or_some g (prefix_of name) one.fresh (subst (λ (n : List ℕ). HasSome (prefix_of n) g) same (laws.there g name' other stood.images [] stood.holds))

      none_before : HasNone (prefix_of name) f
      none_before path under =
          sym (keeps path (λ other name' before b. not_under laws.one_name name name' path own (is_earlier other name' before b) (λ same. apart other name' before b (sym same)) under))
          ∙ one.fresh path under

      pub saved_more : AreSaved start lines' history' f h
      saved_more = record {
        fresh = record { none = none; once = once };
        stand = stand;
      }
        where
          none : (other : ℕ) (name' : List ℕ) (before : List Event) → HasBegun lines' history' other name' before → HasNone (prefix_of name') f
          none other name' before b = elim (begun_last lines l history events plays other name' before b) [
            | inl earlier ↦ saved.fresh.none other name' before earlier
            | inr here ↦ subst (λ (n : List ℕ). HasNone (prefix_of n) f) (one_asked l events slot other name name' begins here.1).1 none_before
          ]

          once : (slot' other : ℕ) (name' : List ℕ) (before later : List Event) → HasBegun lines' history' slot' name' before → HasBegun lines' history' other name' later → before ≡ later
          once slot' other name' before later b k = elim (begun_last lines l history events plays slot' name' before b) [
            | inl earlier ↦ elim (begun_last lines l history events plays other name' later k) [
              | inl earlier' ↦ saved.fresh.once slot' other name' before later earlier earlier'
              | inr here ↦ absurd (apart slot' name' before earlier (sym (one_asked l events slot other name name' begins here.1).1))
            ]
            | inr here ↦ elim (begun_last lines l history events plays other name' later k) [
              | inl earlier' ↦ absurd (apart other name' later earlier' (sym (one_asked l events slot slot' name name' begins here.1).1))
              | inr here' ↦ here.0 ∙ sym here'.0
            ]
          ]

          stand : (other : ℕ) (name' : List ℕ) (before : List Event) → HasBegun lines' history' other name' before → HoldsLive h name' other (state_after start before)
          stand other name' before b = elim (begun_last lines l history events plays other name' before b) [
            | inl earlier ↦ stands_on laws name' name (is_earlier other name' before earlier) own (apart other name' before earlier) g h one.others other (state_after start before) (saved.stand other name' before earlier)
            | inr here ↦
                let same = one_asked l events slot other name name' begins here.1 in
                subst (λ (e : List Event). HoldsLive h name' other (state_after start e)) (sym here.0)
                (subst (λ (n : List ℕ). HoldsLive h n other (state_after start history)) same.1
                (subst (λ (s : ℕ). HoldsLive h name s (state_after start history)) same.0 one.stand))
          ]

-- ---- a snapshot that was not written

-- what stood stands still, whatever was done under a name that had no file
pub saved_lost : SnapshotLaws → (start : State) (lines : List Line) (history : List Event) (name : List ℕ) → is_name name ≡ true → AreNamed lines → (f g h : Files)
    → AreSaved start lines history f g → KeepsOthers name g h → (HasSome (prefix_of name) g → h ≡ g) → AreSaved start lines history f h
saved_lost laws start lines history name is named f g h saved others there = record {
  fresh = saved.fresh;
  stand = λ other name' before b.
      by other name' before b (bytes_eq name' name) refl;
}
  where
    by : (other : ℕ) (name' : List ℕ) (before : List Event) → HasBegun lines history other name' before → (t : Bool) → bytes_eq name' name ≡ t → HoldsLive h name' other (state_after start before)
    by other name' before b true e =
        let stood = saved.stand other name' before b in
        let same : name' ≡ name = (bytes_decides name' name).0 e in
        let some = subst (λ (n : List ℕ). HasSome (prefix_of n) g) same (laws.there g name' other stood.images [] stood.holds) in
        subst (λ (k : Files). HoldsLive k name' other (state_after start before)) (sym (there some)) stood
    by other name' before b false e =
        stands_on laws name' name (named b.front b.rest b.lane other name' b.split) is
        (λ same. let no : true ≡ false = sym ((bytes_decides name' name).1 same) ∙ e in absurd cc) g h others other (state_after start before) (saved.stand other name' before b)

-- ---- before the first line

pub none_saved : (start : State) (history : List Event) (f : Files) → AreSaved start [] history f f
none_saved start history f = record {
  fresh = record {
    none = λ slot name before h. absurd (none_begun history slot name before h);
    once = λ slot other name before later h k. absurd (none_begun history slot name before h);
  };
  stand = λ slot name before h. absurd (none_begun history slot name before h);
}

-- ---- files that may not be told

pub told_nothing : (f : Option Files) (P : Files → Files → Type 0) → ((k : Files) → P k k) → WhereTold f f P
told_nothing None P h = tt
told_nothing (Some k) P h = h k

pub told_then : (f g h : Option Files) (P Q R : Files → Files → Type 0) → ((a b c : Files) → P a b → Q b c → R a c) → WhereTold f g P → WhereTold g h Q → WhereTold f h R
told_then None g h P Q R both p q = tt
told_then (Some a) None h P Q R both p q = absurd p
told_then (Some a) (Some b) None P Q R both p q = absurd q
told_then (Some a) (Some b) (Some c) P Q R both p q = both a b c p q

pub told_weaker : (f g : Option Files) (P Q : Files → Files → Type 0) → ((a b : Files) → P a b → Q a b) → WhereTold f g P → WhereTold f g Q
told_weaker None g P Q weaker p = tt
told_weaker (Some a) None P Q weaker p = absurd p
told_weaker (Some a) (Some b) P Q weaker p = weaker a b p

pub told_both : (f g : Option Files) (P Q : Files → Files → Type 0) → WhereTold f g P → WhereTold f g Q → WhereTold f g (λ a b. P a b × Q a b)
told_both None g P Q p q = tt
told_both (Some a) None P Q p q = absurd p
told_both (Some a) (Some b) P Q p q = (p, q)

pub told_others : (f g : Option Files) (name : List ℕ) → LeavesOutside (prefix_of name) f g → WhereTold f g (KeepsOthers name)
told_others None g name h = tt
told_others (Some a) None name h = absurd h
told_others (Some a) (Some b) name h = h

-- what is there under a name keeps all
pub told_there : (f g : Option Files) (name : List ℕ) → LeavesOutside (prefix_of name) f g → IfSome f (λ told. HasSome (prefix_of name) told → g ≡ f) → WhereTold f g (λ a b. HasSome (prefix_of name) a → b ≡ a)
told_there None g name h there = tt
told_there (Some a) None name h there = absurd h
told_there (Some a) (Some b) name h there = λ some. let same : Some b ≡ Some a = there some in cc

-- files that are as they were
pub told_same : (f g h : Option Files) (P : Files → Files → Type 0) → h ≡ g → WhereTold f g P → WhereTold f h P
told_same f g h P same p = subst (λ (o : Option Files). WhereTold f o P) (sym same) p
