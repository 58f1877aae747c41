-- Histories that play one line after another.
use Rattle.std.proofs.Common.{◌≡◌, ◌⊎◌, ℕ, true, List, [], ◌∷◌, ◌++◌, map, Option, Some, None, refl, sym, ap, ◌∙◌, subst, append_assoc, inl, inr}
use Rattle.std.specs.Option.{option_map}
use Rattle.std.specs.Prelude.{IfSome, string_bytes}
use Rattle.std.specs.Io.KnownBytes.{Appends}
use Rattle.std.proofs.KnownBytes.{Appends-trans}
use Rattle.std.proofs.lemmas.List.{append-nil, map_push}
use Rattle.std.proofs.lemmas.List.Concat.{flat_map-append}
use Rattle.stream_io.specs.Stream.{AppendsFront}
use Rattle.adb_model.specs.State.{State}
use Rattle.adb_model.specs.Call.{Event}
use Rattle.adb_model.specs.History.{state_after, IsLegal}
use Rattle.adb_model.specs.Plays as machine
use Rattle.adb_model.specs.Plays.{Follow, Plays}
use Rattle.dir_io.specs.Files.{Files}
use Rattle.text_fields.specs.Names.{is_name}
use Rattle.field_codec.specs.Paths.{prefix_of}
use Rattle.snap_write.specs.Changes.{HasSome, LeavesOutside}
use Rattle.script.specs.Said.{Line, Said, line_played, lines_played, budget_line, opened_line, whole_journal}
use Rattle.script.specs.Text.{text_of, journal_of}
use Rattle.replay.specs.Standing.{Lanes}
use Rattle.replay.specs.Saved.{snap_line, BeginsSnap, AreSaved, KeepsElsewhere, WhereTold}
use Rattle.replay.specs.Journaled.{Opened, Run, PlayedInPart, Unwritten, start_of, journal_from, journal_upto}
use Rattle.replay.specs.Playing.{HasPlayed, SavedLine, CutSavedLine, LostLine, LeavesOf, quiet, saved, TouchesOf, untouched, touched, SavesOne}
use Rattle.replay.proofs.Snapshots.{SnapshotLaws, AreNamed, KeepsOthers, saved_quiet, saved_more, saved_lost, elsewhere_still, elsewhere_more, told_then, told_weaker, told_both, told_others, told_there, told_same}
use Rattle.replay.proofs.Streams.{appends_as, front_then}

plays_append : (xs ys : List machine.Line) (h g : List Event) → Plays xs h → Plays ys g → Plays (xs ++ ys) (h ++ g)
plays_append [] ys h g p q = subst (λ (l : List Event). Plays ys (l ++ g)) (sym p) q
plays_append (x ∷ xs) ys h g (group, rest, split, follow, plays) q =
    (group, rest ++ g, ap (λ (l : List Event). l ++ g) split ∙ append_assoc group rest g, follow, plays_append xs ys rest g plays q)

-- a script with one more line
abbrev pub with_line : Said → Line → Said
with_line said l = record said { lines = said.lines ++ l ∷ [] }

module _ (a b c : Option (List ℕ)) (f g h : Option Files) (said : Said) (l : Line) where
  abbrev run_more : (run : Run f said) (events : List Event) → IsLegal (start_of said run.opened) (run.history ++ events) → Follow (line_played l) None events → Run f (with_line said l)
  run_more run events legal follow = record {
    opened = run.opened;
    from = run.from;
    history = run.history ++ events;
    legal = legal;
    plays = subst (λ (ls : List machine.Line). Plays ls (run.history ++ events)) (sym (map_push line_played said.lines l))
        (plays_append (map line_played said.lines) (line_played l ∷ []) run.history events run.plays (events, [], sym (append-nil events), follow, refl));
  }

  journal_more : (o : Option Opened) (past events : List Event) → journal_from said o past ++ journal_of events ≡ journal_from said o (past ++ events)
  journal_more o past events =
      let opened = opened_line said.opened (option_map (λ (s : Opened). s.slot) o) in
      append_assoc (budget_line said.budget) (opened ++ journal_of past) (journal_of events)
      ∙ ap (λ (t : List ℕ). budget_line said.budget ++ t) (append_assoc opened (journal_of past) (journal_of events)
      ∙ ap (λ (t : List ℕ). opened ++ t) (sym (flat_map-append text_of past events)))

  module _ (p : Lanes) (before : HasPlayed p f g a b said) where
    abbrev past : List Event
    past = before.done.run.history

    whole_more : (events : List Event) → Appends b c (journal_of events) → Appends a c (journal_from said before.done.run.opened (past ++ events))
    whole_more events lines = appends_as a c _ _ (journal_more before.done.run.opened past events) (Appends-trans a b c _ _ before.done.whole lines)

    abbrev start' : State
    start' = start_of said before.done.run.opened

    module _ (laws : SnapshotLaws) (events : List Event) where
      abbrev Old : Files → Files → Type 0
      Old x y = AreSaved start' said.lines past x y × KeepsElsewhere said.lines past x y

      abbrev Keeps' : Files → Files → Type 0
      Keeps' = KeepsElsewhere (said.lines ++ l ∷ []) (past ++ events)

      abbrev New : Files → Files → Type 0
      New x y = AreSaved start' (said.lines ++ l ∷ []) (past ++ events) x y × Keeps' x y

      leaves : AreNamed (said.lines ++ l ∷ []) → LeavesOf (state_after start' past) l events g h → WhereTold f h New
      leaves named (quiet none same) = told_same f g h New same (told_weaker f g Old New
          (λ x y o. (saved_quiet laws start' said.lines l past events before.done.run.plays none x y o.0, elsewhere_still laws start' said.lines l past events before.done.run.plays x y o.1))
          (told_both f g (AreSaved start' said.lines past) (KeepsElsewhere said.lines past) before.done.saves before.done.others))
      leaves named (saved slot name begins one) = told_then f g h Old (SavesOne (state_after start' past) slot name) New
          (λ x y z o s. (
            saved_more laws start' said.lines l past events before.done.run.plays slot name begins named x y z o.0 o.1 s,
            elsewhere_more laws start' said.lines l past events before.done.run.plays slot name begins x y z o.1 s.others,
          ))
          (told_both f g (AreSaved start' said.lines past) (KeepsElsewhere said.lines past) before.done.saves before.done.others) one

      touches : TouchesOf l events g h → WhereTold f h Keeps'
      touches (untouched same) = told_same f g h Keeps' same (told_weaker f g (KeepsElsewhere said.lines past) Keeps' (elsewhere_still laws start' said.lines l past events before.done.run.plays) before.done.others)
      touches (touched slot name begins others) = told_then f g h (KeepsElsewhere said.lines past) (KeepsOthers name) Keeps'
          (λ x y z keeps other. elsewhere_more laws start' said.lines l past events before.done.run.plays slot name begins x y z keeps other) before.done.others (told_others g h name others)

    -- one more line was played
    pub more_played : SnapshotLaws → AreNamed (said.lines ++ l ∷ []) → (q : Lanes) → SavedLine q start' past b c g h l → HasPlayed q f h a c (with_line said l)
    more_played laws named q made =
        let events = made.played.events in
        let left = leaves laws events named made.left in
        record {
          done = record {
            run = run_more before.done.run events made.played.stands.book.legal made.played.follow;
            whole = whole_more events made.played.lines;
            saves = told_weaker f h (New laws events) (AreSaved start' (said.lines ++ l ∷ []) (past ++ events)) (λ x y both. both.0) left;
            others = told_weaker f h (New laws events) (Keeps' laws events) (λ x y both. both.1) left;
          };
          stands = made.played.stands;
        }

    -- one more line was played in part
    pub more_cut : SnapshotLaws → CutSavedLine start' past b c g h l → PlayedInPart f h a c (with_line said l)
    more_cut laws made = record {
      run = run_more before.done.run made.cut.events made.cut.legal made.cut.follow;
      front = subst (λ (t : List ℕ). AppendsFront a c t) (journal_more before.done.run.opened past made.cut.events) (front_then a b c _ _ before.done.whole made.cut.front);
      others = touches laws made.cut.events made.left;
    }

-- a snapshot of one more line was not written
module _ (laws : SnapshotLaws) (a b c : Option (List ℕ)) (f g h : Option Files) (said : Said) (l : Line) (p : Lanes) (before : HasPlayed p f g a b said) (named : AreNamed (said.lines ++ l ∷ []))
    (name : List ℕ) (lost : LostLine (start_of said before.done.run.opened) before.done.run.history b c g h l name) where
  abbrev own_line : Line
  own_line = snap_line lost.lane lost.slot name

  abbrev before_it : List Event
  before_it = before.done.run.history

  abbrev from_it : State
  from_it = start_of said before.done.run.opened

  begins : BeginsSnap own_line lost.events lost.slot name
  begins = record { lane = lost.lane; is = refl; begins = lost.begins }

  earlier : AreNamed said.lines
  earlier front rest lane slot other split = named front (rest ++ l ∷ []) lane slot other (ap (λ (t : List Line). t ++ l ∷ []) split ∙ append_assoc front (snap_line lane slot other ∷ rest) (l ∷ []))

  own : is_name name ≡ true
  own = named said.lines [] lost.lane lost.slot name (ap (λ (x : Line). said.lines ++ x ∷ []) lost.is)

  abbrev Saves : Files → Files → Type 0
  Saves = AreSaved from_it said.lines before_it

  abbrev Keeps : Files → Files → Type 0
  Keeps = KeepsElsewhere said.lines before_it

  abbrev Lost : Files → Files → Type 0
  Lost x y = KeepsOthers name x y × (HasSome (prefix_of name) x → y ≡ x)

  left : WhereTold g h Lost
  left = told_both g h (KeepsOthers name) (λ x y. HasSome (prefix_of name) x → y ≡ x) (told_others g h name lost.others) (told_there g h name lost.others lost.there)

  pub unwritten : (lines rest : List Line) → lines ≡ (said.lines ++ l ∷ []) ++ rest → Unwritten f h (record said { lines = lines }) name
  unwritten lines rest split = record {
    front = said.lines;
    lane = lost.lane;
    slot = lost.slot;
    rest = rest;
    split = split ∙ ap (λ (x : Line). (said.lines ++ x ∷ []) ++ rest) lost.is;
    run = run_more a b c f g h said own_line before.done.run lost.events lost.legal (subst (λ (x : Line). Follow (line_played x) None lost.events) lost.is lost.follow);
    before = before_it;
    after = lost.events;
    made = refl;
    played = before.done.run.plays;
    begins = lost.begins;
    saves = told_then f g h Saves Lost Saves (λ x y z s o. saved_lost laws from_it said.lines before_it name own earlier x y z s o.0 o.1) before.done.saves left;
    others = told_then f g h Keeps Lost (KeepsElsewhere (said.lines ++ own_line ∷ []) (before_it ++ lost.events))
        (λ x y z k o. elsewhere_more laws from_it said.lines own_line before_it lost.events before.done.run.plays lost.slot name begins x y z k o.0) before.done.others left;
  }

  pub journal_lost : (lines rest : List Line) (split : lines ≡ (said.lines ++ l ∷ []) ++ rest) → Appends a c (journal_upto (unwritten lines rest split))
  unfolding unwritten
  journal_lost lines rest split = whole_more a b c f g h said own_line p before lost.events lost.lines

  -- no file changed since
  pub kept_lost : (lines rest : List Line) (split : lines ≡ (said.lines ++ l ∷ []) ++ rest) → h ≡ g
      → WhereTold f h (KeepsElsewhere (unwritten lines rest split).front (unwritten lines rest split).before)
  unfolding unwritten
  kept_lost lines rest split same = told_same f g h Keeps same before.done.others
