-- The calls of a line that asks for a snapshot, and its writing between them.
use Rattle.std.proofs.Common.{◌≡◌, ℕ, ◌≤◌, List, [], ◌∷◌, ◌++◌, append_assoc, length, map, Option, Some, None, Result, Ok, Err, refl, sym, ap, ◌∙◌, subst}
use Rattle.std.specs.Prelude.{IfSome, IsSomeAnd, IfErr, OnOk, IsTrue, string_bytes}
use Rattle.std.specs.Io.KnownBytes.{Appends}
use Rattle.std.proofs.KnownBytes.{Appends-trans}
use Rattle.std.proofs.Math.Seq.{take-length}
use Rattle.std.proofs.lemmas.List.Concat.{flat_map-cons}
use Rattle.stream_io.specs.Stream.{AppendsFront}
use Rattle.adb_model.specs.State.{State}
use Rattle.adb_model.specs.Lists.{among}
use Rattle.adb_model.specs.Call.{Call, Reply, Event, SnapBegin, SnapBegun, SnapEnd}
use Rattle.adb_model.specs.Step.{step}
use Rattle.adb_model.specs.History.{state_after, IsLegal}
use Rattle.adb_model.specs.Sound.{IsSound}
use Rattle.adb_model.specs.Laws.{ShowLive, IsFlushedUpto}
use Rattle.adb_model.specs.Plays as plays
use Rattle.adb_model.specs.Plays.{next_call}
use Rattle.vec_scan.specs.Shown.{shown}
use Rattle.dir_io.specs.Files.{Files}
use Rattle.field_codec.specs.Paths.{prefix_of}
use Rattle.book_parts.specs.Snaps.{Snapshot}
use Rattle.snap_write.specs.declared.fault.SnapFault.{SnapFault}
use Rattle.snap_write.specs.declared.fault.SnapFault.TheVariants as snaps
use Rattle.snap_write.specs.Faults.{is_exists}
use Rattle.snap_write.specs.Changes.{HasSome, LeavesOutside}
use Rattle.script.specs.Said.{Order, Snap, Line, line_played}
use Rattle.script.specs.Text.{text_of, journal_of}
use Rattle.replay.specs.declared.stops.Stop.TheVariants as stops
use Rattle.replay.specs.declared.stops.Halt.{Halt}
use Rattle.replay.specs.declared.stops.Halt.TheVariants as halts
use Rattle.replay.specs.Standing.{Lanes, PlayerStands}
use Rattle.replay.specs.Saved.{event_of, snap_line, BeginsSnap, Writes}
use Rattle.replay.specs.Playing.{PlayedCall, CutCall, SavedLine, CutSavedLine, LostLine, HaltsLine, Judges, quiet, saved, untouched, touched}
use Rattle.replay.proofs.GoingOn.{EachLegal, last_reply}
use Rattle.replay.proofs.LineCalls.{BothLegal, text_alone}
use Rattle.replay.proofs.Streams.{appends_as, front_then, front_of_more}
use Rattle.replay.proofs.Living.{AnswersAs, saves_one}
use Rattle.replay.proofs.NextCalls.{FewerAbove, snap_ends, rest_of}

-- what holds where a snapshot was written holds where the run goes on after it
pub judged : (name : List ℕ) (written : Result (Unit {0}) SnapFault) (result : Result (Unit {0}) Halt) (P : Type 0) → Judges name written result → OnOk written P → OnOk result P
judged name written (Ok u) P judges on = subst (λ (r : Result (Unit {0}) SnapFault). OnOk r P) judges on
judged name written (Err halt) P judges on = tt

-- when a snapshot may begin
abbrev pub MayBegin : Type 0
MayBegin = (m : State) (pass slot storages : ℕ) → (step m pass (SnapBegin slot)).1 ≡ SnapBegun storages → IsTrue (among slot m.roots) × (m.cleaned ≤ slot) × IsFlushedUpto m slot

pub record SnapLaws : Type 0 where
  pub fewer : FewerAbove
  pub both : BothLegal
  pub each : EachLegal
  pub may : MayBegin

-- the snapshot in hand
pub hand_of : (o : Option Snapshot) (P Q : Snapshot → Type 0) → IsSomeAnd o P → IfSome o Q → (job : Snapshot) × P job × Q job
hand_of None P Q p q = absurd p
hand_of (Some job) P Q p q = (job, p, q)

module _ (laws : SnapLaws) (start : State) (h : List Event) (lane slot : ℕ) (name : List ℕ) where
  abbrev order : Order
  order = Snap slot name

  abbrev line : Line
  line = snap_line lane slot name

  abbrev begin_of : Reply → Event
  begin_of r = event_of lane (SnapBegin slot) r

  abbrev end_of : Reply → Event
  end_of r = event_of lane (SnapEnd slot) r

  -- the begin was not told
  pub begin_cut : (a b : Option (List ℕ)) → CutCall start h a b lane (SnapBegin slot) → (f : Option Files) → CutSavedLine start h a b f f line
  begin_cut a b cut f =
      let e = begin_of cut.reply in
      let past = h ++ e ∷ [] in
      let rest = rest_of laws.fewer lane order (state_after start past) cut.reply in
      record {
        cut = record {
          events = e ∷ rest.events;
          follow = (refl, refl, rest.follow);
          legal = subst (λ (l : List Event). IsLegal start l) (append_assoc h (e ∷ []) rest.events) (laws.both start past rest.events cut.legal rest.legal);
          front = subst (λ (t : List ℕ). AppendsFront a b t) (sym (flat_map-cons text_of e rest.events)) (front_of_more a b (text_of e) (journal_of rest.events) cut.front);
        };
        left = untouched refl;
      }

  module _ (a b : Option (List ℕ)) (q : Lanes) (r : Reply) (made : PlayedCall q start h a b lane (SnapBegin slot) r) where
    -- none began
    pub not_begun : next_call (plays.Snap slot) (Some r) ≡ None → (f : Option Files) → SavedLine q start h a b f f line
    not_begun last f = record {
      played = record {
        events = begin_of r ∷ [];
        follow = (refl, refl, last);
        stands = made.stands;
        lines = appends_as a b (text_of (begin_of r)) (journal_of (begin_of r ∷ [])) (sym (text_alone (begin_of r))) made.line;
      };
      left = quiet (λ other other_name begins. began other other_name begins) refl;
    }
      where
        first : {x y : Event} {xs ys : List Event} → x ∷ xs ≡ y ∷ ys → x ≡ y
        first e = cc

        began : (other : ℕ) (other_name : List ℕ) → BeginsSnap line (begin_of r ∷ []) other other_name → ⊥
        began other other_name begins =
            let is : r ≡ SnapBegun begins.begins.0 = ap (λ (x : Event). x.reply) (first begins.begins.2) in
            let no : None ≡ Some (SnapEnd slot) = sym last ∙ ap (λ (x : Reply). next_call (plays.Snap slot) (Some x)) is in
            absurd cc

    module _ (n : ℕ) (is : r ≡ SnapBegun n) (f g : Option Files) where
      asks : next_call (plays.Snap slot) (Some r) ≡ Some (SnapEnd slot)
      asks = ap (λ (x : Reply). next_call (plays.Snap slot) (Some x)) is

      begins_with : (more : List Event) → BeginsSnap line (begin_of r ∷ more) slot name
      begins_with more = record { lane = lane; is = refl; begins = (n, more, ap (λ (x : Reply). begin_of x ∷ more) is) }

      -- it may begin
      may_begin : IsTrue (among slot (state_after start h).roots) × ((state_after start h).cleaned ≤ slot) × IsFlushedUpto (state_after start h) slot
      may_begin = laws.may (state_after start h) lane slot n (last_reply laws.each start h lane (SnapBegin slot) r made.stands.book.legal ∙ is)

      last : (told : Reply) → IsLegal start ((h ++ begin_of r ∷ []) ++ end_of told ∷ []) → next_call (plays.Snap slot) (Some told) ≡ None
      last told legal =
          subst (λ (x : Reply). next_call (plays.Snap slot) (Some x) ≡ None) (last_reply laws.each start (h ++ begin_of r ∷ []) lane (SnapEnd slot) told legal)
          (snap_ends slot (state_after start (h ++ begin_of r ∷ [])) lane)

      texts : (told : Reply) → text_of (begin_of r) ++ text_of (end_of told) ≡ journal_of (begin_of r ∷ end_of told ∷ [])
      texts told = sym (flat_map-cons text_of (begin_of r) (end_of told ∷ []) ∙ ap (λ (t : List ℕ). text_of (begin_of r) ++ t) (text_alone (end_of told)))

      -- both events, of which some of the front of the lines was told
      cut_line : (c : Option (List ℕ)) (told : Reply) → IsLegal start ((h ++ begin_of r ∷ []) ++ end_of told ∷ []) → AppendsFront b c (text_of (end_of told)) → LeavesOutside (prefix_of name) f g → CutSavedLine start h a c f g line
      cut_line c told legal front others = record {
        cut = record {
          events = begin_of r ∷ end_of told ∷ [];
          follow = (refl, refl, (refl, asks, last told legal));
          legal = subst (λ (l : List Event). IsLegal start l) (append_assoc h (begin_of r ∷ []) (end_of told ∷ [])) legal;
          front = subst (λ (t : List ℕ). AppendsFront a c t) (texts told) (front_then a b c (text_of (begin_of r)) (text_of (end_of told)) made.line front);
        };
        left = touched slot name (begins_with (end_of told ∷ [])) others;
      }

      -- the end was not told
      pub end_cut : (c : Option (List ℕ)) → CutCall start (h ++ begin_of r ∷ []) b c lane (SnapEnd slot) → LeavesOutside (prefix_of name) f g → CutSavedLine start h a c f g line
      end_cut c cut others = cut_line c cut.reply cut.legal cut.front others

      module _ (c : Option (List ℕ)) (s : Lanes) (told : Reply) (ended : PlayedCall s start (h ++ begin_of r ∷ []) b c lane (SnapEnd slot) told) where
        abbrev both_events : List Event
        both_events = begin_of r ∷ end_of told ∷ []

        stands : PlayerStands s start (h ++ both_events)
        stands = subst (λ (l : List Event). PlayerStands s start l) (append_assoc h (begin_of r ∷ []) (end_of told ∷ [])) ended.stands

        lines : Appends a c (journal_of both_events)
        lines = appends_as a c (text_of (begin_of r) ++ text_of (end_of told)) (journal_of both_events) (texts told) (Appends-trans a b c (text_of (begin_of r)) (text_of (end_of told)) made.line ended.line)

        lost : LeavesOutside (prefix_of name) f g → IfSome f (λ files. HasSome (prefix_of name) files → g ≡ f) → LostLine start h a c f g line name
        lost others there = record {
          lane = lane;
          slot = slot;
          is = refl;
          events = both_events;
          follow = (refl, refl, (refl, asks, last told ended.stands.book.legal));
          begins = (n, end_of told ∷ [], ap (λ (x : Reply). begin_of x ∷ end_of told ∷ []) is);
          legal = stands.book.legal;
          lines = lines;
          others = others;
          there = there;
        }

        module _ (sound : IsSound (state_after start h)) (job : Snapshot) (of : job.slot ≡ slot) (show : ShowLive (state_after start h) slot (map shown job.storages)) (answers : AnswersAs (state_after start h))
            (written : Result (Unit {0}) SnapFault) (w : Writes job name f g written) where
          pub judged_ok : (result : Result (Unit {0}) Halt) → Judges name written result → OnOk result (SavedLine s start h a c f g line)
          judged_ok (Err halt) judges = tt
          judged_ok (Ok u) judges = record {
            played = record {
              events = both_events;
              follow = (refl, refl, (refl, asks, last told ended.stands.book.legal));
              stands = stands;
              lines = lines;
            };
            left = saved slot name (begins_with (end_of told ∷ []))
                (saves_one (state_after start h) sound answers slot may_begin job of show name f g (subst (λ (r' : Result (Unit {0}) SnapFault). Writes job name f g r') judges w));
          }

          exists_there : written ≡ Err snaps.Exists → IfSome f (HasSome (prefix_of name))
          exists_there e = (subst (λ (r' : Result (Unit {0}) SnapFault). Writes job name f g r') e w).exact

          pub judged_err : (result : Result (Unit {0}) Halt) → Judges name written result → IfErr result (HaltsLine start h a c f g line)
          judged_err (Ok u) judges = tt
          judged_err (Err (halts.Cut stops.NoMemory)) judges =
              cut_line c told ended.stands.book.legal (length (text_of (end_of told)), subst (λ (t : List ℕ). Appends b c t) (sym (take-length (text_of (end_of told)))) ended.line) w.others
          judged_err (Err (halts.Cut stops.SinkFault)) judges = absurd judges
          judged_err (Err halts.DirFault) judges = (name, lost w.others w.there)
          judged_err (Err (halts.Refused text)) judges = record {
            name = name;
            says = judges.1;
            lost = lost w.others w.there;
            exists = exists_there judges.0;
            same = w.exists (ap (λ (r' : Result (Unit {0}) SnapFault). is_exists r') judges.0);
          }
