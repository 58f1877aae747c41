-- The calls of a line, one after another.
use Rattle.std.proofs.Common.{◌≡◌, ℕ, List, [], ◌∷◌, ◌++◌, Option, Some, None, refl, sym, ap, ◌∙◌, subst, append_assoc}
use Rattle.std.specs.Io.KnownBytes.{Appends}
use Rattle.std.proofs.KnownBytes.{Appends-trans}
use Rattle.std.proofs.lemmas.List.{append-nil}
use Rattle.std.proofs.lemmas.List.Concat.{flat_map-append, flat_map-cons}
use Rattle.stream_io.specs.Stream.{AppendsFront}
use Rattle.adb_model.specs.State.{State}
use Rattle.adb_model.specs.Call.{Call, Reply, Event}
use Rattle.adb_model.specs.Step.{step}
use Rattle.adb_model.specs.History.{state_after, IsLegal}
use Rattle.adb_model.specs.Plays as plays
use Rattle.adb_model.specs.Plays.{next_call, Follow}
use Rattle.script.specs.Said.{Order, order_played}
use Rattle.script.specs.Text.{text_of, journal_of}
use Rattle.replay.specs.Standing.{Lanes, PlayerStands}
use Rattle.replay.specs.Saved.{event_of}
use Rattle.replay.specs.Playing.{PlayedCall, CutCall, PlayedLine, CutLine}
use Rattle.replay.proofs.NextCalls.{FewerAbove, rest_of}
use Rattle.replay.proofs.Streams.{appends_as, appends_nothing, front_then, front_none, front_of_more}

-- ---- the journal of some events, and of one more

pub text_alone : (e : Event) → journal_of (e ∷ []) ≡ text_of e
text_alone e = flat_map-cons text_of e [] ∙ append-nil (text_of e)

text_added : (events : List Event) (e : Event) → journal_of events ++ text_of e ≡ journal_of (events ++ e ∷ [])
text_added events e = sym (flat_map-append text_of events (e ∷ []) ∙ ap (λ (t : List ℕ). journal_of events ++ t) (text_alone e))

text_of_all : (events : List Event) (e : Event) (more : List Event) → journal_of events ++ (text_of e ++ journal_of more) ≡ journal_of (events ++ e ∷ more)
text_of_all events e more = sym (flat_map-append text_of events (e ∷ more) ∙ ap (λ (t : List ℕ). journal_of events ++ t) (flat_map-cons text_of e more))

abbrev pub LegalGoesOn : Type 0
LegalGoesOn = (m : State) (h : List Event) (e : Event) → IsLegal m h → e.reply ≡ (step (state_after m h) e.pass e.call).1 → IsLegal m (h ++ e ∷ [])

abbrev pub BothLegal : Type 0
BothLegal = (m : State) (h g : List Event) → IsLegal m h → IsLegal (state_after m h) g → IsLegal m (h ++ g)

-- ---- some of a line's calls

-- after a history some of the line's calls were made, the last of which had this reply, the player stands for that, and the sink took their lines
pub record PlayedSoFar (p : Lanes) (start : State) (history : List Event) (old new : Option (List ℕ)) (line : plays.Line) (reply : Option Reply) : Type 0 where
  pub events : List Event
  pub follow : (more : List Event) → Follow line reply more → Follow line None (events ++ more)
  pub stands : PlayerStands p start (history ++ events)
  pub lines : Appends old new (journal_of events)

module _ (start : State) (h : List Event) (a b c : Option (List ℕ)) (lane : ℕ) (order : Order) where
  abbrev line : plays.Line
  line = record { lane = lane; order = order_played order }

  pub nothing_yet : (p : Lanes) → PlayerStands p start h → PlayedSoFar p start h a a line None
  nothing_yet p st = record {
    events = [];
    follow = λ more f. f;
    stands = subst (λ (g : List Event). PlayerStands p start g) (sym (append-nil h)) st;
    lines = appends_nothing a;
  }

  module _ (p : Lanes) (reply : Option Reply) (far : PlayedSoFar p start h a b line reply) where
    -- one more call was made
    pub one_more : (q : Lanes) (call : Call) (told : Reply) → next_call (order_played order) reply ≡ Some call → PlayedCall q start (h ++ far.events) b c lane call told → PlayedSoFar q start h a c line (Some told)
    one_more q call told asks made =
        let e = event_of lane call told in
        record {
          events = far.events ++ e ∷ [];
          follow = λ more f. subst (λ (g : List Event). Follow line None g) (sym (append_assoc far.events (e ∷ []) more)) (far.follow (e ∷ more) (refl, asks, f));
          stands = subst (λ (g : List Event). PlayerStands q start g) (append_assoc h far.events (e ∷ [])) made.stands;
          lines = appends_as a c _ _ (text_added far.events e) (Appends-trans a b c _ _ far.lines made.line);
        }

    -- there are no more
    pub all_made : next_call (order_played order) reply ≡ None → PlayedLine p start h a b line
    all_made none = record {
      events = far.events;
      follow = subst (λ (g : List Event). Follow line None g) (append-nil far.events) (far.follow [] none);
      stands = far.stands;
      lines = far.lines;
    }

    -- what would have followed is legal, too
    pub one_cut : FewerAbove → BothLegal → (call : Call) → next_call (order_played order) reply ≡ Some call → CutCall start (h ++ far.events) b c lane call → CutLine start h a c line
    one_cut fewer both call asks cut =
        let e = event_of lane call cut.reply in
        let g = (h ++ far.events) ++ e ∷ [] in
        let rest = rest_of fewer lane order (state_after start g) cut.reply in
        record {
          events = far.events ++ e ∷ rest.events;
          follow = far.follow (e ∷ rest.events) (refl, asks, rest.follow);
          legal = subst (λ (l : List Event). IsLegal start l) (append_assoc (h ++ far.events) (e ∷ []) rest.events ∙ append_assoc h far.events (e ∷ rest.events)) (both start g rest.events cut.legal rest.legal);
          front = subst (λ (t : List ℕ). AppendsFront a c t) (text_of_all far.events e rest.events)
              (front_then a b c _ _ far.lines (front_of_more b c (text_of e) (journal_of rest.events) cut.front));
        }

-- a call of which the sink took nothing
pub not_told : LegalGoesOn → (start : State) (h : List Event) (b : Option (List ℕ)) (lane : ℕ) (call : Call) → IsLegal start h → CutCall start h b b lane call
not_told legal start h b lane call is = record {
  reply = (step (state_after start h) lane call).1;
  legal = legal start h (event_of lane call (step (state_after start h) lane call).1) is refl;
  front = front_none b (text_of (event_of lane call (step (state_after start h) lane call).1));
}
