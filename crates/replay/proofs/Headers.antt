-- A script's header.
use Rattle.std.proofs.Common.{◌≡◌, ◌⊎◌, ℕ, List, [], ◌++◌, length, Option, Some, None, Result, Ok, Err, refl, sym, ap, ◌∙◌, subst, append-nil, append_assoc, inl, inr, All}
use Rattle.std.specs.Option.{option_map}
use Rattle.std.specs.List.{enumerate_from}
use Rattle.std.specs.Prelude.{IfSome, IfOk, IfErr, IsFalse, string_bytes}
use Rattle.std.specs.Io.KnownBytes.{Appends}
use Rattle.std.proofs.KnownBytes.{Appends-trans}
use Rattle.std.proofs.Math.Seq.{take-length}
use Rattle.std.proofs.lemmas.List.Elements.{All-map}
use Rattle.stream_io.specs.Stream.{AppendsFront}
use Rattle.adb_model.specs.State.{Storage}
use Rattle.adb_model.specs.Storages.{is_filling}
use Rattle.adb_model.specs.Opened as machine
use Rattle.dir_io.specs.Files.{Files}
use Rattle.snap_open.specs.declared.fault.OpenFault.{OpenFault}
use Rattle.snap_open.specs.declared.fault.OpenFault.TheVariants as opens
use Rattle.snap_open.specs.Faults.{WhyNotOpened}
use Rattle.script.specs.Said.{Said, budget_of, budget_line, opened_line, open_line}
use Rattle.replay.specs.declared.stops.Halt.{Halt}
use Rattle.replay.specs.declared.stops.Halt.TheVariants as halts
use Rattle.replay.specs.Standing.{Lanes, PlayerStands, IsQuiet}
use Rattle.replay.specs.Saved.{AreSaved, KeepsElsewhere}
use Rattle.replay.specs.Journaled.{Opened, IsOpened, Run, CutShort, Unopened, start_of, journal_from}
use Rattle.replay.specs.Ending.{HaltsHeader}
use Rattle.replay.specs.Playing.{HasPlayed, HasOpened, CutOpened, HaltsOpened, without_lines}
use Rattle.replay.proofs.Snapshots.{none_saved, told_nothing}
use Rattle.replay.proofs.Streams.{appends_as, front_then}

pub if_ok : {X E : Type 0} {P Q : X → Type 0} (r : Result X E) → IfOk r P → ((x : X) → P x → Q x) → IfOk r Q
if_ok (Ok x) h weaker = weaker x h
if_ok (Err e) h weaker = tt

pub if_err : {X E : Type 0} {P Q : E → Type 0} (r : Result X E) → IfErr r P → ((e : E) → P e → Q e) → IfErr r Q
if_err (Ok x) h weaker = tt
if_err (Err e) h weaker = weaker e h

-- a book that was opened is quiet
pub opened_quiet : (budget slot : ℕ) (images : List machine.Image) (more : List ℕ) → IsQuiet (machine.opened budget slot images more)
opened_quiet budget slot images more = record {
  pins = refl;
  shrinks = refl;
  filling = All-map (λ (t : Storage). IsFalse (is_filling t)) machine.storage_of (enumerate_from 1 images) (λ k d lt. refl);
  snap = refl;
}

front_whole : (a b : Option (List ℕ)) (x : List ℕ) → Appends a b x → AppendsFront a b x
front_whole a b x h = (length x, subst (λ (l : List ℕ). Appends a b l) (sym (take-length x)) h)

module _ (f : Option Files) (a b : Option (List ℕ)) (said : Said) where
  abbrev header_run : (o : Option Opened) → IsOpened f said.opened o → Run f (without_lines said)
  header_run o from = record { opened = o; from = from; history = []; legal = tt; plays = refl }

  header_text : (o : Option Opened) → budget_line said.budget ++ opened_line said.opened (option_map (λ s. s.slot) o) ≡ journal_from (without_lines said) o []
  header_text o = ap (λ (t : List ℕ). budget_line said.budget ++ t) (sym (append-nil (opened_line said.opened (option_map (λ s. s.slot) o))))

  -- the header's lines were written, and no line is played yet
  pub header_played : (p : Lanes) (o : Option Opened) → IsOpened f said.opened o → Appends a b (budget_line said.budget ++ opened_line said.opened (option_map (λ s. s.slot) o)) → PlayerStands p (start_of said o) [] → HasPlayed p f f a b (without_lines said)
  header_played p o from written stands = record {
    done = record {
      run = header_run o from;
      whole = appends_as a b _ (journal_from (without_lines said) o []) (header_text o) written;
      saves = told_nothing f (AreSaved (start_of said o) [] []) (none_saved (start_of said o) []);
      others = told_nothing f (KeepsElsewhere [] []) (λ k path away. refl);
    };
    stands = stands;
  }

  -- only the budget's line was due
  pub at_once : Appends a b (budget_line said.budget) → CutShort f f a b said
  at_once written = inl (record { front = front_whole a b (budget_line said.budget) written; kept = refl })

no_line : (o : Option (List ℕ)) → opened_line o None ≡ []
no_line None = refl
no_line (Some name) = refl

-- a header without a snapshot
pub fresh_header : (f : Option Files) (a b : Option (List ℕ)) (said : Said) (p : Lanes) → said.opened ≡ None → Appends a b (budget_line said.budget) → PlayerStands p (start_of said None) [] → HasPlayed p f f a b (without_lines said)
fresh_header f a b said p none written stands =
    header_played f a b said p None (subst (λ (o : Option (List ℕ)). IsOpened f o None) (sym none) refl)
    (appends_as a b (budget_line said.budget) (budget_line said.budget ++ opened_line said.opened None) (sym (ap (λ (t : List ℕ). budget_line said.budget ++ t) (no_line said.opened) ∙ append-nil (budget_line said.budget))) written)
    stands

-- a header with one
module _ (f : Option Files) (a b c : Option (List ℕ)) (said : Said) (name : List ℕ) (named : said.opened ≡ Some name) (written : Appends a b (budget_line said.budget)) where
  line_of : (o : Opened) → open_line name o.slot ≡ opened_line said.opened (Some o.slot)
  line_of o = sym (ap (λ (n : Option (List ℕ)). opened_line n (Some o.slot)) named)

  abbrev opens_so : (o : Opened) → IsOpened f (Some name) (Some o) → IsOpened f said.opened (Some o)
  opens_so o from = subst (λ (n : Option (List ℕ)). IsOpened f n (Some o)) (sym named) from

  pub opened_header : (p : Lanes) → HasOpened p f b c name (budget_of said.budget) → HasPlayed p f f a c (without_lines said)
  opened_header p h =
      header_played f a c said p (Some h.opened) (opens_so h.opened h.from)
      (Appends-trans a b c (budget_line said.budget) (opened_line said.opened (Some h.opened.slot)) written (appends_as b c (open_line name h.opened.slot) (opened_line said.opened (Some h.opened.slot)) (line_of h.opened) h.line))
      h.stands

  still : c ≡ b → Appends a c (budget_line said.budget)
  still same = subst (λ (t : Option (List ℕ)). Appends a t (budget_line said.budget)) (sym same) written

  cut_opened : CutOpened f b c name → CutShort f f a c said
  cut_opened h = inr (record {
    first = [];
    rest = said.lines;
    split = refl;
    part = record {
      run = header_run f a c said (Some h.opened) (opens_so h.opened h.from);
      front = subst (λ (t : List ℕ). AppendsFront a c t) (header_text f a c said (Some h.opened))
          (front_then a b c (budget_line said.budget) (opened_line said.opened (Some h.opened.slot)) written (subst (λ (t : List ℕ). AppendsFront b c t) (line_of h.opened) h.front));
      others = told_nothing f (KeepsElsewhere [] []) (λ k path away. refl);
    };
  })

  any_fault : (g : Option Files) → IfSome g (λ told. WhyNotOpened told name (budget_of said.budget) opens.DirFault)
  any_fault None = tt
  any_fault (Some told) = tt

  pub header_halts : (halt : Halt) → HaltsOpened f b c name (budget_of said.budget) halt → HaltsHeader f f a c said halt
  header_halts (halts.Cut stop) (inl same) = at_once f a c said (still same)
  header_halts (halts.Cut stop) (inr cut) = cut_opened cut
  header_halts halts.DirFault same = (name, record { named = named; why = any_fault f; kept = refl }, still same)
  header_halts (halts.Refused line) why = (name, why.1, record { named = named; why = why.2; kept = refl }, still why.0, why.3, why.4)
