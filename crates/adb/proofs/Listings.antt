-- The lines of a snapshot that was opened.
use Rattle.std.proofs.Common.{◌≡◌, ℕ, List, length, flat_map, Option, Result, Ok, Err, OnOk, OnErr, sym, subst, inl, inr}
use Rattle.std.specs.Io.KnownBytes.{Appends}
use Rattle.std.proofs.KnownBytes.{Appends-trans}
use Rattle.std.proofs.Math.Seq.{take-length}
use Rattle.stream_io.specs.Stream.{AppendsFront}
use Rattle.adb_model.specs.State.{Stored, State}
use Rattle.adb_model.specs.Opened.{opened}
use Rattle.dir_io.specs.Files.{Files}
use Rattle.book_parts.specs.Parts.{Parts}
use Rattle.snap_open.specs.Opening.{OpenedFrom}
use Rattle.script.specs.Said.{default_budget, open_line}
use Rattle.adb.specs.Opening.{AreAnswers, line_of, ListedAll, ListedFront, ListsAll, ListsFront}
use Rattle.adb.proofs.Listed.{front_after}

module _ (m : State) (name : List ℕ) (slot max_root : ℕ) (at : max_root ≡ slot) (a b c : Option (List ℕ)) (line : List ℕ) (is : line ≡ open_line name slot) (first : Appends a b line) where
  opens : Appends a b (open_line name slot)
  opens = subst (λ (l : List ℕ). Appends a b l) is first

  -- after its first line
  pub line_taken : ListedFront m name slot a b
  line_taken = inl (length (open_line name slot), subst (λ (l : List ℕ). Appends a b l) (sym (take-length (open_line name slot))) opens)

  pub all_taken : {X E : Type 0} (r : Result X E) → OnOk r ((found : List Stored) × AreAnswers m max_root found × Appends b c (flat_map line_of found)) → OnOk r (ListedAll m name slot a c)
  all_taken (Ok x) w = (w.0, subst (λ (s : ℕ). AreAnswers m s w.0) at w.1, Appends-trans a b c _ _ opens w.2)
  all_taken (Err e) w = tt

  pub front_taken : {X E : Type 0} (r : Result X E) → OnErr r ((found : List Stored) × AreAnswers m max_root found × AppendsFront b c (flat_map line_of found))
      → OnErr r (ListedFront m name slot a c)
  front_taken (Ok x) w = tt
  front_taken (Err e) w = inr (w.0, subst (λ (s : ℕ). AreAnswers m s w.0) at w.1, front_after a b c _ _ opens w.2)

-- what holds where there is an error holds of this one
pub of_err : {X E P : Type 0} (r : Result X E) (e : E) → r ≡ Err e → OnErr r P → P
of_err {P = P} r e is p = subst (λ (x : Result _ _). OnErr x P) is p

module _ (files : Option Files) (a b : Option (List ℕ)) (name : List ℕ) (book : Parts) (slot : ℕ) (from : OpenedFrom default_budget name files (book, slot)) where
  pub lists_all : ListedAll (opened default_budget slot from.images from.more) name slot a b → ListsAll files a b name
  lists_all w = record { opened = record { slot = slot; images = from.images; more = from.more }; from = from.holds; is = w }

  pub lists_front : ListedFront (opened default_budget slot from.images from.more) name slot a b → ListsFront files a b name
  lists_front w = record { opened = record { slot = slot; images = from.images; more = from.more }; from = from.holds; is = w }
