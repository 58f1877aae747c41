-- The line that ends a run.
use Rattle.std.proofs.Common.{◌≡◌, ◌⊎◌, ℕ, ◌≤◌, eqb, true, false, List, [], ◌++◌, length, take, Option, Result, Ok, Err, OnOk, OnErr, refl, sym, ap, ◌∙◌, subst, append_assoc, inl, inr, arith}
use Rattle.std.specs.Prelude.{string_bytes}
use Rattle.std.specs.Io.KnownBytes.{Appends}
use Rattle.std.proofs.KnownBytes.{Appends-trans}
use Rattle.std.proofs.Math.Seq.{take-length}
use Rattle.std.proofs.lemmas.Bool.{true≢false, eq-eqb}
use Rattle.stream_io.specs.Stream.{Rose, HasCause, AppendsFront}
use Rattle.stream_io.specs.declared.fault.Failed.{Failed}
use Rattle.dir_io.specs.Files.{Files}
use Rattle.script.specs.Said.{Said, budget_line}
use Rattle.replay.specs.declared.stops.Stop.TheVariants as stops
use Rattle.replay.specs.declared.stops.Halt.{Halt}
use Rattle.replay.specs.declared.stops.Halt.TheVariants as halts
use Rattle.replay.specs.Journaled.{EndsWith, PlayedAll, CutShort, DirectoryFailed, SnapshotRefused, directory_fault_line, exists_line, not_opened_line, journal_upto}
use Rattle.replay.specs.Ending.{status_of, EndsHalted, HaltCause, HaltsLines, HaltsHeader, EndsBy}

-- a run that was halted was not done
pub not_done : (halt : Halt) → status_of halt ≡ 0 → ⊥
not_done (halts.Cut stops.NoMemory) zero = omega (arith, zero)
not_done (halts.Cut stops.SinkFault) zero = omega (arith, zero)
not_done halts.DirFault zero = omega (arith, zero)
not_done (halts.Refused line) zero = omega (arith, zero)

-- what a write of the whole line leaves
pub line_ends : (r : Result (Unit {0}) Failed) (a b : Option (List ℕ)) (k k' : ℕ) (line : List ℕ)
    → OnOk r (Appends a b line) → OnErr r (AppendsFront a b line) → HasCause k k' r → EndsWith a b k k' [] line
line_ends (Ok u) a b k k' line ok err cause = record { front = (length line, subst (λ (l : List ℕ). Appends a b l) (sym (take-length line)) ok); whole = λ _. ok }
line_ends (Err e) a b k k' line ok err cause = record { front = err; whole = λ no. absurd (no cause.failed) }

-- a last line after what the sink took before
ends_after : (a b c : Option (List ℕ)) (k k1 k' : ℕ) (bytes line : List ℕ) → k1 ≡ k → Appends a b bytes → EndsWith b c k1 k' [] line → EndsWith a c k k' bytes line
ends_after a b c k k1 k' bytes line same before ends = record {
  front = (ends.front.0, Appends-trans a b c bytes (take ends.front.0 line) before ends.front.1);
  whole = λ no. Appends-trans a b c bytes line before (ends.whole (λ rose. no (subst (λ (n : ℕ). Rose n k') same rose)));
}

ends_as : (a b : Option (List ℕ)) (k k' : ℕ) (bytes line other : List ℕ) → line ≡ other → EndsWith a b k k' bytes line → EndsWith a b k k' bytes other
ends_as a b k k' bytes line other same ends = subst (λ (l : List ℕ). EndsWith a b k k' bytes l) same ends

-- ---- each status

apart : {X : Type 0} (m n : ℕ) → eqb m n ≡ false → m ≡ n → X
apart m n f e = absurd (true≢false (sym (eq-eqb m n e) ∙ f))

module _ (f h : Option Files) (a c : Option (List ℕ)) (k k' d d' : ℕ) (said : Said) where
  abbrev By : ℕ → Type 0
  By status = EndsBy f h a c k k' d d' said status

  pub by_end : PlayedAll f h a c said → k' ≡ k → d' ≡ d → By 0
  by_end all same still = record {
    which = inl refl;
    done = λ e. all;
    cut = λ e. elim e [ inl x ↦ apart 0 4 refl x | inr x ↦ apart 0 6 refl x ];
    failed = λ e. apart 0 5 refl e;
    refused = λ e. apart 0 7 refl e;
    sink_later = omega (arith, same);
    sink_kept = λ e. same;
    sink_fault = λ e. apart 0 4 refl e;
    dir_later = omega (arith, still);
    dir_kept = λ e. still;
    dir_fault = λ e. apart 0 5 refl e;
  }

  pub by_sink : CutShort f h a c said → k ≤ k' → Rose k k' → d ≤ d' → By 4
  by_sink cut later rose dir_later = record {
    which = inr (inl refl);
    done = λ e. apart 4 0 refl e;
    cut = λ e. cut;
    failed = λ e. apart 4 5 refl e;
    refused = λ e. apart 4 7 refl e;
    sink_later = later;
    sink_kept = λ e. elim e [ inl x ↦ apart 4 0 refl x | inr x ↦ apart 4 6 refl x ];
    sink_fault = λ e. rose;
    dir_later = dir_later;
    dir_kept = λ e. elim e [ inl x ↦ apart 4 0 refl x | inr x ↦ apart 4 7 refl x ];
    dir_fault = λ e. apart 4 5 refl e;
  }

  pub by_directory : DirectoryFailed f h a c k k' said → k ≤ k' → d ≤ d' → Rose d d' → By 5
  by_directory failed later dir_later rose = record {
    which = inr (inr (inl refl));
    done = λ e. apart 5 0 refl e;
    cut = λ e. elim e [ inl x ↦ apart 5 4 refl x | inr x ↦ apart 5 6 refl x ];
    failed = λ e. failed;
    refused = λ e. apart 5 7 refl e;
    sink_later = later;
    sink_kept = λ e. elim e [ inl x ↦ apart 5 0 refl x | inr x ↦ apart 5 6 refl x ];
    sink_fault = λ e. apart 5 4 refl e;
    dir_later = dir_later;
    dir_kept = λ e. elim e [ inl x ↦ apart 5 0 refl x | inr x ↦ apart 5 7 refl x ];
    dir_fault = λ e. rose;
  }

  pub by_memory : CutShort f h a c said → k' ≡ k → d ≤ d' → By 6
  by_memory cut same dir_later = record {
    which = inr (inr (inr (inl refl)));
    done = λ e. apart 6 0 refl e;
    cut = λ e. cut;
    failed = λ e. apart 6 5 refl e;
    refused = λ e. apart 6 7 refl e;
    sink_later = omega (arith, same);
    sink_kept = λ e. same;
    sink_fault = λ e. apart 6 4 refl e;
    dir_later = dir_later;
    dir_kept = λ e. elim e [ inl x ↦ apart 6 0 refl x | inr x ↦ apart 6 7 refl x ];
    dir_fault = λ e. apart 6 5 refl e;
  }

  pub by_refusal : SnapshotRefused f h a c k k' said → k ≤ k' → d' ≡ d → By 7
  by_refusal refused later still = record {
    which = inr (inr (inr (inr refl)));
    done = λ e. apart 7 0 refl e;
    cut = λ e. elim e [ inl x ↦ apart 7 4 refl x | inr x ↦ apart 7 6 refl x ];
    failed = λ e. apart 7 5 refl e;
    refused = λ e. refused;
    sink_later = later;
    sink_kept = λ e. elim e [ inl x ↦ apart 7 0 refl x | inr x ↦ apart 7 6 refl x ];
    sink_fault = λ e. apart 7 4 refl e;
    dir_later = omega (arith, still);
    dir_kept = λ e. still;
    dir_fault = λ e. apart 7 5 refl e;
  }

-- ---- a run that was halted

module _ (f h : Option Files) (a b c : Option (List ℕ)) (k k1 k' d d' : ℕ) (said : Said) (earlier : k ≤ k1) (later : k1 ≤ k') (dir_later : d ≤ d') where
  cut_still : CutShort f h a b said → c ≡ b → CutShort f h a c said
  cut_still cut same = subst (λ (t : Option (List ℕ)). CutShort f h a t said) (sym same) cut

  pub lines_halted : (halt : Halt) → HaltsLines f h a b said halt → HaltCause k k1 d d' halt → EndsHalted b c k1 k' halt → EndsBy f h a c k k' d d' said (status_of halt)
  lines_halted (halts.Cut stops.NoMemory) why cause ends = by_memory f h a c k k' d d' said (cut_still (inr why) ends.0) (ends.1 ∙ cause) dir_later
  lines_halted (halts.Cut stops.SinkFault) why cause ends =
      by_sink f h a c k k' d d' said (cut_still (inr why) ends.0) (omega (arith, earlier, later)) (subst (λ (n : ℕ). Rose k n) (sym ends.1) cause) dir_later
  lines_halted halts.DirFault why cause ends =
      by_directory f h a c k k' d d' said
      (inl (record { name = why.0; unwritten = why.1; ends = ends_after a b c k k1 k' (journal_upto why.1) directory_fault_line cause.0 why.2 ends }))
      (omega (arith, earlier, later)) dir_later cause.1
  lines_halted (halts.Refused line) why cause ends =
      by_refusal f h a c k k' d d' said
      (inl (record {
        name = why.0;
        unwritten = why.1;
        exists = why.4;
        others = why.5;
        ends = ends_as a c k k' (journal_upto why.1) (string_bytes line) (exists_line why.0) why.3 (ends_after a b c k k1 k' (journal_upto why.1) (string_bytes line) cause.0 why.2 ends);
      }))
      (omega (arith, earlier, later)) cause.1

  pub header_halted : (halt : Halt) → HaltsHeader f h a b said halt → HaltCause k k1 d d' halt → EndsHalted b c k1 k' halt → EndsBy f h a c k k' d d' said (status_of halt)
  header_halted (halts.Cut stops.NoMemory) why cause ends = by_memory f h a c k k' d d' said (cut_still why ends.0) (ends.1 ∙ cause) dir_later
  header_halted (halts.Cut stops.SinkFault) why cause ends =
      by_sink f h a c k k' d d' said (cut_still why ends.0) (omega (arith, earlier, later)) (subst (λ (n : ℕ). Rose k n) (sym ends.1) cause) dir_later
  header_halted halts.DirFault why cause ends =
      by_directory f h a c k k' d d' said
      (inr (record { name = why.0; unopened = why.1; ends = ends_after a b c k k1 k' (budget_line said.budget) directory_fault_line cause.0 why.2 ends }))
      (omega (arith, earlier, later)) dir_later cause.1
  header_halted (halts.Refused line) why cause ends =
      by_refusal f h a c k k' d d' said
      (inr (record {
        name = why.0;
        fault = why.1;
        refusal = why.5;
        unopened = why.2;
        ends = ends_as a c k k' (budget_line said.budget) (string_bytes line) (not_opened_line why.0 why.1) why.4 (ends_after a b c k k1 k' (budget_line said.budget) (string_bytes line) cause.0 why.3 ends);
      }))
      (omega (arith, earlier, later)) cause.1
