-- A flush after a run.
use Rattle.std.proofs.Common.{ℕ, ◌≤◌, List, [], length, Option, Some, None, sym, subst, inl, inr, arith}
use Rattle.std.specs.Io.KnownBytes.{Appends, Keeps}
use Rattle.std.proofs.KnownBytes.{Appends-kept, Keeps-trans}
use Rattle.std.proofs.lemmas.List.{append-nil}
use Rattle.std.proofs.Math.Seq.{take-length}
use Rattle.stream_io.specs.Stream.{Rose, AppendsFront}
use Rattle.dir_io.specs.Files.{Files}
use Rattle.script.specs.Said.{Said, Line}
use Rattle.replay.specs.Journaled.{EndsWith, PlayedAll, PlayedInPart, CutShort, DirectoryFailed, SnapshotRefused, journal_from}
use Rattle.adb.specs.declared.ending.End.{End}
use Rattle.adb.specs.declared.ending.End.TheVariants as ends
use Rattle.adb.specs.Opening.{ListsAll, ListsFront, listing}
use Rattle.adb.specs.Run.{Command, Replay, Open, GaveScript, IsDone, IsCut, IsLost, IsSnapRefused, Ended}

rose_later : (k k1 k2 : ℕ) → k1 ≤ k2 → Rose k k1 → Rose k k2
rose_later k k1 k2 le h = omega arith

-- ---- what a sink took stays taken

module _ (a b c : Option (List ℕ)) (k k1 k2 : ℕ) (keep : Keeps b c) (later : k1 ≤ k2) where
  ends_kept : (bytes line : List ℕ) → EndsWith a b k k1 bytes line → EndsWith a c k k2 bytes line
  ends_kept bytes line h = record {
    front = (h.front.0, Appends-kept a b c _ h.front.1 keep);
    whole = λ no. Appends-kept a b c _ (h.whole (λ rose. no (rose_later k k1 k2 later rose))) keep;
  }

  front_kept : (bytes : List ℕ) → AppendsFront a b bytes → AppendsFront a c bytes
  front_kept bytes h = (h.0, Appends-kept a b c _ h.1 keep)

  module _ (f h : Option Files) (said : Said) where
    all_kept : PlayedAll f h a b said → PlayedAll f h a c said
    all_kept p = record { run = p.run; whole = Appends-kept a b c _ p.whole keep; saves = p.saves; others = p.others }

    part_kept : (lines : List Line) → PlayedInPart f h a b (record said { lines = lines }) → PlayedInPart f h a c (record said { lines = lines })
    part_kept lines p = record { run = p.run; front = front_kept _ p.front; others = p.others }

    cut_kept : CutShort f h a b said → CutShort f h a c said
    cut_kept (inl p) = inl (record { front = front_kept _ p.front; kept = p.kept })
    cut_kept (inr p) = inr (record { first = p.first; rest = p.rest; split = p.split; part = part_kept p.first p.part })

    failed_kept : DirectoryFailed f h a b k k1 said → DirectoryFailed f h a c k k2 said
    failed_kept (inl p) = inl (record { name = p.name; unwritten = p.unwritten; ends = ends_kept _ _ p.ends })
    failed_kept (inr p) = inr (record { name = p.name; unopened = p.unopened; ends = ends_kept _ _ p.ends })

    refused_kept : SnapshotRefused f h a b k k1 said → SnapshotRefused f h a c k k2 said
    refused_kept (inl p) = inl (record { name = p.name; unwritten = p.unwritten; exists = p.exists; others = p.others; ends = ends_kept _ _ p.ends })
    refused_kept (inr p) = inr (record { name = p.name; fault = p.fault; refusal = p.refusal; unopened = p.unopened; ends = ends_kept _ _ p.ends })

    -- a journal that was taken whole was taken in part
    all_cut : PlayedAll f h a b said → CutShort f h a c said
    all_cut p =
        let journal = journal_from said p.run.opened p.run.history in
        inr (record {
          first = said.lines;
          rest = [];
          split = sym (append-nil said.lines);
          part = record {
            run = p.run;
            front = (length journal, subst (λ (l : List ℕ). Appends a c l) (sym (take-length journal)) (Appends-kept a b c journal p.whole keep));
            others = p.others;
          };
        })

  script_kept : (left left' : Option (List ℕ)) (P Q : Said → Type 0) → ((said : Said) → P said → Q said) → GaveScript left left' P → GaveScript left left' Q
  script_kept left left' P Q f h = record { bytes = h.bytes; read = h.read; said = h.said; script = h.script; is = f h.said h.is }

  listed_kept : (files : Option Files) (name : List ℕ) → ListsAll files a b name → ListsAll files a c name
  listed_kept files name x = record { opened = x.opened; from = x.from; is = (x.is.0, x.is.1, Appends-kept a b c _ x.is.2 keep) }

  listing_kept : (files : Option Files) (name : List ℕ) → ListsFront files a b name → ListsFront files a c name
  listing_kept files name x = record {
    opened = x.opened;
    from = x.from;
    is = elim x.is [ inl y ↦ inl (front_kept _ y) | inr y ↦ inr (y.0, y.1, front_kept _ y.2) ];
  }

  -- a listing that was taken whole was taken in part
  listed_cut : (files : Option Files) (name : List ℕ) → ListsAll files a b name → ListsFront files a c name
  listed_cut files name x =
      let text = listing name x.opened.slot x.is.0 in
      record {
        opened = x.opened;
        from = x.from;
        is = inr (x.is.0, x.is.1, (length text, subst (λ (l : List ℕ). Appends a c l) (sym (take-length text)) (Appends-kept a b c text x.is.2 keep)));
      }

  module _ (left left' : Option (List ℕ)) (f h : Option Files) where
    done_kept : (command : Option Command) → IsDone command left left' f h a b → IsDone command left left' f h a c
    done_kept None x = absurd x
    done_kept (Some Replay) x = script_kept left left' _ _ (all_kept f h) x
    done_kept (Some (Open name)) x = listed_kept f name x

    done_cut : (command : Option Command) → IsDone command left left' f h a b → IsCut command left left' f h a c
    done_cut None x = absurd x
    done_cut (Some Replay) x = script_kept left left' _ _ (all_cut f h) x
    done_cut (Some (Open name)) x = listed_cut f name x

    front_of_kept : (command : Option Command) → IsCut command left left' f h a b → IsCut command left left' f h a c
    front_of_kept None x = absurd x
    front_of_kept (Some Replay) x = script_kept left left' _ _ (cut_kept f h) x
    front_of_kept (Some (Open name)) x = listing_kept f name x

    lost_kept : (command : Option Command) → IsLost command left left' f h a b k k1 → IsLost command left left' f h a c k k2
    lost_kept None x = absurd x
    lost_kept (Some Replay) x = script_kept left left' _ _ (failed_kept f h) x
    lost_kept (Some (Open name)) x = ends_kept _ _ x

    refusal_kept : (command : Option Command) → IsSnapRefused command left left' f h a b k k1 → IsSnapRefused command left left' f h a c k k2
    refusal_kept None x = absurd x
    refusal_kept (Some Replay) x = script_kept left left' _ _ (refused_kept f h) x
    refusal_kept (Some (Open name)) x = record { fault = x.fault; refusal = x.refusal; why = x.why; ends = ends_kept _ _ x.ends }

    -- whatever a flush answers, the run ended as it did
    pub flushed : (command : Option Command) (end : End) → Ended command left left' f h a b k k1 end → Ended command left left' f h a c k k2 end
    flushed command ends.Done x = (x.0, done_kept command x.1)
    flushed command ends.Usage x = (x.0, x.1, ends_kept _ _ x.2)
    flushed command ends.TooLong x = (x.0, x.1, x.2, ends_kept _ _ x.3)
    flushed command ends.Refused x = (x.0, x.1, x.2, ends_kept _ _ x.3)
    flushed command ends.ReadFault x = (x.0, x.1, ends_kept _ _ x.2)
    flushed command ends.SinkFault x = (x.0, front_of_kept command x.1)
    flushed command ends.DirFault x = (x.0, lost_kept command x.1)
    flushed command ends.NoMemory x = (x.0, elim x.1 [ inl y ↦ inl (Keeps-trans a b c y.0 keep, y.1) | inr y ↦ inr (front_of_kept command y) ])
    flushed command ends.SnapRefused x = (x.0, refusal_kept command x.1)

    -- one that fails makes a run that was done a fault of the sink
    pub flush_failed : (command : Option Command) → Ended command left left' f h a b k k1 ends.Done → Ended command left left' f h a c k k2 ends.SinkFault
    flush_failed command x = (x.0, done_cut command x.1)
