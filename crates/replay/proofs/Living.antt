-- What was written of the storages in use holds them.
use Rattle.std.proofs.Common.{◌≡◌, ℕ, ◌<◌, ◌≤◌, true, false, cond, not, ltb, IsTrue, List, [], ◌∷◌, length, map, filter, All, Any, Option, Some, None, Result, Ok, Err, refl, sym, ap, ◌∙◌, subst, arith}
use Rattle.std.specs.Prelude.{IfSome, IsSomeAnd, OnOk}
use Rattle.std.specs.List.{list_any}
use Rattle.std.specs.Str.{bytes_eq}
use Rattle.std.specs.Cmp.Lexicographic.{bytes_decides}
use Rattle.std.proofs.lemmas.Bool.{lt-ltb}
use Rattle.std.proofs.lemmas.List.Elements.{All-map, All-head, All-tail, All-weaker, All-contains}
use Rattle.adb_model.specs.View.{View}
use Rattle.adb_model.specs.State.{State, Storage, Row}
use Rattle.adb_model.specs.Storages.{bytes_of}
use Rattle.adb_model.specs.Load.{answer}
use Rattle.adb_model.specs.Lists.{among}
use Rattle.adb_model.specs.Presence.{is_live, is_named}
use Rattle.adb_model.specs.Reclaim.{has_named_row}
use Rattle.adb_model.specs.Opened as machine
use Rattle.adb_model.specs.Laws.{ShowLive, IsImageOf, IsFlushedUpto, SameRows, at_root}
use Rattle.adb_model.specs.Sound.{IsSound}
use Rattle.dir_io.specs.Files.{Files}
use Rattle.field_codec.specs.Paths.{prefix_of}
use Rattle.vec_scan.specs.Image.{Image}
use Rattle.vec_scan.specs.Shown.{shown}
use Rattle.book_parts.specs.Snaps.{Snapshot}
use Rattle.snap_write.specs.declared.fault.SnapFault.{SnapFault}
use Rattle.snap_write.specs.Changes.{AnswersNew, HasNone, LeavesOutside, StillTold}
use Rattle.snap_write.specs.Snapshot.{HoldsSnapshot}
use Rattle.snap_write.specs.Written.{has_rows, with_rows, slots_without_rows}
use Rattle.replay.specs.Saved.{HoldsLive, Writes, WhereTold}
use Rattle.replay.specs.Playing.{SavesOne}

-- ---- an image of a storage in use has rows

abbrev HasRows : machine.Image → Type 0
HasRows i = 0 < length i.rows

some_rows : (p : Row → _) (rows others : List Row) → SameRows rows others → IsTrue (list_any p others) → 0 < length rows
some_rows p (x ∷ rows) others same some = omega arith
some_rows p [] [] same some = absurd cc
some_rows p [] (x ∷ others) same some =
    let none : [] ≡ cond (bytes_eq x.key x.key) (x ∷ filter (λ r. bytes_eq r.key x.key) others) (filter (λ r. bytes_eq r.key x.key) others) = same x.key in
    let one : [] ≡ x ∷ filter (λ r. bytes_eq r.key x.key) others =
    none ∙ ap (λ b. cond b (x ∷ filter (λ r. bytes_eq r.key x.key) others) (filter (λ r. bytes_eq r.key x.key) others)) ((bytes_decides x.key x.key).1 refl) in
    absurd cc

module _ (m : State) (sound : IsSound m) (root : ℕ) where
  of_storage : (i : machine.Image) → Any (IsImageOf root i) m.storages → HasRows i
  of_storage i a =
      let t = a.1 in
      let is = a.4 in
      some_rows (λ (r : Row). is_named m t.slot r.key) i.rows t.rows is.rows
      (All-contains (λ (u : Storage). IsTrue (is_live u) → IsTrue (has_named_row m u)) m.storages t sound.names.live (a.0, a.2, a.3) is.live)

  pub all_have_rows : (images : List machine.Image) → ShowLive m root images → All HasRows images
  all_have_rows images show = All-weaker (λ i. Any (IsImageOf root i) m.storages) HasRows of_storage images show.each

with_all : (images : List machine.Image) → All HasRows images → with_rows images ≡ images
with_all [] h = refl
with_all (i ∷ images) h = rw (lt-ltb 0 (length i.rows) (All-head HasRows i images h)) (ap (λ (l : List machine.Image). i ∷ l) (with_all images (All-tail HasRows i images h)))

without_none : (images : List machine.Image) → All HasRows images → slots_without_rows images ≡ []
without_none [] h = refl
without_none (i ∷ images) h = rw (lt-ltb 0 (length i.rows) (All-head HasRows i images h)) (without_none images (All-tail HasRows i images h))

-- ---- a snapshot that was written

-- what the law of no return says of a root
abbrev pub AnswersAs : State → Type 0
AnswersAs m = (root : ℕ) → IsTrue (among root m.roots) → m.cleaned ≤ root → IsFlushedUpto m root
    → (images : List machine.Image) → ShowLive m root images → (budget : ℕ) (more : List ℕ) (k : List ℕ)
    → answer (machine.opened budget root images more) (at_root root) k ≡ answer m (at_root root) k

module _ (m : State) (sound : IsSound m) (answers : AnswersAs m) (slot : ℕ) (may : IsTrue (among slot m.roots) × (m.cleaned ≤ slot) × IsFlushedUpto m slot)
    (job : Snapshot) (of : job.slot ≡ slot) (show : ShowLive m slot (map shown job.storages)) (name : List ℕ) where
  abbrev images : List machine.Image
  images = map shown job.storages

  holds_live : (files : Files) → HoldsSnapshot files name job.slot (with_rows images) (slots_without_rows images) → HoldsLive files name slot m
  holds_live files h =
      let have = all_have_rows m sound slot images show in
      record {
        images = images;
        holds = subst (λ (more : List ℕ). HoldsSnapshot files name slot images more) (without_none images have)
            (subst (λ (is : List machine.Image). HoldsSnapshot files name slot is (slots_without_rows images)) (with_all images have)
            (subst (λ (s : ℕ). HoldsSnapshot files name s (with_rows images) (slots_without_rows images)) of h));
        live = show;
        bytes = All-map (λ (i : machine.Image). i.bytes ≡ bytes_of i.rows) shown job.storages (λ k d lt. refl);
        answers = λ budget key. answers slot may.0 may.1 may.2 images show budget [] key;
      }

  pub saves_one : (files files' : Option Files) → Writes job name files files' (Ok tt) → WhereTold files files' (SavesOne m slot name)
  saves_one None files' w = tt
  saves_one (Some old) None w = absurd w.others
  saves_one (Some old) (Some new) w = record { fresh = w.exact; stand = holds_live new w.holds; others = w.others }
