-- The accounts of a snapshot and their lines, by the keys that were read.
use Rattle.std.proofs.Common.{◌≡◌, ◌≢◌, ℕ, zero, suc, ◌+◌, ◌<◌, List, [], ◌∷◌, ◌++◌, length, get_or, take, drop, map, flat_map, Option, Some, None, Result, Ok, Err, OnErr, All, AllPairs, Contains, refl, sym, ap, subst, ◌∙◌, append_assoc, arith}
use Rattle.std.specs.declared.cmp.Ordering.TheVariants.{Less}
use Rattle.std.proofs.lemmas.List.{append-nil}
use Rattle.std.proofs.lemmas.Grind.{flat_map-append}
use Rattle.std.proofs.lemmas.List.Elements.{All-append, Contains-append_right}
use Rattle.std.proofs.lemmas.List.Kept.{AllPairs-cons}
use Rattle.std.specs.Io.KnownBytes.{Appends}
use Rattle.std.proofs.Math.Seq.{take-append-add}
use Rattle.std.proofs.KnownBytes.{Appends-trans}
use Rattle.stream_io.specs.Stream.{AppendsFront}
use Rattle.adb_model.specs.declared.key.Key.{Key}
use Rattle.adb_model.specs.View.{View}
use Rattle.adb_model.specs.State.{Stored, State}
use Rattle.adb_model.specs.Load.{answer}
use Rattle.adb_model.specs.Laws.{at_root}
use Rattle.adb_model.specs.Reclaimable.{key_cmp}
use Rattle.book.specs.declared.loading.Answer.{Answer}
use Rattle.book.specs.Listing.{HaveAnswers}
use Rattle.adb.specs.Opening.{AreAnswers, line_of, answer_line, read_line}
use Rattle.adb.proofs.AnswerKeys.{answer_key}

-- ---- the answers of some keys

abbrev pub listed_one : Option Stored → List Stored
listed_one None = []
listed_one (Some t) = t ∷ []

no_pairs : {X : Type 0} (R : X → X → Type 0) → AllPairs R []
no_pairs R i j d lt within = let h : j < 0 = within in absurd (omega (arith, h))

none_of : {X : Type 0} (P : X → Type 0) → All P []
none_of P k d within = let h : k < 0 = within in absurd (omega (arith, h))

one_of : {X : Type 0} (P : X → Type 0) (x : X) → P x → All P (x ∷ [])
one_of P x p zero d within = p
one_of P x p (suc k) d within = let h : suc k < 1 = within in absurd (omega (arith, h))

later_ones : {X : Type 0} (R : X → X → Type 0) (x : X) (xs : List X) → AllPairs R (x ∷ xs) → AllPairs R xs
later_ones R x xs pairs i j d lt within = pairs (suc i) (suc j) d (omega (arith, lt)) (omega (arith, within))

after_first : {X : Type 0} (R : X → X → Type 0) (x : X) (xs : List X) → AllPairs R (x ∷ xs) → All (R x) xs
after_first R x xs pairs k d within = pairs 0 (suc k) d (omega arith) (omega (arith, within))

module _ (m : State) (v : View) where
  -- the answers of those that have one
  pub listed : List (List ℕ) → List Stored
  listed keys = flat_map (λ k. listed_one (answer m v k)) keys

  -- the lines of these answers
  pub lines_of : List (List ℕ) → List ℕ
  lines_of keys = flat_map (λ k. answer_line (answer m v k)) keys

  -- what holds of the answers of each key holds of all of them
  all_listed : (P : Stored → Type 0) (keys : List (List ℕ)) → All (λ k. (t : Stored) → answer m v k ≡ Some t → P t) keys → All P (listed keys)
  unfolding listed
  all_listed P [] each = none_of P
  all_listed P (key ∷ keys) each = All-append P (listed_one (answer m v key)) (listed keys) (here (answer m v key) refl) (all_listed P keys (λ k d within. each (suc k) d (omega (arith, within))))
    where
      here : (o : Option Stored) → answer m v key ≡ o → All P (listed_one o)
      here None is = none_of P
      here (Some t) is = one_of P t (each 0 key (omega arith) t is)

  each_listed : (keys : List (List ℕ)) → All (λ t. answer m v t.key ≡ Some t) (listed keys)
  each_listed keys = all_listed (λ t. answer m v t.key ≡ Some t) keys (λ k d within t is. ap (answer m v) (answer_key m v (get_or keys k d) t is) ∙ is)

  listed_rise : (keys : List (List ℕ)) → AllPairs (λ a b. key_cmp a b ≡ Less) keys → AllPairs (λ t u. key_cmp t.key u.key ≡ Less) (listed keys)
  unfolding listed
  listed_rise [] rise = no_pairs (λ t u. key_cmp t.key u.key ≡ Less)
  listed_rise (key ∷ keys) rise = here (answer m v key) refl (listed_rise keys (later_ones (λ a b. key_cmp a b ≡ Less) key keys rise))
    where
      above : (t : Stored) → answer m v key ≡ Some t → All (λ u. key_cmp t.key u.key ≡ Less) (listed keys)
      above t is = all_listed (λ u. key_cmp t.key u.key ≡ Less) keys (λ k d within u at.
          subst (λ (q : List ℕ). key_cmp q u.key ≡ Less) (sym (answer_key m v key t is))
          (subst (λ (q : List ℕ). key_cmp key q ≡ Less) (sym (answer_key m v (get_or keys k d) u at))
          (after_first (λ a b. key_cmp a b ≡ Less) key keys rise k d within)))

      here : (o : Option Stored) → answer m v key ≡ o → AllPairs (λ t u. key_cmp t.key u.key ≡ Less) (listed keys)
          → AllPairs (λ t u. key_cmp t.key u.key ≡ Less) (listed_one o ++ listed keys)
      here None is rest = rest
      here (Some t) is rest = AllPairs-cons (λ t u. key_cmp t.key u.key ≡ Less) t (listed keys) (above t is) rest

  in_listed : (keys : List (List ℕ)) (key : List ℕ) (t : Stored) → answer m v key ≡ Some t → Contains keys key → Contains (listed keys) t
  unfolding listed
  in_listed [] key t is (k, within, same) = let h : k < 0 = within in absurd (omega (arith, h))
  in_listed (first ∷ keys) key t is (zero, within, same) =
      let own : listed_one (answer m v first) ≡ t ∷ [] = ap (λ k. listed_one (answer m v k)) same ∙ ap listed_one is in
      subst (λ (l : List Stored). Contains (l ++ listed keys) t) (sym own) (0, omega arith, refl)
  in_listed (first ∷ keys) key t is (suc k, within, same) = Contains-append_right (listed_one (answer m v first)) (listed keys) t (in_listed keys key t is (k, omega (arith, within), same))

  lines_listed : (keys : List (List ℕ)) → flat_map line_of (listed keys) ≡ lines_of keys
  unfolding listed lines_of
  lines_listed [] = refl
  lines_listed (key ∷ keys) =
      flat_map-append line_of (listed_one (answer m v key)) (listed keys)
      ∙ ap (λ l. l ++ flat_map line_of (listed keys)) (here (answer m v key)) ∙ ap (λ l. answer_line (answer m v key) ++ l) (lines_listed keys)
    where
      here : (o : Option Stored) → flat_map line_of (listed_one o) ≡ answer_line o
      here None = refl
      here (Some t) = append-nil (line_of t)

  pub no_lines : lines_of [] ≡ []
  unfolding lines_of
  no_lines = refl

  pub lines_more : (keys more : List (List ℕ)) → lines_of (keys ++ more) ≡ lines_of keys ++ lines_of more
  unfolding lines_of
  lines_more keys more = flat_map-append (λ k. answer_line (answer m v k)) keys more

  -- the lines of a batch are those of its keys
  pub batch_lines : (batch : List (Key × Option Answer)) → HaveAnswers m v batch → flat_map read_line batch ≡ lines_of (map (λ r. r.0.0) batch)
  unfolding lines_of
  batch_lines [] have = refl
  batch_lines (read ∷ batch) have =
      ap (λ o. answer_line o ++ flat_map read_line batch) (have 0 read (omega arith))
      ∙ ap (λ l. answer_line (answer m v read.0.0) ++ l) (batch_lines batch (λ k d within. have (suc k) d (omega (arith, within))))

  -- keys that rise, and among which each key with an answer is, have all the answers
  module _ (keys : List (List ℕ)) (rise : AllPairs (λ a b. key_cmp a b ≡ Less) keys) (every : (key : List ℕ) → answer m v key ≢ None → Contains keys key) where
    are_listed : (slot : ℕ) → v ≡ at_root slot → AreAnswers m slot (listed keys)
    are_listed slot is = record {
      rise = listed_rise keys rise;
      each = subst (λ (w : View). All (λ t. answer m w t.key ≡ Some t) (listed keys)) is (each_listed keys);
      all = λ key t at.
          let here : answer m v key ≡ Some t = ap (λ (w : View). answer m w key) is ∙ at in
          in_listed keys key t here (every key (λ none. let h : None ≡ Some t = sym none ∙ here in absurd cc));
    }

    module _ (slot : ℕ) (is : v ≡ at_root slot) (a b : Option (List ℕ)) where
      pub all_written : Appends a b (lines_of keys) → (found : List Stored) × AreAnswers m slot found × Appends a b (flat_map line_of found)
      all_written lines = (listed keys, are_listed slot is, subst (λ (l : List ℕ). Appends a b l) (sym (lines_listed keys)) lines)

      pub front_written : AppendsFront a b (lines_of keys) → (found : List Stored) × AreAnswers m slot found × AppendsFront a b (flat_map line_of found)
      front_written lines = (listed keys, are_listed slot is, subst (λ (l : List ℕ). AppendsFront a b l) (sym (lines_listed keys)) lines)

-- ---- what was taken of some bytes

-- what holds anyway holds where there is an error
pub on_err : {X E P : Type 0} (r : Result X E) → P → OnErr r P
on_err (Ok x) p = tt
on_err (Err e) p = p

pub front_after : (a b c : Option (List ℕ)) (x y : List ℕ) → Appends a b x → AppendsFront b c y → AppendsFront a c (x ++ y)
front_after a b c x y p q = (length x + q.0, subst (λ (l : List ℕ). Appends a c l) (sym (take-append-add x y q.0)) (Appends-trans a b c x (take q.0 y) p q.1))

-- some of the first of these bytes are so of these and more
front_more : (a b : Option (List ℕ)) (x y : List ℕ) → AppendsFront a b x → AppendsFront a b (x ++ y)
front_more a b x y p = let cut = cut_same p.0 x in (cut.0, subst (λ (l : List ℕ). Appends a b l) (sym cut.1) p.1)
  where
    cut_same : (count : ℕ) (l : List ℕ) → (d : ℕ) × (take d (l ++ y) ≡ take count l)
    cut_same zero l = (0, refl)
    cut_same (suc count) [] = (0, refl)
    cut_same (suc count) (byte ∷ l) = let rest = cut_same count l in (suc rest.0, ap (λ r. byte ∷ r) rest.1)

-- the lines of some elements, then that of the next one, and those of the rest
split_at : {X : Type 0} (f : X → List ℕ) (xs : List X) (i : ℕ) (d : X) → i < length xs → flat_map f xs ≡ flat_map f (take i xs) ++ (f (get_or xs i d) ++ flat_map f (drop (suc i) xs))
split_at f [] i d lt = absurd (omega (arith, lt))
split_at f (x ∷ xs) zero d lt = refl
split_at f (x ∷ xs) (suc i) d lt = ap (λ l. f x ++ l) (split_at f xs i d (omega (arith, lt))) ∙ sym (append_assoc (f x) (flat_map f (take i xs)) (f (get_or xs i d) ++ flat_map f (drop (suc i) xs)))

-- some of the next line after those before it
pub cut_at : {X : Type 0} (f : X → List ℕ) (xs : List X) (i : ℕ) (d : X) → i < length xs → (a b c : Option (List ℕ)) → Appends a b (flat_map f (take i xs)) → AppendsFront b c (f (get_or xs i d)) → AppendsFront a c (flat_map f xs)
cut_at f xs i d lt a b c before front =
    subst (λ (l : List ℕ). AppendsFront a c l) (sym (split_at f xs i d lt)) (front_after a b c _ _ before (front_more b c _ (flat_map f (drop (suc i) xs)) front))

-- where no key is left, all are done
pub all_done : (keys done rest : List (List ℕ)) → keys ≡ done ++ rest → length rest ≡ 0 → done ≡ keys
all_done keys done [] split none = sym (split ∙ append-nil done)
all_done keys done (key ∷ rest) split none = absurd (omega (arith, none))

-- the keys that were written, those of the batch, and the rest
module _ (m : State) (v : View) (keys written rest later : List (List ℕ)) (batch : List (Key × Option Answer)) (split : keys ≡ written ++ rest) (next : rest ≡ map (λ r. r.0.0) batch ++ later) (have : HaveAnswers m v batch) (a b c : Option (List ℕ)) (before : Appends a b (lines_of m v written)) where
  -- the batch too
  pub batch_written : Appends b c (flat_map read_line batch) → Appends a c (lines_of m v (written ++ map (λ r. r.0.0) batch))
  batch_written lines =
      subst (λ (l : List ℕ). Appends a c l) (sym (lines_more m v written (map (λ r. r.0.0) batch)))
      (Appends-trans a b c _ _ before (subst (λ (l : List ℕ). Appends b c l) (batch_lines m v batch have) lines))

  -- some of the first lines of the batch
  pub batch_cut : AppendsFront b c (flat_map read_line batch) → AppendsFront a c (lines_of m v keys)
  batch_cut front =
      let of_batch = subst (λ (l : List ℕ). AppendsFront b c l) (batch_lines m v batch have) front in
      let of_rest = subst (λ (l : List ℕ). AppendsFront b c l) (sym (ap (lines_of m v) next ∙ lines_more m v (map (λ r. r.0.0) batch) later)) (front_more b c _ (lines_of m v later) of_batch) in
      subst (λ (l : List ℕ). AppendsFront a c l) (sym (ap (lines_of m v) split ∙ lines_more m v written rest)) (front_after a b c _ _ before of_rest)
