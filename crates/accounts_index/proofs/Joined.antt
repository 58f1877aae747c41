-- What the bins of an index keep together of a key, and what an edit of one bin leaves.
use Rattle.std.proofs.Common.{◌≡◌, ◌≢◌, ℕ, zero, suc, ◌+◌, ◌<◌, ◌≤◌, List, [], ◌∷◌, ◌++◌, length, set, get_or, false, cond, Option, Some, None, unwrap_or, refl, sym, ap, subst, ◌∙◌, inl, inr, arith, All, length-set, get_or-set_same, get_or-set_other, length-append}
use Rattle.std.specs.Map.{lookup}
use Rattle.std.specs.Str.{bytes_eq}
use Rattle.std.proofs.lemmas.Bool.{cases_Bool}
use Rattle.std.proofs.lemmas.List.{get_or_default, set-get_or}
use Rattle.std.proofs.lemmas.List.Elements.{All-set, All-append}
use Rattle.accounts_index.specs.Bins.{bin_of, joined, AreUsed, HasNumber, AreBins}
use Rattle.accounts_index.specs.Index.{Kept, Index, kept, nothing, IsWith, IsOrdered}
use Rattle.accounts_index.proofs.Keys.{same_bytes, bytes_eq-self, at_or_apart}

abbrev look : Index → List ℕ → Option Kept
look index q = lookup (λ k. bytes_eq k q) index

or_else : Option Kept → Option Kept → Option Kept
or_else None other = other
or_else (Some k) other = Some k

look-append : (xs ys : Index) (q : List ℕ) → look (xs ++ ys) q ≡ or_else (look xs q) (look ys q)
unfolding or_else
look-append [] ys q = refl
look-append (x ∷ xs) ys q = elim (cases_Bool (bytes_eq x.0 q)) [
  | inl same ↦ rw same refl
  | inr differs ↦ rw differs (look-append xs ys q)
]

-- the key is not in a bin of another number
look_other : (bin : Index) (number : ℕ) (q : List ℕ) → HasNumber number bin → bin_of q ≢ number → look bin q ≡ None
look_other [] number q has apart = refl
look_other (x ∷ xs) number q has apart = elim (cases_Bool (bytes_eq x.0 q)) [
  | inl same ↦ absurd (apart (ap bin_of (sym (same_bytes x.0 q same)) ∙ has 0 x (omega arith)))
  | inr differs ↦ rw differs (look_other xs number q (λ k d lt. has (suc k) d (omega arith)) apart)
]

-- bins that are numbered from first on
abbrev pub From : ℕ → List Index → Type 0
From first bins = (k : ℕ) (d : Index) → k < length bins → HasNumber (first + k) (get_or bins k d)

pub next_from : (first : ℕ) (bin : Index) (bins : List Index) → From first (bin ∷ bins) → From (suc first) bins
next_from first bin bins numbered k d lt =
    let e : first + suc k ≡ suc first + k = omega arith in subst (λ n. HasNumber n (get_or bins k d)) e (numbered (suc k) d (omega arith))

pub here_from : (first : ℕ) (bin : Index) (bins : List Index) → From first (bin ∷ bins) → HasNumber first bin
here_from first bin bins numbered = let e : first + 0 ≡ first = omega arith in subst (λ n. HasNumber n bin) e (numbered 0 bin (omega arith))

-- a key of an earlier bin is in none of them
look_before : (first : ℕ) (bins : List Index) (q : List ℕ) → From first bins → bin_of q < first → look (joined bins) q ≡ None
unfolding or_else
look_before first [] q numbered lt = refl
look_before first (bin ∷ bins) q numbered lt =
    look-append bin (joined bins) q
    ∙ ap (λ o. or_else o (look (joined bins) q)) (look_other bin first q (here_from first bin bins numbered) (λ e. omega arith))
    ∙ look_before (suc first) bins q (next_from first bin bins numbered) (omega arith)

or_none : (o : Option Kept) → or_else o None ≡ o
unfolding or_else
or_none None = refl
or_none (Some k) = refl

look_joined : (first : ℕ) (bins : List Index) (q : List ℕ) (k : ℕ) → From first bins → bin_of q ≡ first + k → look (joined bins) q ≡ look (get_or bins k []) q
unfolding or_else
look_joined first [] q k numbered is = refl
look_joined first (bin ∷ bins) q zero numbered is =
    look-append bin (joined bins) q
    ∙ ap (or_else (look bin q)) (look_before (suc first) bins q (next_from first bin bins numbered) (omega arith))
    ∙ or_none (look bin q)
look_joined first (bin ∷ bins) q (suc k) numbered is =
    look-append bin (joined bins) q
    ∙ ap (λ o. or_else o (look (joined bins) q)) (look_other bin first q (here_from first bin bins numbered) (λ e. omega arith))
    ∙ look_joined (suc first) bins q k (next_from first bin bins numbered) (omega arith)

not_same : (a b : List ℕ) → a ≢ b → bytes_eq a b ≡ false
not_same a b apart = elim (cases_Bool (bytes_eq a b)) [ inl same ↦ absurd (apart (same_bytes a b same)) | inr differs ↦ differs ]

pub numbered_from : (bins : List Index) → AreBins bins → From 0 bins
numbered_from bins all k d lt = let e : k ≡ 0 + k = omega arith in subst (λ n. HasNumber n (get_or bins k d)) e (all.numbered k d lt)

-- of a key the bins keep together what its bin keeps
kept_joined : (bins : List Index) (q : List ℕ) → From 0 bins → kept (joined bins) q ≡ kept (get_or bins (bin_of q) []) q
kept_joined bins q numbered = ap (λ o. unwrap_or o nothing) (look_joined 0 bins q (bin_of q) numbered (omega arith))

-- something is kept of a key that stands in a bin
kept_used : (bin : Index) → AreUsed bin → (k : ℕ) (d : List ℕ × Kept) → k < length bin → kept bin (get_or bin k d).0 ≢ nothing
kept_used [] used k d lt is = absurd (omega arith)
kept_used (x ∷ bin) used zero d lt is = used 0 x (omega arith) (rw (bytes_eq-self x.0) at is)
kept_used (x ∷ bin) used (suc k) d lt is = elim (cases_Bool (bytes_eq x.0 (get_or bin k d).0)) [
  | inl same ↦ used 0 x (omega arith) (rw same at is)
  | inr differs ↦ kept_used bin (λ k d lt. used (suc k) d (omega arith)) k d (omega arith) (rw differs at is)
]

length-piece : (bins : List Index) (k : ℕ) (d : Index) → k < length bins → length (get_or bins k d) ≤ length (joined bins)
length-piece [] k d lt = absurd (omega arith)
length-piece (b ∷ bins) zero d lt = omega (arith, length-append b (joined bins))
length-piece (b ∷ bins) (suc k) d lt = omega (arith, length-append b (joined bins), length-piece bins k d (omega arith))

-- the bin of a key, as it is read
module _ (index : Index) (bins : List Index) (view : joined bins ≡ index) (all : AreBins bins) (key : List ℕ) (number : ℕ) (is : number ≡ bin_of key) (within : number < 81920) (bin : Index) (read : bin ≡ get_or bins number bin) where
  in_range : number < length bins
  in_range = omega (arith, all.every_number)

  bin_is : (d : Index) → get_or bins number d ≡ bin
  bin_is d = get_or_default bins number d bin in_range ∙ sym read

  kept_bin : (q : List ℕ) → bin_of q ≡ number → kept index q ≡ kept bin q
  kept_bin q here =
      sym (ap (λ i. kept i q) view) ∙ kept_joined bins q (numbered_from bins all)
      ∙ ap (λ b. kept b q) (ap (λ n. get_or bins n []) here ∙ bin_is [])

  -- the bin keeps of the key what the index keeps
  pub kept_here : kept index key ≡ kept bin key
  kept_here = kept_bin key (sym is)

  pub no_longer : length bin ≤ length index
  no_longer = subst (λ i. length bin ≤ length i) view (subst (λ b. length b ≤ length (joined bins)) (bin_is bin) (length-piece bins number bin in_range))

  has_number : HasNumber number bin
  has_number = subst (HasNumber number) (bin_is bin) (all.numbered number bin in_range)

  -- an edit of the bin
  module _ (new : Index) (used : AreUsed new) (ordered : IsOrdered new) where
    AreBins-number : HasNumber number new → AreBins (set bins number new)
    AreBins-number has = record {
      every_number = length-set bins number new ∙ all.every_number;
      numbered = λ k d lt. at_or_apart k number
          (λ here. rw here (subst (HasNumber number) (sym (get_or-set_same bins number new d in_range)) has))
          (λ apart. subst (HasNumber k) (sym (get_or-set_other bins number k new d apart)) (all.numbered k d (omega (arith, length-set bins number new))));
      used = All-set AreUsed bins number new used all.used;
      ordered = All-set IsOrdered bins number new ordered all.ordered;
    }

    pub AreBins-same : new ≡ bin → AreBins (set bins number new)
    AreBins-same same = AreBins-number (subst (HasNumber number) (sym same) has_number)

    module _ (of_key : Kept) (edit : IsWith bin new key of_key) where
      other_key : (q : List ℕ) → bin_of q ≢ number → bytes_eq key q ≡ false
      other_key q apart = not_same key q (λ e. apart (ap bin_of (sym e) ∙ sym is))

      -- nothing is kept of a key of another number, so none stands in the bin
      same_number : HasNumber number new
      same_number k d lt = at_or_apart (bin_of (get_or new k d).0) number (λ same. same) (λ apart.
          let q = (get_or new k d).0 in
          absurd (kept_used new used k d lt
          (edit q ∙ ap (λ b. cond b of_key (kept bin q)) (other_key q apart) ∙ ap (λ o. unwrap_or o nothing) (look_other bin number q has_number apart))))

      pub AreBins-edit : AreBins (set bins number new)
      AreBins-edit = AreBins-number same_number

      pub IsWith-edit : IsWith index (joined (set bins number new)) key of_key
      IsWith-edit q = kept_joined (set bins number new) q (numbered_from (set bins number new) AreBins-edit) ∙ at_or_apart (bin_of q) number
          (λ here.
          ap (λ b. kept b q) (ap (λ n. get_or (set bins number new) n []) here ∙ get_or-set_same bins number new [] in_range)
          ∙ edit q ∙ ap (cond (bytes_eq key q) of_key) (sym (kept_bin q here)))
          (λ apart.
          ap (λ b. kept b q) (get_or-set_other bins number (bin_of q) new [] apart)
          ∙ sym (sym (ap (λ i. kept i q) view) ∙ kept_joined bins q (numbered_from bins all))
          ∙ sym (ap (λ b. cond b of_key (kept index q)) (other_key q apart)))

    -- and so has the whole index
    pub IsWith-joined : (change : Kept → Kept) → IsWith bin new key (change (kept bin key)) → IsWith index (joined (set bins number new)) key (change (kept index key))
    IsWith-joined change edit = subst (λ k. IsWith index (joined (set bins number new)) key (change k)) (sym kept_here) (IsWith-edit (change (kept bin key)) edit)

    pub joined-same : new ≡ bin → joined (set bins number new) ≡ index
    joined-same same = ap (λ b. joined (set bins number b)) (same ∙ read) ∙ ap joined (set-get_or bins number bin) ∙ view

-- bins without keys
pub joined_empty : (bins : List Index) → All (λ bin. bin ≡ []) bins → joined bins ≡ []
joined_empty [] empty = refl
joined_empty (bin ∷ bins) empty = rw (empty 0 bin (omega arith)) (joined_empty bins (λ k d lt. empty (suc k) d (omega arith)))

-- something is kept of each key of all bins
pub AreUsed_joined : (bins : List Index) → All AreUsed bins → AreUsed (joined bins)
AreUsed_joined [] used k d lt = absurd (omega arith)
AreUsed_joined (bin ∷ bins) used k d lt = All-append (λ e. e.1 ≢ nothing) bin (joined bins) (used 0 bin (omega arith)) (AreUsed_joined bins (λ k d lt. used (suc k) d (omega arith))) k d lt

pub AreBins_empty : (bins : List Index) → length bins ≡ 81920 → All (λ bin. bin ≡ []) bins → AreBins bins
AreBins_empty bins every empty = record {
  every_number = every;
  numbered = λ k d lt. subst (HasNumber k) (sym (empty k d lt)) (λ i e h. absurd (omega (arith, h)));
  used = λ k d lt. subst AreUsed (sym (empty k d lt)) (λ i e h. absurd (omega (arith, h)));
  ordered = λ k d lt. subst IsOrdered (sym (empty k d lt)) (λ i j e h within. absurd (omega (arith, h, within)));
}
