-- The bins of all groups as one list: how it is read, written and gone over from a place on.
use Rattle.std.proofs.Common.{◌≡◌, ℕ, zero, suc, ◌+◌, ◌-◌, ◌*◌, ◌/◌, ◌%◌, ◌<◌, ◌≤◌, min, List, [], ◌∷◌, ◌++◌, length, drop, set, get_or, replicate, All, refl, sym, ap, subst, ◌∙◌, inl, inr, arith, length-set, length-append}
use Rattle.std.proofs.Math.ListN.{get_or-append}
use Rattle.std.specs.List.{flat_map}
use Rattle.std.specs.declared.vec.Vec.{Vec}
use Rattle.std.proofs.lemmas.Bool.{cases_lt}
use Rattle.std.proofs.lemmas.List.{get_or-append_right, get_or-replicate, set-append_left, set-append_right, drop-append-le, drop-replicate, drop_all, length-replicate}
use Rattle.std.proofs.lemmas.List.Elements.{All-set, All-append, All-replicate}
use Rattle.std.proofs.Math.Seq.{drop-append-add}
use Rattle.accounts_index.specs.Bins.{joined, bins_in, all_bins, AreBins, AreGroups}
use Rattle.accounts_index.specs.Index.{Index}
use Rattle.accounts_index.proofs.Joined.{joined_empty, AreBins_empty}

-- ---- lists of 256 each, one after the other

module _ {G A : Type 0} (f : G → List A) where
  abbrev Even : List G → Type 0
  Even gs = All (λ g. length (f g) ≡ 256) gs

  even_rest : (g : G) (gs : List G) → Even (g ∷ gs) → Even gs
  even_rest g gs even k d lt = even (suc k) d (omega arith)

  length-even : (gs : List G) → Even gs → length (flat_map f gs) ≡ 256 * length gs
  length-even [] even = refl
  length-even (g ∷ gs) even = omega (arith, length-append (f g) (flat_map f gs), even 0 g (omega arith), length-even gs (even_rest g gs even))

  get-even : (gs : List G) → Even gs → (a b n : ℕ) (e : G) (d : A) → n ≡ 256 * a + b → a < length gs → b < 256 → get_or (flat_map f gs) n d ≡ get_or (f (get_or gs a e)) b d
  get-even [] even a b n e d is lt within = absurd (omega arith)
  get-even (g ∷ gs) even zero b n e d is lt within =
      let here : n ≡ b = omega arith in
      get_or-append (f g) (flat_map f gs) d n (omega (arith, even 0 g (omega arith))) ∙ ap (λ m. get_or (f g) m d) here
  get-even (g ∷ gs) even (suc a) b n e d is lt within =
      get_or-append_right (f g) (flat_map f gs) 256 n d (even 0 g (omega arith)) (omega arith)
      ∙ get-even gs (even_rest g gs even) a b (n - 256) e d (omega arith) (omega arith) within

  set-even : (gs : List G) → Even gs → (a b n : ℕ) (e now : G) (x : A) → n ≡ 256 * a + b → a < length gs → b < 256 → f now ≡ set (f (get_or gs a e)) b x → set (flat_map f gs) n x ≡ flat_map f (set gs a now)
  set-even [] even a b n e now x is lt within made = absurd (omega arith)
  set-even (g ∷ gs) even zero b n e now x is lt within made =
      let here : n ≡ b = omega arith in
      set-append_left (f g) (flat_map f gs) n x (omega (arith, even 0 g (omega arith)))
      ∙ ap (λ l. l ++ flat_map f gs) (ap (λ m. set (f g) m x) here ∙ sym made)
  set-even (g ∷ gs) even (suc a) b n e now x is lt within made =
      set-append_right (f g) (flat_map f gs) 256 n x (even 0 g (omega arith)) (omega arith)
      ∙ ap (λ l. f g ++ l) (set-even gs (even_rest g gs even) a b (n - 256) e now x (omega arith) (omega arith) within made)

  drop-even : (gs : List G) → Even gs → (a b n : ℕ) (e : G) → n ≡ 256 * a + b → a < length gs → b < 256 → drop n (flat_map f gs) ≡ drop b (f (get_or gs a e)) ++ flat_map f (drop (suc a) gs)
  drop-even [] even a b n e is lt within = absurd (omega arith)
  drop-even (g ∷ gs) even zero b n e is lt within =
      let here : n ≡ b = omega arith in
      drop-append-le n (f g) (flat_map f gs) (omega (arith, even 0 g (omega arith))) ∙ ap (λ m. drop m (f g) ++ flat_map f gs) here
  drop-even (g ∷ gs) even (suc a) b n e is lt within =
      let past : n ≡ length (f g) + (n - 256) = omega (arith, even 0 g (omega arith)) in
      ap (λ m. drop m (f g ++ flat_map f gs)) past ∙ drop-append-add (f g) (flat_map f gs) (n - 256)
      ∙ drop-even gs (even_rest g gs even) a b (n - 256) e (omega arith) (omega arith) within

  set-same : (gs : List G) (a : ℕ) (e now : G) → a < length gs → f now ≡ f (get_or gs a e) → flat_map f (set gs a now) ≡ flat_map f gs
  set-same [] a e now lt same = absurd (omega arith)
  set-same (g ∷ gs) zero e now lt same = ap (λ l. l ++ flat_map f gs) same
  set-same (g ∷ gs) (suc a) e now lt same = ap (λ l. f g ++ l) (set-same gs a e now (omega arith) same)

-- ---- the bins of one group

pub bins_in-some : (group : List Index) → 0 < length group → bins_in group ≡ group
unfolding bins_in
bins_in-some [] some = absurd (omega arith)
bins_in-some (bin ∷ bins) some = refl

bins_in-none : (group : List Index) → length group ≡ 0 → bins_in group ≡ replicate 256 []
unfolding bins_in
bins_in-none [] none = refl
bins_in-none (bin ∷ bins) none = absurd (omega arith)

empties : (n : ℕ) (bins : List Index) → length bins ≡ n → All (λ bin. bin ≡ []) bins → bins ≡ replicate n []
empties zero [] is empty = refl
empties zero (bin ∷ bins) is empty = absurd (omega arith)
empties (suc n) [] is empty = absurd (omega arith)
empties (suc n) (bin ∷ bins) is empty =
    let here = empty 0 bin (omega arith) in
    let rest = empties n bins (omega arith) (λ k d lt. empty (suc k) d (omega arith)) in
    λ j. here j ∷ rest j

joined_empties : (n : ℕ) → joined (replicate n []) ≡ []
joined_empties zero = refl
joined_empties (suc n) = joined_empties n

-- a group of 256 empty bins stands for the same as one without bins
pub bins_in-grown : (group now : List Index) → group ≡ [] → length now ≡ 256 → All (λ bin. bin ≡ []) now → bins_in now ≡ bins_in group
bins_in-grown group now none whole empty = bins_in-some now (omega arith) ∙ empties 256 now whole empty ∙ sym (bins_in-none group (ap length none))

-- a group that has some bins has them all
pub whole_some : (group : List Index) → length (bins_in group) ≡ 256 → 0 < length group → length group ≡ 256
whole_some group whole some = sym (ap length (bins_in-some group some)) ∙ whole

pub no_length : {A : Type 0} (xs : List A) → length xs ≡ 0 → xs ≡ []
no_length [] e = refl
no_length (x ∷ xs) e = absurd (omega arith)

-- the keys of a group from a bin on are those of the bins that it has
pub joined_rest : (group : List Index) (b : ℕ) → joined (drop b (bins_in group)) ≡ joined (drop (min b (length group)) group)
joined_rest group b = elim (cases_lt 0 (length group)) [
  | inl some ↦ ap (λ l. joined (drop b l)) (bins_in-some group some) ∙ upto group b
  | inr none ↦
      let empty : group ≡ [] = no_length group (omega arith) in
      ap (λ l. joined (drop b l)) (bins_in-none group (omega arith)) ∙ ap joined (drop-replicate b 256 []) ∙ joined_empties (256 - b)
      ∙ sym (ap joined (dropped group (min b (length group)) empty))
]
  where
    upto : (group : List Index) (b : ℕ) → joined (drop b group) ≡ joined (drop (min b (length group)) group)
    upto group b = elim (cases_lt b (length group)) [
      | inl within ↦ let own : b ≡ min b (length group) = omega arith in ap (λ n. joined (drop n group)) own
      | inr past ↦
          let end : length group ≤ min b (length group) = omega arith in
          ap joined (drop_all b group (omega arith)) ∙ sym (ap joined (drop_all (min b (length group)) group end))
    ]

    dropped : (group : List Index) (n : ℕ) → group ≡ [] → drop n group ≡ []
    dropped [] zero e = refl
    dropped [] (suc n) e = refl
    dropped (x ∷ xs) n e = absurd cc

pub joined_in : (group : List Index) → joined (bins_in group) ≡ joined group
joined_in group = elim (cases_lt 0 (length group)) [
  | inl some ↦ ap joined (bins_in-some group some)
  | inr none ↦ ap joined (bins_in-none group (omega arith)) ∙ joined_empties 256 ∙ sym (ap joined (no_length group (omega arith)))
]

-- ---- the bins of all groups

module _ {B : Type 0} (groups : List (Vec Index B)) (all : AreGroups groups) (number : ℕ) (within : number < 81920) (group : Vec Index B) (read : group ≡ get_or groups (number / 256) group) where
  in_groups : number / 256 < length groups
  in_groups = omega (arith, all.every_group)

  parts : number ≡ 256 * (number / 256) + number % 256
  parts = omega arith

  below : number % 256 < 256
  below = omega arith

  pub drop-groups : drop number (all_bins groups) ≡ drop (number % 256) (bins_in group.items) ++ all_bins (drop (suc (number / 256)) groups)
  drop-groups =
      drop-even (λ (g : Vec Index B). bins_in g.items) groups all.whole (number / 256) (number % 256) number group parts in_groups below
      ∙ ap (λ (g : Vec Index B). drop (number % 256) (bins_in g.items) ++ all_bins (drop (suc (number / 256)) groups)) (sym read)

  -- the group is whole
  pub whole : length (bins_in group.items) ≡ 256
  whole = subst (λ (g : Vec Index B). length (bins_in g.items) ≡ 256) (sym read) (all.whole (number / 256) group in_groups)

  pub get-groups : (d : Index) → get_or (all_bins groups) number d ≡ get_or (bins_in group.items) (number % 256) d
  get-groups d =
      get-even (λ (g : Vec Index B). bins_in g.items) groups all.whole (number / 256) (number % 256) number group d parts in_groups below
      ∙ ap (λ (g : Vec Index B). get_or (bins_in g.items) (number % 256) d) (sym read)

  -- a bin of a group that has none is empty
  pub get-none : length group.items ≡ 0 → (d : Index) → get_or (all_bins groups) number d ≡ []
  get-none none d = get-groups d ∙ ap (λ l. get_or l (number % 256) d) (bins_in-none group.items none) ∙ get_or-replicate 256 (number % 256) [] d below

  -- the group stands for the same bins
  module _ (now : Vec Index B) (same : bins_in now.items ≡ bins_in group.items) where
    pub same-groups : all_bins (set groups (number / 256) now) ≡ all_bins groups
    same-groups = set-same (λ (g : Vec Index B). bins_in g.items) groups (number / 256) group now in_groups (same ∙ ap (λ (g : Vec Index B). bins_in g.items) read)

    pub AreGroups-same : AreGroups (set groups (number / 256) now)
    AreGroups-same = record {
      every_group = length-set groups (number / 256) now ∙ all.every_group;
      whole = All-set (λ (g : Vec Index B). length (bins_in g.items) ≡ 256) groups (number / 256) now (ap length same ∙ whole) all.whole;
      bins = subst AreBins (sym same-groups) all.bins;
    }

  -- the group with its bins, of which one is written
  module _ (now : Vec Index B) (grown : length now.items ≡ 256) (same : bins_in now.items ≡ bins_in group.items) where
    its_bins : bins_in group.items ≡ now.items
    its_bins = sym same ∙ bins_in-some now.items (omega arith)

    pub get-now : (d : Index) → get_or (all_bins groups) number d ≡ get_or now.items (number % 256) d
    get-now d = get-groups d ∙ ap (λ l. get_or l (number % 256) d) its_bins

    module _ (new : Index) (written : Vec Index B) (is : written.items ≡ set now.items (number % 256) new) where
      whole-written : length written.items ≡ 256
      whole-written = ap length is ∙ length-set now.items (number % 256) new ∙ grown

      bins-written : bins_in written.items ≡ written.items
      bins-written = bins_in-some written.items (omega (arith, whole-written))

      pub set-groups : set (all_bins groups) number new ≡ all_bins (set groups (number / 256) written)
      set-groups =
          set-even (λ (g : Vec Index B). bins_in g.items) groups all.whole (number / 256) (number % 256) number group written new parts in_groups below
          (bins-written ∙ is ∙ ap (λ l. set l (number % 256) new) (sym its_bins ∙ ap (λ (g : Vec Index B). bins_in g.items) read))

      pub AreGroups-set : AreBins (set (all_bins groups) number new) → AreGroups (set groups (number / 256) written)
      AreGroups-set bins = record {
        every_group = length-set groups (number / 256) _ ∙ all.every_group;
        whole = All-set (λ (g : Vec Index B). length (bins_in g.items) ≡ 256) groups (number / 256) written (ap length bins-written ∙ whole-written) all.whole;
        bins = subst AreBins set-groups bins;
      }

-- ---- groups without bins

all_empty : {B : Type 0} (groups : List (Vec Index B)) → All (λ group. group.items ≡ []) groups → All (λ bin. bin ≡ []) (all_bins groups)
all_empty [] empty k d lt = absurd (omega arith)
all_empty (group ∷ groups) empty k d lt =
    All-append (λ bin. bin ≡ []) (bins_in group.items) (all_bins groups)
    (subst (λ bins. All (λ bin. bin ≡ []) bins) (sym (bins_in-none group.items (ap length (empty 0 group (omega arith))))) (All-replicate (λ bin. bin ≡ []) 256 [] refl))
    (all_empty groups (λ k d lt. empty (suc k) d (omega arith))) k d lt

pub no_bins : {B : Type 0} (groups : List (Vec Index B)) → All (λ group. group.items ≡ []) groups → joined (all_bins groups) ≡ []
no_bins groups empty = joined_empty (all_bins groups) (all_empty groups empty)

pub AreGroups_empty : {B : Type 0} (groups : List (Vec Index B)) → length groups ≡ 320 → All (λ group. group.items ≡ []) groups → AreGroups groups
AreGroups_empty {B} groups every empty =
    let even : All (λ (g : Vec Index B). length (bins_in g.items) ≡ 256) groups = λ k d lt. ap length (bins_in-none (get_or groups k d).items (ap length (empty k d lt))) ∙ length-replicate {A = Index} 256 [] in
    record {
      every_group = every;
      whole = even;
      bins = AreBins_empty (all_bins groups) (length-even (λ (g : Vec Index B). bins_in g.items) groups even ∙ ap (λ n. 256 * n) every) (all_empty groups empty);
    }
