-- What an edit of one entry leaves: what is kept of each key, and what holds of all entries.
use Rattle.std.proofs.Common.{◌≡◌, ℕ, suc, ◌+◌, ◌-◌, ◌<◌, ◌≤◌, List, [], ◌∷◌, length, set, get_or, true, eqb, ◌++◌, refl, sym, ap, subst, ◌∙◌, inl, inr, arith, All, length-set, get_or-set_same, get_or-set_other}
use Rattle.std.proofs.Common.{zero, Result, Ok, Err, OnOk, OnErr}
use Rattle.std.specs.List.{insert, remove}
use Rattle.std.specs.Str.{bytes_eq}
use Rattle.std.specs.declared.cmp.Ordering.TheVariants.{Less}
use Rattle.std.proofs.lemmas.Bool.{cases_Bool, cases_lt, true≢false}
use Rattle.std.proofs.lemmas.List.{get_or_default}
use Rattle.std.proofs.lemmas.List.Elements.{All-set}
use Rattle.std.proofs.lemmas.List.Edits.{length-insert, get_or-insert_below, get_or-insert_at, get_or-insert_above}
use Rattle.view_sets.specs.Slots.{among}
use Rattle.slot_list.specs.Versions.{without_slot}
use Rattle.accounts_index.specs.declared.entry.Entry.{Entry}
use Rattle.accounts_index.specs.declared.entry.Lists.{Lists}
use Rattle.accounts_index.specs.Index.{Kept, kept, nothing, key_cmp, Index, IsWith}
use Rattle.accounts_index.specs.Inside.{seen, kept_of, KeysRise, HasRoom, IsUsed, AreEntries, AreEntriesBut}
use Rattle.accounts_index.specs.Places.{IsAt, IsGap}
use Rattle.accounts_index.proofs.Keys.{same_bytes, greater_turned, key_cmp-self, at_or_apart}
use Rattle.accounts_index.proofs.Lookups.{kept_at, kept_gap, IsWith-set, IsWith-remove}
use Rattle.accounts_index.proofs.Searches.{found_there}

-- equal records are kept alike
pub IsWith-to : (old new : Index) (key : List ℕ) (k l : Kept) → IsWith old new key k → k ≡ l → IsWith old new key l
IsWith-to old new key k l is same = subst (IsWith old new key) same is

-- an entry, its lists as they were found in their box
abbrev pub reached : Entry → Lists → Entry
reached e lists = record e { lists = record e.lists { value = lists } }

pub read_reached : (es : List Entry) (i : ℕ) (e : Entry) (lists : Lists) → lists ≡ e.lists.value → e ≡ get_or es i e → reached e lists ≡ get_or es i (reached e lists)
read_reached es i e lists is read = subst (λ (x : Entry). x ≡ get_or es i x) (sym (ap (reached e) is)) read

module _ (es : List Entry) (key : List ℕ) (i : ℕ) (found : IsAt es key i) (e : Entry) (read : e ≡ get_or es i e) where
  -- the entry that was read at the place of the key
  pub read_key : e.key.0 ≡ key
  read_key = ap (λ (x : Entry). x.key.0) read ∙ found.has_key e

  -- its lists
  read_lists : e.lists.value ≡ (get_or es i e).lists.value
  read_lists = ap (λ (x : Entry). x.lists.value) read

  pub read_kept : kept (seen es) key ≡ kept_of e.lists.value
  read_kept = kept_at es key i found e ∙ ap kept_of (sym read_lists)

  pub read_room : AreEntries es → HasRoom e.lists.value
  read_room all = subst HasRoom (sym read_lists) (all.room i e found.in_range)

  pub read_used : AreEntries es → IsUsed e.lists.value
  read_used all = subst IsUsed (sym read_lists) (all.used i e found.in_range)

  module _ (x : Entry) (same : x.key.0 ≡ e.key.0) where
    pub IsWith-write : IsWith (seen es) (seen (set es i x)) key (kept_of x.lists.value)
    IsWith-write = IsWith-set es key i found x (same ∙ read_key)

    key-write : (k : ℕ) (d : Entry) → k < length es → (get_or (set es i x) k d).key.0 ≡ (get_or es k d).key.0
    key-write k d lt = at_or_apart k i
        (λ here. rw here (ap (λ (y : Entry). y.key.0) (get_or-set_same es i x d found.in_range) ∙ same ∙ read_key ∙ sym (found.has_key d)))
        (λ apart. ap (λ (y : Entry). y.key.0) (get_or-set_other es i k x d apart))

    rise-write : KeysRise es → KeysRise (set es i x)
    rise-write rise k l d lt in_range =
        let inside : l < length es = omega (arith, length-set es i x) in
        ap (λ q. key_cmp q (get_or (set es i x) l d).key.0) (key-write k d (omega arith))
        ∙ ap (key_cmp (get_or es k d).key.0) (key-write l d inside) ∙ rise k l d lt inside

    -- the other entries stay as they were
    pub AreEntries-write : AreEntries es → HasRoom x.lists.value → IsUsed x.lists.value → AreEntries (set es i x)
    AreEntries-write all room used = record {
      rise = rise-write all.rise;
      room = All-set (λ e. HasRoom e.lists.value) es i x room all.room;
      used = All-set (λ e. IsUsed e.lists.value) es i x used all.used;
    }

    pub AreEntriesBut-write : AreEntries es → HasRoom x.lists.value → AreEntriesBut (set es i x) i
    AreEntriesBut-write all room = record {
      in_range = omega (arith, length-set es i x, found.in_range);
      rise = rise-write all.rise;
      room = All-set (λ e. HasRoom e.lists.value) es i x room all.room;
      used = λ k d apart lt. subst (λ e. IsUsed e.lists.value) (sym (get_or-set_other es i k x d apart)) (all.used k d (omega (arith, length-set es i x)));
    }

module _ (es : List Entry) (key : List ℕ) (i : ℕ) (gap : IsGap es key i) (x : Entry) (is : x.key.0 ≡ key) where
  key_new : ℕ → Entry → List ℕ
  key_new k d = (get_or (insert es i x) k d).key.0

  key_below : (k : ℕ) (d : Entry) → k < i → key_new k d ≡ (get_or es k d).key.0
  unfolding key_new
  key_below k d lt = ap (λ (y : Entry). y.key.0) (get_or-insert_below es i x d k lt gap.in_range)

  key_here : (d : Entry) → key_new i d ≡ key
  unfolding key_new
  key_here d = ap (λ (y : Entry). y.key.0) (get_or-insert_at es i x d gap.in_range) ∙ is

  key_above : (k : ℕ) (d : Entry) → i ≤ k → key_new (k + 1) d ≡ (get_or es k d).key.0
  unfolding key_new
  key_above k d le = ap (λ (y : Entry). y.key.0) (get_or-insert_above es i x d k le gap.in_range)

  -- two new keys, where the second one is moved up
  rise_up : KeysRise es → (k l : ℕ) (d : Entry) → k < l + 1 → i ≤ l → l < length es → key_cmp (key_new k d) (key_new (l + 1) d) ≡ Less
  rise_up rise k l d lt le in_range = ap (key_cmp (key_new k d)) (key_above l d le) ∙ elim (cases_lt k i) [
    | inl below ↦ ap (λ q. key_cmp q (get_or es l d).key.0) (key_below k d below) ∙ rise k l d (omega arith) in_range
    | inr not_below ↦ elim (cases_lt i k) [
      | inl above ↦
          let down : k ≡ k - 1 + 1 = omega arith in
          ap (λ n. key_cmp (key_new n d) (get_or es l d).key.0) down
          ∙ ap (λ q. key_cmp q (get_or es l d).key.0) (key_above (k - 1) d (omega arith)) ∙ rise (k - 1) l d (omega arith) in_range
      | inr not_above ↦
          let here : k ≡ i = omega arith in
          ap (λ n. key_cmp (key_new n d) (get_or es l d).key.0) here
          ∙ ap (λ q. key_cmp q (get_or es l d).key.0) (key_here d) ∙ greater_turned (get_or es l d).key.0 key (gap.higher_from l d le in_range)
    ]
  ]

  rise-new : KeysRise es → KeysRise (insert es i x)
  unfolding key_new
  rise-new rise k l d lt in_range = elim (cases_lt l i) [
    | inl below ↦
        ap (λ q. key_cmp q (key_new l d)) (key_below k d (omega arith)) ∙ ap (key_cmp (get_or es k d).key.0) (key_below l d below)
        ∙ rise k l d lt (omega (arith, gap.in_range))
    | inr not_below ↦ elim (cases_lt i l) [
      | inl above ↦
          let down : l ≡ l - 1 + 1 = omega arith in
          ap (λ n. key_cmp (key_new k d) (key_new n d)) down ∙ rise_up rise k (l - 1) d (omega arith) (omega arith) (omega (arith, length-insert es i x gap.in_range))
      | inr not_above ↦
          let here : l ≡ i = omega arith in
          ap (λ n. key_cmp (key_new k d) (key_new n d)) here
          ∙ ap (λ q. key_cmp q (key_new i d)) (key_below k d (omega arith)) ∙ ap (key_cmp (get_or es k d).key.0) (key_here d)
          ∙ gap.lower_before k d (omega arith) (omega arith)
    ]
  ]

  pub AreEntries-new : AreEntries es → HasRoom x.lists.value → IsUsed x.lists.value → AreEntries (insert es i x)
  AreEntries-new all room used = record {
    rise = rise-new all.rise;
    room = every (λ e. HasRoom e.lists.value) room all.room;
    used = every (λ e. IsUsed e.lists.value) used all.used;
  }
    where
      every : (P : Entry → Type 0) → P x → All P es → All P (insert es i x)
      every P here all k d lt = elim (cases_lt k i) [
        | inl below ↦ subst P (sym (get_or-insert_below es i x d k below gap.in_range)) (all k d (omega (arith, gap.in_range)))
        | inr not_below ↦ elim (cases_lt i k) [
          | inl above ↦
              let down : k - 1 + 1 ≡ k = omega arith in
              subst (λ n. P (get_or (insert es i x) n d)) down
              (subst P (sym (get_or-insert_above es i x d (k - 1) (omega arith) gap.in_range)) (all (k - 1) d (omega (arith, length-insert es i x gap.in_range))))
          | inr not_above ↦ let here_now : k ≡ i = omega arith in rw here_now (subst P (sym (get_or-insert_at es i x d gap.in_range)) here)
        ]
      ]

no_length : {A : Type 0} (xs : List A) → length xs ≡ 0 → xs ≡ []
no_length [] e = refl
no_length (x ∷ xs) e = absurd (omega arith)

none_left : (a b : ℕ) → (0 < a + b → ⊥) → a ≡ 0
none_left a b none = elim (cases_lt 0 a) [ inl some ↦ absurd (none (omega arith)) | inr le ↦ omega arith ]

-- nothing is kept of what is of no use
unused : (lists : Lists) → (IsUsed lists → ⊥) → kept_of lists ≡ nothing
unused lists none =
    let versions : lists.list.versions ≡ [] = no_length _ (none_left (length lists.list.versions) (length lists.list.held + length lists.expected.items) (λ p. none (omega arith))) in
    let held : lists.list.held ≡ [] = no_length _ (none_left (length lists.list.held) (length lists.list.versions + length lists.expected.items) (λ p. none (omega arith))) in
    let expected : lists.expected.items ≡ [] = no_length _ (none_left (length lists.expected.items) (length lists.list.versions + length lists.list.held) (λ p. none (omega arith))) in
    λ j. record { versions = versions j; held = held j; expected = expected j }

-- an entry of no use leaves, and of every key the same is kept
pub kept-remove : (es : List Entry) (i : ℕ) (e : Entry) → KeysRise es → i < length es → e ≡ get_or es i e → (IsUsed e.lists.value → ⊥) → (q : List ℕ) → kept (seen (remove es i)) q ≡ kept (seen es) q
kept-remove es i e rise in_range read none q =
    let own : (d : Entry) → (get_or es i d).key.0 ≡ e.key.0 = λ d. ap (λ (y : Entry). y.key.0) (get_or_default es i d e in_range ∙ sym read) in
    let found = found_there es rise e.key.0 i in_range (λ d. ap (λ k. key_cmp k e.key.0) (own d) ∙ key_cmp-self e.key.0) in
    IsWith-remove es e.key.0 i found q ∙ elim (cases_Bool (bytes_eq e.key.0 q)) [
      | inl same ↦ rw same (sym (ap (kept (seen es)) (sym (same_bytes e.key.0 q same)) ∙ kept_at es e.key.0 i found e ∙ ap (λ (x : Entry). kept_of x.lists.value) (sym read) ∙ unused e.lists.value none))
      | inr differs ↦ rw differs refl
    ]

-- ---- slots that are taken out of a list, or put in

pub without_le : (slot : ℕ) (xs : List ℕ) → length (without_slot slot xs) ≤ length xs
without_le slot [] = omega arith
without_le slot (x ∷ xs) = elim (cases_Bool (eqb x slot)) [
  | inl same ↦ rw same (omega (arith, without_le slot xs))
  | inr differs ↦ rw differs (omega (arith, without_le slot xs))
]

-- a slot that is there leaves a place
pub without_there : (slot : ℕ) (xs : List ℕ) → among slot xs ≡ true → length (without_slot slot xs) + 1 ≤ length xs
without_there slot [] e = absurd (true≢false (sym e))
without_there slot (x ∷ xs) e = elim (cases_Bool (eqb x slot)) [
  | inl same ↦ rw same (omega (arith, without_le slot xs))
  | inr differs ↦ rw differs (omega (arith, without_there slot xs (rw differs at e)))
]

pub some_with : {A : Type 0} (xs ys : List A) (x : A) → 0 < length (xs ++ x ∷ ys)
some_with [] ys x = omega arith
some_with (z ∷ xs) ys x = omega (arith, some_with xs ys x)

-- ---- where nothing is kept, or nothing changes

-- a key that is not there keeps nothing, and so it stays
pub IsWith-same : (es : List Entry) (key : List ℕ) (i : ℕ) → IsGap es key i → IsWith (seen es) (seen es) key nothing
IsWith-same es key i gap q = elim (cases_Bool (bytes_eq key q)) [
  | inl same ↦ rw same (ap (kept (seen es)) (sym (same_bytes key q same)) ∙ kept_gap es key i gap)
  | inr differs ↦ rw differs refl
]

-- an entry is written over with one that keeps the same
pub seen_same : (es : List Entry) (i : ℕ) (e x : Entry) → i < length es → e ≡ get_or es i e → x.key.0 ≡ e.key.0 → kept_of x.lists.value ≡ kept_of e.lists.value → seen (set es i x) ≡ seen es
seen_same [] i e x lt read key is = absurd (omega arith)
seen_same (y ∷ es) zero e x lt read key is =
    let kept_y : kept_of x.lists.value ≡ kept_of y.lists.value = is ∙ ap (λ (z : Entry). kept_of z.lists.value) read in
    let key_y : x.key.0 ≡ y.key.0 = key ∙ ap (λ (z : Entry). z.key.0) read in
    λ j. (key_y j, kept_y j) ∷ seen es
seen_same (y ∷ es) (suc i) e x lt read key is = ap (λ l. (y.key.0, kept_of y.lists.value) ∷ l) (seen_same es i e x (omega arith) read key is)

-- a fact stands after any error
pub on_err_any : {T E P : Type 0} (r : Result T E) → P → OnErr r P
on_err_any (Ok x) p = tt
on_err_any (Err e) p = p

-- what follows from either outcome
pub either : {T E P Q R : Type 0} (r : Result T E) → OnOk r P → OnErr r Q → (P → R) → (Q → R) → R
either (Ok x) ok err f g = f ok
either (Err e) ok err f g = g err

-- what is read at the place of a key is what the index keeps of it
pub seen_kept : (index : Index) (held es : List Entry) (key : List ℕ) (i : ℕ) (e : Entry) → index ≡ seen held → es ≡ held → IsAt es key i → e ≡ get_or held i e → kept index key ≡ kept_of e.lists.value
seen_kept index held es key i e view same found read = ap (λ v. kept v key) view ∙ read_kept held key i (subst (λ l. IsAt l key i) same found) e read

pub seen_nothing : (index : Index) (inside es : List Entry) (key : List ℕ) (i : ℕ) → index ≡ seen inside → es ≡ inside → IsGap es key i → kept index key ≡ nothing
seen_nothing index inside es key i view same gap = ap (λ v. kept v key) (view ∙ ap seen (sym same)) ∙ kept_gap es key i gap
