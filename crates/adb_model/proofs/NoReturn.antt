-- What is opened from the Live storages up to a root answers as the state does.
use Rattle.std.proofs.Common.{◌≡◌, ◌≢◌, ℕ, ◌≤◌, eqb, Bool, not, ◌&&◌, IsTrue, IsFalse, List, [], ◌∷◌, ◌++◌, map, filter, All, Any, Contains, Option, Some, None, option_map, option_and_then, refl, sym, ap, ◌∙◌, subst, inl, inr, ◌⊎◌, arith}
use Rattle.std.specs.List.{list_any}
use Rattle.std.specs.Str.{bytes_eq}
use Rattle.std.proofs.lemmas.Bool.{true≢false, cases_Bool, cases_order, and_parts, and_from, and_cases, eqb-true, eq-eqb, not-false, false_from_ne_true}
use Rattle.std.proofs.lemmas.List.Elements.{All-contains, Contains-get_or, Contains-append_left}
use Rattle.adb_model.specs.Lists.{among, greatest, last}
use Rattle.adb_model.specs.State.{Stored, Row, Storage, State}
use Rattle.adb_model.specs.Load.{sees, is_of, slots_with, last_store, unless_tomb, answer}
use Rattle.adb_model.specs.Presence.{has_store, has_row, is_live, is_held, is_named}
use Rattle.adb_model.specs.Opened.{Image, opened}
use Rattle.adb_model.specs.Sound.{IsSound, RowsFit, last_account}
use Rattle.adb_model.specs.Laws.{at_root, IsFlushedUpto, SameRows, IsImageOf, ShowLive}
use Rattle.adb_model.proofs.Members.{member, any_at, into_filter, from_filter, into_map, among_at}
use Rattle.adb_model.proofs.Pairs.{pairs_at}
use Rattle.adb_model.proofs.Filters.{any_filter, last_contained}
use Rattle.adb_model.proofs.Distinct.{bytes_eq-true}
use Rattle.adb_model.proofs.Greatest.{greatest_is, greatest_none, greatest_unique}
use Rattle.adb_model.proofs.Rising.{into_rising}
use Rattle.adb_model.proofs.LastStores.{of_parts, last_is_of, store_last}
use Rattle.adb_model.proofs.Known.{with_from, with_into}
use Rattle.adb_model.proofs.StoresChange.{rooted}
use Rattle.adb_model.proofs.LawOfAnswers.{tomb_answers}
use Rattle.adb_model.proofs.RootsKept.{sees_root, root_sees}
use Rattle.adb_model.proofs.OpenedStores as shown
use Rattle.adb_model.proofs.OpenedStores.{as_store}

-- the same rows have the same keys
pub same_keys : (rows others : List Row) (k : List ℕ) → SameRows rows others → has_row k rows ≡ has_row k others
same_keys rows others k same =
    let p : Row → Bool = λ r. bytes_eq r.key k in
    sym (any_filter p p (λ r t. t) rows) ∙ ap (list_any p) (same k) ∙ any_filter p p (λ r t. t) others

some_any : {X : Type 0} (P : X → Type 0) (xs : List X) → Any P xs → (x : X) × Contains xs x × P x
some_any P xs a = (a.1, (a.0, a.2, a.3), a.4)

same_store : (t u : Stored) → t.slot ≡ u.slot → t.key ≡ u.key → t.account ≡ u.account → t ≡ u
same_store t u e f g = λ i. record { slot = e i; key = f i; account = g i }

module _ (m : State) (h : IsSound m) (root : ℕ) (is_root : IsTrue (among root m.roots)) (recent : m.cleaned ≤ root) (clean : IsFlushedUpto m root)
    (images : List Image) (show : ShowLive m root images) (budget : ℕ) (more : List ℕ) (k : List ℕ) where
  abbrev new : State
  new = opened budget root images more

  -- the slots that each of the two looks at
  abbrev olds : List ℕ
  olds = filter (sees m (at_root root)) (slots_with m k)

  abbrev news : List ℕ
  news = filter (sees new (at_root root)) (slots_with new k)

  -- the storage that an image is of
  storage_of : (i : Image) → Contains images i → (t : Storage) × Contains m.storages t × IsImageOf root i t
  storage_of i c = some_any (IsImageOf root i) m.storages (All-contains (λ i. Any (IsImageOf root i) m.storages) images i show.each c)

  -- a Live storage up to the root has its image
  image_of : (t : Storage) → Contains m.storages t → IsTrue (is_live t) → t.slot ≤ root → (i : Image) × Contains images i × IsImageOf root i t
  image_of t c live le =
      let a = some_any (λ i. i.slot ≡ t.slot) images (All-contains (λ t. IsTrue (is_live t) → t.slot ≤ root → Any (λ i. i.slot ≡ t.slot) images) m.storages t show.all c live le) in
      let b = storage_of a.0 a.1 in (
        a.0,
        a.1,
        elim (pairs_at (λ t u. IsTrue (is_live t) → IsTrue (is_live u) → t.slot ≢ u.slot) m.storages b.0 t h.slots.one_live b.1 c) [
          | inl same ↦ subst (IsImageOf root a.0) same b.2
          | inr (inl apart) ↦ absurd (apart b.2.live live (b.2.slot ∙ a.2))
          | inr (inr apart) ↦ absurd (apart live b.2.live (sym (b.2.slot ∙ a.2)))
        ],
      )

  -- a slot up to the root that has the key held, with its storage and its image
  record IsShown (s : ℕ) : Type 0 where
    storage : Storage
    there : Contains m.storages storage
    slot : storage.slot ≡ s
    row : IsTrue (has_row k storage.rows)
    image : Image
    among : Contains images image
    of : IsImageOf root image storage

  held_shown : (s : ℕ) → IsTrue (is_held m s k) → s ≤ root → IsShown s
  held_shown s held le =
      let a = member (λ u. (is_live u && eqb u.slot s) && has_row k u.rows) m.storages held in
      let parts = and_parts _ _ a.2 in
      let first = and_parts _ _ parts.0 in
      let slot = eqb-true a.0.slot s first.1 in
      let i = image_of a.0 a.1 first.0 (omega arith) in
      record { storage = a.0; there = a.1; slot = slot; row = parts.1; image = i.0; among = i.1; of = i.2 }

  -- such a slot is looked at by both
  shown_old : (s : ℕ) → IsShown s → Contains olds s
  shown_old s w =
      let st = subst (λ n. IsTrue (has_store m n k)) w.slot ((All-contains (RowsFit m) m.storages w.storage h.rows w.there).stored k w.row) in
      let r = subst (λ n. IsTrue (among n m.roots)) w.slot (All-contains (λ t. IsTrue (among t.slot m.roots)) m.storages w.storage (rooted m h) w.there) in
      let upto = w.of.upto in
      let e = w.slot in
      into_filter (sees m (at_root root)) (slots_with m k) s (with_into m s k st) (root_sees m root s r (omega arith))

  shown_new : (s : ℕ) → IsShown s → Contains news s
  shown_new s w =
      let e : w.image.slot ≡ s = sym w.of.slot ∙ w.slot in
      let st = subst (λ n. IsTrue (has_store new n k)) e (shown.store_into budget root images more w.image w.among k (same_keys w.image.rows w.storage.rows k w.of.rows ∙ w.row)) in
      let slots : List ℕ = map (λ i. i.slot) images ++ more ++ root ∷ [] in
      let c : Contains slots w.image.slot = Contains-append_left (map (λ (i : Image). i.slot) images ++ more) (root ∷ []) w.image.slot (Contains-append_left (map (λ (i : Image). i.slot) images) more w.image.slot (into_map (λ (i : Image). i.slot) images w.image w.among)) in
      let r = among_at s new.roots (subst (Contains new.roots) e (into_rising slots w.image.slot c)) in
      let upto = w.of.upto in
      let f = w.slot in
      into_filter (sees new (at_root root)) (slots_with new k) s (with_into new s k st) (root_sees new root s r (omega arith))

  -- the opened state looks at no others
  new_shown : (s : ℕ) → Contains news s → IsShown s
  new_shown s c =
      let f = from_filter (sees new (at_root root)) (slots_with new k) s c in
      let i = shown.store_from budget root images more s k (with_from new s k f.0) in
      let t = storage_of i.0 i.1 in
      record { storage = t.0; there = t.1; slot = t.2.slot ∙ i.2; row = sym (same_keys i.0.rows t.0.rows k t.2.rows) ∙ i.3; image = i.0; among = i.1; of = t.2 }

  shown_held : (s : ℕ) → IsShown s → IsTrue (is_held m s k)
  shown_held s w = any_at (λ u. (is_live u && eqb u.slot s) && has_row k u.rows) m.storages w.storage w.there (and_from _ _ (and_from _ _ w.of.live (eq-eqb w.storage.slot s w.slot)) w.row)

  -- there both have the same last store
  last_same : (s : ℕ) → IsShown s → last_store new s k ≡ last_store m s k
  last_same s w =
      let fits : RowsFit m w.storage = All-contains (RowsFit m) m.storages w.storage h.rows w.there in
      let old = store_last m s k (subst (λ n. IsTrue (has_store m n k)) w.slot (fits.stored k w.row)) in
      let e : w.image.slot ≡ s = sym w.of.slot ∙ w.slot in
      let last_new : last_store new s k ≡ option_map (as_store w.image.slot) (last (filter (λ r. bytes_eq r.key k) w.storage.rows)) =
      ap (λ (n : ℕ). last_store new n k) (sym e) ∙ shown.last_in budget root images more show.rise w.image w.among k ∙ ap (λ rows. option_map (as_store w.image.slot) (last rows)) (w.of.rows k) in
      by old.0 old.1 e (last (filter (λ r. bytes_eq r.key k) w.storage.rows)) refl last_new (fits.last k w.row ∙ ap (λ (n : ℕ). last_account m n k) w.slot ∙ ap (option_map (λ t. t.account)) old.1)
    where
      by : (t : Stored) → last_store m s k ≡ Some t → w.image.slot ≡ s → (o : Option Row) → last (filter (λ r. bytes_eq r.key k) w.storage.rows) ≡ o
          → last_store new s k ≡ option_map (as_store w.image.slot) o → option_map (λ r. r.account) o ≡ Some t.account → last_store new s k ≡ last_store m s k
      by t e slot None f g same = absurd cc
      by t e slot (Some r) f g same =
          let account : r.account ≡ t.account = cc in
          let is = of_parts s k t (last_is_of m s k t e).1 in
          let key = bytes_eq-true r.key k (from_filter (λ q. bytes_eq q.key k) w.storage.rows r (last_contained (filter (λ q. bytes_eq q.key k) w.storage.rows) r f)).1 in
          g ∙ ap Some (same_store (as_store w.image.slot r) t (slot ∙ sym is.0) (key ∙ sym is.1) account) ∙ sym e

  abbrev at : State → Option ℕ → Option Stored
  at l o = option_and_then unless_tomb (option_and_then (λ s. last_store l s k) o)

  none_new : ((s : ℕ) → IsShown s → ⊥) → greatest news ≡ None
  none_new none = by (greatest news) refl
    where
      by : (o : Option ℕ) → greatest news ≡ o → greatest news ≡ None
      by None e = e
      by (Some g) e = absurd (none g (new_shown g (greatest_is news g e).0))

  by_greatest : (o : Option ℕ) → greatest olds ≡ o → at new (greatest news) ≡ at m o
  by_greatest None e = ap (at new) (none_new (λ s w. greatest_none olds s e (shown_old s w)))
  by_greatest (Some g) e = by (cases_Bool (is_held m g k))
    where
      is : Contains olds g × All (λ n. n ≤ g) olds
      is = greatest_is olds g e

      from : Contains (slots_with m k) g × IsTrue (sees m (at_root root) g)
      from = from_filter (sees m (at_root root)) (slots_with m k) g is.0

      see : IsTrue (among g m.roots) × (g ≤ root)
      see = sees_root m root g from.1

      upto : (s : ℕ) → Contains olds s → s ≤ g
      upto s c = All-contains (λ n. n ≤ g) olds s is.1 c

      stored : IsTrue (has_store m g k)
      stored = with_from m g k from.0

      -- the slot is flushed
      flushed : IsTrue (among g m.flushed)
      flushed =
          elim (and_cases (list_any (λ t. eqb t.slot g) m.stores) (not (among g m.flushed)) (clean g see.0 see.1)) [
            | inl none ↦ absurd (let a = member (is_of g k) m.stores stored in true≢false (sym (any_at (λ t. eqb t.slot g) m.stores a.0 a.1 (and_parts (eqb a.0.slot g) (bytes_eq a.0.key k) a.2).0) ∙ none))
            | inr f ↦ not-false _ f
          ]

      by : IsTrue (is_held m g k) ⊎ IsFalse (is_held m g k) → at new (greatest news) ≡ at m (Some g)
      by (inl held) =
          let w = held_shown g held see.1 in
          ap (at new) (greatest_unique news g (shown_new g w) (λ i d lt. upto _ (shown_old _ (new_shown _ (Contains-get_or news i d lt)))))
          ∙ ap (option_and_then unless_tomb) (last_same g w)
      by (inr free) =
          let unnamed = false_from_ne_true (is_named m g k) (λ n. true≢false (sym (h.names.held g k n) ∙ free)) in
          elim (h.gone g k stored flushed unnamed) [
            | inl c ↦
                let up : c.root ≤ root = (let le = c.upto in omega arith) in
                let le = upto c.root (into_filter (sees m (at_root root)) (slots_with m k) c.root (with_into m c.root k c.stored) (root_sees m root c.root c.is_root up)) in
                absurd (let lt = c.above in omega arith)
            | inr b ↦
                ap (at new) (none_new (λ s w. elim (cases_order s g) [
                  | inl same ↦ true≢false (sym (subst (λ n. IsTrue (is_held m n k)) same (shown_held s w)) ∙ free)
                  | inr (inl lt) ↦ true≢false (sym (shown_held s w) ∙ (b.lowest s lt).1)
                  | inr (inr gt) ↦ (let le = upto s (shown_old s w) in omega arith)
                ]))
                ∙ sym (tomb_answers m g k b.tomb)
          ]

  pub no_return : answer new (at_root root) k ≡ answer m (at_root root) k
  no_return = by_greatest (greatest olds) refl
