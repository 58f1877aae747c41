-- The crowded keys of an index are those of the state that it reflects.
use Rattle.std.proofs.Common.{◌≡◌, ℕ, zero, suc, ◌<◌, List, [], ◌∷◌, length, get_or, map, filter, eqb, nat_lt, Bool, true, false, cond, ◌&&◌, ◌||◌, ◌↔◌, Option, Some, None, is_some, refl, sym, ap, ap₂, ◌∙◌, subst, IsTrue, All, AllPairs, Contains, arith}
use Rattle.std.specs.List.{list_any}
use Rattle.std.specs.Option.{option_map_or}
use Rattle.std.specs.Str.{bytes_eq}
use Rattle.std.specs.Ordering.{is_lt, is_eq, ordering_reverse}
use Rattle.std.specs.declared.cmp.Ordering.{Ordering}
use Rattle.std.specs.declared.cmp.Ordering.TheVariants.{Less, Equal, Greater}
use Rattle.std.specs.Cmp.Lexicographic.{texts_ties, nat_list_cmp_total}
use Rattle.std.proofs.lemmas.Bool.{true≢false, ne_eqb, eq-eqb, and_parts, and_from}
use Rattle.std.proofs.lemmas.List.{length-map}
use Rattle.std.proofs.lemmas.List.Elements.{All-cons, All-map, All-filter, All-contains}
use Rattle.std.proofs.lemmas.List.Folds.{list_any_none}
use Rattle.std.proofs.lemmas.List.Kept.{AllPairs-cons, AllPairs-filter}
use Rattle.std.proofs.lemmas.Map.Views.{any-filter_same}
use Rattle.slot_list.specs.declared.Version.{Version}
use Rattle.slot_list.specs.Versions.{at, VersionsRise}
use Rattle.accounts_index.specs.Index as index
use Rattle.accounts_index.specs.Index.{Index, kept, nothing, key_cmp, is_above, is_stored, IsOrdered, crowded_after}
use Rattle.adb_model.specs.Lists.{among}
use Rattle.adb_model.specs.State.{State}
use Rattle.adb_model.specs.Presence.{is_named, is_present, ends_in_tomb}
use Rattle.adb_model.specs.Reclaimable.{present_slots, is_crowded, crowded_keys}
use Rattle.adb_model.specs.Cleaning.{crowded_above}
use Rattle.adb_model.specs.Sound.{IsSoundMidway}
use Rattle.book_parts.specs.Parts.{Parts}
use Rattle.book_parts.specs.Reflects.{Reflects}
use Rattle.book_parts.proofs.Found.{found}
use Rattle.book_parts.proofs.Members.{both_ways, any_some, some_any}
use Rattle.book_parts.proofs.NextKeys.{Entry, same_bytes, bytes_eq-self, less_apart_turned, kept_here, kept_later}
use Rattle.book_parts.proofs.StoredVersions.{named_is, named_tomb_is, present_is, tomb_is}

-- what a state's crowded keys are
pub record Crowded (m : State) : Type 0 where
  pub rise : AllPairs (λ a b. key_cmp a b ≡ Less) (crowded_keys m)
  pub each : (k : List ℕ) → Contains (crowded_keys m) k ↔ IsTrue (is_crowded m k)
  pub slots : (k : List ℕ) (slots : List ℕ) → AllPairs (λ a b. a < b) slots → ((s : ℕ) → among s slots ≡ is_present m s k) → length (present_slots m k) ≡ length slots
  pub tomb : (k : List ℕ) → IsTrue (list_any (λ p. bytes_eq p.key k && ends_in_tomb m p.slot k) m.named) ↔ ((s : ℕ) × IsTrue (is_named m s k) × IsTrue (ends_in_tomb m s k))

-- ---- rising lists

module _ {X : Type 0} (R : X → X → Type 0) where
  pairs_head : (x : X) (xs : List X) → AllPairs R (x ∷ xs) → All (R x) xs
  pairs_head x xs pairs k d lt = pairs 0 (suc k) d (omega arith) (omega (arith, lt))

  pairs_tail : (x : X) (xs : List X) → AllPairs R (x ∷ xs) → AllPairs R xs
  pairs_tail x xs pairs i j d lt within = pairs (suc i) (suc j) d (omega (arith, lt)) (omega (arith, within))

pairs_map : {X Y : Type 0} (R : Y → Y → Type 0) (f : X → Y) (xs : List X) → AllPairs (λ a b. R (f a) (f b)) xs → AllPairs R (map f xs)
pairs_map R f [] pairs = λ i j d lt within. let h : j < 0 = within in absurd (omega (arith, h))
pairs_map {X} {Y} R f (x ∷ xs) pairs =
    AllPairs-cons R (f x) (map f xs) (All-map (R (f x)) f xs (pairs_head (λ a b. R (f a) (f b)) x xs pairs)) (pairs_map R f xs (pairs_tail (λ a b. R (f a) (f b)) x xs pairs))

abbrev Rises : List (List ℕ) → Type 0
Rises keys = AllPairs (λ a b. key_cmp a b ≡ Less) keys

abbrev has : List (List ℕ) → List ℕ → Bool
has keys k = list_any (λ x. bytes_eq x k) keys

-- a key below all is not among them
none_below : (k : List ℕ) (keys : List (List ℕ)) → All (λ x. key_cmp k x ≡ Less) keys → has keys k ≡ false
none_below k keys all = list_any_none (λ x. bytes_eq x k) keys (λ i d lt. less_apart_turned k (get_or keys i d) (all i d lt))

below_all : (x y : List ℕ) (keys : List (List ℕ)) → key_cmp x y ≡ Less → Rises (y ∷ keys) → All (λ z. key_cmp x z ≡ Less) (y ∷ keys)
below_all x y keys less rise =
    All-cons (λ z. key_cmp x z ≡ Less) y keys less (λ i d lt. nat_list_cmp_total.trans x y (get_or keys i d) less (pairs_head (λ a b. key_cmp a b ≡ Less) y keys rise i d lt))

apart : (x y : List ℕ) (xs ys : List (List ℕ)) → key_cmp x y ≡ Less → Rises (y ∷ ys) → ((k : List ℕ) → has (x ∷ xs) k ≡ has (y ∷ ys) k) → ⊥
apart x y xs ys less rise same =
    true≢false (sym (ap (λ b. b || has xs x) (bytes_eq-self x)) ∙ same x ∙ none_below x (y ∷ ys) (below_all x y ys less rise))

some_none : (x : List ℕ) (xs : List (List ℕ)) → has (x ∷ xs) x ≡ false → ⊥
some_none x xs e = true≢false (sym (ap (λ b. b || has xs x) (bytes_eq-self x)) ∙ e)

-- rising lists of the same keys are one
pub same_keys : (xs ys : List (List ℕ)) → Rises xs → Rises ys → ((k : List ℕ) → has xs k ≡ has ys k) → xs ≡ ys
same_keys [] [] up rise same = refl
same_keys [] (y ∷ ys) up rise same = absurd (some_none y ys (sym (same y)))
same_keys (x ∷ xs) [] up rise same = absurd (some_none x xs (same x))
same_keys (x ∷ xs) (y ∷ ys) up rise same = by (key_cmp x y) refl (same_keys xs ys (pairs_tail (λ a b. key_cmp a b ≡ Less) x xs up) (pairs_tail (λ a b. key_cmp a b ≡ Less) y ys rise))
  where
    rest : x ≡ y → (k : List ℕ) → has xs k ≡ has ys k
    rest one k = at_key (bytes_eq x k) refl
      where
        at_key : (b : Bool) → bytes_eq x k ≡ b → has xs k ≡ has ys k
        at_key true t =
            let is : x ≡ k = same_bytes x k t in
            none_below k xs (subst (λ q. All (λ z. key_cmp q z ≡ Less) xs) is (pairs_head (λ a b. key_cmp a b ≡ Less) x xs up))
            ∙ sym (none_below k ys (subst (λ q. All (λ z. key_cmp q z ≡ Less) ys) (sym one ∙ is) (pairs_head (λ a b. key_cmp a b ≡ Less) y ys rise)))
        at_key false f =
            sym (ap (λ b. b || has xs k) f) ∙ same k ∙ ap (λ b. b || has ys k) (ap (λ q. bytes_eq q k) (sym one) ∙ f)

    by : (o : Ordering) → key_cmp x y ≡ o → (((k : List ℕ) → has xs k ≡ has ys k) → xs ≡ ys) → (x ∷ xs) ≡ (y ∷ ys)
    by Less e later = absurd (apart x y xs ys e rise same)
    by Greater e later = absurd (apart y x ys xs (nat_list_cmp_total.antisymm y x ∙ ap ordering_reverse e) up (λ k. sym (same k)))
    by Equal e later =
        let one : x ≡ y = same_bytes x y (texts_ties x y ∙ ap is_eq e) in
        ap₂ (λ (z : List ℕ) (zs : List (List ℕ)). z ∷ zs) one (later (rest one))

-- ---- the keys of an index

and_false : (b : Bool) → (b && false) ≡ false
and_false true = refl
and_false false = refl

module _ (after : Option (List ℕ)) where
  abbrev taken : Entry → Bool
  taken e = is_above after e.0 && index.is_crowded e.1.versions

  abbrev keys_in : Index → List (List ℕ)
  keys_in es = map (λ e. e.0) (filter taken es)

  rises_in : (es : Index) → IsOrdered es → Rises (keys_in es)
  rises_in es ordered = pairs_map (λ a b. key_cmp a b ≡ Less) (λ (e : Entry). e.0) (filter taken es) (AllPairs-filter (λ (a b : Entry). key_cmp a.0 b.0 ≡ Less) taken es ordered)

  has_kept : (e : Entry) (k : List ℕ) (es : Index) (b : Bool) → has (map (λ (e : Entry). e.0) (cond b (e ∷ filter taken es) (filter taken es))) k ≡ ((b && bytes_eq e.0 k) || has (keys_in es) k)
  has_kept e k es true = refl
  has_kept e k es false = refl

  has_in : (es : Index) → IsOrdered es → (k : List ℕ) → has (keys_in es) k ≡ (is_above after k && index.is_crowded (kept es k).versions)
  has_in [] ordered k = sym (and_false (is_above after k))
  has_in (e ∷ es) ordered k =
      has_kept e k es (taken e) ∙ by (bytes_eq e.0 k) refl (has_in es (pairs_tail (λ (a b : Entry). key_cmp a.0 b.0 ≡ Less) e es ordered) k)
    where
      higher : All (λ (y : Entry). key_cmp e.0 y.0 ≡ Less) es
      higher = pairs_head (λ (a b : Entry). key_cmp a.0 b.0 ≡ Less) e es ordered

      or_none : (b h : Bool) → h ≡ false → ((b && true) || h) ≡ b
      or_none true h f = refl
      or_none false h f = f

      and_none : (b h : Bool) → ((b && false) || h) ≡ h
      and_none true h = refl
      and_none false h = refl

      by : (b : Bool) → bytes_eq e.0 k ≡ b → has (keys_in es) k ≡ (is_above after k && index.is_crowded (kept es k).versions)
          → ((taken e && b) || has (keys_in es) k) ≡ (is_above after k && index.is_crowded (kept (e ∷ es) k).versions)
      by true t rest =
          let is : e.0 ≡ k = same_bytes e.0 k t in
          let absent : has (keys_in es) k ≡ false =
          subst (λ q. has (keys_in es) q ≡ false) is (none_below e.0 (keys_in es) (All-map (λ x. key_cmp e.0 x ≡ Less) (λ (y : Entry). y.0) (filter taken es) (All-filter taken (λ y. key_cmp e.0 y.0 ≡ Less) es higher))) in
          or_none (taken e) (has (keys_in es) k) absent
          ∙ ap (λ q. is_above after q && index.is_crowded e.1.versions) is
          ∙ sym (ap (λ x. is_above after k && index.is_crowded x.versions) (kept_here e es k t))
      by false f rest =
          and_none (taken e) (has (keys_in es) k) ∙ rest ∙ sym (ap (λ x. is_above after k && index.is_crowded x.versions) (kept_later e es k f))

-- ---- versions

abbrev slots_in : List Version → List ℕ
slots_in versions = map (λ v. v.slot) versions

among_slots : (s : ℕ) (versions : List Version) → among s (slots_in versions) ≡ is_some (at s versions)
among_slots s [] = refl
among_slots s (v ∷ versions) = by (eqb v.slot s) (among_slots s versions)
  where
    by : (b : Bool) → among s (slots_in versions) ≡ is_some (at s versions) → (b || among s (slots_in versions)) ≡ is_some (cond b (Some v) (at s versions))
    by true rest = refl
    by false rest = rest

-- a version is found at its slot
at_own : (versions : List Version) (v : Version) → VersionsRise versions → Contains versions v → at v.slot versions ≡ Some v
at_own [] v up c = let h : c.0 < 0 = c.1 in absurd (omega (arith, h))
at_own (w ∷ versions) v up c = by c.0 c.1 c.2 (at_own versions v (pairs_tail (λ (a b : Version). a.slot < b.slot) w versions up))
  where
    by : (i : ℕ) → i < length (w ∷ versions) → get_or (w ∷ versions) i v ≡ v → (Contains versions v → at v.slot versions ≡ Some v) → cond (eqb w.slot v.slot) (Some w) (at v.slot versions) ≡ Some v
    by zero lt e rest = ap (λ b. cond b (Some w) (at v.slot versions)) (eq-eqb w.slot v.slot (ap (λ (x : Version). x.slot) e)) ∙ ap Some e
    by (suc i) lt e rest =
        let later : Contains versions v = (i, omega (arith, lt), e) in
        let above : w.slot < v.slot = All-contains (λ (x : Version). w.slot < x.slot) versions v (pairs_head (λ (a b : Version). a.slot < b.slot) w versions up) later in
        ap (λ b. cond b (Some w) (at v.slot versions)) (ne_eqb w.slot v.slot (λ same. omega (arith, above, same))) ∙ rest later

-- ---- in a state

module _ (p : Parts) (m : State) (h : IsSoundMidway m) (r : Reflects p m) (c : Crowded m) (rise : (k : List ℕ) → VersionsRise (kept p.index k).versions) where
  abbrev versions : List ℕ → List Version
  versions k = (kept p.index k).versions

  abbrev is_tomb : Version → Bool
  is_tomb v = v.tomb && is_stored v.place

  abbrev named_tombs : List ℕ → Bool
  named_tombs k = list_any (λ p. bytes_eq p.key k && ends_in_tomb m p.slot k) m.named

  length_is : (k : List ℕ) → length (versions k) ≡ length (present_slots m k)
  length_is k =
      sym (length-map (versions k) (λ (v : Version). v.slot))
      ∙ sym (c.slots k (slots_in (versions k)) (pairs_map (λ a b. a < b) (λ (v : Version). v.slot) (versions k) (rise k)) (λ s. among_slots s (versions k) ∙ sym (present_is p m r s k)))

  tombs_are : (k : List ℕ) → list_any is_tomb (versions k) ≡ named_tombs k
  tombs_are k = both_ways (list_any is_tomb (versions k)) (named_tombs k) there back
    where
      there : list_any is_tomb (versions k) ≡ true → named_tombs k ≡ true
      there e =
          let some = any_some is_tomb (versions k) e in
          let v = some.0 in
          let both = and_parts v.tomb (is_stored v.place) some.1 in
          let is : at v.slot (versions k) ≡ Some v = at_own (versions k) v (rise k) some.2 in
          let named : IsTrue (is_named m v.slot k) = named_is p m r h v.slot k ∙ ap (λ o. option_map_or (λ (w : Version). is_stored w.place) o false) is ∙ both.1 in
          (c.tomb k).1 (v.slot, named, tomb_is p m r v.slot k v is ∙ both.0)

      back : named_tombs k ≡ true → list_any is_tomb (versions k) ≡ true
      back e =
          let some = (c.tomb k).0 e in
          let s = some.0 in
          by s (at s (versions k)) refl (sym (named_tomb_is p m r h s k) ∙ and_from (is_named m s k) (ends_in_tomb m s k) some.1 some.2)
        where
          by : (s : ℕ) (o : Option Version) → at s (versions k) ≡ o → option_map_or is_tomb o false ≡ true → list_any is_tomb (versions k) ≡ true
          by s None is t = absurd (true≢false (sym t))
          by s (Some v) is t = some_any is_tomb (versions k) v (found (λ (w : Version). eqb w.slot s) (versions k) v is).0 t

  crowded_is : (k : List ℕ) → index.is_crowded (versions k) ≡ is_crowded m k
  crowded_is k = ap₂ (λ n b. nat_lt 1 n || b) (length_is k) (tombs_are k)

  has_crowded : (k : List ℕ) → has (crowded_keys m) k ≡ is_crowded m k
  has_crowded k = both_ways (has (crowded_keys m) k) (is_crowded m k) there back
    where
      there : has (crowded_keys m) k ≡ true → is_crowded m k ≡ true
      there e =
          let some = any_some (λ x. bytes_eq x k) (crowded_keys m) e in
          (c.each k).0 (subst (Contains (crowded_keys m)) (same_bytes some.0 k some.1) some.2)

      back : is_crowded m k ≡ true → has (crowded_keys m) k ≡ true
      back e = some_any (λ x. bytes_eq x k) (crowded_keys m) k ((c.each k).1 e) (bytes_eq-self k)

  module _ (after : Option (List ℕ)) where
    abbrev above : List ℕ → Bool
    above k = option_map_or (λ a. is_lt (key_cmp a k)) after true

    above_is : (o : Option (List ℕ)) (k : List ℕ) → option_map_or (λ a. is_lt (key_cmp a k)) o true ≡ is_above o k
    above_is None k = refl
    above_is (Some a) k = refl

    has_above : (k : List ℕ) → has (crowded_above m after) k ≡ (is_above after k && is_crowded m k)
    has_above k =
        any-filter_same (λ x. bytes_eq x k) above (above k) (λ x t. ap above (same_bytes x k t)) (crowded_keys m)
        ∙ ap₂ (λ a b. a && b) (above_is after k) (has_crowded k)

    pub crowded_same : IsOrdered p.index → crowded_after p.index after ≡ crowded_above m after
    crowded_same ordered =
        same_keys (crowded_after p.index after) (crowded_above m after) (rises_in after p.index ordered) (AllPairs-filter (λ a b. key_cmp a b ≡ Less) above (crowded_keys m) c.rise)
        (λ k. has_in after p.index ordered k ∙ ap (λ b. is_above after k && b) (crowded_is k) ∙ sym (has_above k))
