-- What an index tells of the pairs of a state.
use Rattle.std.proofs.Common.{◌≡◌, ℕ, ◌<◌, ◌≤◌, List, Bool, true, false, cond, not, eqb, nat_lt, nat_le, ◌&&◌, ◌||◌, ◌↔◌, map, ◌++◌, Option, Some, None, is_some, option_map, refl, sym, ap, ◌∙◌, subst, inl, inr, ◌⊎◌, IsTrue, IsFalse, arith}
use Rattle.std.specs.List.{list_any}
use Rattle.std.specs.Option.{option_map_or}
use Rattle.std.proofs.lemmas.Bool.{cases_Bool, cases_lt, true≢false, and_parts, and_from, or_left, or_right, lt-ltb, ltb-true, le-leb, leb-true}
use Rattle.slot_list.specs.declared.Version.{Version}
use Rattle.slot_list.specs.Versions.{at}
use Rattle.accounts_index.specs.Index.{kept, is_stored}
use Rattle.adb_model.specs.Lists.{among}
use Rattle.adb_model.specs.State.{Stored, Pair, Storage, State}
use Rattle.adb_model.specs.Load.{is_of}
use Rattle.adb_model.specs.Presence.{has_store, is_cached, is_pair, is_named, is_present, is_live, has_row, is_held, ends_in_tomb, slots_of}
use Rattle.adb_model.specs.Reclaimable.{is_shadowed, is_there_below, is_spent}
use Rattle.adb_model.specs.Sound.{IsSoundMidway}
use Rattle.book_parts.specs.Parts.{Parts}
use Rattle.book_parts.specs.Reflects.{Reflects, found_of, mark_of}
use Rattle.book_parts.specs.Reclaims.{is_stored_at, is_stored_tomb, IsShadow, IsNewestShadow, IsLowestTomb}
use Rattle.book_parts.proofs.Found.{none_some}
use Rattle.book_parts.proofs.Lookups.{marked}
use Rattle.book_parts.proofs.Members.{both_ways, any_some, some_any, any_weaker, any_front, any_back, any_mapped, among_some, some_among}

-- ---- marks

abbrev seen : Option Version → Option (Bool × Bool)
seen o = option_map mark_of (option_map found_of o)

abbrev mark : Bool → Bool → Bool → Option (Bool × Bool)
mark p t c = cond p (Some (t, c)) None

abbrev stored_in : Option Version → Bool
stored_in o = option_map_or (λ v. is_stored v.place) o false

abbrev tomb_in : Option Version → Bool
tomb_in o = option_map_or (λ v. v.tomb && is_stored v.place) o false

present_by : (o : Option Version) (p t c : Bool) → seen o ≡ mark p t c → p ≡ is_some o
present_by None true t c e = absurd (none_some e)
present_by None false t c e = refl
present_by (Some v) true t c e = refl
present_by (Some v) false t c e = absurd (none_some (sym e))

not_true : (b : Bool) → true ≡ not b → b ≡ false
not_true true e = e
not_true false e = refl

not_false : (b : Bool) → false ≡ not b → b ≡ true
not_false true e = refl
not_false false e = e

-- what is not cached but present is stored
named_by : (o : Option Version) (t c n : Bool) → seen o ≡ mark (c || n) t c → (n ≡ true → c ≡ false) → n ≡ stored_in o
named_by None t true n e apart = absurd (none_some e)
named_by None t false true e apart = absurd (none_some e)
named_by None t false false e apart = refl
named_by (Some v) t true true e apart = absurd (true≢false (apart refl))
named_by (Some v) t true false e apart = sym (not_true (is_stored v.place) (marked true t true (mark_of (found_of v)) e).2)
named_by (Some v) t false true e apart = sym (not_false (is_stored v.place) (marked true t false (mark_of (found_of v)) e).2)
named_by (Some v) t false false e apart = absurd (none_some (sym e))

-- and its tomb is the version's
tomb_by : (o : Option Version) (p t c n : Bool) → seen o ≡ mark p t c → n ≡ stored_in o → (n && t) ≡ tomb_in o
tomb_by None p t c n e f = ap (λ b. b && t) f
tomb_by (Some v) p t c n e f = by (is_stored v.place) f (marked p t c (mark_of (found_of v)) e).1
  where
    by : (b : Bool) → n ≡ b → t ≡ v.tomb → (n && t) ≡ (v.tomb && b)
    by true g h = ap (λ b. b && t) g ∙ h ∙ sym (and_true v.tomb)
      where
        and_true : (b : Bool) → (b && true) ≡ b
        and_true true = refl
        and_true false = refl
    by false g h = ap (λ b. b && t) g ∙ sym (and_false v.tomb)
      where
        and_false : (b : Bool) → (b && false) ≡ false
        and_false true = refl
        and_false false = refl

pub and_not : (b f : Bool) → f ≡ true → (b && not f) ≡ false
and_not true f e = ap not e
and_not false f e = refl

-- ---- slots of a state

module _ (m : State) (q : ℕ) (k : List ℕ) where
  abbrev stored_slots : List ℕ
  stored_slots = map (λ t. t.slot) m.stores

  abbrev named_slots : List ℕ
  named_slots = map (λ p. p.slot) m.named

  abbrev storage_slots : List ℕ
  storage_slots = map (λ t. t.slot) m.storages

  in_stores : has_store m q k ≡ true → among q (slots_of m) ≡ true
  in_stores e =
      any_front (λ x. eqb x q) (stored_slots ++ named_slots) storage_slots (any_front (λ x. eqb x q) stored_slots named_slots
      (any_mapped (λ (t : Stored). t.slot) (λ x. eqb x q) m.stores ∙ any_weaker (is_of q k) (λ t. eqb t.slot q) m.stores (λ t h. (and_parts (eqb t.slot q) _ h).0) e))

  in_named : is_named m q k ≡ true → among q (slots_of m) ≡ true
  in_named e =
      any_front (λ x. eqb x q) (stored_slots ++ named_slots) storage_slots (any_back (λ x. eqb x q) stored_slots named_slots
      (any_mapped (λ (p : Pair). p.slot) (λ x. eqb x q) m.named ∙ any_weaker (is_pair q k) (λ p. eqb p.slot q) m.named (λ p h. (and_parts (eqb p.slot q) _ h).0) e))

  -- a pair that is present or held is of a slot of the state
  pub there_in : (is_present m q k || is_held m q k) ≡ true → among q (slots_of m) ≡ true
  there_in e = by (cases_Bool (is_cached m q k)) (cases_Bool (is_named m q k))
    where
      held : is_held m q k ≡ true → among q (slots_of m) ≡ true
      held h =
          any_back (λ x. eqb x q) (stored_slots ++ named_slots) storage_slots
          (any_mapped (λ (t : Storage). t.slot) (λ x. eqb x q) m.storages
          ∙ any_weaker (λ t. (is_live t && eqb t.slot q) && has_row k t.rows) (λ t. eqb t.slot q) m.storages (λ t g. (and_parts (is_live t) (eqb t.slot q) (and_parts (is_live t && eqb t.slot q) _ g).0).1) h)

      by : (is_cached m q k ≡ true) ⊎ (is_cached m q k ≡ false) → (is_named m q k ≡ true) ⊎ (is_named m q k ≡ false) → among q (slots_of m) ≡ true
      by (inl cached) n = in_stores (and_parts (has_store m q k) (not (among q m.flushed)) cached).0
      by (inr f) (inl named) = in_named named
      by (inr f) (inr g) = held (sym (ap (λ b. (b || is_named m q k) || is_held m q k) f ∙ ap (λ b. b || is_held m q k) g) ∙ e)

-- ---- pairs

module _ (p : Parts) (m : State) (r : Reflects p m) where
  abbrev versions : List ℕ → List Version
  versions k = (kept p.index k).versions

  pub present_is : (s : ℕ) (k : List ℕ) → is_present m s k ≡ is_some (at s (versions k))
  present_is s k = present_by (at s (versions k)) (is_present m s k) (ends_in_tomb m s k) (is_cached m s k) (r.marks k s)

  pub tomb_is : (s : ℕ) (k : List ℕ) (v : Version) → at s (versions k) ≡ Some v → ends_in_tomb m s k ≡ v.tomb
  tomb_is s k v e = (marked (is_present m s k) (ends_in_tomb m s k) (is_cached m s k) (mark_of (found_of v)) (ap seen (sym e) ∙ r.marks k s)).1

  module _ (h : IsSoundMidway m) where
    named_apart : (s : ℕ) (k : List ℕ) → is_named m s k ≡ true → is_cached m s k ≡ false
    named_apart s k named = and_not (has_store m s k) (among s m.flushed) (h.slots.named s k named)

    pub named_is : (s : ℕ) (k : List ℕ) → is_named m s k ≡ is_stored_at (versions k) s
    named_is s k = named_by (at s (versions k)) (ends_in_tomb m s k) (is_cached m s k) (is_named m s k) (r.marks k s) (named_apart s k)

    pub named_tomb_is : (s : ℕ) (k : List ℕ) → (is_named m s k && ends_in_tomb m s k) ≡ is_stored_tomb (versions k) s
    named_tomb_is s k = tomb_by (at s (versions k)) (is_present m s k) (ends_in_tomb m s k) (is_cached m s k) (is_named m s k) (r.marks k s) (named_is s k)

    -- ---- shadowed pairs

    abbrev shadows : ℕ → List ℕ → ℕ → Bool
    shadows s k q = (nat_lt s q && nat_le q m.cleaned) && is_present m q k

    pub Shadows : ℕ → List ℕ → Type 0
    Shadows s k = (root : ℕ) × (s < root) × IsShadow p.roots p.cleaned (versions k) root

    pub shadowed_is : (s : ℕ) (k : List ℕ) → IsTrue (is_shadowed m s k) ↔ (IsTrue (is_stored_at (versions k) s) × ((root : ℕ) × (s < root) × IsShadow p.roots p.cleaned (versions k) root))
    shadowed_is s k = (there, back)
      where
        there : IsTrue (is_shadowed m s k) → IsTrue (is_stored_at (versions k) s) × ((root : ℕ) × (s < root) × IsShadow p.roots p.cleaned (versions k) root)
        there e =
            let both = and_parts (is_named m s k) (list_any (shadows s k) m.roots) e in
            let some = any_some (shadows s k) m.roots both.1 in
            let root = some.0 in
            let parts = and_parts (nat_lt s root && nat_le root m.cleaned) (is_present m root k) some.1 in
            let within = and_parts (nat_lt s root) (nat_le root m.cleaned) parts.0 in (
              sym (named_is s k) ∙ both.0,
              (
                root,
                ltb-true s root within.0,
                record {
                  is_root = ap (among root) r.roots ∙ some_among root m.roots some.2;
                  upto = subst (λ (n : ℕ). root ≤ n) (sym r.cleaned) (leb-true root m.cleaned within.1);
                  version = sym (present_is root k) ∙ parts.1;
                },
              ),
            )

        back : IsTrue (is_stored_at (versions k) s) × ((root : ℕ) × (s < root) × IsShadow p.roots p.cleaned (versions k) root) → IsTrue (is_shadowed m s k)
        back e =
            let root = e.1.0 in
            let shadow = e.1.2 in
            let upto : root ≤ m.cleaned = subst (λ (n : ℕ). root ≤ n) r.cleaned shadow.upto in
            and_from (is_named m s k) (list_any (shadows s k) m.roots) (named_is s k ∙ e.0)
            (some_any (shadows s k) m.roots root (among_some root m.roots (ap (among root) (sym r.roots) ∙ shadow.is_root))
            (and_from (nat_lt s root && nat_le root m.cleaned) (is_present m root k)
            (and_from (nat_lt s root) (nat_le root m.cleaned) (lt-ltb s root e.1.1) (le-leb root m.cleaned upto))
            (present_is root k ∙ shadow.version)))

    -- the newest shadow tells which are
    pub shadowed_by : (k : List ℕ) (root : ℕ) → IsNewestShadow p.roots p.cleaned (versions k) (Some root) → (s : ℕ) → is_shadowed m s k ≡ (is_stored_at (versions k) s && nat_lt s root)
    shadowed_by k root newest s = both_ways (is_shadowed m s k) (is_stored_at (versions k) s && nat_lt s root) there back
      where
        there : is_shadowed m s k ≡ true → (is_stored_at (versions k) s && nat_lt s root) ≡ true
        there e =
            let is = (shadowed_is s k).0 e in
            let below : s < root = elim (cases_lt root is.1.0) [ inl lt ↦ absurd (newest.1 is.1.0 lt is.1.2) | inr ge ↦ omega (arith, ge, is.1.1) ] in
            and_from (is_stored_at (versions k) s) (nat_lt s root) is.0 (lt-ltb s root below)

        back : (is_stored_at (versions k) s && nat_lt s root) ≡ true → is_shadowed m s k ≡ true
        back e =
            let both = and_parts (is_stored_at (versions k) s) (nat_lt s root) e in
            (shadowed_is s k).1 (both.0, (root, ltb-true s root both.1, newest.0))

    pub none_shadowed : (k : List ℕ) → IsNewestShadow p.roots p.cleaned (versions k) None → (s : ℕ) → IsFalse (is_shadowed m s k)
    none_shadowed k none s = by (cases_Bool (is_shadowed m s k))
      where
        by : (is_shadowed m s k ≡ true) ⊎ (is_shadowed m s k ≡ false) → IsFalse (is_shadowed m s k)
        by (inl t) = let is = (shadowed_is s k).0 t in absurd (none is.1.0 is.1.2)
        by (inr f) = f

    -- ---- spent pairs

    abbrev below : ℕ → List ℕ → ℕ → Bool
    below s k q = nat_lt q s && (is_present m q k || is_held m q k)

    none_of : (o : Option Version) → is_some o ≡ false → o ≡ None
    none_of None e = refl
    none_of (Some v) e = absurd (true≢false e)

    is_false : (b : Bool) → (b ≡ true → ⊥) → b ≡ false
    is_false true never = absurd (never refl)
    is_false false never = refl

    pub spent_is : (s : ℕ) (k : List ℕ) → IsTrue (is_spent m s k) ↔ IsLowestTomb p.cleaned (versions k) (kept p.index k).held s
    spent_is s k = (there, back)
      where
        there : IsTrue (is_spent m s k) → IsLowestTomb p.cleaned (versions k) (kept p.index k).held s
        there e =
            let both = and_parts ((is_named m s k && ends_in_tomb m s k) && nat_le s m.cleaned) (not (is_there_below m s k)) e in
            let tomb = and_parts (is_named m s k && ends_in_tomb m s k) (nat_le s m.cleaned) both.0 in
            let nothing : (q : ℕ) → q < s → (is_present m q k || is_held m q k) ≡ true → ⊥ = λ q lt t.
            true≢false (sym (some_any (below s k) (slots_of m) q (among_some q (slots_of m) (there_in m q k t)) (and_from (nat_lt q s) (is_present m q k || is_held m q k) (lt-ltb q s lt) t))
            ∙ not_true (is_there_below m s k) (sym both.1)) in
            record {
              tomb = sym (named_tomb_is s k) ∙ tomb.0;
              upto = subst (λ (n : ℕ). s ≤ n) (sym r.cleaned) (leb-true s m.cleaned tomb.1);
              lowest = λ q lt. (
                none_of (at q (versions k)) (is_false (is_some (at q (versions k))) (λ t. nothing q lt (or_left (is_present m q k) (is_held m q k) (present_is q k ∙ t)))),
                is_false (among q (kept p.index k).held) (λ t. nothing q lt (or_right (is_present m q k) (is_held m q k) (sym (r.held k q) ∙ t))),
              );
            }

        back : IsLowestTomb p.cleaned (versions k) (kept p.index k).held s → IsTrue (is_spent m s k)
        back l =
            and_from ((is_named m s k && ends_in_tomb m s k) && nat_le s m.cleaned) (not (is_there_below m s k))
            (and_from (is_named m s k && ends_in_tomb m s k) (nat_le s m.cleaned) (named_tomb_is s k ∙ l.tomb) (le-leb s m.cleaned (subst (λ (n : ℕ). s ≤ n) r.cleaned l.upto)))
            (ap not (is_false (is_there_below m s k) nothing))
          where
            nothing : is_there_below m s k ≡ true → ⊥
            nothing t =
                let some = any_some (below s k) (slots_of m) t in
                let q = some.0 in
                let parts = and_parts (nat_lt q s) (is_present m q k || is_held m q k) some.1 in
                let low = l.lowest q (ltb-true q s parts.0) in
                true≢false (sym parts.1 ∙ ap (λ b. b || is_held m q k) (present_is q k ∙ ap is_some low.0) ∙ sym (r.held k q) ∙ low.1)
