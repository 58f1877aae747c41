-- The images of the storages in use of some slots are those of a snapshot.
use Rattle.std.proofs.Common.{◌≡◌, ℕ, zero, suc, ◌<◌, ◌≤◌, eqb, leb, Bool, true, false, cond, ◌&&◌, IsTrue, List, [], ◌∷◌, get_or, map, filter_map, find, All, AllPairs, Any, Contains, Option, Some, None, option_map, option_and_then, refl, sym, ap, ◌∙◌, subst, subst₂, arith}
use Rattle.std.specs.List.{cons_option}
use Rattle.std.specs.Option.{is_some}
use Rattle.std.proofs.lemmas.Bool.{true≢false, and_parts, and_from, eqb-true, eq-eqb, leb-true, le-leb}
use Rattle.std.proofs.lemmas.List.{get_or-map, length-map}
use Rattle.std.proofs.lemmas.List.Elements.{All-cons, All-nil, All-map, Contains-get_or}
use Rattle.vec_scan.specs.Image.{Image}
use Rattle.cell_table.specs.Phases as phases
use Rattle.cell_table.specs.Phases.{has_id, value_of}
use Rattle.cell_table.specs.Cells.{cell_at}
use Rattle.storage_map.specs.declared.entry.Live.{Live}
use Rattle.storage_map.specs.Slots.{live_at}
use Rattle.adb_model.specs.Lists.{among}
use Rattle.adb_model.specs.State.{Storage, State}
use Rattle.adb_model.specs.Presence.{is_live}
use Rattle.adb_model.specs.Storages.{live_storage, storage_with, pin_count}
use Rattle.adb_model.specs.Opened as model
use Rattle.adb_model.specs.Laws as laws
use Rattle.adb_model.specs.Sound.{IsSound}
use Rattle.book_parts.specs.Parts.{Parts, Shared}
use Rattle.book_parts.specs.Cells.{IsCellOf, IsImageOf}
use Rattle.book_parts.specs.Storages.{IsLiveOf}
use Rattle.book_parts.specs.Reflects.{Reflects}
use Rattle.vec_scan.specs.Shown.{shown}
use Rattle.book_parts.specs.Snaps.{ids_of, image_at, AreInUse, AreUpto, MayPin}
use Rattle.book_parts.proofs.Found.{some_is, none_some, found, of_id, one_of_id}
use Rattle.book_parts.proofs.Members.{among_some, some_among}
use Rattle.book_parts.proofs.UsedStorage.{used_storage, live_image}

-- what is known of an image that a slot leads to
pub record IsUsed (p : Parts) (m : State) (s : ℕ) (i : Image) : Type 0 where
  pub storage : Storage
  pub cell : ℕ
  pub live : live_storage m s ≡ Some storage
  pub with_id : storage_with m i.id ≡ Some storage
  pub has : has_id i.id (cell_at p.cells.cells cell) ≡ true
  pub in_use : phases.is_live (cell_at p.cells.cells cell) ≡ true
  pub image : IsImageOf storage i

module _ (p : Parts) (m : State) (h : IsSound m) (r : Reflects p m) where
  shared : (o : Option Shared) (i : Image) → option_map (λ image. image.value) o ≡ Some i → (image : Shared) × (o ≡ Some image) × (image.value ≡ i)
  shared None i e = absurd (none_some e)
  shared (Some image) i e = (image, refl, some_is e)

  pub used_at : (s : ℕ) (i : Image) → image_at p.cells p.map s ≡ Some i → IsUsed p m s i
  used_at s i e = by (live_at p.map s) refl e
    where
      by : (o : Option Live) → live_at p.map s ≡ o → option_and_then (λ live. option_map (λ image. image.value) (value_of (cell_at p.cells.cells live.cell))) o ≡ Some i → IsUsed p m s i
      by None at f = absurd (none_some f)
      by (Some live) at f =
          let cell = cell_at p.cells.cells live.cell in
          let image = shared (value_of cell) i f in
          let used = used_storage p m s live h.ids.differ r at in
          let t = used.0 in
          let o = r.cells.each live.cell t.id used.2 in
          let of = of_id m t.id o.0 o.1 in
          let one : o.0 ≡ t = one_of_id m h o.0 t of.0 (found (λ (u : Storage). is_live u && eqb u.slot s) m.storages t used.1).0 of.1 in
          let fits : IsCellOf t (pin_count m t.id) cell = subst (λ u. IsCellOf u (pin_count m t.id) cell) one o.2 in
          let is : IsImageOf t i = subst (IsImageOf t) image.2 (live_image t (pin_count m t.id) cell image.0 used.3 used.2 fits image.1) in
          record {
            storage = t;
            cell = live.cell;
            live = used.1;
            with_id = ap (storage_with m) is.id ∙ o.1 ∙ ap Some one;
            has = ap (λ n. has_id n cell) is.id ∙ used.2;
            in_use = used.3;
            image = is;
          }

  -- a slot has an entry in use where it has a storage in use
  live_both : (named : ℕ) (l : Option Live) (o : Option Storage) → IsLiveOf p.cells.cells named l o → is_some l ≡ is_some o
  live_both named None None is = refl
  live_both named None (Some t) is = absurd is
  live_both named (Some live) None is = absurd is
  live_both named (Some live) (Some t) is = refl

  pub same_slots : (passes : ℕ → Bool) (images : List Image) (a : AreInUse passes p.cells p.map images) (s : ℕ) → among s a.of ≡ (passes s && is_some (live_storage m s))
  same_slots passes images a s = a.all s ∙ ap (λ b. passes s && b) (live_both _ (live_at p.map s) (live_storage m s) (r.slots.lives s))

-- ---- lists of slots and of their images

module _ {X Y : Type 0} (f : X → Option Y) where
  first_is : (x : X) (xs : List X) (y : Y) (ys : List Y) → map f (x ∷ xs) ≡ map Some (y ∷ ys) → f x ≡ Some y
  first_is x xs y ys e = cc

  rest_is : (x : X) (xs : List X) (y : Y) (ys : List Y) → map f (x ∷ xs) ≡ map Some (y ∷ ys) → map f xs ≡ map Some ys
  rest_is x xs y ys e = cc

  -- what each leads to
  pub each_leads : (P : Y → Type 0) → (xs : List X) (ys : List Y) → ((x : X) (y : Y) → Contains xs x → f x ≡ Some y → P y) → map f xs ≡ map Some ys → All P ys
  each_leads P [] [] says e = All-nil P
  each_leads P [] (y ∷ ys) says e = absurd cc
  each_leads P (x ∷ xs) [] says e = absurd cc
  each_leads P (x ∷ xs) (y ∷ ys) says e =
      All-cons P y ys (says x y (0, omega arith, refl) (first_is x xs y ys e))
      (each_leads P xs ys (λ z w c. says z w (suc c.0, omega (arith, c.1), c.2)) (rest_is x xs y ys e))

  -- where each tells what it was found by, the lists are one
  pub told_back : (g : Y → X) → (xs : List X) (ys : List Y) → ((x : X) (y : Y) → f x ≡ Some y → g y ≡ x) → map f xs ≡ map Some ys → map g ys ≡ xs
  told_back g [] [] says e = refl
  told_back g [] (y ∷ ys) says e = absurd cc
  told_back g (x ∷ xs) [] says e = absurd cc
  told_back g (x ∷ xs) (y ∷ ys) says e = ap (λ z. z ∷ map g ys) (says x y (first_is x xs y ys e)) ∙ ap (λ zs. x ∷ zs) (told_back g xs ys says (rest_is x xs y ys e))

  -- what another search finds has the same numbers
  pub same_numbers : {Z : Type 0} (find : X → Option Z) (a : Z → ℕ) (b : Y → ℕ) → (xs : List X) (ys : List Y)
      → ((x : X) (y : Y) → f x ≡ Some y → (z : Z) × (find x ≡ Some z) × (a z ≡ b y)) → map f xs ≡ map Some ys → map a (filter_map find xs) ≡ map b ys
  same_numbers find a b [] [] says e = refl
  same_numbers find a b [] (y ∷ ys) says e = absurd cc
  same_numbers find a b (x ∷ xs) [] says e = absurd cc
  same_numbers find a b (x ∷ xs) (y ∷ ys) says e =
      let z = says x y (first_is x xs y ys e) in
      ap (λ o. map a (cons_option o (filter_map find xs))) z.1 ∙ ap (λ n. n ∷ map a (filter_map find xs)) z.2
      ∙ ap (λ ns. b y ∷ ns) (same_numbers find a b xs ys says (rest_is x xs y ys e))

  -- each that leads somewhere leads to a member
  pub leads_to : (xs : List X) (ys : List Y) (x : X) → Contains xs x → map f xs ≡ map Some ys → (y : Y) × Contains ys y × (f x ≡ Some y)
  leads_to [] ys x c e = let lt : c.0 < 0 = c.1 in absurd (omega (arith, lt))
  leads_to (z ∷ xs) [] x c e = absurd cc
  leads_to (z ∷ xs) (y ∷ ys) x (zero, lt, is) e = (y, (0, omega arith, refl), ap f (sym is) ∙ first_is z xs y ys e)
  leads_to (z ∷ xs) (y ∷ ys) x (suc k, lt, is) e =
      let w = leads_to xs ys x (k, omega (arith, lt), is) (rest_is z xs y ys e) in
      (w.0, (suc w.1.0, omega (arith, w.1.1), w.1.2), w.2)

pub pairs_unmap : {X Y : Type 0} (R : Y → Y → Type 0) (f : X → Y) (xs : List X) → AllPairs R (map f xs) → AllPairs (λ x y. R (f x) (f y)) xs
pairs_unmap R f xs pairs i j d lt within =
    subst₂ R (get_or-map f xs i d (f d) (omega (arith, lt, within))) (get_or-map f xs j d (f d) within) (pairs i j (f d) lt (omega (arith, within, length-map xs f)))

shown_slots : (images : List Image) → map (λ (i : model.Image). i.slot) (map shown images) ≡ map (λ (i : Image). i.slot) images
shown_slots [] = refl
shown_slots (i ∷ images) = ap (λ ns. i.slot ∷ ns) (shown_slots images)

-- where a search finds none, no member passes
none_there : (s : ℕ) (ts : List Storage) (u : Storage) → Contains ts u → find (λ v. is_live v && eqb v.slot s) ts ≡ None → IsTrue (is_live u && eqb u.slot s) → ⊥
none_there s [] u c e passes = let lt : c.0 < 0 = c.1 in omega (arith, lt)
none_there s (v ∷ vs) u c e passes = by (is_live v && eqb v.slot s) refl e c (λ d f. none_there s vs u d f passes)
  where
    by : (b : Bool) → (is_live v && eqb v.slot s) ≡ b → cond b (Some v) (find (λ v. is_live v && eqb v.slot s) vs) ≡ None → Contains (v ∷ vs) u
        → (Contains vs u → find (λ v. is_live v && eqb v.slot s) vs ≡ None → ⊥) → ⊥
    by true is f d later = none_some (sym f)
    by false is f (zero, lt, here) later = true≢false (sym passes ∙ ap (λ (w : Storage). is_live w && eqb w.slot s) (sym here) ∙ is)
    by false is f (suc k, lt, there) later = later (k, omega (arith, lt), there) f

-- ---- the images of a snapshot

module _ (p : Parts) (m : State) (slot : ℕ) (images : List Image) (h : IsSound m) (r : Reflects p m) (a : AreUpto slot p.cells p.map images) where
  used : (s : ℕ) (i : Image) → image_at p.cells p.map s ≡ Some i → IsUsed p m s i
  used = used_at p m h r

  at_slot : (s : ℕ) (i : Image) (u : IsUsed p m s i) → u.storage.slot ≡ s
  at_slot s i u = eqb-true u.storage.slot s (and_parts (is_live u.storage) (eqb u.storage.slot s) (found (λ t. is_live t && eqb t.slot s) m.storages u.storage u.live).1).1

  of_slot : (s : ℕ) (i : Image) → image_at p.cells p.map s ≡ Some i → i.slot ≡ s
  of_slot s i e = let u = used s i e in u.image.slot ∙ at_slot s i u

  slots_are : map (λ (i : Image). i.slot) images ≡ a.of
  slots_are = told_back (image_at p.cells p.map) (λ (i : Image). i.slot) a.of images of_slot a.each

  pub ids_are : map (λ (t : Storage). t.id) (filter_map (live_storage m) a.of) ≡ ids_of images
  ids_are = same_numbers (image_at p.cells p.map) (live_storage m) (λ (t : Storage). t.id) (λ (i : Image). i.id) a.of images
      (λ s i e. let u = used s i e in (u.storage, u.live, sym u.image.id)) a.each

  pub pinnable : MayPin images p.cells
  pinnable = each_leads (image_at p.cells p.map) (λ i. (cell : ℕ) × (has_id i.id (cell_at p.cells.cells cell) ≡ true) × (phases.is_live (cell_at p.cells.cells cell) ≡ true)) a.of images
      (λ s i c e. let u = used s i e in (u.cell, u.has, u.in_use)) a.each

  pub images_rise : AllPairs (λ i j. i.slot < j.slot) images
  images_rise = pairs_unmap (λ a b. a < b) (λ (i : Image). i.slot) images (subst (AllPairs (λ a b. a < b)) (sym slots_are) a.rise)

  within : (s : ℕ) → Contains a.of s → s ≤ slot
  within s c = leb-true s slot (and_parts (leb s slot) (is_some (live_at p.map s)) (sym (a.all s) ∙ some_among s a.of c)).0

  pub images_upto : All (λ i. i.slot ≤ slot) images
  images_upto = each_leads (image_at p.cells p.map) (λ i. i.slot ≤ slot) a.of images (λ s i c e. subst (λ n. n ≤ slot) (sym (of_slot s i e)) (within s c)) a.each

  pub images_stand : All (λ i. (t : Storage) × (storage_with m i.id ≡ Some t) × IsImageOf t i) images
  images_stand = each_leads (image_at p.cells p.map) (λ i. (t : Storage) × (storage_with m i.id ≡ Some t) × IsImageOf t i) a.of images
      (λ s i c e. let u = used s i e in (u.storage, u.with_id, u.image)) a.each

  -- ---- they are what is opened

  shows_each : All (λ i. Any (laws.IsImageOf slot (shown i)) m.storages) images
  shows_each = each_leads (image_at p.cells p.map) (λ i. Any (laws.IsImageOf slot (shown i)) m.storages) a.of images
      (λ s i c e.
      let u = used s i e in
      let f = found (λ t. is_live t && eqb t.slot s) m.storages u.storage u.live in
      let at = at_slot s i u in
      let le = within s c in
      let is : laws.IsImageOf slot (shown i) u.storage = record {
        live = (and_parts (is_live u.storage) (eqb u.storage.slot s) f.1).0;
        slot = sym u.image.slot;
        upto = omega (arith, at, le);
        rows = u.image.rows;
      } in
      (f.0.0, u.storage, f.0.1, f.0.2, is)) a.each

  finds_live : (t : Storage) → Contains m.storages t → IsTrue (is_live t) → (o : Option Storage) → live_storage m t.slot ≡ o → IsTrue (is_some o)
  finds_live t c live None e = absurd (none_there t.slot m.storages t c e (and_from _ _ live (eq-eqb t.slot t.slot refl)))
  finds_live t c live (Some u) e = refl

  shows_all : All (λ t. IsTrue (is_live t) → t.slot ≤ slot → Any (λ (i : model.Image). i.slot ≡ t.slot) (map shown images)) m.storages
  shows_all k d lt live le =
      let t = get_or m.storages k d in
      let some = finds_live t (Contains-get_or m.storages k d lt) live (live_storage m t.slot) refl in
      let listed = same_slots p m h r (λ s. leb s slot) images a t.slot ∙ and_from _ _ (le-leb t.slot slot le) some in
      let i = leads_to (image_at p.cells p.map) a.of images t.slot (among_some t.slot a.of listed) a.each in
      let c = i.1 in
      (c.0, shown i.0, omega (arith, c.1, length-map images shown), get_or-map shown images c.0 i.0 (shown i.0) c.1 ∙ ap shown c.2, of_slot t.slot i.0 i.2)

  pub shows_live : laws.ShowLive m slot (map shown images)
  shows_live = record {
    rise = pairs_unmap (λ a b. a < b) (λ (i : model.Image). i.slot) (map shown images) (subst (AllPairs (λ a b. a < b)) (sym (shown_slots images ∙ slots_are)) a.rise);
    each = All-map (λ i. Any (laws.IsImageOf slot i) m.storages) shown images shows_each;
    all = shows_all;
  }
