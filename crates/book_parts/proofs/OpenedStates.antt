-- What an opened state has, and what it has where one more image is opened.
use Rattle.std.proofs.Common.{◌≡◌, ℕ, ◌+◌, ◌<◌, List, [], ◌∷◌, ◌++◌, length, get_or, map, filter, filter_map, flat_map, find, count_by, eqb, Bool, true, false, cond, not, ◌&&◌, ◌||◌, All, Contains, Option, Some, None, refl, sym, ap, ◌∙◌, subst, append-nil, arith}
use Rattle.std.specs.List.{list_any, enumerate_from}
use Rattle.std.specs.Option.{option_map}
use Rattle.std.specs.Str.{bytes_eq}
use Rattle.std.proofs.lemmas.Bool.{and_parts, and_left, eqb-true, eq-eqb, ne_eqb, false_from_ne_true, true≢false}
use Rattle.std.proofs.lemmas.List.{get_or-map, length-map, map-append}
use Rattle.std.proofs.lemmas.List.Elements.{All-nil, All-map, All-append, All-contains, Contains-get_or, filter-append}
use Rattle.std.proofs.lemmas.List.Folds.{list_any-append, list_any_none}
use Rattle.std.proofs.lemmas.List.FromFn.{get_or-enumerate_from, length-enumerate_from}
use Rattle.std.proofs.lemmas.List.Sums.{sum_by-append}
use Rattle.adb_model.specs.Account.{Account}
use Rattle.adb_model.specs.Lists.{among, last, distinct}
use Rattle.adb_model.specs.State.{Stored, Row, Storage, Pair, State}
use Rattle.adb_model.specs.Load.{is_of, last_store}
use Rattle.adb_model.specs.Presence.{has_store, has_row, is_cached, is_pair, is_named, is_live, is_held}
use Rattle.adb_model.specs.Storages.{is_filling, storage_with, live_storage, filling_storage, open_flush}
use Rattle.adb_model.specs.Flush.{flush_rows}
use Rattle.adb_model.specs.Shrink.{named_in}
use Rattle.adb_model.specs.Stats.{cached_pairs, counts_of, same_pair}
use Rattle.adb_model.specs.Opened.{Image, stores_of, pairs_of, storage_of, opened}
use Rattle.adb_model.specs.Sound.{IsSound, last_account, last_row}
use Rattle.book_parts.specs.Reflects.{unflushed_rows}
use Rattle.book_parts.specs.Opening.{distinct_keys}
use Rattle.book_parts.proofs.Found.{contains_here, contains_next}
use Rattle.book_parts.proofs.Members.{any_some, any_mapped}
use Rattle.book_parts.proofs.OpenedLists.{find_none, filter_none, count_none, find_last, flat_last, enumerate_last, any_both, count_all, count_mapped, last_map, filter_map_swap, any_distinct}

-- nothing is cached, and no flush is open
pub record AllIsFlushed (m : State) : Type 0 where
  pub uncached : (s : ℕ) (k : List ℕ) → is_cached m s k ≡ false
  pub unflushed : (s : ℕ) → unflushed_rows m s ≡ []
  pub none_counted : (counts_of m).cached ≡ 0
  pub none_filling : (s : ℕ) → filling_storage m s ≡ None
  pub no_flush : (s : ℕ) → open_flush m s ≡ None

-- the state with one storage more, in use, of a slot that has nothing before, and with so many keys named in it
pub record HasOneMore (m n : State) (new : Storage) (keys : ℕ) : Type 0 where
  pub named : (s : ℕ) (k : List ℕ) → is_named n s k ≡ (is_named m s k || (eqb new.slot s && has_row k new.rows))
  pub none_named : (k : List ℕ) → is_named m new.slot k ≡ false
  pub held : (s : ℕ) (k : List ℕ) → is_held n s k ≡ ((eqb new.slot s && has_row k new.rows) || is_held m s k)
  pub accounts : (s : ℕ) (k : List ℕ) → last_account n s k ≡ cond (eqb new.slot s) (last_row k new.rows) (last_account m s k)
  pub with_id : (id : ℕ) → storage_with n id ≡ cond (eqb new.id id) (Some new) (storage_with m id)
  pub fresh : storage_with m new.id ≡ None
  pub live : (s : ℕ) → live_storage n s ≡ cond (eqb new.slot s) (Some new) (live_storage m s)
  pub none_live : live_storage m new.slot ≡ None
  pub names : (s : ℕ) → named_in n s ≡ named_in m s + cond (eqb new.slot s) keys 0
  pub no_names : named_in m new.slot ≡ 0

abbrev as_store : ℕ → Row → Stored
as_store s r = record { slot = s; key = r.key; account = r.account }

abbrev pub as_pair : ℕ → List ℕ → Pair
as_pair s k = record { slot = s; key = k }

-- what holds of an image's slot holds of the slots of its stores, and of its pairs
stores_in : (P : ℕ → Type 0) (images : List Image) → ((i : Image) → Contains images i → P i.slot) → All (λ (t : Stored). P t.slot) (flat_map stores_of images)
stores_in P [] holds = All-nil (λ (t : Stored). P t.slot)
stores_in P (i ∷ images) holds =
    All-append (λ (t : Stored). P t.slot) (stores_of i) (flat_map stores_of images)
    (All-map (λ (t : Stored). P t.slot) (as_store i.slot) i.rows (λ k d lt. holds i (contains_here i images)))
    (stores_in P images (λ j c. holds j (contains_next i j images c)))

pairs_in : (P : ℕ → Type 0) (images : List Image) → ((i : Image) → Contains images i → P i.slot) → All (λ (q : Pair). P q.slot) (flat_map pairs_of images)
pairs_in P [] holds = All-nil (λ (q : Pair). P q.slot)
pairs_in P (i ∷ images) holds =
    All-append (λ (q : Pair). P q.slot) (pairs_of i) (flat_map pairs_of images)
    (All-map (λ (q : Pair). P q.slot) (as_pair i.slot) (distinct bytes_eq (map (λ (r : Row). r.key) i.rows)) (λ k d lt. holds i (contains_here i images)))
    (pairs_in P images (λ j c. holds j (contains_next i j images c)))

module _ (budget slot : ℕ) (images : List Image) (more : List ℕ) where
  abbrev state : State
  state = opened budget slot images more

  pub count_storages : length state.storages ≡ length images
  count_storages = length-map (enumerate_from 1 images) storage_of ∙ length-enumerate_from 1 images

  storage_at : (j : ℕ) (d : Storage) (e : Image) → j < length images → get_or state.storages j d ≡ storage_of (1 + j, get_or images j e)
  storage_at j d e lt =
      let before : ℕ × Image = (0, e) in
      let counted = length-enumerate_from 1 images in
      get_or-map storage_of (enumerate_from 1 images) j before d (omega (arith, lt, counted)) ∙ ap storage_of (get_or-enumerate_from 1 images j before lt)

  -- what holds of the storage of each image holds of each storage
  pub of_images : (P : Storage → Type 0) → ((id : ℕ) (i : Image) → Contains images i → id < 1 + length images → P (storage_of (id, i))) → All P state.storages
  of_images P holds j d lt =
      let none : Image = record { slot = 0; rows = []; bytes = 0 } in
      let counted = count_storages in
      let within : j < length images = omega (arith, lt, counted) in
      subst P (sym (storage_at j d none within)) (holds (1 + j) (get_or images j none) (Contains-get_or images j none within) (omega (arith, within)))

  -- ---- a sound state

  module _ (h : IsSound state) where
    slot_flushed : (i : Image) → Contains images i → among i.slot state.flushed ≡ true
    slot_flushed i c =
        let counted = count_storages in
        let within = c.1 in
        let d : Storage = storage_of (0, i) in
        let at : get_or state.storages c.0 d ≡ storage_of (1 + c.0, i) = storage_at c.0 d i c.1 ∙ ap (λ (j : Image). storage_of (1 + c.0, j)) c.2 in
        let fits = h.slots.storages c.0 d (omega (arith, within, counted)) in
        ap (λ (t : Storage). among t.slot state.flushed) (sym at) ∙ fits.settled (ap is_filling at)

    flushed : All (λ (t : Stored). among t.slot state.flushed ≡ true) state.stores
    flushed = stores_in (λ q. among q state.flushed ≡ true) images slot_flushed

    uncached : (s : ℕ) (k : List ℕ) → is_cached state s k ≡ false
    uncached s k = by (has_store state s k) refl
      where
        by : (b : Bool) → has_store state s k ≡ b → (b && not (among s state.flushed)) ≡ false
        by true t =
            let a = any_some (is_of s k) state.stores t in
            let same = eqb-true a.0.slot s (and_parts (eqb a.0.slot s) (bytes_eq a.0.key k) a.1).0 in
            ap not (ap (λ q. among q state.flushed) (sym same) ∙ All-contains (λ (t : Stored). among t.slot state.flushed ≡ true) state.stores a.0 flushed a.2)
        by false f = refl

    no_stores : (s : ℕ) → among s state.flushed ≡ false → filter (λ (t : Stored). eqb t.slot s) state.stores ≡ []
    no_stores s f =
        filter_none (λ (t : Stored). eqb t.slot s) state.stores (λ j d lt. false_from_ne_true _ (λ e.
        true≢false (sym (flushed j d lt) ∙ ap (λ q. among q state.flushed) (eqb-true _ s e) ∙ f)))

    abbrev written : ℕ → List Stored → List Row
    written s stores = filter_map (λ k. option_map (λ t. record { key = t.key; account = t.account }) (last_store state s k)) (distinct bytes_eq (map (λ t. t.key) stores))

    unflushed : (s : ℕ) → unflushed_rows state s ≡ []
    unflushed s = by (among s state.flushed) refl
      where
        by : (b : Bool) → among s state.flushed ≡ b → cond b [] (flush_rows state s) ≡ []
        by true t = refl
        by false f = ap (written s) (no_stores s f)

    none_cached : cached_pairs state ≡ []
    none_cached = ap (distinct same_pair) (filter_none (λ (t : Stored). not (among t.slot state.flushed)) state.stores (λ j d lt. ap not (flushed j d lt)))

    pub all_flushed : AllIsFlushed state
    all_flushed = record {
      uncached = uncached;
      unflushed = unflushed;
      none_counted = ap length none_cached;
      none_filling = λ s. find_none (λ t. is_filling t && eqb t.slot s) state.storages (of_images (λ t. (is_filling t && eqb t.slot s) ≡ false) (λ id i c lt. refl));
      no_flush = λ s. find_none _ state.storages (of_images (λ t. ((is_filling t && eqb t.slot s) && not false) ≡ false) (λ id i c lt. refl));
    }

-- ---- one image more

module _ (budget slot : ℕ) (images : List Image) (more : List ℕ) (x : Image) where
  abbrev m : State
  m = opened budget slot images more

  abbrev n : State
  n = opened budget slot (images ++ x ∷ []) more

  abbrev new : Storage
  new = storage_of (length images + 1, x)

  pub storages_are : n.storages ≡ m.storages ++ new ∷ []
  storages_are = ap (map storage_of) (enumerate_last 1 images x (length images + 1) (omega arith)) ∙ map-append storage_of (enumerate_from 1 images) ((length images + 1, x) ∷ [])

  pub named_are : n.named ≡ m.named ++ pairs_of x
  named_are = flat_last pairs_of images x

  stores_are : n.stores ≡ m.stores ++ stores_of x
  stores_are = flat_last stores_of images x

  module _ (above : All (λ i. i.slot < x.slot) images) where
    below : (i : Image) → Contains images i → i.slot < x.slot
    below i c = All-contains (λ j. j.slot < x.slot) images i above c

    apart : (s : ℕ) → eqb x.slot s ≡ true → (i : Image) → Contains images i → eqb i.slot s ≡ false
    apart s e i c = let lt = below i c in let same = eqb-true x.slot s e in ne_eqb i.slot s (λ h. omega (arith, lt, same, h))

    self : eqb x.slot x.slot ≡ true
    self = eq-eqb x.slot x.slot refl

    -- ---- storages

    with_id : (id : ℕ) → storage_with n id ≡ cond (eqb new.id id) (Some new) (storage_with m id)
    with_id id =
        ap (find (λ (t : Storage). eqb t.id id)) storages_are
        ∙ find_last (λ (t : Storage). eqb t.id id) m.storages new (λ e. fresh_by id (eqb-true new.id id e))
      where
        fresh_by : (id : ℕ) → new.id ≡ id → storage_with m id ≡ None
        fresh_by id e = find_none (λ (t : Storage). eqb t.id id) m.storages (of_images budget slot images more (λ t. eqb t.id id ≡ false) (λ j i c lt. ne_eqb j id (λ h. omega (arith, lt, e, h))))

    fresh : storage_with m new.id ≡ None
    fresh = find_none (λ (t : Storage). eqb t.id new.id) m.storages (of_images budget slot images more (λ t. eqb t.id new.id ≡ false) (λ j i c lt. ne_eqb j new.id (λ h. omega (arith, lt, h))))

    no_live : (s : ℕ) → eqb x.slot s ≡ true → live_storage m s ≡ None
    no_live s e = find_none (λ t. is_live t && eqb t.slot s) m.storages (of_images budget slot images more (λ t. (is_live t && eqb t.slot s) ≡ false) (λ id i c lt. apart s e i c))

    live : (s : ℕ) → live_storage n s ≡ cond (eqb new.slot s) (Some new) (live_storage m s)
    live s = ap (find (λ t. is_live t && eqb t.slot s)) storages_are ∙ find_last (λ t. is_live t && eqb t.slot s) m.storages new (no_live s)

    held : (s : ℕ) (k : List ℕ) → is_held n s k ≡ ((eqb new.slot s && has_row k new.rows) || is_held m s k)
    held s k =
        ap (list_any (λ t. (is_live t && eqb t.slot s) && has_row k t.rows)) storages_are
        ∙ list_any-append (λ t. (is_live t && eqb t.slot s) && has_row k t.rows) m.storages (new ∷ [])
        ∙ turned (is_held m s k) (eqb new.slot s && has_row k new.rows)
      where
        turned : (a b : Bool) → (a || (b || false)) ≡ (b || a)
        turned true true = refl
        turned true false = refl
        turned false true = refl
        turned false false = refl

    -- ---- names

    own_pairs : (s : ℕ) (k : List ℕ) → list_any (is_pair s k) (pairs_of x) ≡ (eqb x.slot s && has_row k x.rows)
    own_pairs s k =
        let keys = map (λ (r : Row). r.key) x.rows in
        any_mapped (as_pair x.slot) (is_pair s k) (distinct bytes_eq keys)
        ∙ any_both (eqb x.slot s) (λ q. bytes_eq q k) (distinct bytes_eq keys)
        ∙ ap (λ b. eqb x.slot s && b) (any_distinct k keys ∙ any_mapped (λ (r : Row). r.key) (λ q. bytes_eq q k) x.rows)

    named : (s : ℕ) (k : List ℕ) → is_named n s k ≡ (is_named m s k || (eqb new.slot s && has_row k new.rows))
    named s k = ap (list_any (is_pair s k)) named_are ∙ list_any-append (is_pair s k) m.named (pairs_of x) ∙ ap (λ b. is_named m s k || b) (own_pairs s k)

    none_named : (k : List ℕ) → is_named m new.slot k ≡ false
    none_named k =
        list_any_none (is_pair x.slot k) m.named (λ j d lt.
        and_left _ (bytes_eq (get_or m.named j d).key k) (pairs_in (λ s. eqb s x.slot ≡ false) images (apart x.slot self) j d lt))

    own_count : (s : ℕ) → count_by (λ (p : Pair). eqb p.slot s) (pairs_of x) ≡ cond (eqb x.slot s) (distinct_keys x.rows) 0
    own_count s =
        let keys = distinct bytes_eq (map (λ (r : Row). r.key) x.rows) in
        count_mapped (as_pair x.slot) (λ p. eqb p.slot s) keys ∙ count_all (eqb x.slot s) keys

    names : (s : ℕ) → named_in n s ≡ named_in m s + cond (eqb new.slot s) (distinct_keys x.rows) 0
    names s =
        ap (count_by (λ (p : Pair). eqb p.slot s)) named_are ∙ sum_by-append (λ (p : Pair). cond (eqb p.slot s) 1 0) m.named (pairs_of x)
        ∙ ap (λ c. named_in m s + c) (own_count s)

    no_names : named_in m new.slot ≡ 0
    no_names = count_none (λ (p : Pair). eqb p.slot x.slot) m.named (pairs_in (λ s. eqb s x.slot ≡ false) images (apart x.slot self))

    -- ---- stores

    own_stores : (s : ℕ) (k : List ℕ) → filter (is_of s k) (stores_of x) ≡ map (as_store x.slot) (filter (λ (r : Row). eqb x.slot s && bytes_eq r.key k) x.rows)
    own_stores s k = filter_map_swap (as_store x.slot) (is_of s k) x.rows

    older_stores : (s : ℕ) (k : List ℕ) → eqb x.slot s ≡ true → filter (is_of s k) m.stores ≡ []
    older_stores s k e =
        filter_none (is_of s k) m.stores (λ j d lt.
        and_left _ (bytes_eq (get_or m.stores j d).key k) (stores_in (λ q. eqb q s ≡ false) images (apart s e) j d lt))

    accounts : (s : ℕ) (k : List ℕ) → last_account n s k ≡ cond (eqb new.slot s) (last_row k new.rows) (last_account m s k)
    accounts s k =
        ap (λ ts. account_of (last (filter (is_of s k) ts))) stores_are
        ∙ ap (λ ts. account_of (last ts)) (filter-append (is_of s k) m.stores (stores_of x) ∙ ap (λ ts. filter (is_of s k) m.stores ++ ts) (own_stores s k))
        ∙ by (eqb x.slot s) refl
      where
        account_of : Option Stored → Option Account
        account_of o = option_map (λ t. t.account) o

        row_account : (o : Option Row) → account_of (option_map (as_store x.slot) o) ≡ option_map (λ r. r.account) o
        row_account None = refl
        row_account (Some r) = refl

        by : (b : Bool) → eqb x.slot s ≡ b → account_of (last (filter (is_of s k) m.stores ++ map (as_store x.slot) (filter (λ (r : Row). b && bytes_eq r.key k) x.rows)))
            ≡ cond b (last_row k x.rows) (last_account m s k)
        by true e =
            let own = filter (λ (r : Row). bytes_eq r.key k) x.rows in
            ap (λ ts. account_of (last (ts ++ map (as_store x.slot) own))) (older_stores s k e)
            ∙ ap account_of (last_map (as_store x.slot) own) ∙ row_account (last own)
        by false f =
            ap (λ rs. account_of (last (filter (is_of s k) m.stores ++ map (as_store x.slot) rs))) (filter_none (λ (r : Row). false) x.rows (λ j d lt. refl))
            ∙ ap (λ ts. account_of (last ts)) (append-nil (filter (is_of s k) m.stores))

    pub one_more : HasOneMore m n new (distinct_keys x.rows)
    one_more = record {
      named = named;
      none_named = none_named;
      held = held;
      accounts = accounts;
      with_id = with_id;
      fresh = fresh;
      live = live;
      none_live = no_live x.slot self;
      names = names;
      no_names = no_names;
    }
