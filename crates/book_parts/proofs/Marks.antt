-- Marks and rows after a pair goes in, or a slot is emptied.
use Rattle.std.proofs.Common.{AllPairs, ◌<◌, ◌≡◌, ◌≢◌, ℕ, ◌+◌, List, [], Bool, true, false, cond, eqb, not, ◌&&◌, ◌||◌, length, Option, Some, None, is_some, option_map, refl, sym, ap, ◌∙◌, subst, inl, inr, arith, IsFalse}
use Rattle.std.specs.Option.{option_map_or}
use Rattle.std.specs.Str.{bytes_eq}
use Rattle.std.proofs.lemmas.Bool.{cases_Bool, eqb-true, eq-eqb, true≢false}
use Rattle.adb_model.specs.Lists.{among}
use Rattle.adb_model.specs.Account.{Account, is_tomb}
use Rattle.adb_model.specs.State.{Row, State}
use Rattle.adb_model.specs.State as machine
use Rattle.adb_model.specs.Presence.{has_store, is_cached, is_named, is_present, ends_in_tomb}
use Rattle.adb_model.specs.Cache.{put_row}
use Rattle.adb_model.specs.Flush.{flush_rows}
use Rattle.adb_model.specs.Stats.{counts_of}
use Rattle.adb_model.specs.Load.{last_store}
use Rattle.adb_model.specs.Call.{Counts}
use Rattle.slot_list.specs.declared.Place.{Place}
use Rattle.slot_list.specs.declared.Place.TheVariants.{Cached, Stored}
use Rattle.adb_model.specs.Callers.{with_store, without_stores, keys_of}
use Rattle.accounts_index.specs.Index.{Index}
use Rattle.write_cache.specs.Rows.{Cache, rows, total, account_at}
use Rattle.book_parts.specs.Parts.{Parts}
use Rattle.book_parts.specs.Storages.{IsPlacedAt}
use Rattle.book_parts.specs.Reflects.{Reflects, indexed, mark_of, unflushed_rows, counts_in}
use Rattle.book_parts.specs.Changes.{AgreeIn, CachedIn, SameIndex, SameCache, Enters, Leaves}

abbrev mark : Bool → Bool → Bool → Option (Bool × Bool)
mark p t c = cond p (Some (t, c)) None

mark_put : (b p t c tomb : Bool) → mark (b || p) (cond b tomb t) (b || c) ≡ cond b (Some (tomb, true)) (mark p t c)
mark_put true p t c tomb = refl
mark_put false p t c tomb = refl

mark_take : (b p t c : Bool) → mark (not b && p) (not b && t) (not b && c) ≡ cond b None (mark p t c)
mark_take true p t c = refl
mark_take false p t c = refl

rows_take : (f b : Bool) (rs : List Row) → cond f [] (cond b [] rs) ≡ cond b [] (cond f [] rs)
rows_take true true rs = refl
rows_take true false rs = refl
rows_take false true rs = refl
rows_take false false rs = refl

mark_same : (p q t u c d : Bool) → p ≡ q → t ≡ u → c ≡ d → mark p t c ≡ mark q u d
mark_same p q t u c d e f g = ap (λ b. mark b t c) e ∙ ap (λ b. mark q b c) f ∙ ap (mark q u) g

-- ---- what is found of a pair

put_mapped : (b t : Bool) (o : Option (Bool × Place)) → option_map mark_of (cond b (Some (t, Cached)) o) ≡ cond b (Some (t, true)) (option_map mark_of o)
put_mapped true t o = refl
put_mapped false t o = refl

take_mapped : (b : Bool) (o : Option (Bool × Place)) → option_map mark_of (cond b None o) ≡ cond b None (option_map mark_of o)
take_mapped true o = refl
take_mapped false o = refl

-- what is in a storage is of another pair
put_left : (b t : Bool) (o : Option (Bool × Place)) (u : Bool) (cell offset : ℕ) → cond b (Some (t, Cached)) o ≡ Some (u, Stored cell offset) → b ≡ false
put_left true t o u cell offset e = let a : Bool × Place = (t, Cached) in let z : Bool × Place = (u, Stored cell offset) in let same : Some a ≡ Some z = e in let pair : a ≡ z = cc in let places : Cached ≡ Stored cell offset = ap (λ (i : Bool × Place). i.1) pair in absurd cc
put_left false t o u cell offset e = refl

take_left : (b : Bool) (o : Option (Bool × Place)) (u : Bool) (cell offset : ℕ) → cond b None o ≡ Some (u, Stored cell offset) → b ≡ false
take_left true o u cell offset e = absurd cc
take_left false o u cell offset e = refl

-- the counts but for the cached pairs
abbrev pub with_cached : ℕ → Counts → Counts
with_cached n c = record c { cached = n }

-- ---- a pair goes in

module _ (p : Parts) (index : Index) (cache : Cache) (m : State) (slot : ℕ) (key : List ℕ) (account : Account) where
  abbrev after : State
  after = with_store m slot key account

  abbrev here : ℕ → List ℕ → Bool
  here s k = eqb slot s && bytes_eq key k

  rows_put : (s : ℕ) → IsFalse (among slot m.flushed) → flush_rows after slot ≡ put_row (flush_rows m slot) key account → (slot ≢ s → flush_rows after s ≡ flush_rows m s)
      → cond (eqb slot s) (put_row (unflushed_rows m slot) key account) (unflushed_rows m s) ≡ unflushed_rows after s
  rows_put s unflushed own others = elim (cases_Bool (eqb slot s)) [
    | inl t ↦ rw t (ap (λ f. put_row (cond f [] (flush_rows m slot)) key account) unflushed ∙ sym own ∙ sym (ap (λ f. cond f [] (flush_rows after slot)) unflushed) ∙ ap (unflushed_rows after) (eqb-true slot s t))
    | inr f ↦ rw f (sym (ap (cond (among s m.flushed) []) (others (λ e. true≢false (sym (eq-eqb slot s e) ∙ f)))))
  ]

  pub reflects_store : IsFalse (among slot m.flushed)
      → ((s : ℕ) (k : List ℕ) → is_present after s k ≡ (here s k || is_present m s k))
      → ((s : ℕ) (k : List ℕ) → is_cached after s k ≡ (here s k || is_cached m s k))
      → ((s : ℕ) (k : List ℕ) → ends_in_tomb after s k ≡ cond (here s k) (is_tomb account) (ends_in_tomb m s k))
      → flush_rows after slot ≡ put_row (flush_rows m slot) key account
      → ((s : ℕ) → slot ≢ s → flush_rows after s ≡ flush_rows m s)
      → is_some (account_at (flush_rows m slot) key) ≡ has_store m slot key
      → ((s : ℕ) (k : List ℕ) → last_store after s k ≡ cond (here s k) (Some (record { slot = slot; key = key; account = account })) (last_store m s k))
      → (counts_of after).cached ≡ (counts_of m).cached + cond (has_store m slot key) 0 1
      → Reflects p m → Enters p.index index p.cache cache slot key account → Reflects (record p { index = index; cache = cache }) after
  reflects_store unflushed present cached tomb own others stored last counted r e = record {
    marks = λ k s. ap (option_map mark_of) (e.versions k s) ∙ put_mapped (here s k) (is_tomb account) (indexed p.index s k) ∙ ap (cond (here s k) (Some (is_tomb account, true))) (r.marks k s)
        ∙ sym (mark_same _ _ _ _ _ _ (present s k) (tomb s k) (cached s k) ∙ mark_put (here s k) (is_present m s k) (ends_in_tomb m s k) (is_cached m s k) (is_tomb account));
    held = λ k s. e.holds.held k s ∙ r.held k s;
    expected = λ k s. e.holds.expected k s ∙ r.expected k s;
    rows = λ s. e.put s ∙ ap (λ rs. cond (eqb slot s) (put_row rs key account) (rows p.cache s)) (r.rows slot)
        ∙ ap (cond (eqb slot s) (put_row (unflushed_rows m slot) key account)) (r.rows s) ∙ rows_put s unflushed own (others s);
    roots = r.roots;
    cleaned = r.cleaned;
    leases = r.leases;
    placed = λ k s t cell offset is. still_placed k s cell offset (left k s t cell offset is) (r.placed k s t cell offset (left_there k s t cell offset is));
    cells = r.cells;
    slots = r.slots;
    counts = ap (λ n. with_cached n (counts_in p)) (e.counted
        ∙ ap (λ rs. total p.cache + cond (is_some (account_at rs key)) 0 1) (r.rows slot ∙ ap (λ f. cond f [] (flush_rows m slot)) unflushed)
        ∙ ap (λ b. total p.cache + cond b 0 1) stored ∙ ap (λ n. n + cond (has_store m slot key) 0 1) (ap (λ c. c.cached) r.counts) ∙ sym counted)
        ∙ ap (with_cached (counts_of after).cached) r.counts;
    limit = r.limit;
    next_id = r.next_id;
    snap = r.snap;
  }
    where
      left : (k : List ℕ) (s : ℕ) (t : Bool) (cell offset : ℕ) → indexed index s k ≡ Some (t, Stored cell offset) → here s k ≡ false
      left k s t cell offset is = put_left (here s k) (is_tomb account) (indexed p.index s k) t cell offset (sym (e.versions k s) ∙ is)

      left_there : (k : List ℕ) (s : ℕ) (t : Bool) (cell offset : ℕ) → indexed index s k ≡ Some (t, Stored cell offset) → indexed p.index s k ≡ Some (t, Stored cell offset)
      left_there k s t cell offset is = sym (ap (λ b. cond b (Some (is_tomb account, Cached)) (indexed p.index s k)) (left k s t cell offset is)) ∙ sym (e.versions k s) ∙ is

      still_placed : (k : List ℕ) (s cell offset : ℕ) → here s k ≡ false → IsPlacedAt m p.cells.cells s k cell offset → IsPlacedAt after p.cells.cells s k cell offset
      still_placed k s cell offset f q = record {
        storage = q.storage;
        account = q.account;
        live = q.live;
        there = q.there;
        row = q.row;
        last = ap (option_map (λ t. t.account)) (last s k ∙ ap (λ b. cond b (Some (record { slot = slot; key = key; account = account })) (last_store m s k)) f) ∙ q.last;
      }

-- ---- a slot becomes a root

pub reflects_root : (p : Parts) (m : State) (roots : List ℕ) → Reflects p m → Reflects (record p { roots = roots }) (record m { roots = roots })
reflects_root p m roots r = record {
  marks = r.marks;
  placed = r.placed;
  held = r.held;
  expected = r.expected;
  rows = r.rows;
  roots = refl;
  cleaned = r.cleaned;
  leases = r.leases;
  cells = r.cells;
  slots = r.slots;
  counts = r.counts;
  limit = r.limit;
  next_id = r.next_id;
  snap = r.snap;
}

-- ---- a slot is emptied

module _ (p : Parts) (index : Index) (cache : Cache) (m : State) (slot keys : ℕ) where
  abbrev emptied : State
  emptied = without_stores m slot

  pub reflects_purge : IsFalse (among slot m.flushed)
      → ((s : ℕ) (k : List ℕ) → is_present emptied s k ≡ (not (eqb slot s) && is_present m s k))
      → ((s : ℕ) (k : List ℕ) → is_cached emptied s k ≡ (not (eqb slot s) && is_cached m s k))
      → ((s : ℕ) (k : List ℕ) → ends_in_tomb emptied s k ≡ (not (eqb slot s) && ends_in_tomb m s k))
      → ((s : ℕ) → flush_rows emptied s ≡ cond (eqb slot s) [] (flush_rows m s))
      → length (flush_rows m slot) ≡ length (keys_of m slot)
      → ((s : ℕ) (k : List ℕ) → last_store emptied s k ≡ cond (eqb slot s) None (last_store m s k))
      → (counts_of m).cached ≡ (counts_of emptied).cached + length (keys_of m slot)
      → Reflects p m → Leaves p.index index p.cache cache slot keys → Reflects (record p { index = index; cache = cache }) emptied
  reflects_purge unflushed present cached tomb left all last counted r e =
      let own : rows p.cache slot ≡ flush_rows m slot = r.rows slot ∙ ap (λ f. cond f [] (flush_rows m slot)) unflushed in
      let keys_is : keys ≡ length (keys_of m slot) = e.all ∙ ap length own ∙ all in
      record {
        marks = λ k s. ap (option_map mark_of) (e.versions k s) ∙ take_mapped (eqb slot s) (indexed p.index s k) ∙ ap (cond (eqb slot s) None) (r.marks k s)
            ∙ sym (mark_same _ _ _ _ _ _ (present s k) (tomb s k) (cached s k) ∙ mark_take (eqb slot s) (is_present m s k) (ends_in_tomb m s k) (is_cached m s k));
        held = λ k s. e.holds.held k s ∙ r.held k s;
        expected = λ k s. e.holds.expected k s ∙ r.expected k s;
        rows = λ s. e.dropped s ∙ ap (cond (eqb slot s) []) (r.rows s) ∙ sym (ap (cond (among s m.flushed) []) (left s) ∙ rows_take (among s m.flushed) (eqb slot s) (flush_rows m s));
        placed = λ k s t cell offset is. still_placed k s cell offset (left_in k s t cell offset is) (r.placed k s t cell offset (left_there k s t cell offset is));
        roots = r.roots;
        cleaned = r.cleaned;
        leases = r.leases;
        cells = r.cells;
        slots = r.slots;
        counts = ap (λ n. with_cached n (counts_in p)) (fewer_cached keys_is) ∙ ap (with_cached (counts_of emptied).cached) r.counts;
        limit = r.limit;
        next_id = r.next_id;
        snap = r.snap;
      }
    where
      fewer_cached : keys ≡ length (keys_of m slot) → total cache ≡ (counts_of emptied).cached
      fewer_cached keys_is =
          let before : total p.cache ≡ (counts_of m).cached = ap (λ c. c.cached) r.counts in
          let fewer = e.counted in
          omega arith

      left_in : (k : List ℕ) (s : ℕ) (t : Bool) (cell offset : ℕ) → indexed index s k ≡ Some (t, Stored cell offset) → eqb slot s ≡ false
      left_in k s t cell offset is = take_left (eqb slot s) (indexed p.index s k) t cell offset (sym (e.versions k s) ∙ is)

      left_there : (k : List ℕ) (s : ℕ) (t : Bool) (cell offset : ℕ) → indexed index s k ≡ Some (t, Stored cell offset) → indexed p.index s k ≡ Some (t, Stored cell offset)
      left_there k s t cell offset is = sym (ap (λ b. cond b None (indexed p.index s k)) (left_in k s t cell offset is)) ∙ sym (e.versions k s) ∙ is

      still_placed : (k : List ℕ) (s cell offset : ℕ) → eqb slot s ≡ false → IsPlacedAt m p.cells.cells s k cell offset → IsPlacedAt emptied p.cells.cells s k cell offset
      still_placed k s cell offset f q = record {
        storage = q.storage;
        account = q.account;
        live = q.live;
        there = q.there;
        row = q.row;
        last = ap (option_map (λ t. t.account)) (last s k ∙ ap (λ b. cond b None (last_store m s k)) f) ∙ q.last;
      }

  -- the reply's number
  pub keys_purged : IsFalse (among slot m.flushed) → length (flush_rows m slot) ≡ length (keys_of m slot) → Reflects p m → Leaves p.index index p.cache cache slot keys
      → length (keys_of m slot) ≡ keys
  keys_purged unflushed all r e = sym (e.all ∙ ap length (r.rows slot ∙ ap (λ f. cond f [] (flush_rows m slot)) unflushed) ∙ all)

-- ---- versions and rows of a slot that is not flushed

pub some_mapped : {A B : Type 0} (f : A → B) (o : Option A) → is_some (option_map f o) ≡ is_some o
some_mapped f None = refl
some_mapped f (Some x) = refl

some_mark : (p t c : Bool) → is_some (mark p t c) ≡ p
some_mark true t c = refl
some_mark false t c = refl

or_false : (b : Bool) → (b || false) ≡ b
or_false true = refl
or_false false = refl

and_true : (b : Bool) → (b && true) ≡ b
and_true true = refl
and_true false = refl

pub agree : (p : Parts) (m : State) (slot : ℕ) → Reflects p m → IsFalse (among slot m.flushed) → ((k : List ℕ) → IsFalse (is_named m slot k))
    → ((k : List ℕ) → is_some (account_at (flush_rows m slot) k) ≡ has_store m slot k) → AgreeIn slot p.index p.cache
agree p m slot r unflushed named stored = λ k.
    sym (some_mapped mark_of (indexed p.index slot k)) ∙ ap is_some (r.marks k slot) ∙ some_mark (is_present m slot k) (ends_in_tomb m slot k) (is_cached m slot k)
    ∙ ap (λ b. is_cached m slot k || b) (named k) ∙ or_false (is_cached m slot k)
    ∙ ap (λ b. has_store m slot k && not b) unflushed ∙ and_true (has_store m slot k)
    ∙ sym (stored k) ∙ ap (λ rs. is_some (account_at rs k)) (sym (r.rows slot ∙ ap (λ f. cond f [] (flush_rows m slot)) unflushed))

-- what is found of a pair is its mark, where it is cached
unmarked : (o : Option (Bool × Place)) (l : Option machine.Stored) → option_map mark_of o ≡ mark (is_some l) (option_map_or (λ t. is_tomb t.account) l false) (is_some l)
    → o ≡ option_map (λ a. (is_tomb a, Cached)) (option_map (λ t. t.account) l)
unmarked None None e = refl
unmarked None (Some t) e = absurd cc
unmarked (Some i) None e = absurd cc
unmarked (Some (b, Cached)) (Some t) e =
    let a : Bool × Bool = (b, true) in
    let z : Bool × Bool = (is_tomb t.account, true) in
    let same : Some a ≡ Some z = e in
    let pair : a ≡ z = cc in
    ap (λ (x : Bool). Some (x, Cached)) (ap (λ (x : Bool × Bool). x.0) pair)
unmarked (Some (b, Stored cell offset)) (Some t) e =
    let a : Bool × Bool = (b, false) in
    let z : Bool × Bool = (is_tomb t.account, true) in
    let same : Some a ≡ Some z = e in
    let pair : a ≡ z = cc in
    absurd (true≢false (sym (ap (λ (x : Bool × Bool). x.1) pair)))

pub cached_in : (p : Parts) (m : State) (slot : ℕ) → Reflects p m → IsFalse (among slot m.flushed) → ((k : List ℕ) → IsFalse (is_named m slot k))
    → ((k : List ℕ) → has_store m slot k ≡ is_some (last_store m slot k))
    → ((k : List ℕ) → account_at (flush_rows m slot) k ≡ option_map (λ t. t.account) (last_store m slot k)) → CachedIn slot p.index p.cache
cached_in p m slot r unflushed named there stored = λ k.
    let t = ends_in_tomb m slot k in
    let is_there : is_cached m slot k ≡ is_some (last_store m slot k) = ap (λ b. has_store m slot k && not b) unflushed ∙ and_true (has_store m slot k) ∙ there k in
    let present : is_present m slot k ≡ is_some (last_store m slot k) = ap (λ b. is_cached m slot k || b) (named k) ∙ or_false (is_cached m slot k) ∙ is_there in
    unmarked (indexed p.index slot k) (last_store m slot k) (r.marks k slot ∙ mark_same _ _ t t _ _ present refl is_there)
    ∙ ap (option_map (λ a. (is_tomb a, Cached))) (sym (ap (λ rs. account_at rs k) (r.rows slot ∙ ap (λ f. cond f [] (flush_rows m slot)) unflushed) ∙ stored k))

-- a store that was undone
pub reflects_undone : (p : Parts) (index : Index) (cache : Cache) (m : State) → SameIndex p.index index → SameCache p.cache cache → Reflects p m → Reflects (record p { index = index; cache = cache }) m
reflects_undone p index cache m same same_cache r = record {
  marks = λ k s. ap (option_map mark_of) (same.versions k s) ∙ r.marks k s;
  placed = λ k s tomb cell offset is. r.placed k s tomb cell offset (sym (same.versions k s) ∙ is);
  held = λ k s. same.holds.held k s ∙ r.held k s;
  expected = λ k s. same.holds.expected k s ∙ r.expected k s;
  rows = λ s. same_cache.rows s ∙ r.rows s;
  roots = r.roots;
  cleaned = r.cleaned;
  leases = r.leases;
  cells = r.cells;
  slots = r.slots;
  counts = ap (λ n. with_cached n (counts_in p)) same_cache.counted ∙ r.counts;
  limit = r.limit;
  next_id = r.next_id;
  snap = r.snap;
}

-- a slot's rows are of different keys
pub rows_differ : (p : Parts) (m : State) (slot : ℕ) → Reflects p m → AllPairs (λ r q. r.key ≢ q.key) (flush_rows m slot) → AllPairs (λ r q. r.key ≢ q.key) (rows p.cache slot)
rows_differ p m slot r differ = subst (λ (rs : List Row). AllPairs (λ r q. r.key ≢ q.key) rs) (sym (r.rows slot)) (by (among slot m.flushed))
  where
    by : (f : Bool) → AllPairs (λ (r q : Row). r.key ≢ q.key) (cond f [] (flush_rows m slot))
    by true = λ i j d lt within. let h : j < 0 = within in absurd (omega (arith, h))
    by false = differ
