-- The entries of the map after a change of one.
use Rattle.std.proofs.Common.{◌≡◌, ℕ, ◌+◌, ◌≤◌, [], ◌∷◌, length, Bool, true, false, cond, eqb, ◌||◌, Option, Some, None, IsSome, is_some, option_map, unwrap_or, sum_by, refl, sym, ap, ◌∙◌, arith}
use Rattle.std.specs.BTreeMap.{is_at}
use Rattle.std.specs.Cmp.{unsigned_tied, nat_eq_equiv}
use Rattle.std.specs.Map.{lookup, values_of, set_value, remove_entry}
use Rattle.std.specs.Option.{option_and_then}
use Rattle.std.specs.Ordering.{nat_cmp}
use Rattle.std.proofs.lemmas.Map.Entries.{sum_by-set_value, sum_by-remove_entry}
use Rattle.std.proofs.lemmas.Bool.{true≢false}
use Rattle.std.proofs.lemmas.List.Sums.{sum_by-cons}
use Rattle.storage_map.specs.declared.entry.Live.{Live}
use Rattle.storage_map.specs.declared.entry.Begun.{Begun}
use Rattle.storage_map.specs.declared.entry.Entry.{Entry}
use Rattle.storage_map.specs.Slots.{Slots, HasEntry, live_at, begun_at, is_filled, alive_in, total_in, alive_sum, total_sum, Becomes}
use Rattle.storage_map.specs.Inside.{is_emptied, emptied_count, once_if, IsChanged}

-- a slot's test, in the words of a `BTreeMap`
at_slot : (q s : ℕ) → eqb s q ≡ is_at (nat_cmp q) s
at_slot q s = sym (unsigned_tied q s ∙ nat_eq_equiv.symm q s)

pub by_slot : (es : Slots) (q : ℕ) → lookup (λ s. eqb s q) es ≡ lookup (is_at (nat_cmp q)) es
by_slot [] q = refl
by_slot (e ∷ es) q = (λ i. cond (at_slot q e.0 i) (Some e.1) (by_slot es q i))

picked : {A : Type 0} (f : Entry → Option A) (b : Bool) (w o : Option Entry) → option_and_then f (cond b w o) ≡ cond b (option_and_then f w) (option_and_then f o)
picked f true w o = refl
picked f false w o = refl

-- what is picked of an entry, after a change
picked_at : {A : Type 0} (f : Entry → Option A) (es fs : Slots) (k q : ℕ) (w : Option Entry) → lookup (is_at (nat_cmp q)) fs ≡ cond (is_at (nat_cmp k) q) w (lookup (is_at (nat_cmp q)) es)
    → option_and_then f (lookup (λ s. eqb s q) fs) ≡ cond (eqb k q) (option_and_then f w) (option_and_then f (lookup (λ s. eqb s q) es))
picked_at f es fs k q w is =
    ap (option_and_then f) (by_slot fs q ∙ is)
    ∙ picked f (is_at (nat_cmp k) q) w (lookup (is_at (nat_cmp q)) es)
    ∙ (λ i. cond (unsigned_tied k q i) (option_and_then f w) (option_and_then f (sym (by_slot es q) i)))

-- a number of an entry, or zero where there is none
counted : (f : Entry → ℕ) → Option Entry → ℕ
counted f o = unwrap_or (option_map f o) 0

-- in the slot there is now this entry, or none, and all else stays
pub record IsEdit (es fs : Slots) (k : ℕ) (w : Option Entry) : Type 0 where
  pub updates : (q : ℕ) → lookup (is_at (nat_cmp q)) fs ≡ cond (is_at (nat_cmp k) q) w (lookup (is_at (nat_cmp q)) es)
  pub sums : (f : Entry → ℕ) → sum_by f (values_of fs) + unwrap_or (option_map f (lookup (is_at (nat_cmp k)) es)) 0 ≡ sum_by f (values_of es) + unwrap_or (option_map f w) 0

alive_of : (o : Option Entry) → unwrap_or (option_map (λ (e : Entry). alive_in e.live) o) 0 ≡ alive_in (option_and_then (λ e. e.live) o)
alive_of None = refl
alive_of (Some e) = refl

total_of : (o : Option Entry) → unwrap_or (option_map (λ (e : Entry). total_in e.live) o) 0 ≡ total_in (option_and_then (λ e. e.live) o)
total_of None = refl
total_of (Some e) = refl

pub becomes : (es fs : Slots) (k : ℕ) (w : Option Entry) (live : Option Live) (begun : Option Begun) → IsEdit es fs k w → option_and_then (λ e. e.live) w ≡ live → option_and_then (λ e. e.begun) w ≡ begun → Becomes es fs k live begun
becomes es fs k w live begun changed live_is begun_is =
    let before = by_slot es k in
    record {
      lives = λ q. picked_at (λ e. e.live) es fs k q w (changed.updates q) ∙ ap (λ (l : Option Live). cond (eqb k q) l (live_at es q)) live_is;
      begins = λ q. picked_at (λ e. e.begun) es fs k q w (changed.updates q) ∙ ap (λ (b : Option Begun). cond (eqb k q) b (begun_at es q)) begun_is;
      alive =
          ap (λ (o : Option Entry). alive_sum fs + alive_in (option_and_then (λ e. e.live) o)) before
          ∙ ap (λ (n : ℕ). alive_sum fs + n) (sym (alive_of (lookup (is_at (nat_cmp k)) es)))
          ∙ changed.sums (λ e. alive_in e.live)
          ∙ ap (λ (n : ℕ). alive_sum es + n) (alive_of w ∙ ap alive_in live_is);
      total =
          ap (λ (o : Option Entry). total_sum fs + total_in (option_and_then (λ e. e.live) o)) before
          ∙ ap (λ (n : ℕ). total_sum fs + n) (sym (total_of (lookup (is_at (nat_cmp k)) es)))
          ∙ changed.sums (λ e. total_in e.live)
          ∙ ap (λ (n : ℕ). total_sum es + n) (total_of w ∙ ap total_in live_is);
    }

emptied_of : (o : Option Entry) → unwrap_or (option_map (λ (e : Entry). once_if (is_emptied e.live)) o) 0 ≡ once_if (is_emptied (option_and_then (λ e. e.live) o))
emptied_of None = refl
emptied_of (Some e) = refl

-- one for each entry
count_all : (es : Slots) → sum_by (λ e. 1) (values_of es) ≡ length es
count_all [] = refl
count_all (e ∷ es) = omega (arith, sum_by-cons (λ (x : Entry). 1) e.1 (values_of es), count_all es)

-- the entry that there is in the slot now, if any, is what is asked for
pub changed : (es fs : Slots) (k : ℕ) (w : Option Entry) (entry : Entry) (more : ℕ) → IsEdit es fs k w → option_and_then (λ e. e.live) w ≡ entry.live → option_and_then (λ e. e.begun) w ≡ entry.begun
    → unwrap_or (option_map (λ e. 1) w) 0 ≤ unwrap_or (option_map (λ (e : Entry). 1) (lookup (is_at (nat_cmp k)) es)) 0 + more → IsChanged es fs k entry more
changed es fs k w entry more edit live_is begun_is few = record {
  becomes = becomes es fs k w entry.live entry.begun edit live_is begun_is;
  emptied =
      ap (λ (o : Option Entry). emptied_count fs + once_if (is_emptied (option_and_then (λ e. e.live) o))) (by_slot es k)
      ∙ ap (λ (n : ℕ). emptied_count fs + n) (sym (emptied_of (lookup (is_at (nat_cmp k)) es)))
      ∙ edit.sums (λ e. once_if (is_emptied e.live))
      ∙ ap (λ (n : ℕ). emptied_count es + n) (emptied_of w ∙ ap (λ (l : Option Live). once_if (is_emptied l)) live_is);
  few = omega (arith, edit.sums (λ e. 1), count_all es, count_all fs, few);
}

-- ---- the sums after each kind of change

pub removed_sums : (es : Slots) (k : ℕ) (f : Entry → ℕ) → sum_by f (values_of (remove_entry (is_at (nat_cmp k)) es)) + unwrap_or (option_map f (lookup (is_at (nat_cmp k)) es)) 0 ≡ sum_by f (values_of es) + 0
removed_sums es k f = let is = sum_by-remove_entry f (is_at (nat_cmp k)) es in omega arith

pub written_sums : (es : Slots) (k : ℕ) (v w : Entry) → lookup (is_at (nat_cmp k)) es ≡ Some v → (f : Entry → ℕ) → sum_by f (values_of (set_value (is_at (nat_cmp k)) es w)) + unwrap_or (option_map f (lookup (is_at (nat_cmp k)) es)) 0 ≡ sum_by f (values_of es) + f w
written_sums es k v w there f =
    ap (λ (o : Option Entry). sum_by f (values_of (set_value (is_at (nat_cmp k)) es w)) + unwrap_or (option_map f o) 0) there
    ∙ sum_by-set_value f (is_at (nat_cmp k)) es v w there

-- ---- entries without storages

pub none_in : (e : Entry) → is_filled e ≡ false → (e.live ≡ None) × (e.begun ≡ None)
none_in e is = by e.live e.begun is
  where
    by : (live : Option Live) (begun : Option Begun) → (is_some begun || is_some live) ≡ false → (live ≡ None) × (begun ≡ None)
    by None None is = (refl, refl)
    by (Some l) None is = absurd (true≢false is)
    by None (Some b) is = absurd (true≢false is)
    by (Some l) (Some b) is = absurd (true≢false is)

pub begun_fills : (e : Entry) → IsSome e.begun → is_filled e ≡ true
begun_fills e some = ap (λ b. b || is_some e.live) some

-- an entry with storages is that of a slot that has one
pub must_be : (es : Slots) (k : ℕ) (e : Entry) → is_filled e ≡ true → (IsSome e.live → HasEntry es k) → (IsSome e.begun → HasEntry es k) → None ≡ lookup (is_at (nat_cmp k)) es → ⊥
must_be es k e filled live begun none = by e.live e.begun filled live begun
  where
    gone : HasEntry es k → ⊥
    gone some = true≢false (sym some ∙ ap is_some (by_slot es k ∙ sym none))

    by : (l : Option Live) (b : Option Begun) → (is_some b || is_some l) ≡ true → (IsSome l → HasEntry es k) → (IsSome b → HasEntry es k) → ⊥
    by None None is live begun = true≢false (sym is)
    by (Some l) b is live begun = gone (live refl)
    by None (Some b) is live begun = gone (begun refl)
