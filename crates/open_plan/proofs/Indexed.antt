-- Rows that are put into an index, one after another.
use Rattle.std.proofs.Common.{◌≡◌, ℕ, List, [], ◌∷◌, ◌++◌, map, Bool, true, false, cond, eqb, ◌&&◌, ◌||◌, Option, Some, None, option_map, unwrap_or, refl, sym, ap, ◌∙◌, inl, inr}
use Rattle.std.specs.List.{filter}
use Rattle.std.specs.Str.{bytes_eq}
use Rattle.std.proofs.lemmas.Bool.{cases_Bool, eq-eqb}
use Rattle.std.proofs.lemmas.List.{map-append, append-nil}
use Rattle.std.proofs.lemmas.List.Elements.{filter-append}
use Rattle.std.proofs.lemmas.List.Folds.{list_any-append}
use Rattle.slot_list.specs.declared.Place.{Place}
use Rattle.slot_list.specs.declared.Place.TheVariants.{Stored}
use Rattle.slot_list.specs.declared.Version.{Version}
use Rattle.slot_list.specs.Versions.{at, put, with_slot}
use Rattle.accounts_index.specs.Index.{Index, kept, IsWith}
use Rattle.adb_model.specs.Account.{Account, is_tomb, tomb}
use Rattle.adb_model.specs.Lists.{among, last}
use Rattle.adb_model.specs.State.{Row}
use Rattle.adb_model.specs.Presence.{has_row}
use Rattle.account_layout.specs.Record.{account_in}
use Rattle.vec_scan.specs.Image.{Placed}
use Rattle.book_parts.specs.Flushes.{is_in}
use Rattle.book_parts.specs.Opening.{Indexes, last_placed}
use Rattle.book_parts.specs.Reflects.{found_of, indexed}
use Rattle.open_plan.proofs.Facts.{cond_of, bytes_eq-self}
use Rattle.open_plan.proofs.Edits.{turns, stays, among_with}

abbrev row_of : Placed → Row
row_of placed = placed.row

-- what a look-up tells of a row in the cell
abbrev mark : ℕ → Placed → Bool × Place
mark cell p = (is_tomb p.row.account, Stored cell p.offset)

-- without lamports an account is the tomb
pub tomb_in : (fields : Account) → is_tomb (account_in fields) ≡ eqb fields.lamports 0
tomb_in fields = elim (cases_Bool (eqb fields.lamports 0)) [
  | inl t ↦ rw t refl
  | inr f ↦ rw f f
]

-- ---- one row

pub indexes_one : (slot cell : ℕ) (p : Placed) (v : Version) (old new : Index)
    → ((w : Version) (vs : List Version) (s : ℕ) → at s (put w vs) ≡ cond (eqb w.slot s) (Some w) (at s vs))
    → v.slot ≡ slot → found_of v ≡ mark cell p
    → IsWith old new p.row.key (record (kept old p.row.key) { versions = put v (kept old p.row.key).versions; held = with_slot v.slot (kept old p.row.key).held })
    → Indexes slot cell (p ∷ []) old new
indexes_one slot cell p v old new look of_slot found edit = record {
  versions = λ k s.
      turns old new key _ (λ q. option_map found_of (at s q.versions)) (λ f. cond (eqb v.slot s) (Some (found_of v)) f) edit
      (ap (option_map found_of) (look v (kept old key).versions s) ∙ cond_of (option_map found_of) (eqb v.slot s) (Some v) (at s (kept old key).versions)) k
      ∙ ap (λ (n : ℕ). cond (bytes_eq key k) (cond (eqb n s) (Some (found_of v)) (indexed old s k)) (indexed old s k)) of_slot
      ∙ ap (λ f. cond (bytes_eq key k) (cond (eqb slot s) (Some f) (indexed old s k)) (indexed old s k)) found
      ∙ first (bytes_eq key k) (eqb slot s) (indexed old s k);
  held = λ k s.
      turns old new key _ (λ q. among s q.held) (λ e. eqb v.slot s || e) edit (among_with v.slot s (kept old key).held) k
      ∙ ap (λ (n : ℕ). cond (bytes_eq key k) (eqb n s || among s (kept old k).held) (among s (kept old k).held)) of_slot
      ∙ holds (bytes_eq key k) (eqb slot s) (among s (kept old k).held);
  expected = λ k s. stays old new key _ (λ q. among s q.expected) edit refl k;
}
  where
    key : List ℕ
    key = p.row.key

    first : (b c : Bool) (o : Option (Bool × Place))
        → cond b (cond c (Some (mark cell p)) o) o ≡ cond (c && (b || false)) (option_map (mark cell) (last (cond b (p ∷ []) []))) o
    first true true o = refl
    first true false o = refl
    first false true o = refl
    first false false o = refl

    holds : (b c e : Bool) → cond b (c || e) e ≡ ((c && (b || false)) || e)
    holds true true e = refl
    holds true false e = refl
    holds false true e = refl
    holds false false e = refl

-- ---- one row more

pub has_more : (done : List Placed) (p : Placed) (k : List ℕ) → has_row k (map row_of (done ++ p ∷ [])) ≡ (has_row k (map row_of done) || bytes_eq p.row.key k)
has_more done p k =
    ap (has_row k) (map-append row_of done (p ∷ []))
    ∙ list_any-append (λ (r : Row). bytes_eq r.key k) (map row_of done) (p.row ∷ [])
    ∙ ap (λ b. has_row k (map row_of done) || b) (alone (bytes_eq p.row.key k))
  where
    alone : (b : Bool) → (b || false) ≡ b
    alone true = refl
    alone false = refl

last_of : {X : Type 0} (xs : List X) (x : X) → last (xs ++ x ∷ []) ≡ Some x
last_of [] x = refl
last_of (y ∷ xs) x = ap (λ o. Some (unwrap_or o y)) (last_of xs x)

last_more : (done : List Placed) (p : Placed) (k : List ℕ) → last_placed (done ++ p ∷ []) k ≡ cond (bytes_eq p.row.key k) (Some p) (last_placed done k)
last_more done p k =
    ap last (filter-append test done (p ∷ [])) ∙ by (bytes_eq p.row.key k)
  where
    test : Placed → Bool
    test q = bytes_eq q.row.key k

    by : (b : Bool) → last (filter test done ++ cond b (p ∷ []) []) ≡ cond b (Some p) (last (filter test done))
    by true = last_of (filter test done) p
    by false = ap last (append-nil (filter test done))

pub indexes_none : (slot cell : ℕ) (index : Index) → Indexes slot cell [] index index
indexes_none slot cell index = record {
  versions = λ k s. none (eqb slot s) (indexed index s k);
  held = λ k s. unheld (eqb slot s) (among s (kept index k).held);
  expected = λ k s. refl;
}
  where
    none : (c : Bool) (o : Option (Bool × Place)) → o ≡ cond (c && false) None o
    none true o = refl
    none false o = refl

    unheld : (c e : Bool) → e ≡ ((c && false) || e)
    unheld true e = refl
    unheld false e = refl

pub indexes_more : (slot cell : ℕ) (done : List Placed) (p : Placed) (old mid new : Index) → Indexes slot cell done old mid → Indexes slot cell (p ∷ []) mid new → Indexes slot cell (done ++ p ∷ []) old new
indexes_more slot cell done p old mid new so_far one = record {
  versions = λ k s.
      one.versions k s
      ∙ ap (λ o. cond (eqb slot s && (bytes_eq p.row.key k || false)) (option_map (mark cell) (last_placed (p ∷ []) k)) o) (so_far.versions k s)
      ∙ both (eqb slot s) (has_row k (map row_of done)) (bytes_eq p.row.key k) (last_placed done k) (indexed old s k)
      ∙ ap (λ h. cond (eqb slot s && h) (option_map (mark cell) (cond (bytes_eq p.row.key k) (Some p) (last_placed done k))) (indexed old s k)) (sym (has_more done p k))
      ∙ ap (λ l. cond (is_in slot (map row_of (done ++ p ∷ [])) s k) (option_map (mark cell) l) (indexed old s k)) (sym (last_more done p k));
  held = λ k s.
      one.held k s
      ∙ ap (λ e. (eqb slot s && (bytes_eq p.row.key k || false)) || e) (so_far.held k s)
      ∙ holds (eqb slot s) (has_row k (map row_of done)) (bytes_eq p.row.key k) (among s (kept old k).held)
      ∙ ap (λ h. (eqb slot s && h) || among s (kept old k).held) (sym (has_more done p k));
  expected = λ k s. one.expected k s ∙ so_far.expected k s;
}
  where
    both : (c h b : Bool) (l : Option Placed) (o : Option (Bool × Place))
        → cond (c && (b || false)) (option_map (mark cell) (last (cond b (p ∷ []) []))) (cond (c && h) (option_map (mark cell) l) o)
        ≡ cond (c && (h || b)) (option_map (mark cell) (cond b (Some p) l)) o
    both true true true l o = refl
    both true true false l o = refl
    both true false true l o = refl
    both true false false l o = refl
    both false true true l o = refl
    both false true false l o = refl
    both false false true l o = refl
    both false false false l o = refl

    holds : (c h b e : Bool) → ((c && (b || false)) || ((c && h) || e)) ≡ ((c && (h || b)) || e)
    holds true true true e = refl
    holds true true false e = refl
    holds true false true e = refl
    holds true false false e = refl
    holds false true true e = refl
    holds false true false e = refl
    holds false false true e = refl
    holds false false false e = refl

-- where nothing was held in the slot before, the keys of the rows are held there
pub held_so_far : (slot cell : ℕ) (done : List Placed) (old now : Index) (k : List ℕ) → Indexes slot cell done old now → among slot (kept old k).held ≡ false
    → among slot (kept now k).held ≡ has_row k (map row_of done)
held_so_far slot cell done old now k so_far none =
    so_far.held k slot ∙ ap (λ e. (eqb slot slot && has_row k (map row_of done)) || e) none
    ∙ ap (λ c. (c && has_row k (map row_of done)) || false) (eq-eqb slot slot refl) ∙ alone (has_row k (map row_of done))
  where
    alone : (b : Bool) → (b || false) ≡ b
    alone true = refl
    alone false = refl
