-- The keys of the first accounts of a list.
use Rattle.std.proofs.Common.{◌≡◌, ◌≢◌, ℕ, zero, suc, ◌+◌, ◌<◌, List, [], ◌∷◌, ◌++◌, length, take, get_or, Bool, true, false, ◌||◌, refl, sym, ap, ◌∙◌, inl, inr, arith, AllPairs}
use Rattle.std.specs.Str.{bytes_eq}
use Rattle.std.specs.Global.{Global}
use Rattle.std.specs.declared.sync.Arc.{Arc}
use Rattle.std.proofs.Math.Seq.{take-suc, take-length}
use Rattle.std.proofs.lemmas.Bool.{cases_Bool}
use Rattle.std.proofs.lemmas.List.{map-append, length-take}
use Rattle.adb_model.specs.Account.{Account}
use Rattle.adb_model.specs.State.{Row}
use Rattle.adb_model.specs.declared.key.Key.{Key}
use Rattle.adb_model.specs.Presence.{has_row}
use Rattle.append_vec.specs.Filled.{row_of, rows_of}
use Rattle.flush_plan.proofs.Edits.{same_bytes, bytes_eq-self}

abbrev pub Given : Type 0
Given = Key × Arc Account Global

-- one more account
pub one_more : (xs : List Given) (i : ℕ) (x : Given) → i < length xs → x ≡ get_or xs i x → rows_of (take (i + 1) xs) ≡ rows_of (take i xs) ++ (row_of x ∷ [])
one_more xs i x lt is =
    let next : i + 1 ≡ suc i = omega arith in
    ap (λ (n : ℕ). rows_of (take n xs)) next
    ∙ ap rows_of (take-suc xs i x lt)
    ∙ map-append row_of (take i xs) (get_or xs i x ∷ [])
    ∙ ap (λ (a : Given). rows_of (take i xs) ++ (row_of a ∷ [])) (sym is)

pub has_more : (rows : List Row) (r : Row) (k : List ℕ) → has_row k (rows ++ (r ∷ [])) ≡ (has_row k rows || bytes_eq r.key k)
has_more [] r k = last (bytes_eq r.key k)
  where
    last : (b : Bool) → (b || false) ≡ b
    last true = refl
    last false = refl
has_more (x ∷ xs) r k = ap (λ b. bytes_eq x.key k || b) (has_more xs r k) ∙ again (bytes_eq x.key k) (has_row k xs) (bytes_eq r.key k)
  where
    again : (a b c : Bool) → (a || (b || c)) ≡ ((a || b) || c)
    again true b c = refl
    again false b c = refl

pub length-rows : (zs : List Given) → length (rows_of zs) ≡ length zs
length-rows [] = refl
length-rows (z ∷ zs) = ap suc (length-rows zs)

pub length-first : (xs : List Given) (i : ℕ) → i < length xs → length (rows_of (take i xs)) ≡ i
length-first xs i lt = length-rows (take i xs) ∙ omega (arith, lt, length-take i xs)

-- the next account's key is new where keys differ
pub key_new : (xs : List Given) (i : ℕ) (x : Given) → i < length xs → x ≡ get_or xs i x → AllPairs (λ r q. r.key ≢ q.key) (rows_of xs) → has_row x.0.0 (rows_of (take i xs)) ≡ false
key_new [] i x lt is differ = absurd (omega (arith, lt))
key_new (y ∷ ys) zero x lt is differ = refl
key_new (y ∷ ys) (suc i) x lt is differ =
    let apart : y.0.0 ≢ x.0.0 = λ same. differ 0 (suc i) (row_of x) (omega arith) (omega (arith, lt, length-rows ys))
    (same ∙ ap (λ (g : Given). g.0.0) is ∙ sym (key_at ys i x)) in
    let other : bytes_eq y.0.0 x.0.0 ≡ false = elim (cases_Bool (bytes_eq y.0.0 x.0.0)) [ inl t ↦ absurd (apart (same_bytes y.0.0 x.0.0 t)) | inr f ↦ f ] in
    ap (λ b. b || has_row x.0.0 (rows_of (take i ys))) other
    ∙ key_new ys i x (omega (arith, lt)) is (λ j k d lt within. differ (suc j) (suc k) d (omega (arith, lt)) (omega (arith, within)))
  where
    key_at : (zs : List Given) (j : ℕ) (d : Given) → (get_or (rows_of zs) j (row_of d)).key ≡ (get_or zs j d).0.0
    key_at [] j d = refl
    key_at (z ∷ zs) zero d = refl
    key_at (z ∷ zs) (suc j) d = key_at zs j d

-- and it is one of all keys
pub key_there : (xs : List Given) (i : ℕ) (x : Given) → i < length xs → x ≡ get_or xs i x → has_row x.0.0 (rows_of xs) ≡ true
key_there [] i x lt is = absurd (omega (arith, lt))
key_there (y ∷ ys) zero x lt is =
    let same : y ≡ x = sym is in
    ap (λ (g : Given). bytes_eq g.0.0 x.0.0 || has_row x.0.0 (rows_of ys)) same ∙ ap (λ b. b || has_row x.0.0 (rows_of ys)) (bytes_eq-self x.0.0)
key_there (y ∷ ys) (suc i) x lt is = ap (λ b. bytes_eq y.0.0 x.0.0 || b) (key_there ys i x (omega (arith, lt)) is) ∙ or_true (bytes_eq y.0.0 x.0.0)
  where
    or_true : (b : Bool) → (b || true) ≡ true
    or_true true = refl
    or_true false = refl

pub whole : (xs : List Given) (i : ℕ) → i ≡ length xs → rows_of (take i xs) ≡ rows_of xs
whole xs i e = ap (λ (n : ℕ). rows_of (take n xs)) e ∙ ap rows_of (take-length xs)

pub has_first : (xs : List Given) (i : ℕ) (k : List ℕ) → has_row k (rows_of (take i xs)) ≡ true → has_row k (rows_of xs) ≡ true
has_first xs zero k e = let h : false ≡ true = e in absurd cc
has_first [] (suc i) k e = e
has_first (x ∷ xs) (suc i) k e = elim (cases_Bool (bytes_eq x.0.0 k)) [
  | inl t ↦ ap (λ b. b || has_row k (rows_of xs)) t
  | inr f ↦ ap (λ b. b || has_row k (rows_of xs)) f ∙ has_first xs i k (sym (ap (λ b. b || has_row k (rows_of (take i xs))) f) ∙ e)
]

-- one more place
pub place_next : (ps : List ℕ) (i p : ℕ) → i < length ps → p ≡ get_or ps i p → take (i + 1) ps ≡ take i ps ++ (p ∷ [])
place_next ps i p lt is =
    let next : i + 1 ≡ suc i = omega arith in
    ap (λ (n : ℕ). take n ps) next ∙ take-suc ps i p lt ∙ ap (λ (q : ℕ). take i ps ++ (q ∷ [])) (sym is)
