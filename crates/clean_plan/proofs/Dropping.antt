-- The shadowed pairs of a key leave one after another.
use Rattle.std.proofs.Common.{◌≡◌, ℕ, ◌<◌, List, Bool, true, false, cond, eqb, ltb, not, ◌&&◌, Option, Some, None, IsSome, is_some, IsTrue, IsFalse, refl, sym, ap, ◌∙◌, inl, inr, arith}
use Rattle.std.specs.Option.{option_map_or}
use Rattle.std.specs.Str.{bytes_eq}
use Rattle.std.specs.Cmp.Lexicographic.{bytes_decides}
use Rattle.std.proofs.lemmas.Bool.{cases_Bool, cases_lt, eq-eqb, ne_eqb, lt-ltb, le-ltb, false≢true}
use Rattle.slot_list.specs.declared.Version.{Version}
use Rattle.slot_list.specs.Versions.{at, without}
use Rattle.accounts_index.specs.Index.{Index, Kept, kept, is_stored}
use Rattle.storage_map.specs.Slots.{Slots}
use Rattle.adb_model.specs.State.{State}
use Rattle.adb_model.specs.Presence.{is_named}
use Rattle.adb_model.specs.Reclaimable.{is_shadowed}
use Rattle.adb_model.specs.Reclaim.{is_taken, drop_shadowed}
use Rattle.adb_model.specs.Cleaning.{without_name}
use Rattle.adb_model.specs.Sound.{IsSoundMidway}
use Rattle.adb_model.specs.Once.{IsOnce}
use Rattle.book_parts.specs.Parts.{Parts}
use Rattle.book_parts.specs.Reflects.{Reflects}
use Rattle.book_parts.specs.Reclaims.{IsMidway, is_stored_at, IsShadow, IsNewestShadow, DropsVersion}
use Rattle.clean_plan.specs.Leaving.{StandAs, Leave}
use Rattle.clean_plan.specs.Lists.{IsNextStored, IsAloneBelow}

pub bytes_eq-self : (a : List ℕ) → bytes_eq a a ≡ true
bytes_eq-self a = (bytes_decides a a).1 refl

pub same_bytes : (a b : List ℕ) → bytes_eq a b ≡ true → a ≡ b
same_bytes a b e = (bytes_decides a b).0 e

pub and_false : (a b : Bool) → b ≡ false → (a && b) ≡ false
and_false true b e = e
and_false false b e = refl

-- the laws of named and shadowed pairs, as contracts have them
pub record Laws : Type 0 where
  pub named : (p : Parts) (m : State) → IsMidway m → Reflects p m → (s : ℕ) (k : List ℕ) → is_named m s k ≡ is_stored_at (kept p.index k).versions s
  pub newest : (p : Parts) (m : State) → IsMidway m → Reflects p m → (k : List ℕ) (root : ℕ) → IsNewestShadow p.roots p.cleaned (kept p.index k).versions (Some root)
      → (s : ℕ) → is_shadowed m s k ≡ (is_stored_at (kept p.index k).versions s && ltb s root)
  pub sound : (m : State) → IsSoundMidway m → (slot : ℕ) (key : List ℕ) → IsTrue (is_shadowed m slot key) → IsSoundMidway (without_name m slot key)
  pub once : (m : State) (slot : ℕ) (key : List ℕ) → IsOnce m → IsOnce (without_name m slot key)
  pub others : (m : State) → IsSoundMidway m → (slot : ℕ) (key : List ℕ) → IsTrue (is_shadowed m slot key) → (s : ℕ) (k : List ℕ)
      → is_shadowed (without_name m slot key) s k ≡ (not (eqb slot s && bytes_eq key k) && is_shadowed m s k)
  pub rest : (m : State) → IsSoundMidway m → (slot : ℕ) (key : List ℕ) → IsTrue (is_shadowed m slot key)
      → (keys : List (List ℕ)) → IsTrue (is_taken keys key) → drop_shadowed keys (without_name m slot key) ≡ drop_shadowed keys m
  pub without : (slot s : ℕ) (versions : List Version) → at s (without slot versions) ≡ cond (eqb slot s) None (at s versions)

-- ---- the versions of the key

-- its versions once one has left
pub versions_left : (slot : ℕ) (key : List ℕ) (old new : Index) → DropsVersion slot key old new → (kept new key).versions ≡ without slot (kept old key).versions
versions_left slot key old new drops =
    ap (λ (k : Kept). k.versions) (drops key)
    ∙ ap (λ b. (cond b (record (kept old key) { versions = without slot (kept old key).versions }) (kept old key)).versions) (bytes_eq-self key)

module _ (without_is : (slot s : ℕ) (versions : List Version) → at s (without slot versions) ≡ cond (eqb slot s) None (at s versions))
    (slot : ℕ) (key : List ℕ) (old new : Index) (drops : DropsVersion slot key old new) where
  at_left : (s : ℕ) → at s (kept new key).versions ≡ cond (eqb slot s) None (at s (kept old key).versions)
  at_left s = ap (at s) (versions_left slot key old new drops) ∙ without_is slot s (kept old key).versions

  stored_left : (s : ℕ) → is_stored_at (kept old key).versions s ≡ false → is_stored_at (kept new key).versions s ≡ false
  stored_left s none = elim (cases_Bool (eqb slot s)) [
    | inl here ↦ let is = rw here at (at_left s) in rw is refl
    | inr other ↦ let is = rw other at (at_left s) in rw is none
  ]

  stored_gone : is_stored_at (kept new key).versions slot ≡ false
  stored_gone = let is = rw (eq-eqb slot slot refl) at (at_left slot) in rw is refl

  shadow_left : (roots : List ℕ) (cleaned r : ℕ) → IsShadow roots cleaned (kept new key).versions r → IsShadow roots cleaned (kept old key).versions r
  shadow_left roots cleaned r shadow = elim (cases_Bool (eqb slot r)) [
    | inl here ↦ let is = rw here at (at_left r) in absurd (false≢true (ap is_some (sym is) ∙ shadow.version))
    | inr other ↦ let is = rw other at (at_left r) in record { is_root = shadow.is_root; upto = shadow.upto; version = ap is_some (sym is) ∙ shadow.version }
  ]

  -- the newest root above the slot stays the newest
  newest_left : (roots : List ℕ) (cleaned root : ℕ) → slot < root → IsNewestShadow roots cleaned (kept old key).versions (Some root) → IsNewestShadow roots cleaned (kept new key).versions (Some root)
  newest_left roots cleaned root lt newest =
      let is = rw (ne_eqb slot root (λ e. omega arith)) at (at_left root) in (
        record { is_root = newest.0.is_root; upto = newest.0.upto; version = ap is_some is ∙ newest.0.version },
        λ r above shadow. newest.1 r above (shadow_left roots cleaned r shadow),
      )

-- ---- on the way

-- from m to n some shadowed pairs of the key have left, and the root stays the newest that has a version
pub record Going (p : Parts) (key : List ℕ) (root : ℕ) (index : Index) (map : Slots) (m n : State) : Type 0 where
  pub stands : StandAs p index map n
  pub newest : IsNewestShadow p.roots p.cleaned (kept index key).versions (Some root)
  pub rest : (keys : List (List ℕ)) → IsTrue (is_taken keys key) → drop_shadowed keys n ≡ drop_shadowed keys m
  pub others : (s : ℕ) (k : List ℕ) → IsFalse (is_shadowed m s k) → IsFalse (is_shadowed n s k)

pub going_first : (p : Parts) (key : List ℕ) (root : ℕ) (index : Index) (map : Slots) (m : State) → StandAs p index map m → IsNewestShadow p.roots p.cleaned (kept index key).versions (Some root)
    → Going p key root index map m m
going_first p key root index map m stands newest = record { stands = stands; newest = newest; rest = λ keys taken. refl; others = λ s k none. none }

module _ (laws : Laws) (p : Parts) (key : List ℕ) (root : ℕ) (index : Index) (map : Slots) (m n : State) (going : Going p key root index map m n) where
  shadowed_is : (s : ℕ) → is_shadowed n s key ≡ (is_stored_at (kept index key).versions s && ltb s root)
  shadowed_is s = laws.newest (record p { index = index; map = map }) n going.stands.midway going.stands.parts key root going.newest s

  pub named_there : (slot : ℕ) → is_stored_at (kept index key).versions slot ≡ true → IsTrue (is_named n slot key)
  named_there slot stored = laws.named (record p { index = index; map = map }) n going.stands.midway going.stands.parts slot key ∙ stored

  -- one more has left
  pub going_more : (slot : ℕ) (new_index : Index) (new_map : Slots) → slot < root → is_stored_at (kept index key).versions slot ≡ true → DropsVersion slot key index new_index
      → Reflects (record p { index = new_index; map = new_map }) (without_name n slot key) → Going p key root new_index new_map m (without_name n slot key)
  going_more slot new_index new_map lt stored drops parts =
      let shadowed : IsTrue (is_shadowed n slot key) = shadowed_is slot ∙ rw (stored, lt-ltb slot root lt) refl in
      let sound = going.stands.midway.sound in
      record {
        stands = record {
          midway = record { sound = laws.sound n sound slot key shadowed; once = laws.once n slot key going.stands.midway.once };
          parts = parts;
        };
        newest = newest_left laws.without slot key index new_index drops p.roots p.cleaned root lt going.newest;
        rest = λ keys taken. laws.rest n sound slot key shadowed keys taken ∙ going.rest keys taken;
        others = λ s k none. laws.others n sound slot key shadowed s k ∙ and_false (not (eqb slot s && bytes_eq key k)) (is_shadowed n s k) (going.others s k none);
      }

  -- all have left
  pub going_done : (from : ℕ) → ((s : ℕ) → s < from → is_stored_at (kept index key).versions s ≡ false) → IsNextStored (kept index key).versions from root None
      → Leave is_shadowed drop_shadowed key m n
  going_done from before none = record {
    rest = going.rest;
    none = λ s. shadowed_is s ∙ gone s;
    others = going.others;
  }
    where
      gone : (s : ℕ) → (is_stored_at (kept index key).versions s && ltb s root) ≡ false
      gone s = elim (cases_lt s root) [
        | inl lt ↦ elim (cases_lt s from) [
          | inl lo ↦ rw (before s lo) refl
          | inr hi ↦ rw (none s hi lt) refl
        ]
        | inr ge ↦ and_false (is_stored_at (kept index key).versions s) (ltb s root) (le-ltb s root ge)
      ]

-- no stored version stands below the next place to look
pub before_more : ((slot s : ℕ) (versions : List Version) → at s (without slot versions) ≡ cond (eqb slot s) None (at s versions))
    → (key : List ℕ) (index new_index : Index) (from root slot next : ℕ) → ((s : ℕ) → s < from → is_stored_at (kept index key).versions s ≡ false)
    → IsNextStored (kept index key).versions from root (Some slot) → IsAloneBelow (kept index key).versions slot next → DropsVersion slot key index new_index
    → (s : ℕ) → s < next → is_stored_at (kept new_index key).versions s ≡ false
before_more without_is key index new_index from root slot next before first alone drops s lt = elim (cases_lt s slot) [
  | inl lower ↦ stored_left without_is slot key index new_index drops s (elim (cases_lt s from) [
    | inl lo ↦ before s lo
    | inr hi ↦ first.3 s hi lower
  ])
  | inr not_lower ↦ elim (cases_lt slot s) [
    | inl upper ↦ stored_left without_is slot key index new_index drops s (alone.none s upper lt)
    | inr not_upper ↦
        let here : s ≡ slot = omega arith in
        ap (is_stored_at (kept new_index key).versions) here ∙ stored_gone without_is slot key index new_index drops
  ]
]

-- a stored version is there
pub stored_there : (vs : List Version) (s : ℕ) → is_stored_at vs s ≡ true → IsSome (at s vs)
stored_there vs s stored = by (at s vs) stored
  where
    by : (o : Option Version) → option_map_or (λ (v : Version). is_stored v.place) o false ≡ true → IsSome o
    by None e = absurd (false≢true e)
    by (Some v) e = refl
