-- The entries of an index of which one key's versions are edited.
use Rattle.std.proofs.Common.{rules, ◌≡◌, ℕ, List, Bool, true, false, cond, eqb, ◌&&◌, Option, Some, None, is_some, option_map, refl, sym, ap, ◌∙◌, inl, inr, ◌⊎◌, IsSome}
use Rattle.std.specs.Str.{bytes_eq}
use Rattle.std.specs.Cmp.Lexicographic.{bytes_decides}
use Rattle.std.proofs.lemmas.Bool.{cases_Bool, true≢false}
use Rattle.slot_list.specs.declared.Version.{Version}
use Rattle.slot_list.specs.declared.Place.{Place}
use Rattle.slot_list.specs.Versions.{at, without}
use Rattle.accounts_index.specs.Index.{Kept, Index, kept, IsWith}
use Rattle.adb_model.specs.Lists.{among}
use Rattle.book_parts.specs.Reflects.{found_of, indexed}
use Rattle.book_parts.specs.Changes.{SameHolds}

-- look-ups after a version is taken out
abbrev pub FindsNone : Type 0
FindsNone = (slot s : ℕ) (vs : List Version) → at s (without slot vs) ≡ cond (eqb slot s) None (at s vs)

pub same_bytes : (a b : List ℕ) → bytes_eq a b ≡ true → a ≡ b
same_bytes a b e = (bytes_decides a b).0 e

pub bytes_eq-self : (a : List ℕ) → bytes_eq a a ≡ true
bytes_eq-self a = (bytes_decides a a).1 refl

abbrev Entry : Type 0
Entry = Bool × Place

and_cond : (b c : Bool) (x y : Option Entry) → cond (b && c) x y ≡ cond c (cond b x y) y
and_cond true true x y = refl
and_cond true false x y = refl
and_cond false true x y = refl
and_cond false false x y = refl

mapped_cond : (b : Bool) (o u : Option Version) → option_map found_of (cond b o u) ≡ cond b (option_map found_of o) (option_map found_of u)
mapped_cond true o u = refl
mapped_cond false o u = refl

module _ (old new : Index) (key : List ℕ) (vs : List Version) where
  abbrev pub HasVersions : Type 0
  HasVersions = IsWith old new key (record (kept old key) { versions = vs })

  -- what else is kept of each key stays
  same_by : (f : Kept → List ℕ) → f (record (kept old key) { versions = vs }) ≡ f (kept old key) → HasVersions → (k : List ℕ) (s : ℕ) → among s (f (kept new k)) ≡ among s (f (kept old k))
  same_by f own is k s = ap (λ (x : Kept). among s (f x)) (is k) ∙ by (cases_Bool (bytes_eq key k))
    where
      by : (bytes_eq key k ≡ true) ⊎ (bytes_eq key k ≡ false) → among s (f (cond (bytes_eq key k) (record (kept old key) { versions = vs }) (kept old k))) ≡ among s (f (kept old k))
      by (inl t) = rw t (ap (among s) own ∙ ap (λ (q : List ℕ). among s (f (kept old q))) (same_bytes key k t))
      by (inr differs) = rw differs refl

  pub same_holds : HasVersions → SameHolds old new
  same_holds is = record { held = same_by (λ x. x.held) refl is; expected = same_by (λ x. x.expected) refl is }

  -- where the key's own look-up at a slot gives o in place of another
  pub entries_with : HasVersions → (b : ℕ → Bool) (o : Option Version) → ((s : ℕ) → at s vs ≡ cond (b s) o (at s (kept old key).versions))
      → (k : List ℕ) (s : ℕ) → indexed new s k ≡ cond (b s && bytes_eq key k) (option_map found_of o) (indexed old s k)
  entries_with is b o found k s =
      ap (λ (x : Kept). option_map found_of (at s x.versions)) (is k) ∙ by (cases_Bool (bytes_eq key k))
      ∙ sym (and_cond (b s) (bytes_eq key k) (option_map found_of o) (indexed old s k))
    where
      by : (bytes_eq key k ≡ true) ⊎ (bytes_eq key k ≡ false)
          → option_map found_of (at s (cond (bytes_eq key k) (record (kept old key) { versions = vs }) (kept old k)).versions) ≡ cond (bytes_eq key k) (cond (b s) (option_map found_of o) (indexed old s k)) (indexed old s k)
      by (inl t) = rw t (ap (option_map found_of) (found s) ∙ mapped_cond (b s) o (at s (kept old key).versions) ∙ ap (λ (q : List ℕ). cond (b s) (option_map found_of o) (indexed old s q)) (same_bytes key k t))
      by (inr f) = rw f refl

pub entries_without : FindsNone → (old new : Index) (key : List ℕ) (slot : ℕ) → IsWith old new key (record (kept old key) { versions = without slot (kept old key).versions })
    → (k : List ℕ) (s : ℕ) → indexed new s k ≡ cond (eqb slot s && bytes_eq key k) None (indexed old s k)
entries_without finds old new key slot is = entries_with old new key (without slot (kept old key).versions) is (λ s. eqb slot s) None (λ s. finds slot s (kept old key).versions)

-- a pair that has an entry has a version
pub version_there : (index : Index) (s : ℕ) (k : List ℕ) → is_some (indexed index s k) ≡ true → IsSome (at s (kept index k).versions)
version_there index s k t = by (at s (kept index k).versions) refl
  where
    by : (o : Option Version) → at s (kept index k).versions ≡ o → IsSome o
    by None e = absurd (true≢false (sym t ∙ ap (λ o. is_some (option_map found_of o)) e))
    by (Some v) e = search rules

no_entry : (o : Option Entry) → is_some o ≡ false → o ≡ None
no_entry None e = refl
no_entry (Some x) e = absurd (true≢false e)

pub no_entry_there : (index : Index) (s : ℕ) (k : List ℕ) → is_some (indexed index s k) ≡ false → indexed index s k ≡ None
no_entry_there index s k e = no_entry (indexed index s k) e

pub holds_again : (old mid new : Index) → SameHolds old mid → SameHolds mid new → SameHolds old new
holds_again old mid new first second = record {
  held = λ k s. second.held k s ∙ first.held k s;
  expected = λ k s. second.expected k s ∙ first.expected k s;
}
