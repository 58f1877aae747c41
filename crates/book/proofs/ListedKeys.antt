-- The keys that are listed of a book rise, and each key that has an answer is one of them.
use Rattle.std.proofs.Common.{◌≡◌, ◌≢◌, ℕ, zero, suc, ◌<◌, List, [], ◌∷◌, map, Option, None, AllPairs, Contains, refl, sym, ap, subst, arith}
use Rattle.std.specs.declared.cmp.Ordering.TheVariants.{Less}
use Rattle.std.proofs.lemmas.List.Kept.{AllPairs-cons}
use Rattle.std.proofs.lemmas.List.Elements.{All-map}
use Rattle.slot_list.specs.declared.Version.{Version}
use Rattle.slot_list.specs.Latest.{sees, IsLatest}
use Rattle.accounts_index.specs.Index.{kept}
use Rattle.adb_model.specs.View.{View}
use Rattle.adb_model.specs.State.{Stored}
use Rattle.adb_model.specs.Reclaimable.{key_cmp}
use Rattle.book_parts.specs.Parts.{Parts}
use Rattle.book.specs.Listing.{IsSeen}

abbrev Keyed : Type 0
Keyed = List ℕ × List Version

abbrev pub keys_of : List Keyed → List (List ℕ)
keys_of keys = map (λ e. e.0) keys

pub keys_rise : (keys : List Keyed) → AllPairs (λ a b. key_cmp a.0 b.0 ≡ Less) keys → AllPairs (λ a b. key_cmp a b ≡ Less) (keys_of keys)
keys_rise [] rise = λ i j d lt within. let h : j < 0 = within in absurd (omega (arith, h))
keys_rise (e ∷ keys) rise =
    AllPairs-cons (λ a b. key_cmp a b ≡ Less) e.0 (keys_of keys)
    (All-map (λ k. key_cmp e.0 k ≡ Less) (λ (x : Keyed). x.0) keys (λ k d lt. rise 0 (suc k) d (omega arith) (omega (arith, lt))))
    (keys_rise keys (λ i j d lt within. rise (suc i) (suc j) d (omega (arith, lt)) (omega (arith, within))))

-- a key stands among the keys where it stands with its versions
key_there : (keys : List Keyed) (e : Keyed) → Contains keys e → Contains (keys_of keys) e.0
key_there [] e (k, within, same) = let h : k < 0 = within in absurd (omega (arith, h))
key_there (x ∷ keys) e (zero, within, same) = (0, omega arith, ap (λ (y : Keyed). y.0) same)
key_there (x ∷ keys) e (suc k, within, same) = let rest = key_there keys e (k, omega (arith, within), same) in (suc rest.0, omega (arith, rest.1), rest.2)

-- a view sees no version of a key that has none
none_seen : (p : Parts) (view : View) (key : List ℕ) → (kept p.index key).versions ≡ [] → IsSeen p view key None
none_seen p view key none = subst (λ (versions : List Version). IsLatest (sees view.ancestors p.roots view.max_root) versions None) (sym none) (λ s passes. refl)

module _ (p : Parts) (view : View) (key : List ℕ) (answer : Option Stored) (absent : IsSeen p view key None → answer ≡ None) (keys : List Keyed)
    (every : (k : List ℕ) → (kept p.index k).versions ≢ [] → Contains keys (k, (kept p.index k).versions)) where
  pub answered_there : answer ≢ None → Contains (keys_of keys) key
  answered_there some = key_there keys _ (every key (λ none. some (absent (none_seen p view key none))))
