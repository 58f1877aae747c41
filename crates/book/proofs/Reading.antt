-- Keys that were read, one after the other.
use Rattle.std.proofs.Common.{◌≡◌, ℕ, zero, suc, ◌<◌, List, [], ◌∷◌, ◌++◌, map, Option, All, refl, sym, ap, subst, ◌∙◌, arith}
use Rattle.std.proofs.lemmas.List.Elements.{All-append}
use Rattle.slot_list.specs.declared.Version.{Version}
use Rattle.slot_list.specs.Latest.{sees, IsLatest}
use Rattle.adb_model.specs.declared.key.Key.{Key}
use Rattle.adb_model.specs.View.{View}
use Rattle.book_parts.specs.Parts.{Parts}
use Rattle.book.specs.Listing.{AreKept, IsSeen}

pub one_of : {X : Type 0} (P : X → Type 0) (x : X) → P x → All P (x ∷ [])
one_of P x p zero d within = p
one_of P x p (suc k) d within = let h : suc k < 1 = within in absurd (omega (arith, h))

-- one element more stands before the rest
pub map-moved : {X Y : Type 0} (f : X → Y) (xs : List X) (x : X) (ys : List Y) → map f (xs ++ x ∷ []) ++ ys ≡ map f xs ++ f x ∷ ys
map-moved f [] x ys = refl
map-moved f (y ∷ xs) x ys = ap (λ l. f y ∷ l) (map-moved f xs x ys)

module _ (p : Parts) (view : View) (keys later : List (List ℕ × List Version)) (key : Key) (versions : List Version) (next : keys ≡ (key.0, versions) ∷ later) (found : List (Key × Option Version)) (seen : Option Version) where
  -- the next key is found
  pub found_more : (all : List (List ℕ)) → all ≡ map (λ f. f.0.0) found ++ map (λ e. e.0) keys → all ≡ map (λ f. f.0.0) (found ++ (key, seen) ∷ []) ++ map (λ e. e.0) later
  found_more all is = is ∙ ap (λ (l : List (List ℕ × List Version)). map (λ f. f.0.0) found ++ map (λ e. e.0) l) next ∙ sym (map-moved (λ f. f.0.0) found (key, seen) (map (λ e. e.0) later))

  kept_now : AreKept p.index keys → AreKept p.index ((key.0, versions) ∷ later)
  kept_now kept = subst (AreKept p.index) next kept

  pub kept_later : AreKept p.index keys → AreKept p.index later
  kept_later kept k d within = kept_now kept (suc k) d (omega (arith, within))

  pub seen_more : AreKept p.index keys → IsLatest (sees view.ancestors p.roots view.max_root) versions seen → All (λ f. IsSeen p view f.0.0 f.1) found → All (λ f. IsSeen p view f.0.0 f.1) (found ++ (key, seen) ∷ [])
  seen_more kept latest each =
      let own = subst (λ (l : List Version). IsLatest (sees view.ancestors p.roots view.max_root) l seen) (sym (kept_now kept 0 (key.0, versions) (omega arith))) latest in
      All-append (λ f. IsSeen p view f.0.0 f.1) found ((key, seen) ∷ []) each (one_of (λ f. IsSeen p view f.0.0 f.1) (key, seen) own)
