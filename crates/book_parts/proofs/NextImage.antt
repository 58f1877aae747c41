-- Each image of those that a book can be opened from may follow the ones before it.
use Rattle.std.proofs.Common.{◌≡◌, ℕ, ◌+◌, ◌<◌, ◌≤◌, List, [], ◌∷◌, ◌++◌, length, get_or, map, sym, ap, ◌∙◌, arith}
use Rattle.std.specs.List.{enumerate_from}
use Rattle.std.proofs.lemmas.List.{get_or_append_left, get_or-append-add, length-append, length-map}
use Rattle.std.proofs.lemmas.List.Elements.{All-map, All-contains, Contains-append_right}
use Rattle.vec_scan.specs.Image.{Image}
use Rattle.vec_scan.specs.Shown.{stored}
use Rattle.adb_model.specs.Opened as machine
use Rattle.book_parts.specs.Snaps.{ids_of}
use Rattle.book_parts.specs.Opening.{AreOpenable, MayFollow}
use Rattle.book_parts.proofs.Found.{contains_here}

heads : {x y : ℕ} {xs ys : List ℕ} → x ∷ xs ≡ y ∷ ys → (x ≡ y) × (xs ≡ ys)
heads e = (cc, cc)

-- where ids count up, the id after so many is the next
id_after : (n : ℕ) (front rest : List Image) (image : Image) → ids_of (front ++ image ∷ rest) ≡ map (λ n. n.0) (enumerate_from n (front ++ image ∷ rest)) → image.id ≡ length front + n
id_after n [] rest image e = let h = (heads e).0 in omega (arith, h)
id_after n (i ∷ front) rest image e = let h = id_after (n + 1) front rest image (heads e).1 in omega (arith, h)

module _ (slot : ℕ) (front rest : List Image) (image : Image) (may : AreOpenable slot (front ++ image ∷ rest)) where
  at_end : (d : Image) → get_or (front ++ image ∷ rest) (length front + 0) d ≡ image
  at_end d = get_or-append-add front (image ∷ rest) 0 d

  below : (k : ℕ) (d : Image) → k < length front → (get_or front k d).slot < image.slot
  below k d lt =
      let whole = length-append front (image ∷ rest) in
      let pair = may.rise k (length front + 0) d (omega (arith, lt)) (omega (arith, whole)) in
      let first = ap (λ (i : Image). i.slot) (get_or_append_left front (image ∷ rest) d k lt) in
      let last = ap (λ (i : Image). i.slot) (at_end d) in
      omega (arith, pair, first, last)

  pub follows : MayFollow slot (map stored front) image
  follows =
      let there = Contains-append_right front (image ∷ rest) image (contains_here image rest) in
      record {
        some = All-contains (λ (i : Image). 0 < length i.rows) (front ++ image ∷ rest) image may.some there;
        above = All-map (λ (i : machine.Image). i.slot < image.slot) stored front below;
        upto = All-contains (λ (i : Image). i.slot ≤ slot) (front ++ image ∷ rest) image may.upto there;
        id = id_after 1 front rest image may.ids ∙ ap (λ (n : ℕ). n + 1) (sym (length-map front stored));
      }
