-- The images of storages in use, taken one after another.
use Rattle.std.proofs.Common.{◌≡◌, ℕ, suc, ◌<◌, ◌≤◌, eqb, ltb, Bool, true, false, ◌&&◌, ◌||◌, List, [], ◌∷◌, ◌++◌, map, AllPairs, Contains, Option, Some, None, IsSome, refl, sym, ap, ap₂, ◌∙◌, arith}
use Rattle.std.specs.Option.{is_some}
use Rattle.std.proofs.lemmas.Bool.{and_parts, ltb-true, eq-eqb}
use Rattle.std.proofs.lemmas.List.{map-append}
use Rattle.std.proofs.lemmas.List.Elements.{All-push}
use Rattle.std.proofs.lemmas.List.Folds.{list_any-from_Any}
use Rattle.std.proofs.lemmas.List.Kept.{AllPairs-cons}
use Rattle.vec_scan.specs.Image.{Image}
use Rattle.cell_table.specs.Cells.{Table}
use Rattle.storage_map.specs.declared.entry.Live.{Live}
use Rattle.storage_map.specs.Slots.{Slots, live_at}
use Rattle.adb_model.specs.Lists.{among}
use Rattle.book_parts.specs.Parts.{Shared}
use Rattle.book_parts.specs.Snaps.{AreInUse, image_at}
use Rattle.vec_scan.specs.Shown.{images_of}
use Rattle.book.specs.Snapping.{IsNextUpto, is_before}
use Rattle.book.proofs.NextSlots.{none_before, one_more}

-- a test in place of what it says
as_test : (o : Option Live) → o ≡ None → is_some o ≡ false
as_test o e = ap is_some e

tested : (slots : Slots) (after : Option ℕ) (upto : ℕ) (at : Option ℕ) → IsNextUpto (λ q. live_at slots q ≡ None) after upto at → IsNextUpto (λ q. is_some (live_at slots q) ≡ false) after upto at
tested slots after upto None next = λ q a le. as_test (live_at slots q) (next q a le)
tested slots after upto (Some slot) next = (next.0, next.1, (λ none. next.2 (gone (live_at slots slot) none)), (λ q a lt. as_test (live_at slots q) (next.3 q a lt)))
  where
    gone : (o : Option Live) → is_some o ≡ false → o ≡ None
    gone None e = refl
    gone (Some l) e = absurd cc

pub some_at : (slots : Slots) (after : Option ℕ) (upto slot : ℕ) → IsNextUpto (λ q. live_at slots q ≡ None) after upto (Some slot) → IsSome (live_at slots slot)
some_at slots after upto slot next = by (live_at slots slot) next.2
  where
    by : (o : Option Live) → (o ≡ None → ⊥) → IsSome o
    by None ne = absurd (ne refl)
    by (Some l) ne = refl

is_listed : (ns : List ℕ) (s : ℕ) → Contains ns s → among s ns ≡ true
is_listed ns s c = list_any-from_Any (λ x. eqb x s) ns (c.0, s, c.1, c.2, eq-eqb s s refl)

-- a number above all is the last of a rising list
rises_push : (ns : List ℕ) (n : ℕ) → AllPairs (λ a b. a < b) ns → ((s : ℕ) → Contains ns s → s < n) → AllPairs (λ a b. a < b) (ns ++ n ∷ [])
rises_push [] n up below = AllPairs-cons (λ a b. a < b) n [] (λ k d lt. let h : k < 0 = lt in absurd (omega (arith, h))) (λ i j d lt within. let h : j < 0 = within in absurd (omega (arith, h)))
rises_push (x ∷ ns) n up below =
    AllPairs-cons (λ a b. a < b) x (ns ++ n ∷ [])
    (All-push (λ b. x < b) ns n (λ k d lt. up 0 (suc k) d (omega arith) (omega (arith, lt))) (below x (0, omega arith, refl)))
    (rises_push ns n (λ i j d lt within. up (suc i) (suc j) d (omega (arith, lt)) (omega (arith, within))) (λ s c. below s (suc c.0, omega (arith, c.1), c.2)))

module _ (cells : Table Shared) (slots : Slots) (upto : ℕ) where
  none_listed : (b c : Bool) → (b ≡ true → c ≡ false) → false ≡ (b && c)
  none_listed true c f = sym (f refl)
  none_listed false c f = refl

  pub none_yet : (at : Option ℕ) (storages : List Shared) → storages ≡ [] → IsNextUpto (λ q. live_at slots q ≡ None) None upto at → AreInUse (is_before upto at) cells slots (images_of storages)
  none_yet at storages e next = record {
    of = [];
    rise = λ i j d lt within. let h : j < 0 = within in absurd (omega (arith, h));
    each = sym (ap (λ (s : List Shared). map Some (images_of s)) e);
    all = λ s. none_listed (is_before upto at s) (is_some (live_at slots s)) (λ t. none_before (λ q. is_some (live_at slots q) ≡ false) upto at (tested slots None upto at next) s t);
  }

  listed_more : (ns : List ℕ) (n s : ℕ) → among s (ns ++ n ∷ []) ≡ (among s ns || eqb n s)
  listed_more [] n s = by (eqb n s)
    where
      by : (b : Bool) → (b || false) ≡ b
      by true = refl
      by false = refl
  listed_more (x ∷ ns) n s = ap (λ b. eqb x s || b) (listed_more ns n s) ∙ again (eqb x s) (among s ns) (eqb n s)
    where
      again : (a b c : Bool) → (a || (b || c)) ≡ ((a || b) || c)
      again true b c = refl
      again false b c = refl

  pub one_image : (found : ℕ) (at : Option ℕ) (storages after : List Shared) (sealed : Shared) → after ≡ storages ++ sealed ∷ [] → found ≤ upto → IsSome (live_at slots found)
      → IsNextUpto (λ q. live_at slots q ≡ None) (Some found) upto at → image_at cells slots found ≡ Some sealed.value
      → AreInUse (is_before upto (Some found)) cells slots (images_of storages) → AreInUse (is_before upto at) cells slots (images_of after)
  one_image found at storages after sealed e le there next image a = record {
    of = a.of ++ found ∷ [];
    rise = rises_push a.of found a.rise (λ s c. ltb-true s found (and_parts (ltb s found) (is_some (live_at slots s)) (sym (a.all s) ∙ is_listed a.of s c)).0);
    each = map-append (image_at cells slots) a.of (found ∷ []) ∙ ap₂ (λ (xs ys : List (Option Image)). xs ++ ys) a.each (ap (λ o. o ∷ []) image)
        ∙ sym (map-append Some (images_of storages) (sealed.value ∷ [])) ∙ ap (map Some) (sym (ap images_of e ∙ map-append (λ (s : Shared). s.value) storages (sealed ∷ [])));
    all = λ s. listed_more a.of found s ∙ ap (λ b. b || eqb found s) (a.all s) ∙ one_more (λ q. is_some (live_at slots q)) found upto at le (tested slots (Some found) upto at next) there s;
  }
