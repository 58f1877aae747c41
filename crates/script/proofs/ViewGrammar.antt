-- The words of views: what is read of them against what they are, both ways.
use Rattle.std.proofs.Common.{◌≡◌, ℕ, ◌-◌, ◌^◌, ◌≤◌, Bool, true, false, cond, eqb, leb, List, [], ◌∷◌, ◌++◌, length, Option, Some, None, refl, sym, ap, subst, ◌∙◌, arith, inl, inr}
use Rattle.std.specs.Prelude.{codes, map, option_map, option_and_then}
use Rattle.std.specs.List.{slice_split, join_with_byte, before_first, after_first}
use Rattle.std.specs.Str.{bytes_eq}
use Rattle.std.proofs.lemmas.Bool.{cases_Bool, cond-true, cond-false, leb-true, le-leb}
use Rattle.std.proofs.lemmas.List.Splits.{slice_split-cons_no, join_with_byte-slice_split, length-slice_split}
use Rattle.std.proofs.lemmas.Slice.Eq.{bytes_eq-Decides}
use Rattle.adb_model.specs.View as machine
use Rattle.adb_model.specs.View.{View}
use Rattle.text_fields.specs.Numbers.{number_of}
use Rattle.script.specs.Arguments.{numbers_of, ancestors_of, max_root_of, view_of}
use Rattle.script.specs.Views.{AreAncestors, IsMaxRoot, IsView}
use Rattle.script.proofs.Separated.{Lacks, IsNoDigit, no_digit, number_lacks, lacks_more, chosen, before_again, after_again, joined_again}

-- ---- numbers

-- all of the numbers, or each of them
numbers_each : (ws : List (List ℕ)) (ns : List ℕ) → numbers_of ws ≡ Some ns → map number_of ws ≡ map Some ns
numbers_each [] ns e = let none : [] ≡ ns = cc in ap (map Some) none
numbers_each (w ∷ ws) ns e = by (number_of w) (numbers_of ws) refl e (numbers_each ws) where
  by : (o : Option ℕ) (os : Option (List ℕ)) → numbers_of ws ≡ os → option_and_then (λ n. option_map (λ ms. n ∷ ms) os) o ≡ Some ns → ((ms : List ℕ) → numbers_of ws ≡ Some ms → map number_of ws ≡ map Some ms)
      → o ∷ map number_of ws ≡ map Some ns
  by (Some n) (Some ms) is e more = let whole : n ∷ ms ≡ ns = cc e in ap (λ (r : List (Option ℕ)). Some n ∷ r) (more ms is) ∙ ap (map Some) whole
  by (Some n) None is e more = absurd (cc e)
  by None os is e more = absurd (cc e)

each_number : (ws : List (List ℕ)) (ns : List ℕ) → map number_of ws ≡ map Some ns → numbers_of ws ≡ Some ns
each_number [] [] e = refl
each_number [] (n ∷ ns) e = absurd cc
each_number (w ∷ ws) [] e = absurd cc
each_number (w ∷ ws) (n ∷ ns) e =
    let first : number_of w ≡ Some n = cc in
    let rest : map number_of ws ≡ map Some ns = cc in
    rw (first, each_number ws ns rest) refl

as_many : (ws : List (List ℕ)) (ns : List ℕ) → map number_of ws ≡ map Some ns → length ws ≡ length ns
as_many [] [] e = refl
as_many [] (n ∷ ns) e = absurd cc
as_many (w ∷ ws) [] e = absurd cc
as_many (w ∷ ws) (n ∷ ns) e = let rest : map number_of ws ≡ map Some ns = cc in omega (arith, as_many ws ns rest)

-- ---- bytes that no number has

joined_lacks : (c : ℕ) → IsNoDigit c → eqb 44 c ≡ false → (ws : List (List ℕ)) (ns : List ℕ) → map number_of ws ≡ map Some ns → Lacks c (join_with_byte 44 ws)
joined_lacks c out comma [] ns e = tt
joined_lacks c out comma (w ∷ ws) [] e = absurd cc
joined_lacks c out comma (w ∷ []) (n ∷ ns) e = let first : number_of w ≡ Some n = cc in number_lacks c out w n first
joined_lacks c out comma (w ∷ v ∷ ws) (n ∷ ns) e =
    let first : number_of w ≡ Some n = cc in
    let rest : map number_of (v ∷ ws) ≡ map Some ns = cc in
    lacks_more c w (44 ∷ join_with_byte 44 (v ∷ ws)) (number_lacks c out w n first) (comma, joined_lacks c out comma (v ∷ ws) ns rest)

-- ---- numbers joined by commas

split_only : (w : List ℕ) → Lacks 44 w → slice_split (λ b. eqb b 44) w ≡ w ∷ []
split_only [] h = refl
split_only (b ∷ w) h = slice_split-cons_no (λ x. eqb x 44) b w h.0 ∙ rw (split_only w h.1) refl

split_part : (w rest : List ℕ) → Lacks 44 w → slice_split (λ b. eqb b 44) (w ++ 44 ∷ rest) ≡ w ∷ slice_split (λ b. eqb b 44) rest
split_part [] rest h = refl
split_part (b ∷ w) rest h = slice_split-cons_no (λ x. eqb x 44) b (w ++ 44 ∷ rest) h.0 ∙ rw (split_part w rest h.1) refl

split_joined : (ws : List (List ℕ)) (ns : List ℕ) → map number_of ws ≡ map Some ns → 1 ≤ length ns → slice_split (λ b. eqb b 44) (join_with_byte 44 ws) ≡ ws
split_joined [] [] e some = absurd (omega arith)
split_joined [] (n ∷ ns) e some = absurd cc
split_joined (w ∷ ws) [] e some = absurd cc
split_joined (w ∷ []) (n ∷ ns) e some = let first : number_of w ≡ Some n = cc in split_only w (number_lacks 44 (no_digit 44 (inl (omega arith))) w n first)
split_joined (w ∷ v ∷ ws) (n ∷ []) e some = absurd cc
split_joined (w ∷ v ∷ ws) (n ∷ m ∷ ns) e some =
    let first : number_of w ≡ Some n = cc in
    let rest : map number_of (v ∷ ws) ≡ map Some (m ∷ ns) = cc in
    split_part w (join_with_byte 44 (v ∷ ws)) (number_lacks 44 (no_digit 44 (inl (omega arith))) w n first)
    ∙ ap (λ (ps : List (List ℕ)). w ∷ ps) (split_joined (v ∷ ws) (m ∷ ns) rest (omega arith))

ancestors_read : (w : List ℕ) (slots : List ℕ) → ancestors_of w ≡ Some slots → AreAncestors w slots
unfolding ancestors_of
ancestors_read w slots e =
    let parts = slice_split (λ b. eqb b 44) w in
    elim (chosen (bytes_eq w (codes "-")) (Some []) (cond (leb (length parts) 8192) (numbers_of parts) None) (Some slots) e) [
      | inl dash ↦ let none : [] ≡ slots = cc dash.1 in inl ((bytes_eq-Decides w (codes "-")).0 dash.0, sym none)
      | inr other ↦ elim (chosen (leb (length parts) 8192) (numbers_of parts) None (Some slots) other.1) [
        | inl fit ↦
            let each = numbers_each parts slots fit.1 in
            inr (record {
              words = parts;
              joined = sym (join_with_byte-slice_split 44 w);
              numbers = each;
              some = omega (arith, as_many parts slots each, length-slice_split (λ b. eqb b 44) w);
              most = omega (arith, as_many parts slots each, leb-true (length parts) 8192 fit.0);
            })
        | inr many ↦ absurd (cc many.1)
      ]
    ]

ancestors_again : (w : List ℕ) (slots : List ℕ) → AreAncestors w slots → ancestors_of w ≡ Some slots
unfolding ancestors_of
ancestors_again w slots (inl dash) = ap ancestors_of dash.0 ∙ ap (λ (l : List ℕ). Some l) (sym dash.1)
ancestors_again w slots (inr h) =
    let parts : slice_split (λ b. eqb b 44) w ≡ h.words = ap (slice_split (λ b. eqb b 44)) h.joined ∙ split_joined h.words slots h.numbers h.some in
    let other : bytes_eq w (codes "-") ≡ false = elim (cases_Bool (bytes_eq w (codes "-"))) [
      | inl dash ↦ absurd (dashed w ((bytes_eq-Decides w (codes "-")).0 dash) (subst (λ (x : List ℕ). Lacks 45 x) (sym h.joined) (joined_lacks 45 (no_digit 45 (inl (omega arith))) refl h.words slots h.numbers)))
      | inr not_dash ↦ not_dash
    ] in
    let fits : leb (length (slice_split (λ b. eqb b 44) w)) 8192 ≡ true = le-leb _ _ (omega (arith, ap length parts, as_many h.words slots h.numbers, h.most)) in
    cond-false (bytes_eq w (codes "-")) _ _ other ∙ cond-true (leb (length (slice_split (λ b. eqb b 44) w)) 8192) _ _ fits
    ∙ ap numbers_of parts ∙ each_number h.words slots h.numbers
  where
    dashed : (x : List ℕ) → x ≡ codes "-" → Lacks 45 x → ⊥
    dashed x e l = let k : Lacks 45 (codes "-") = subst (λ (y : List ℕ). Lacks 45 y) e l in cc k.0

-- ---- the greatest root

pub max_root_read : (w : List ℕ) (most : ℕ) → max_root_of w ≡ Some most → IsMaxRoot w most
unfolding max_root_of
max_root_read w most e = elim (chosen (bytes_eq w (codes "all")) (Some (2 ^ 64 - 1)) (number_of w) (Some most) e) [
  | inl all ↦ let is : 2 ^ 64 - 1 ≡ most = cc all.1 in inl ((bytes_eq-Decides w (codes "all")).0 all.0, sym is)
  | inr number ↦ inr number.1
]

pub max_root_again : (w : List ℕ) (most : ℕ) → IsMaxRoot w most → max_root_of w ≡ Some most
unfolding max_root_of
max_root_again w most (inl all) = ap max_root_of all.0 ∙ ap (λ (n : ℕ). Some n) (sym all.1)
max_root_again w most (inr number) =
    let other : bytes_eq w (codes "all") ≡ false = elim (cases_Bool (bytes_eq w (codes "all"))) [
      | inl all ↦ absurd (worded w ((bytes_eq-Decides w (codes "all")).0 all) (number_lacks 97 (no_digit 97 (inr (omega arith))) w most number))
      | inr not_all ↦ not_all
    ] in
    cond-false (bytes_eq w (codes "all")) _ _ other ∙ number
  where
    worded : (x : List ℕ) → x ≡ codes "all" → Lacks 97 x → ⊥
    worded x e l = let k : Lacks 97 (codes "all") = subst (λ (y : List ℕ). Lacks 97 y) e l in cc k.0

-- ---- views

abbrev at_sign : ℕ → Bool
at_sign b = eqb b 64

ancestors_lack : (front slots : List ℕ) → AreAncestors front slots → Lacks 64 front
ancestors_lack front slots (inl dash) = subst (λ (x : List ℕ). Lacks 64 x) (sym dash.0) (refl, tt)
ancestors_lack front slots (inr h) = subst (λ (x : List ℕ). Lacks 64 x) (sym h.joined) (joined_lacks 64 (no_digit 64 (inr (omega arith))) refl h.words slots h.numbers)

pub view_again : (w : List ℕ) (view : View) → IsView w view → view_of w ≡ Some view
unfolding view_of
view_again w view h =
    let lacks = ancestors_lack h.front h.slots h.ancestors in
    let front : before_first at_sign w ≡ h.front = ap (before_first at_sign) h.joined ∙ before_again 64 h.front h.back lacks in
    let back : after_first at_sign w ≡ h.back = ap (after_first at_sign) h.joined ∙ after_again 64 h.front h.back lacks in
    let slots : ancestors_of (before_first at_sign w) ≡ Some h.slots = ap ancestors_of front ∙ ancestors_again h.front h.slots h.ancestors in
    let most : max_root_of (after_first at_sign w) ≡ Some h.max_root = ap max_root_of back ∙ max_root_again h.back h.max_root h.root in
    rw (slots, most) (ap (λ (v : View). Some v) h.view_is)

-- what both parts were read as
parts_read : (o : Option (List ℕ)) (m : Option ℕ) (view : View) → option_and_then (λ slots. option_map (λ most. machine.view_of slots most) m) o ≡ Some view
    → (slots : List ℕ) × (most : ℕ) × (o ≡ Some slots) × (m ≡ Some most) × (machine.view_of slots most ≡ view)
parts_read None m view e = absurd cc
parts_read (Some slots) None view e = absurd cc
parts_read (Some slots) (Some most) view e = (slots, most, refl, refl, cc)

no_max_root : (most : ℕ) → max_root_of [] ≡ Some most → ⊥
unfolding max_root_of number_of
no_max_root most e = cc e

pub view_read : (w : List ℕ) (view : View) → view_of w ≡ Some view → IsView w view
unfolding view_of
view_read w view e =
    let p = parts_read (ancestors_of (before_first at_sign w)) (max_root_of (after_first at_sign w)) view e in
    record {
      front = before_first at_sign w;
      back = after_first at_sign w;
      slots = p.0;
      max_root = p.1;
      joined = joined_again 64 w (λ none. no_max_root p.1 (ap max_root_of (sym none) ∙ p.3));
      ancestors = ancestors_read (before_first at_sign w) p.0 p.2;
      root = max_root_read (after_first at_sign w) p.1 p.3;
      view_is = p.4;
    }
