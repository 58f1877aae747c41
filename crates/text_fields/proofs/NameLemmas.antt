-- Words that name snapshots.
use Rattle.std.proofs.Common.{◌≡◌, ◌≢◌, ℕ, ◌<◌, true, leb, ltb, eqb, List, [], ◌∷◌, length, Some, None, refl, sym, ap, subst, ◌∙◌, arith, inl, inr}
use Rattle.std.specs.Prelude.{not, slice_index}
use Rattle.std.specs.List.{list_all}
use Rattle.std.specs.Str.{IsUtf8, IsAscii}
use Rattle.std.proofs.lemmas.Bool.{and_from, and_parts, cases_Bool, cond-true, cond-false, eq-eqb, ne_eqb, ltb-true, lt-ltb, le-leb, leb-true}
use Rattle.std.proofs.lemmas.Bool.Decides.{nat_tests}
use Rattle.std.proofs.lemmas.List.Sums.{AllPass-from_list_all, list_all-from_AllPass}
use Rattle.std.proofs.lemmas.Str.{IsUtf8-from_ascii}
use Rattle.std.proofs.lemmas.Str.Ascii.{IsAscii-nil, IsAscii-cons}
use Rattle.text_fields.specs.Laws.{NameWordsAreNames}
use Rattle.text_fields.specs.Names.{IsNameWord, is_name_char, is_name, name_of}

char_small : (c : ℕ) → is_name_char c ≡ true → c < 128
char_small c h = grind (arith, nat_tests)

chars_small : (w : List ℕ) → list_all (λ c. is_name_char c) w ≡ true → IsAscii w
chars_small [] h = IsAscii-nil
chars_small (c ∷ w) h =
    let p = and_parts (is_name_char c) (list_all (λ x. is_name_char x) w) h in
    IsAscii-cons c w (char_small c p.0) (chars_small w p.1)

not_dash : (b : ℕ) → not (eqb b 45) ≡ true → b ≢ 45
not_dash b h e = absurd (cc (h, eq-eqb b 45 e))

-- the facts from the test
word_facts : (w : List ℕ) → is_name w ≡ true → IsNameWord w w
word_facts w h =
    let some = and_parts (ltb 0 (length w)) _ h in
    let most = and_parts (leb (length w) 64) _ some.1 in
    let first = and_parts (not (eqb (slice_index w 0) 45)) _ most.1 in
    record { some = ltb-true _ _ some.0; most = leb-true _ _ most.0; first = not_dash _ first.0; chars = AllPass-from_list_all _ w first.1; itself = refl }

-- the test from its facts
is_one : (w name : List ℕ) → IsNameWord w name → is_name w ≡ true
is_one w name h =
    and_from _ _ (lt-ltb _ _ h.some)
    (and_from _ _ (le-leb _ _ h.most) (and_from _ _ (ap not (ne_eqb _ _ h.first)) (list_all-from_AllPass (λ c. is_name_char c) w h.chars)))

-- a name is text
pub name_is_text : (w : List ℕ) → is_name w ≡ true → IsUtf8 w
name_is_text w h =
    let some = and_parts (ltb 0 (length w)) _ h in
    let most = and_parts (leb (length w) 64) _ some.1 in
    let first = and_parts (not (eqb (slice_index w 0) 45)) _ most.1 in
    IsUtf8-from_ascii w (chars_small w first.1)

name_read : (w name : List ℕ) → name_of w ≡ Some name → IsNameWord w name
unfolding name_of
name_read w name e = elim (cases_Bool (is_name w)) [
  | inl good ↦ let same : w ≡ name = cc (e, cond-true (is_name w) (Some w) None good) in subst (λ (x : List ℕ). IsNameWord w x) same (word_facts w good)
  | inr bad ↦ absurd (cc (e, cond-false (is_name w) (Some w) None bad))
]

name_again : (w name : List ℕ) → IsNameWord w name → name_of w ≡ Some name
unfolding name_of
name_again w name h = cond-true (is_name w) (Some w) None (is_one w name h) ∙ ap (λ (x : List ℕ). Some x) (sym h.itself)

pub name_words : NameWordsAreNames
name_words w name = (name_read w name, name_again w name)
