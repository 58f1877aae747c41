-- Scripts with their headers: what is read of them against the grammar, both ways.
use Rattle.std.proofs.Common.{◌≡◌, ℕ, ◌+◌, Bool, true, false, cond, List, [], ◌∷◌, Option, Some, None, Result, Ok, Err, refl, sym, ap, ap₂, subst, ◌∙◌, inl, inr}
use Rattle.std.specs.Prelude.{◌⊎◌, codes, not}
use Rattle.std.specs.Str.{bytes_eq}
use Rattle.std.specs.Str.Lines.{lines}
use Rattle.std.proofs.lemmas.Bool.{cases_Bool}
use Rattle.std.proofs.lemmas.Slice.Eq.{bytes_eq-Decides}
use Rattle.text_fields.specs.Names.{name_of}
use Rattle.text_fields.specs.Numbers.{number_of}
use Rattle.script.specs.declared.fault.Kind.TheVariants as kinds
use Rattle.script.specs.declared.fault.WordFault.{WordFault}
use Rattle.script.specs.Grammar.{IsOpen, AreLines, AreOpened, AreSaid, IsScript, spoken}
use Rattle.script.specs.Laws.{ReadsTheGrammar}
use Rattle.script.specs.Reader.{Numbered, argument, ended, only_number, only_name, unskipped, words_after, header_words, headed, header_read, header_in, header_from, budget_from, opened_from, lines_from, script_of}
use Rattle.script.specs.Said.{Line, Said}
use Rattle.script.specs.Words.{words, is_skipped}
use Rattle.script.proofs.GrammarLemmas.{value_same, bind_ok, step, at_end, is_text, number_read, number_again, lines_by_words, lines_by_words_again}
use Rattle.script.proofs.Separated.{chosen}

-- ---- lines that are skipped

-- skipped lines do not count
spoken_unskipped : (n : ℕ) (ls : List (List ℕ)) → spoken (unskipped n ls).1 ≡ spoken ls
spoken_unskipped n [] = refl
spoken_unskipped n (l ∷ ls) = by (is_skipped (words l)) refl (spoken_unskipped (n + 1) ls) where
  by : (t : Bool) → is_skipped (words l) ≡ t → spoken (unskipped (n + 1) ls).1 ≡ spoken ls → spoken (cond t (unskipped (n + 1) ls) (n, l ∷ ls)).1 ≡ cond (not t) (words l ∷ spoken ls) (spoken ls)
  by true e more = more
  by false e more = rw e refl

-- the first line that counts
first_spoken : (n : ℕ) (ls : List (List ℕ)) (ws : List (List ℕ)) (rest : List (List (List ℕ))) → spoken ls ≡ ws ∷ rest
    → (m : ℕ) × (l : List ℕ) × (more : List (List ℕ)) × (unskipped n ls ≡ (m, l ∷ more)) × (words l ≡ ws) × (spoken more ≡ rest)
first_spoken n [] ws rest e = absurd cc
first_spoken n (l ∷ ls) ws rest e = by (is_skipped (words l)) e (first_spoken (n + 1) ls ws rest) where
  by : (t : Bool) → cond (not t) (words l ∷ spoken ls) (spoken ls) ≡ ws ∷ rest
      → (spoken ls ≡ ws ∷ rest → (m : ℕ) × (k : List ℕ) × (more : List (List ℕ)) × (unskipped (n + 1) ls ≡ (m, k ∷ more)) × (words k ≡ ws) × (spoken more ≡ rest))
      → (m : ℕ) × (k : List ℕ) × (more : List (List ℕ)) × (cond t (unskipped (n + 1) ls) (n, l ∷ ls) ≡ (m, k ∷ more)) × (words k ≡ ws) × (spoken more ≡ rest)
  by true h others = others h
  by false h others = (n, l, ls, refl, cc, cc)

-- ---- headers

-- the first of these lines does not begin with this word
abbrev Lacks : List ℕ → List (List (List ℕ)) → Type 0
Lacks first [] = Unit {0}
Lacks first ([] ∷ rest) = Unit {0}
Lacks first ((w ∷ ws) ∷ rest) = bytes_eq w first ≡ false

no_words : (first : List ℕ) (n : ℕ) (ls : List (List ℕ)) → Lacks first (spoken ls) → header_words first (unskipped n ls) ≡ None
no_words first n [] h = refl
no_words first n (l ∷ ls) h = by (is_skipped (words l)) h (no_words first (n + 1) ls) where
  first_by : (vs : List (List ℕ)) → Lacks first (vs ∷ spoken ls) → words_after first vs (n + 1, ls) ≡ None
  first_by [] k = refl
  first_by (w ∷ ws) k = rw k refl

  by : (t : Bool) → Lacks first (cond (not t) (words l ∷ spoken ls) (spoken ls)) → (Lacks first (spoken ls) → header_words first (unskipped (n + 1) ls) ≡ None) → header_words first (cond t (unskipped (n + 1) ls) (n, l ∷ ls)) ≡ None
  by true k others = others k
  by false k others = first_by (words l) k

-- the words of a header were found at the first line that counts
words_found : (first : List ℕ) (here : Numbered) (after : List (List ℕ) × Numbered) → is_skipped (first ∷ after.0) ≡ false → header_words first here ≡ Some after → spoken here.1 ≡ (first ∷ after.0) ∷ spoken after.1.1
words_found first (n, []) after counts e = absurd cc
words_found first (n, l ∷ ls) after counts e = by (words l) refl e where
  by : (vs : List (List ℕ)) → words l ≡ vs → words_after first vs (n + 1, ls) ≡ Some after → spoken (l ∷ ls) ≡ (first ∷ after.0) ∷ spoken after.1.1
  by [] is h = absurd cc
  by (w ∷ ws) is h = elim (chosen (bytes_eq w first) (Some (ws, (n + 1, ls))) None (Some after) h) [
    | inl t ↦
        let same : (ws, (n + 1, ls)) ≡ after = cc t.1 in
        let all : words l ≡ first ∷ after.0 = is ∙ ap₂ (λ (v : List ℕ) (vs : List (List ℕ)). v ∷ vs) (is_text w first t.0) (ap (λ (x : List (List ℕ) × Numbered). x.0) same) in
        rw (all, counts) (ap (λ (x : List (List ℕ) × Numbered). (first ∷ after.0) ∷ spoken x.1.1) same)
    | inr t ↦ absurd (cc t.1)
  ]

-- what was read of a header: nothing, or what its words say
header_ok : {A : Type 0} (first : List ℕ) (read : List (List ℕ) → Result A WordFault) (rest : Numbered) (x : Option A × Numbered) → ((ws : List (List ℕ)) → is_skipped (first ∷ ws) ≡ false) → header_from first read rest ≡ Ok x
    → ((x.0 ≡ None) × (spoken rest.1 ≡ spoken x.1.1)) ⊎ ((v : A) × (ws : List (List ℕ)) × (x.0 ≡ Some v) × (read ws ≡ Ok v) × (spoken rest.1 ≡ (first ∷ ws) ∷ spoken x.1.1))
header_ok {A} first read rest x counts e = by (header_words first (unskipped rest.0 rest.1)) refl e where
  found_by : (after : List (List ℕ) × Numbered) → header_words first (unskipped rest.0 rest.1) ≡ Some after → (r : Result A WordFault) → read after.0 ≡ r → headed (unskipped rest.0 rest.1).0 r after.1 ≡ Ok x
      → ((x.0 ≡ None) × (spoken rest.1 ≡ spoken x.1.1)) ⊎ ((v : A) × (ws : List (List ℕ)) × (x.0 ≡ Some v) × (read ws ≡ Ok v) × (spoken rest.1 ≡ (first ∷ ws) ∷ spoken x.1.1))
  found_by after found (Ok v) is h =
      let same : (Some v, after.1) ≡ x = cc h in
      inr (
        v,
        after.0,
        ap (λ (y : Option A × Numbered). y.0) (sym same),
        is,
        sym (spoken_unskipped rest.0 rest.1) ∙ words_found first (unskipped rest.0 rest.1) after (counts after.0) found ∙ ap (λ (y : Option A × Numbered). (first ∷ after.0) ∷ spoken y.1.1) same,
      )
  found_by after found (Err f) is h = absurd (cc h)

  by : (o : Option (List (List ℕ) × Numbered)) → header_words first (unskipped rest.0 rest.1) ≡ o → header_read read (unskipped rest.0 rest.1) o ≡ Ok x
      → ((x.0 ≡ None) × (spoken rest.1 ≡ spoken x.1.1)) ⊎ ((v : A) × (ws : List (List ℕ)) × (x.0 ≡ Some v) × (read ws ≡ Ok v) × (spoken rest.1 ≡ (first ∷ ws) ∷ spoken x.1.1))
  by None is h =
      let same : (None, unskipped rest.0 rest.1) ≡ x = cc h in
      inl (ap (λ (y : Option A × Numbered). y.0) (sym same), sym (spoken_unskipped rest.0 rest.1) ∙ ap (λ (y : Option A × Numbered). spoken y.1.1) same)
  by (Some after) is h = found_by after is (read after.0) refl h

header_none : {A : Type 0} (first : List ℕ) (read : List (List ℕ) → Result A WordFault) (rest : Numbered) → Lacks first (spoken rest.1) → header_from first read rest ≡ Ok (None, unskipped rest.0 rest.1)
header_none first read rest h = ap (header_read read (unskipped rest.0 rest.1)) (no_words first rest.0 rest.1 h)

header_again : {A : Type 0} (first : List ℕ) (read : List (List ℕ) → Result A WordFault) (rest : Numbered) (ws : List (List ℕ)) (others : List (List (List ℕ))) (v : A) → spoken rest.1 ≡ (first ∷ ws) ∷ others → read ws ≡ Ok v
    → (after : Numbered) × (header_from first read rest ≡ Ok (Some v, after)) × (spoken after.1 ≡ others)
header_again first read rest ws others v e is =
    let at = first_spoken rest.0 rest.1 (first ∷ ws) others e in
    let own : bytes_eq first first ≡ true = (bytes_eq-Decides first first).1 refl in
    ((at.0 + 1, at.2), ap (header_in first read) at.3 ∙ rw (at.4, own, is) refl, at.5)

-- ---- scripts

opened_read : (ws : List (List ℕ)) (name : List ℕ) → only_name ws ≡ Ok name → IsOpen (codes "open" ∷ ws) name
unfolding only_name
opened_read ws name e =
    let word = step name_of kinds.Name 2 ws _ name e in
    let done = at_end _ word.2 _ name word.5 in
    let same : word.1 ≡ name = cc done.1 in
    record { name_word = word.0; words = ap (λ (vs : List (List ℕ)). codes "open" ∷ vs) (word.3 ∙ ap (λ (l : List (List ℕ)). word.0 ∷ l) done.0); name_is = word.4 ∙ ap (λ (n : List ℕ). Some n) same }

opened_again : (w name : List ℕ) → name_of w ≡ Some name → only_name (w ∷ []) ≡ Ok name
unfolding only_name argument ended
opened_again w name e = rw e refl

said_opened : (rest : Numbered) (x : Option (List ℕ) × Numbered) (lines : List Line) → opened_from rest ≡ Ok x → AreLines (spoken x.1.1) lines → AreOpened (spoken rest.1) x.0 lines
unfolding opened_from
said_opened rest x lines e h = elim (header_ok (codes "open") only_name rest x (λ ws. refl) e) [
  | inl none ↦ rw (none.0, none.1) h
  | inr some ↦ rw (some.2, some.4) (opened_read some.1 some.0 some.3, h)
]

said_budget : (rest : Numbered) (x : Option ℕ × Numbered) (opened : Option (List ℕ)) (lines : List Line) → budget_from rest ≡ Ok x → AreOpened (spoken x.1.1) opened lines → AreSaid (spoken rest.1) x.0 opened lines
unfolding budget_from
said_budget rest x opened lines e h = elim (header_ok (codes "budget") (only_number 2) rest x (λ ws. refl) e) [
  | inl none ↦ rw (none.0, none.1) h
  | inr some ↦ rw (some.2, some.4) (number_read (codes "budget") 2 (codes "budget") some.1 some.0 refl some.3, h)
]

pub script_read : (bytes : List ℕ) (said : Said) → script_of bytes ≡ Ok said → IsScript bytes said
unfolding script_of
script_read bytes said e =
    let budget = bind_ok (budget_from (1, lines bytes)) _ said e in
    let opened = bind_ok (opened_from budget.0.1) _ said budget.2 in
    let ls = bind_ok (lines_from opened.0.1.0 opened.0.1.1) _ said opened.2 in
    let made : Said = record { budget = budget.0.0; opened = opened.0.0; lines = ls.0 } in
    let same = value_same made said (Ok made) refl ls.2 in
    subst (λ (s : Said). IsScript bytes s) same
    (said_budget (1, lines bytes) budget.0 opened.0.0 ls.0 budget.1 (said_opened budget.0.1 opened.0 ls.0 opened.1 (lines_by_words opened.0.1.0 opened.0.1.1 ls.0 ls.1)))

-- the words of the headers are no numbers
no_number : (number_of (codes "budget") ≡ None) × (number_of (codes "open") ≡ None)
unfolding number_of
no_number = (refl, refl)

other_word : (w first : List ℕ) (n : ℕ) → number_of w ≡ Some n → number_of first ≡ None → bytes_eq w first ≡ false
other_word w first n e none = elim (cases_Bool (bytes_eq w first)) [
  | inl t ↦ absurd (cc (e, ap number_of (is_text w first t), none))
  | inr t ↦ t
]

lines_lack : (first : List ℕ) → number_of first ≡ None → (wss : List (List (List ℕ))) (lines : List Line) → AreLines wss lines → Lacks first wss
lines_lack first none [] lines h = tt
lines_lack first none (ws ∷ rest) [] h = absurd h
lines_lack first none (ws ∷ rest) (line ∷ lines) h =
    subst (λ (vs : List (List ℕ)). Lacks first (vs ∷ rest)) (sym h.0.words) (other_word h.0.lane_word first line.lane h.0.lane_is none)

opened_lack : (wss : List (List (List ℕ))) (opened : Option (List ℕ)) (lines : List Line) → AreOpened wss opened lines → Lacks (codes "budget") wss
opened_lack wss None lines h = lines_lack (codes "budget") no_number.0 wss lines h
opened_lack [] (Some name) lines h = absurd h
opened_lack (ws ∷ rest) (Some name) lines h = subst (λ (vs : List (List ℕ)). Lacks (codes "budget") (vs ∷ rest)) (sym h.0.words) refl

again_opened : (rest : Numbered) (opened : Option (List ℕ)) (lines : List Line) → AreOpened (spoken rest.1) opened lines → (after : Numbered) × (opened_from rest ≡ Ok (opened, after)) × AreLines (spoken after.1) lines
unfolding opened_from
again_opened rest None lines h = (
  unskipped rest.0 rest.1,
  header_none (codes "open") only_name rest (lines_lack (codes "open") no_number.1 (spoken rest.1) lines h),
  subst (λ (wss : List (List (List ℕ))). AreLines wss lines) (sym (spoken_unskipped rest.0 rest.1)) h,
)
again_opened rest (Some name) lines h = by (spoken rest.1) refl h where
  by : (wss : List (List (List ℕ))) → spoken rest.1 ≡ wss → AreOpened wss (Some name) lines → (after : Numbered) × (opened_from rest ≡ Ok (Some name, after)) × AreLines (spoken after.1) lines
  by [] is k = absurd k
  by (ws ∷ others) is k =
      let a = header_again (codes "open") only_name rest (k.0.name_word ∷ []) others name (is ∙ ap (λ (vs : List (List ℕ)). vs ∷ others) k.0.words) (opened_again k.0.name_word name k.0.name_is) in
      (a.0, a.1, subst (λ (wss : List (List (List ℕ))). AreLines wss lines) (sym a.2) k.1)

again_budget : (rest : Numbered) (budget : Option ℕ) (opened : Option (List ℕ)) (lines : List Line) → AreSaid (spoken rest.1) budget opened lines
    → (after : Numbered) × (budget_from rest ≡ Ok (budget, after)) × AreOpened (spoken after.1) opened lines
unfolding budget_from
again_budget rest None opened lines h = (
  unskipped rest.0 rest.1,
  header_none (codes "budget") (only_number 2) rest (opened_lack (spoken rest.1) opened lines h),
  subst (λ (wss : List (List (List ℕ))). AreOpened wss opened lines) (sym (spoken_unskipped rest.0 rest.1)) h,
)
again_budget rest (Some budget) opened lines h = by (spoken rest.1) refl h where
  by : (wss : List (List (List ℕ))) → spoken rest.1 ≡ wss → AreSaid wss (Some budget) opened lines → (after : Numbered) × (budget_from rest ≡ Ok (Some budget, after)) × AreOpened (spoken after.1) opened lines
  by [] is k = absurd k
  by (ws ∷ others) is k =
      let a = header_again (codes "budget") (only_number 2) rest (k.0.number_word ∷ []) others budget (is ∙ ap (λ (vs : List (List ℕ)). vs ∷ others) k.0.words) (number_again 2 k.0.number_word budget k.0.number_is) in
      (a.0, a.1, subst (λ (wss : List (List (List ℕ))). AreOpened wss opened lines) (sym a.2) k.1)

pub script_again : (bytes : List ℕ) (said : Said) → IsScript bytes said → script_of bytes ≡ Ok said
unfolding script_of
script_again bytes said h =
    let budget = again_budget (1, lines bytes) said.budget said.opened said.lines h in
    let opened = again_opened budget.0 said.opened said.lines budget.2 in
    rw (budget.1, opened.1, lines_by_words_again opened.0.0 opened.0.1 said.lines opened.2) refl

pub reads : ReadsTheGrammar
reads bytes said = (script_read bytes said, script_again bytes said)
