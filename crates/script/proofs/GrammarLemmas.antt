-- The reader of scripts against the grammar, both ways.
use Rattle.std.proofs.Common.{◌≡◌, ℕ, ◌+◌, ◌≤◌, Bool, true, false, cond, leb, List, [], ◌∷◌, length, Option, Some, None, Result, Ok, Err, refl, sym, ap, ap₂, subst, ◌∙◌, inl, inr, arith}
use Rattle.std.specs.Prelude.{codes, filter, map, not, replicate, ◌&&◌, option_map, option_and_then}
use Rattle.std.specs.Str.{bytes_eq}
use Rattle.std.proofs.lemmas.Bool.{and_from, and_parts, cases_Bool, cond-true, cond-false, le-leb, leb-true}
use Rattle.std.proofs.lemmas.Slice.Eq.{bytes_eq-Decides}
use Rattle.adb_model.specs.Account.{Account, account_of}
use Rattle.adb_model.specs.View.{View}
use Rattle.adb_model.specs.Call.{Call, Store, Root, Purge, Load, Unpin, Lease, EndLease, FlushBegin, FlushEnd, FlushAbort, Raise, Reclaim, ShrinkBegin, ShrinkEnd, ShrinkAbort, SnapBegin, SnapEnd, Recycle, Stats}
use Rattle.hex.proofs.OnLiterals.{hex_on_literals}
use Rattle.text_fields.specs.Keys.{key_of}
use Rattle.text_fields.specs.Names.{name_of}
use Rattle.text_fields.specs.Numbers.{number_of}
use Rattle.script.specs.declared.fault.Kind.{Kind}
use Rattle.script.specs.declared.fault.Kind.TheVariants as kinds
use Rattle.script.specs.declared.fault.WordFault.{WordFault}
use Rattle.script.specs.declared.fault.LineFault.{LineFault}
use Rattle.script.specs.Arguments.{view_of, max_root_of, flag_of, data_of, after_of}
use Rattle.script.specs.Data.{IsData}
use Rattle.script.specs.Grammar.{filled, store_defaults, flush_defaults, IsStore, IsOfNumber, IsOfView, IsUpTo, IsFlush, IsOfMaxRoot, IsAfter, IsReclaim, IsSnap, IsOrder, IsLine, AreLines}
use Rattle.script.specs.Reader.{◌>>=◌, good, argument, optional, fitting, ended, if_lane, lane_of, data_argument, store_of, only_number, number_order, if_up_to, count_argument, flush_of, reclaim_of, snap_of, only_max_root, view_and_key_of, alone, numbered_of, copying_of, order_of, first_fault, lane_argument, line_of, said_by, and_then, lines_from}
use Rattle.script.specs.Said.{Order, Plain, Get, Flush, Clean, Shrink, Snap, Line}
use Rattle.script.specs.Text.{flag_text}
use Rattle.script.specs.Views.{IsView}
use Rattle.script.specs.Words.{words, is_skipped}
use Rattle.script.proofs.DataGrammar.{data_read, data_again}
use Rattle.script.proofs.Separated.{chosen}
use Rattle.script.proofs.ViewGrammar.{max_root_read, max_root_again, view_read, view_again}

-- ---- the reader's steps

pub value_same : {A E : Type 0} (x y : A) (r : Result A E) → r ≡ Ok x → r ≡ Ok y → x ≡ y
value_same x y r e f = cc

pub bind_ok : {A B E : Type 0} (r : Result A E) (f : A → Result B E) (y : B) → (r >>= f) ≡ Ok y → (x : A) × (r ≡ Ok x) × (f x ≡ Ok y)
bind_ok (Ok x) f y e = (x, refl, e)
bind_ok (Err d) f y e = absurd cc

good_ok : {A : Type 0} (word : ℕ) (kind : Kind) (rest : List (List ℕ)) (o : Option A) (x : A × List (List ℕ)) → good word kind rest o ≡ Ok x → (o ≡ Some x.0) × (rest ≡ x.1)
good_ok word kind rest None x e = absurd cc
good_ok word kind rest (Some v) x e =
    let p : (v, rest) ≡ x = cc in (ap (λ (y : _). Some y.0) p, ap (λ (y : _). y.1) p)

-- the word that was read, and those after it
argument_ok : {A : Type 0} (read : List ℕ → Option A) (kind : Kind) (word : ℕ) (ws : List (List ℕ)) (x : A × List (List ℕ)) → argument read kind word ws ≡ Ok x → (w : List ℕ) × (ws ≡ w ∷ x.1) × (read w ≡ Some x.0)
unfolding argument
argument_ok read kind word [] x e = absurd cc
argument_ok read kind word (w ∷ ws) x e = let p = good_ok word kind ws (read w) x e in (w, ap (λ (l : List (List ℕ)). w ∷ l) p.1, p.0)

-- ---- words

-- the first word, what it was read as, the words after it, and the next step
pub step : {A B : Type 0} (read : List ℕ → Option A) (kind : Kind) (word : ℕ) (ws : List (List ℕ)) (f : A × List (List ℕ) → Result B WordFault) (y : B) → (argument read kind word ws >>= f) ≡ Ok y
    → (w : List ℕ) × (x : A) × (rest : List (List ℕ)) × (ws ≡ w ∷ rest) × (read w ≡ Some x) × (f (x, rest) ≡ Ok y)
step read kind word ws f y e =
    let b = bind_ok (argument read kind word ws) f y e in
    let a = argument_ok read kind word ws b.0 b.1 in
    (a.0, b.0.0, b.0.1, a.1, a.2, b.2)

-- no word was left
pub at_end : {B : Type 0} (word : ℕ) (ws : List (List ℕ)) (f : Unit {0} → Result B WordFault) (y : B) → (ended word ws >>= f) ≡ Ok y → (ws ≡ []) × (f tt ≡ Ok y)
unfolding ended
at_end word [] f y e = (refl, e)
at_end word (w ∷ ws) f y e = absurd cc

pub is_text : (w c : List ℕ) → bytes_eq w c ≡ true → w ≡ c
is_text w c e = (bytes_eq-Decides w c).0 e

-- ---- words that may be left out

-- a word that has such a meaning was read, or the default stands for it
further : {A B : Type 0} (P : List ℕ → A → Type 0) (d : List ℕ) (default : A) (read : List (List ℕ) → Result (A × List (List ℕ)) WordFault) → P d default
    → ((w : List ℕ) (ws : List (List ℕ)) (x : A × List (List ℕ)) → read (w ∷ ws) ≡ Ok x → P w x.0 × (ws ≡ x.1))
    → (ws : List (List ℕ)) (f : A × List (List ℕ) → Result B WordFault) (y : B) → (optional default read ws >>= f) ≡ Ok y
    → (w : List ℕ) × (x : A) × (rest : List (List ℕ)) × P w x × ((ds : List (List ℕ)) → filled (d ∷ ds) ws ≡ w ∷ filled ds rest) × (f (x, rest) ≡ Ok y)
further P d default read holds means [] f y e = (d, default, [], holds, λ ds. refl, e)
further P d default read holds means (w ∷ ws) f y e =
    let b = bind_ok (read (w ∷ ws)) f y e in
    let m = means w ws b.0 b.1 in
    (w, b.0.0, b.0.1, m.0, λ ds. ap (λ (r : List (List ℕ)). w ∷ filled ds r) m.1, b.2)

further_again : {A : Type 0} (d w : List ℕ) (default x : A) (read : List (List ℕ) → Result (A × List (List ℕ)) WordFault)
    → ((rest : List (List ℕ)) → read (d ∷ rest) ≡ Ok (default, rest)) → ((rest : List (List ℕ)) → read (w ∷ rest) ≡ Ok (x, rest))
    → (ws ds more : List (List ℕ)) → filled (d ∷ ds) ws ≡ w ∷ more → (rest : List (List ℕ)) × (optional default read ws ≡ Ok (x, rest)) × (filled ds rest ≡ more)
further_again d w default x read left_out said [] ds more e =
    let first : d ≡ w = cc in
    let rest : ds ≡ more = cc in
    ([], sym (left_out []) ∙ ap (λ (v : List ℕ). read (v ∷ [])) first ∙ said [], rest)
further_again d w default x read left_out said (v ∷ ws) ds more e =
    let first : v ≡ w = cc in
    let rest : filled ds ws ≡ more = cc in
    (ws, ap (λ (u : List ℕ). read (u ∷ ws)) first ∙ said ws, rest)

none_left : (ws : List (List ℕ)) → filled [] ws ≡ [] → ws ≡ []
none_left [] e = refl
none_left (w ∷ ws) e = absurd cc

argument_first : {A : Type 0} (read : List ℕ → Option A) (kind : Kind) (word : ℕ) (w : List ℕ) (ws : List (List ℕ)) (x : A × List (List ℕ)) → argument read kind word (w ∷ ws) ≡ Ok x → (read w ≡ Some x.0) × (ws ≡ x.1)
unfolding argument
argument_first read kind word w ws x e = good_ok word kind ws (read w) x e

argument_again : {A : Type 0} (read : List ℕ → Option A) (kind : Kind) (word : ℕ) (w : List ℕ) (x : A) → read w ≡ Some x → (rest : List (List ℕ)) → argument read kind word (w ∷ rest) ≡ Ok (x, rest)
unfolding argument
argument_again read kind word w x e rest = rw e refl

flag_read : (w : List ℕ) (b : Bool) → flag_of w ≡ Some b → w ≡ flag_text b
unfolding flag_of
flag_read w b e = elim (chosen (bytes_eq w (codes "0")) (Some false) _ (Some b) e) [
  | inl t ↦ let same : false ≡ b = cc t.1 in is_text w (codes "0") t.0 ∙ ap flag_text same
  | inr t ↦ elim (chosen (bytes_eq w (codes "1")) (Some true) None (Some b) t.1) [
    | inl u ↦ let same : true ≡ b = cc u.1 in is_text w (codes "1") u.0 ∙ ap flag_text same
    | inr u ↦ absurd (cc u.1)
  ]
]

flag_again : (b : Bool) → flag_of (flag_text b) ≡ Some b
unfolding flag_of
flag_again true = refl
flag_again false = refl

data_first : (w : List ℕ) (ws : List (List ℕ)) (x : List ℕ × List (List ℕ)) → data_argument 9 (w ∷ ws) ≡ Ok x → IsData w x.0 × (ws ≡ x.1)
unfolding data_argument
data_first w ws x e =
    let b = bind_ok (argument data_of kinds.Data 9 (w ∷ ws)) (fitting 9) x e in
    let a = argument_first data_of kinds.Data 9 w ws b.0 b.1 in
    elim (chosen (leb (length b.0.0) 10485760) (Ok b.0) _ (Ok x) b.2) [
      | inl t ↦
          let same : b.0 ≡ x = cc t.1 in
          let whole : IsData w b.0.0 × (ws ≡ b.0.1) = (data_read w b.0.0 a.0 (leb-true (length b.0.0) 10485760 t.0), a.1) in
          subst (λ (v : List ℕ × List (List ℕ)). IsData w v.0 × (ws ≡ v.1)) same whole
      | inr t ↦ absurd (cc t.1)
    ]

fits_again : (bytes : List ℕ) (rest : List (List ℕ)) → length bytes ≤ 10485760 → fitting 9 (bytes, rest) ≡ Ok (bytes, rest)
fits_again bytes rest most = cond-true (leb (length bytes) 10485760) (Ok (bytes, rest)) _ (le-leb (length bytes) 10485760 most)

data_word_again : (w bytes : List ℕ) → IsData w bytes → (rest : List (List ℕ)) → data_argument 9 (w ∷ rest) ≡ Ok (bytes, rest)
unfolding data_argument
data_word_again w bytes h rest = ap (λ (r : Result (List ℕ × List (List ℕ)) WordFault). r >>= fitting 9) (argument_again data_of kinds.Data 9 w bytes (data_again w bytes h) rest) ∙ fits_again bytes rest h.most

-- ---- defaults

no_owner : key_of (codes "00") ≡ Some (replicate 32 0)
unfolding key_of hex_on_literals
no_owner = refl

-- what stands for no key is none
no_key : key_of (codes "-") ≡ None
unfolding key_of hex_on_literals
no_key = refl

no_epoch : number_of (codes "0") ≡ Some 0
unfolding number_of
no_epoch = refl

one_worker : IsUpTo 16 (codes "1") 1
unfolding number_of
one_worker = record { number = refl; least = omega arith; most = omega arith }

no_data : IsData (codes "-") []
no_data = record { form = inl (refl, refl); most = omega arith }

-- ---- orders

-- a command and a number, at any place
pub number_read : (command : List ℕ) (word : ℕ) (w : List ℕ) (ws : List (List ℕ)) (n : ℕ) → w ≡ command → only_number word ws ≡ Ok n → IsOfNumber command (w ∷ ws) n
unfolding only_number
number_read command word w ws n is e =
    let number = step _ _ _ ws _ n e in
    let done = at_end _ number.2 _ n number.5 in
    let same : number.1 ≡ n = cc done.1 in
    record {
      number_word = number.0;
      words = ap₂ (λ (v : List ℕ) (r : List (List ℕ)). v ∷ r) is (number.3 ∙ ap (λ (l : List (List ℕ)). number.0 ∷ l) done.0);
      number_is = number.4 ∙ ap (λ (m : ℕ). Some m) same;
    }

pub number_again : (word : ℕ) (w : List ℕ) (n : ℕ) → number_of w ≡ Some n → only_number word (w ∷ []) ≡ Ok n
unfolding only_number argument ended
number_again word w n e = rw e refl

-- an order of one number
number_ordered : (command : List ℕ) (order : ℕ → Order) (w : List ℕ) (ws : List (List ℕ)) (o : Order) → ((n : ℕ) → IsOfNumber command (w ∷ ws) n → IsOrder (w ∷ ws) (order n))
    → w ≡ command → number_order order ws ≡ Ok o → IsOrder (w ∷ ws) o
number_ordered command order w ws o holds is e =
    let b = bind_ok (only_number 3 ws) (λ n. Ok (order n)) o e in
    let same : order b.0 ≡ o = cc b.2 in
    subst (λ (x : Order). IsOrder (w ∷ ws) x) same (holds b.0 (number_read command 3 w ws b.0 is b.1))

-- a number up to a greatest
count_first : (greatest : ℕ) (w : List ℕ) (ws : List (List ℕ)) (x : ℕ × List (List ℕ)) → count_argument greatest 4 (w ∷ ws) ≡ Ok x → IsUpTo greatest w x.0 × (ws ≡ x.1)
unfolding count_argument
count_first greatest w ws x e =
    let b = bind_ok (argument number_of kinds.Number 4 (w ∷ ws)) (if_up_to greatest 4) x e in
    let a = argument_first number_of kinds.Number 4 w ws b.0 b.1 in
    elim (chosen (leb 1 b.0.0 && leb b.0.0 greatest) (Ok b.0) _ (Ok x) b.2) [
      | inl t ↦
          let same : b.0 ≡ x = cc t.1 in
          let p = and_parts (leb 1 b.0.0) (leb b.0.0 greatest) t.0 in
          let whole : IsUpTo greatest w b.0.0 × (ws ≡ b.0.1) = (record { number = a.0; least = leb-true _ _ p.0; most = leb-true _ _ p.1 }, a.1) in
          subst (λ (v : ℕ × List (List ℕ)). IsUpTo greatest w v.0 × (ws ≡ v.1)) same whole
      | inr t ↦ absurd (cc t.1)
    ]

count_again : (greatest : ℕ) (w : List ℕ) (n : ℕ) → IsUpTo greatest w n → (rest : List (List ℕ)) → count_argument greatest 4 (w ∷ rest) ≡ Ok (n, rest)
unfolding count_argument
count_again greatest w n h rest =
    ap (λ (r : Result (ℕ × List (List ℕ)) WordFault). r >>= if_up_to greatest 4) (argument_again number_of kinds.Number 4 w n h.number rest)
    ∙ cond-true (leb 1 n && leb n greatest) (Ok (n, rest)) _ (and_from _ _ (le-leb 1 n h.least) (le-leb n greatest h.most))

flush_read : (w : List ℕ) (ws : List (List ℕ)) (o : Order) → w ≡ codes "flush" → flush_of ws ≡ Ok o → IsOrder (w ∷ ws) o
unfolding flush_of
flush_read w ws o is e =
    let slot = step _ _ _ ws _ o e in
    let workers = further (λ v x. IsUpTo 16 v x) (codes "1") 1 (count_argument 16 4) one_worker (count_first 16) slot.2 _ o slot.5 in
    let done = at_end _ workers.2 _ o workers.5 in
    let made : Order = Flush slot.1 workers.1 in
    let same = value_same made o (Ok made) refl done.1 in
    let words : w ∷ ws ≡ codes "flush" ∷ slot.0 ∷ slot.2 = ap₂ (λ (v : List ℕ) (r : List (List ℕ)). v ∷ r) is slot.3 in
    let one : filled flush_defaults slot.2 ≡ workers.0 ∷ [] = workers.4 [] ∙ ap (λ (t : List (List ℕ)). workers.0 ∷ filled [] t) done.0 in
    subst (λ (x : Order). IsOrder (w ∷ ws) x) same (record {
      slot_word = slot.0;
      further = slot.2;
      workers_word = workers.0;
      words = words;
      slot_is = slot.4;
      further_are = one;
      workers_are = workers.3;
    })

flush_again : (ws : List (List ℕ)) (slot workers : ℕ) (h : IsFlush ws slot workers) → flush_of (h.slot_word ∷ h.further) ≡ Ok (Flush slot workers)
unfolding flush_of argument ended
flush_again ws slot workers h =
    let more = further_again (codes "1") h.workers_word 1 workers (count_argument 16 4) (count_again 16 (codes "1") 1 one_worker) (count_again 16 h.workers_word workers h.workers_are) h.further [] [] h.further_are in
    rw (h.slot_is, more.1, none_left more.0 more.2) refl

-- a command and a greatest root
max_root_ordered : (command : List ℕ) (order : ℕ → Order) (w : List ℕ) (ws : List (List ℕ)) (o : Order) → ((n : ℕ) → IsOfMaxRoot command (w ∷ ws) n → IsOrder (w ∷ ws) (order n))
    → w ≡ command → (only_max_root ws >>= λ n. Ok (order n)) ≡ Ok o → IsOrder (w ∷ ws) o
unfolding only_max_root
max_root_ordered command order w ws o holds is e =
    let b = bind_ok (only_max_root ws) (λ n. Ok (order n)) o e in
    let most = step max_root_of kinds.Number 3 ws _ b.0 b.1 in
    let done = at_end _ most.2 _ b.0 most.5 in
    let same : most.1 ≡ b.0 = cc done.1 in
    let ordered : order b.0 ≡ o = cc b.2 in
    subst (λ (x : Order). IsOrder (w ∷ ws) x) ordered (holds b.0 (record {
      max_root_word = most.0;
      words = ap₂ (λ (v : List ℕ) (r : List (List ℕ)). v ∷ r) is (most.3 ∙ ap (λ (l : List (List ℕ)). most.0 ∷ l) done.0);
      max_root_is = max_root_read most.0 b.0 (most.4 ∙ ap (λ (m : ℕ). Some m) same);
    }))

max_root_ordered_again : (command : List ℕ) (ws : List (List ℕ)) (n : ℕ) (h : IsOfMaxRoot command ws n) → only_max_root (h.max_root_word ∷ []) ≡ Ok n
unfolding only_max_root argument ended
max_root_ordered_again command ws n h = rw (max_root_again h.max_root_word n h.max_root_is) refl

-- a key after which to go on, or none
after_read : (w : List ℕ) (after : Option (List ℕ)) → after_of w ≡ Some after → IsAfter w after
unfolding after_of
after_read w after e = elim (chosen (bytes_eq w (codes "-")) (Some None) (option_map Some (key_of w)) (Some after) e) [
  | inl dash ↦ let none : None ≡ after = cc dash.1 in subst (λ (a : Option (List ℕ)). IsAfter w a) none (is_text w (codes "-") dash.0)
  | inr other ↦ by (key_of w) refl other.1
] where
  by : (o : Option (List ℕ)) → key_of w ≡ o → option_map Some o ≡ Some after → IsAfter w after
  by None is f = absurd (cc f)
  by (Some key) is f = let same : Some key ≡ after = cc f in subst (λ (a : Option (List ℕ)). IsAfter w a) same is

after_again : (w : List ℕ) (after : Option (List ℕ)) → IsAfter w after → after_of w ≡ Some after
unfolding after_of
after_again w None h = ap after_of h
after_again w (Some key) h =
    let other : bytes_eq w (codes "-") ≡ false = elim (cases_Bool (bytes_eq w (codes "-"))) [
      | inl dash ↦ absurd (cc (h, ap key_of (is_text w (codes "-") dash), no_key))
      | inr key ↦ key
    ] in
    cond-false (bytes_eq w (codes "-")) _ _ other ∙ ap (option_map Some) h

count_read : (greatest : ℕ) (ws : List (List ℕ)) (x : ℕ × List (List ℕ)) → count_argument greatest 4 ws ≡ Ok x → (w : List ℕ) × (ws ≡ w ∷ x.1) × IsUpTo greatest w x.0
unfolding count_argument argument
count_read greatest [] x e = absurd cc
count_read greatest (w ∷ ws) x e = let c = count_first greatest w ws x e in (w, ap (λ (l : List (List ℕ)). w ∷ l) c.1, c.0)

reclaim_read : (w : List ℕ) (ws : List (List ℕ)) (o : Order) → w ≡ codes "reclaim" → reclaim_of ws ≡ Ok o → IsOrder (w ∷ ws) o
unfolding reclaim_of
reclaim_read w ws o is e =
    let after = step _ _ _ ws _ o e in
    let b = bind_ok (count_argument 256 4 after.2) _ o after.5 in
    let most = count_read 256 after.2 b.0 b.1 in
    let done = at_end _ b.0.1 _ o b.2 in
    let made : Order = Plain (Reclaim after.1 b.0.0) in
    let same = value_same made o (Ok made) refl done.1 in
    let words : w ∷ ws ≡ codes "reclaim" ∷ after.0 ∷ most.0 ∷ [] =
    ap₂ (λ (v : List ℕ) (r : List (List ℕ)). v ∷ r) is (after.3 ∙ ap (λ (l : List (List ℕ)). after.0 ∷ l) (most.1 ∙ ap (λ (l : List (List ℕ)). most.0 ∷ l) done.0)) in
    subst (λ (x : Order). IsOrder (w ∷ ws) x) same (record {
      after_word = after.0;
      most_word = most.0;
      words = words;
      after_is = after_read after.0 after.1 after.4;
      most_is = most.2;
    })

reclaim_again : (ws : List (List ℕ)) (after : Option (List ℕ)) (most : ℕ) (h : IsReclaim ws after most) → reclaim_of (h.after_word ∷ h.most_word ∷ []) ≡ Ok (Plain (Reclaim after most))
unfolding reclaim_of argument ended
reclaim_again ws after most h = rw (after_again h.after_word after h.after_is, count_again 256 h.most_word most h.most_is []) refl

snap_read : (w : List ℕ) (ws : List (List ℕ)) (o : Order) → w ≡ codes "snap" → snap_of ws ≡ Ok o → IsOrder (w ∷ ws) o
unfolding snap_of
snap_read w ws o is e =
    let slot = step _ _ _ ws _ o e in
    let name = step name_of kinds.Name 4 slot.2 _ o slot.5 in
    let done = at_end _ name.2 _ o name.5 in
    let made : Order = Snap slot.1 name.1 in
    let same = value_same made o (Ok made) refl done.1 in
    let words : w ∷ ws ≡ codes "snap" ∷ slot.0 ∷ name.0 ∷ [] =
    ap₂ (λ (v : List ℕ) (r : List (List ℕ)). v ∷ r) is (slot.3 ∙ ap (λ (l : List (List ℕ)). slot.0 ∷ l) (name.3 ∙ ap (λ (l : List (List ℕ)). name.0 ∷ l) done.0)) in
    subst (λ (x : Order). IsOrder (w ∷ ws) x) same (record { slot_word = slot.0; name_word = name.0; words = words; slot_is = slot.4; name_is = name.4 })

snap_again : (ws : List (List ℕ)) (slot : ℕ) (name : List ℕ) (h : IsSnap ws slot name) → snap_of (h.slot_word ∷ h.name_word ∷ []) ≡ Ok (Snap slot name)
unfolding snap_of argument ended
snap_again ws slot name h = rw (h.slot_is, h.name_is) refl

view_and_key_read : (ws : List (List ℕ)) (x : View × List ℕ) → view_and_key_of ws ≡ Ok x → (v k : List ℕ) × (ws ≡ v ∷ k ∷ []) × IsView v x.0 × (key_of k ≡ Some x.1)
unfolding view_and_key_of
view_and_key_read ws x e =
    let view = step _ _ _ ws _ x e in
    let key = step _ _ _ view.2 _ x view.5 in
    let done = at_end _ key.2 _ x key.5 in
    let same : (view.1, key.1) ≡ x = cc done.1 in
    let words : ws ≡ view.0 ∷ key.0 ∷ [] = view.3 ∙ ap (λ (l : List (List ℕ)). view.0 ∷ l) (key.3 ∙ ap (λ (l : List (List ℕ)). key.0 ∷ l) done.0) in
    let whole : IsView view.0 view.1 × (key_of key.0 ≡ Some key.1) = (view_read view.0 view.1 view.4, key.4) in
    let moved = subst (λ (y : View × List ℕ). IsView view.0 y.0 × (key_of key.0 ≡ Some y.1)) same whole in
    (view.0, key.0, words, moved.0, moved.1)

view_and_key_again : (v k : List ℕ) (view : View) (key : List ℕ) → view_of v ≡ Some view → key_of k ≡ Some key → view_and_key_of (v ∷ k ∷ []) ≡ Ok (view, key)
unfolding view_and_key_of argument ended
view_and_key_again v k view key e f = rw (e, f) refl

-- an order of a view and a key
view_order : (command : List ℕ) (order : View → List ℕ → Order) (w : List ℕ) (ws : List (List ℕ)) (o : Order) → ((v : View) (k : List ℕ) → IsOfView command (w ∷ ws) v k → IsOrder (w ∷ ws) (order v k))
    → w ≡ command → (view_and_key_of ws >>= λ x. Ok (order x.0 x.1)) ≡ Ok o → IsOrder (w ∷ ws) o
view_order command order w ws o holds is e =
    let b = bind_ok (view_and_key_of ws) (λ x. Ok (order x.0 x.1)) o e in
    let s = view_and_key_read ws b.0 b.1 in
    let same : order b.0.0 b.0.1 ≡ o = cc b.2 in
    subst (λ (x : Order). IsOrder (w ∷ ws) x) same
    (holds b.0.0 b.0.1 (record { view_word = s.0; key_word = s.1; words = ap₂ (λ (v : List ℕ) (r : List (List ℕ)). v ∷ r) is s.2; view_is = s.3; key_is = s.4 }))

view_order_again : (command : List ℕ) (ws : List (List ℕ)) (view : View) (key : List ℕ) (h : IsOfView command ws view key) → view_and_key_of (h.view_word ∷ h.key_word ∷ []) ≡ Ok (view, key)
view_order_again command ws view key h = view_and_key_again h.view_word h.key_word view key (view_again h.view_word view h.view_is) h.key_is

store_read : (w : List ℕ) (ws : List (List ℕ)) (o : Order) → w ≡ codes "store" → store_of ws ≡ Ok o → IsOrder (w ∷ ws) o
unfolding store_of
store_read w ws o is e =
    let slot = step _ _ _ ws _ o e in
    let key = step _ _ _ slot.2 _ o slot.5 in
    let lamports = step _ _ _ key.2 _ o key.5 in
    let owner = further (λ v x. key_of v ≡ Some x) (codes "00") (replicate 32 0) (argument key_of kinds.Key 6) no_owner (argument_first key_of kinds.Key 6) lamports.2 _ o lamports.5 in
    let executable = further (λ v x. v ≡ flag_text x) (codes "0") false (argument flag_of kinds.Range 7) refl (λ v r x h. let a = argument_first flag_of kinds.Range 7 v r x h in (flag_read v x.0 a.0, a.1)) owner.2 _ o owner.5 in
    let epoch = further (λ v x. number_of v ≡ Some x) (codes "0") 0 (argument number_of kinds.Number 8) no_epoch (argument_first number_of kinds.Number 8) executable.2 _ o executable.5 in
    let bytes = further (λ v x. IsData v x) (codes "-") [] (data_argument 9) no_data data_first epoch.2 _ o epoch.5 in
    let done = at_end _ bytes.2 _ o bytes.5 in
    let made : Order = Plain (Store slot.1 key.1 (account_of lamports.1 owner.1 executable.1 epoch.1 bytes.1)) in
    let same = value_same made o (Ok made) refl done.1 in
    let words : w ∷ ws ≡ codes "store" ∷ slot.0 ∷ key.0 ∷ lamports.0 ∷ lamports.2 =
    ap₂ (λ (v : List ℕ) (r : List (List ℕ)). v ∷ r) is (slot.3 ∙ ap (λ (t : List (List ℕ)). slot.0 ∷ t) (key.3 ∙ ap (λ (t : List (List ℕ)). key.0 ∷ t) lamports.3)) in
    let four : filled store_defaults lamports.2 ≡ owner.0 ∷ flag_text executable.1 ∷ epoch.0 ∷ bytes.0 ∷ [] =
    owner.4 _ ∙ ap (λ (t : List (List ℕ)). owner.0 ∷ t) (executable.4 _
    ∙ ap₂ (λ (v : List ℕ) (t : List (List ℕ)). v ∷ t) executable.3 (epoch.4 _ ∙ ap (λ (t : List (List ℕ)). epoch.0 ∷ t) (bytes.4 [] ∙ ap (λ (t : List (List ℕ)). bytes.0 ∷ filled [] t) done.0))) in
    subst (λ (x : Order). IsOrder (w ∷ ws) x) same (record {
      slot_word = slot.0;
      key_word = key.0;
      lamports_word = lamports.0;
      further = lamports.2;
      lamports = lamports.1;
      owner = owner.1;
      executable = executable.1;
      rent_epoch = epoch.1;
      bytes = bytes.1;
      words = words;
      slot_is = slot.4;
      key_is = key.4;
      lamports_is = lamports.4;
      further_are = record { owner_word = owner.0; epoch_word = epoch.0; data_word = bytes.0; words = four; owner_is = owner.3; epoch_is = epoch.3; data_is = bytes.3 };
      account_is = refl;
    })

store_again : (ws : List (List ℕ)) (slot : ℕ) (key : List ℕ) (account : Account) (h : IsStore ws slot key account)
    → store_of (h.slot_word ∷ h.key_word ∷ h.lamports_word ∷ h.further) ≡ Ok (Plain (Store slot key account))
unfolding store_of argument ended
store_again ws slot key account h =
    let f = h.further_are in
    let owner = further_again (codes "00") f.owner_word (replicate 32 0) h.owner (argument key_of kinds.Key 6) (argument_again key_of kinds.Key 6 (codes "00") (replicate 32 0) no_owner)
    (argument_again key_of kinds.Key 6 f.owner_word h.owner f.owner_is) h.further _ _ f.words in
    let executable = further_again (codes "0") (flag_text h.executable) false h.executable (argument flag_of kinds.Range 7) (argument_again flag_of kinds.Range 7 (codes "0") false (flag_again false))
    (argument_again flag_of kinds.Range 7 (flag_text h.executable) h.executable (flag_again h.executable)) owner.0 _ _ owner.2 in
    let epoch = further_again (codes "0") f.epoch_word 0 h.rent_epoch (argument number_of kinds.Number 8) (argument_again number_of kinds.Number 8 (codes "0") 0 no_epoch)
    (argument_again number_of kinds.Number 8 f.epoch_word h.rent_epoch f.epoch_is) executable.0 _ _ executable.2 in
    let bytes = further_again (codes "-") f.data_word [] h.bytes (data_argument 9) (data_word_again (codes "-") [] no_data) (data_word_again f.data_word h.bytes f.data_is) epoch.0 [] [] epoch.2 in
    rw (h.slot_is, h.key_is, h.lamports_is, owner.1, executable.1, epoch.1, bytes.1, none_left bytes.0 bytes.2) (ap (λ (a : Account). Ok (Plain (Store slot key a))) h.account_is)

-- a command without further words
alone_read : (command : List ℕ) (call : Call) (w : List ℕ) (ws : List (List ℕ)) (o : Order) → (w ∷ ws ≡ command ∷ [] → IsOrder (w ∷ ws) (Plain call))
    → w ≡ command → alone call ws ≡ Ok o → IsOrder (w ∷ ws) o
alone_read command call w ws o holds is e =
    let done = at_end 3 ws (λ x. Ok (Plain call)) o e in
    let same : Plain call ≡ o = cc done.1 in
    let words : w ∷ ws ≡ command ∷ [] = ap₂ (λ (v : List ℕ) (r : List (List ℕ)). v ∷ r) is done.0 in
    subst (λ (x : Order). IsOrder (w ∷ ws) x) same (holds words)

alone_again : (call : Call) → alone call [] ≡ Ok (Plain call)
unfolding ended
alone_again call = refl

-- what follows a command, if it is this one
pick : {A P : Type 0} (w c : List ℕ) (this others : Result A WordFault) (x : Result A WordFault) → cond (bytes_eq w c) this others ≡ x → (w ≡ c → this ≡ x → P) → (others ≡ x → P) → P
pick w c this others x e one more = elim (chosen (bytes_eq w c) this others x e) [
  | inl t ↦ one (is_text w c t.0) t.1
  | inr t ↦ more t.1
]

copying_read : (w : List ℕ) (ws : List (List ℕ)) (o : Order) → copying_of w ws ≡ Ok o → IsOrder (w ∷ ws) o
unfolding copying_of
copying_read w ws o e0 =
    pick w (codes "shrink-begin") _ _ _ e0 (number_ordered (codes "shrink-begin") (λ n. Plain (ShrinkBegin n)) w ws o (λ n h. h)) (λ e1.
    pick w (codes "shrink-end") _ _ _ e1 (number_ordered (codes "shrink-end") (λ n. Plain (ShrinkEnd n)) w ws o (λ n h. h)) (λ e2.
    pick w (codes "shrink-abort") _ _ _ e2 (number_ordered (codes "shrink-abort") (λ n. Plain (ShrinkAbort n)) w ws o (λ n h. h)) (λ e3.
    pick w (codes "shrink") _ _ _ e3 (number_ordered (codes "shrink") (λ n. Shrink n) w ws o (λ n h. h)) (λ e4.
    pick w (codes "snap") _ _ _ e4 (snap_read w ws o) (λ e5.
    pick w (codes "snap-begin") _ _ _ e5 (number_ordered (codes "snap-begin") (λ n. Plain (SnapBegin n)) w ws o (λ n h. h)) (λ e6.
    pick w (codes "snap-end") _ _ _ e6 (number_ordered (codes "snap-end") (λ n. Plain (SnapEnd n)) w ws o (λ n h. h)) (λ e7.
    absurd (cc e7))))))))

numbered_read : (w : List ℕ) (ws : List (List ℕ)) (o : Order) → numbered_of w ws ≡ Ok o → IsOrder (w ∷ ws) o
unfolding numbered_of
numbered_read w ws o e0 =
    pick w (codes "root") _ _ _ e0 (number_ordered (codes "root") (λ n. Plain (Root n)) w ws o (λ n h. h)) (λ e1.
    pick w (codes "purge") _ _ _ e1 (number_ordered (codes "purge") (λ n. Plain (Purge n)) w ws o (λ n h. h)) (λ e2.
    pick w (codes "unpin") _ _ _ e2 (number_ordered (codes "unpin") (λ n. Plain (Unpin n)) w ws o (λ n h. h)) (λ e3.
    pick w (codes "flush-begin") _ _ _ e3 (number_ordered (codes "flush-begin") (λ n. Plain (FlushBegin n)) w ws o (λ n h. h)) (λ e4.
    pick w (codes "flush-end") _ _ _ e4 (number_ordered (codes "flush-end") (λ n. Plain (FlushEnd n)) w ws o (λ n h. h)) (λ e5.
    pick w (codes "flush-abort") _ _ _ e5 (number_ordered (codes "flush-abort") (λ n. Plain (FlushAbort n)) w ws o (λ n h. h)) (λ e6.
    pick w (codes "raise") _ _ _ e6 (number_ordered (codes "raise") (λ n. Plain (Raise n)) w ws o (λ n h. h)) (λ e7.
    pick w (codes "clean") _ _ _ e7 (number_ordered (codes "clean") (λ n. Clean n) w ws o (λ n h. h)) (λ e8.
    copying_read w ws o e8))))))))

order_read : (ws : List (List ℕ)) (o : Order) → order_of ws ≡ Ok o → IsOrder ws o
unfolding order_of
order_read [] o e = absurd cc
order_read (w ∷ ws) o e0 =
    pick w (codes "store") _ _ _ e0 (store_read w ws o) (λ e1.
    pick w (codes "get") _ _ _ e1 (view_order (codes "get") Get w ws o (λ v k h. h)) (λ e2.
    pick w (codes "load") _ _ _ e2 (view_order (codes "load") (λ v k. Plain (Load v k)) w ws o (λ v k h. h)) (λ e3.
    pick w (codes "lease") _ _ _ e3 (max_root_ordered (codes "lease") (λ n. Plain (Lease n)) w ws o (λ n h. h)) (λ e4.
    pick w (codes "end-lease") _ _ _ e4 (max_root_ordered (codes "end-lease") (λ n. Plain (EndLease n)) w ws o (λ n h. h)) (λ e5.
    pick w (codes "flush") _ _ _ e5 (flush_read w ws o) (λ e6.
    pick w (codes "reclaim") _ _ _ e6 (reclaim_read w ws o) (λ e7.
    pick w (codes "recycle") _ _ _ e7 (alone_read (codes "recycle") Recycle w ws o (λ h. h)) (λ e8.
    pick w (codes "stats") _ _ _ e8 (alone_read (codes "stats") Stats w ws o (λ h. h)) (λ e9.
    numbered_read w ws o e9)))))))))

order_again : (ws : List (List ℕ)) (o : Order) → IsOrder ws o → order_of ws ≡ Ok o
unfolding order_of numbered_of copying_of
order_again ws (Plain (Store slot key account)) h = ap order_of h.words ∙ store_again ws slot key account h
order_again ws (Plain (Root slot)) h = ap order_of h.words ∙ rw (number_again 3 h.number_word slot h.number_is) refl
order_again ws (Plain (Purge slot)) h = ap order_of h.words ∙ rw (number_again 3 h.number_word slot h.number_is) refl
order_again ws (Plain (Unpin id)) h = ap order_of h.words ∙ rw (number_again 3 h.number_word id h.number_is) refl
order_again ws (Plain (Lease n)) h = ap order_of h.words ∙ rw (max_root_ordered_again (codes "lease") ws n h) refl
order_again ws (Plain (EndLease n)) h = ap order_of h.words ∙ rw (max_root_ordered_again (codes "end-lease") ws n h) refl
order_again ws (Plain (FlushBegin slot)) h = ap order_of h.words ∙ rw (number_again 3 h.number_word slot h.number_is) refl
order_again ws (Plain (FlushEnd slot)) h = ap order_of h.words ∙ rw (number_again 3 h.number_word slot h.number_is) refl
order_again ws (Plain (FlushAbort slot)) h = ap order_of h.words ∙ rw (number_again 3 h.number_word slot h.number_is) refl
order_again ws (Plain (Raise upto)) h = ap order_of h.words ∙ rw (number_again 3 h.number_word upto h.number_is) refl
order_again ws (Plain (Reclaim after most)) h = ap order_of h.words ∙ reclaim_again ws after most h
order_again ws (Plain (Load view key)) h = ap order_of h.words ∙ rw (view_order_again (codes "load") ws view key h) refl
order_again ws (Plain (ShrinkBegin slot)) h = ap order_of h.words ∙ rw (number_again 3 h.number_word slot h.number_is) refl
order_again ws (Plain (ShrinkEnd slot)) h = ap order_of h.words ∙ rw (number_again 3 h.number_word slot h.number_is) refl
order_again ws (Plain (ShrinkAbort slot)) h = ap order_of h.words ∙ rw (number_again 3 h.number_word slot h.number_is) refl
order_again ws (Plain (SnapBegin slot)) h = ap order_of h.words ∙ rw (number_again 3 h.number_word slot h.number_is) refl
order_again ws (Plain (SnapEnd slot)) h = ap order_of h.words ∙ rw (number_again 3 h.number_word slot h.number_is) refl
order_again ws (Plain Recycle) h = ap order_of h ∙ alone_again Recycle
order_again ws (Plain Stats) h = ap order_of h ∙ alone_again Stats
order_again ws (Get view key) h = ap order_of h.words ∙ rw (view_order_again (codes "get") ws view key h) refl
order_again ws (Flush slot workers) h = ap order_of h.words ∙ flush_again ws slot workers h
order_again ws (Clean upto) h = ap order_of h.words ∙ rw (number_again 3 h.number_word upto h.number_is) refl
order_again ws (Shrink slot) h = ap order_of h.words ∙ rw (number_again 3 h.number_word slot h.number_is) refl
order_again ws (Snap slot name) h = ap order_of h.words ∙ snap_again ws slot name h

-- ---- lines

lane_read : (o : Option ℕ) (n : ℕ) → option_and_then if_lane o ≡ Some n → (o ≡ Some n) × (1 ≤ n) × (n ≤ 64)
lane_read None n e = absurd cc
lane_read (Some m) n e = elim (chosen (leb 1 m && leb m 64) (Some m) None (Some n) e) [
  | inl t ↦
      let same : m ≡ n = cc t.1 in
      let p = and_parts (leb 1 m) (leb m 64) t.0 in
      (ap (λ (k : ℕ). Some k) same, omega (arith, leb-true _ _ p.0), omega (arith, leb-true _ _ p.1))
  | inr t ↦ absurd (cc t.1)
]

lane_again : (o : Option ℕ) (n : ℕ) → o ≡ Some n → 1 ≤ n → n ≤ 64 → option_and_then if_lane o ≡ Some n
lane_again o n e least most = ap (option_and_then if_lane) e ∙ cond-true (leb 1 n && leb n 64) (Some n) None (and_from _ _ (le-leb 1 n least) (le-leb n 64 most))

-- the lane's word, and those after it
lane_argument_ok : (ws : List (List ℕ)) (x : ℕ × List (List ℕ)) → lane_argument ws ≡ Ok x → (w : List ℕ) × (ws ≡ w ∷ x.1) × (lane_of w ≡ Some x.0)
unfolding lane_argument
lane_argument_ok [] x e = absurd cc
lane_argument_ok (w ∷ ws) x e = let p = good_ok 1 (first_fault w) ws (lane_of w) x e in (w, ap (λ (l : List (List ℕ)). w ∷ l) p.1, p.0)

line_read : (ws : List (List ℕ)) (line : Line) → line_of ws ≡ Ok line → IsLine ws line
unfolding line_of
line_read ws line e =
    let a = bind_ok (lane_argument ws) (λ lane. order_of lane.1 >>= λ order. Ok (record { lane = lane.0; order = order })) line e in
    let b = bind_ok (order_of a.0.1) (λ order. Ok (record { lane = a.0.0; order = order })) line a.2 in
    let w = lane_argument_ok ws a.0 a.1 in
    let one = lane_read (number_of w.0) a.0.0 w.2 in
    let made : Line = record { lane = a.0.0; order = b.0 } in
    let same : made ≡ line = cc b.2 in
    subst (λ (x : Line). IsLine ws x) same
    (record { lane_word = w.0; order_words = a.0.1; words = w.1; lane_is = one.0; least = one.1; most = one.2; order = order_read a.0.1 b.0 b.1 })

line_again : (ws : List (List ℕ)) (line : Line) → IsLine ws line → line_of ws ≡ Ok line
unfolding line_of lane_argument
line_again ws line h =
    let read : lane_of h.lane_word ≡ Some line.lane = lane_again (number_of h.lane_word) line.lane h.lane_is h.least h.most in
    let order : order_of h.order_words ≡ Ok line.order = order_again h.order_words line.order h.order in
    ap line_of h.words ∙ rw (read, order) refl

-- ---- scripts

abbrev pub counts : List (List ℕ) → Bool
counts ws = not (is_skipped ws)

-- what the reader gives of lines as words
abbrev from_words : ℕ → List (List (List ℕ)) → Result (List Line) LineFault
from_words number [] = Ok []
from_words number (ws ∷ rest) = and_then number (said_by ws) (from_words (number + 1) rest)

by_words : (number : ℕ) (ls : List (List ℕ)) → lines_from number ls ≡ from_words number (map words ls)
by_words number [] = refl
by_words number (l ∷ ls) = ap (and_then number (said_by (words l))) (by_words (number + 1) ls)

bind_line : (r : Result Line WordFault) (o : Option Line) → (r >>= λ line. Ok (Some line)) ≡ Ok o → (line : Line) × (r ≡ Ok line) × (o ≡ Some line)
bind_line (Ok line) o e = (line, refl, cc)
bind_line (Err f) o e = absurd cc

-- a line that says something, and what the others say
spoken_first : (number : ℕ) (r : Result Line WordFault) (rest : Result (List Line) LineFault) (said : List Line) → and_then number (r >>= λ line. Ok (Some line)) rest ≡ Ok said
    → (line : Line) × (more : List Line) × (r ≡ Ok line) × (rest ≡ Ok more) × (said ≡ line ∷ more)
spoken_first number (Ok line) (Ok more) said e = (line, more, refl, refl, cc)
spoken_first number (Ok line) (Err f) said e = absurd cc
spoken_first number (Err f) rest said e = absurd cc

-- the lines that count, from the front
read_by : (number : ℕ) (ws : List (List ℕ)) (rest : List (List (List ℕ))) (said : List Line) (t : Bool) → is_skipped ws ≡ t
    → ((more : List Line) → from_words (number + 1) rest ≡ Ok more → AreLines (filter counts rest) more)
    → and_then number (cond t (Ok None) (line_of ws >>= λ line. Ok (Some line))) (from_words (number + 1) rest) ≡ Ok said
    → AreLines (cond (not t) (ws ∷ filter counts rest) (filter counts rest)) said
read_by number ws rest said true e others h = others said h
read_by number ws rest said false e others h =
    let f = spoken_first number (line_of ws) (from_words (number + 1) rest) said h in
    subst (λ (x : List Line). AreLines (ws ∷ filter counts rest) x) (sym f.4) (line_read ws f.0 f.2, others f.1 f.3)

lines_read : (number : ℕ) (wss : List (List (List ℕ))) (said : List Line) → from_words number wss ≡ Ok said → AreLines (filter counts wss) said
lines_read number [] said e = let none : [] ≡ said = cc in subst (λ (x : List Line). AreLines [] x) none tt
lines_read number (ws ∷ rest) said e = read_by number ws rest said (is_skipped ws) refl (λ more h. lines_read (number + 1) rest more h) e

again_by : (number : ℕ) (ws : List (List ℕ)) (rest : List (List (List ℕ))) (said : List Line) (t : Bool)
    → ((more : List Line) → AreLines (filter counts rest) more → from_words (number + 1) rest ≡ Ok more)
    → AreLines (cond (not t) (ws ∷ filter counts rest) (filter counts rest)) said
    → and_then number (cond t (Ok None) (line_of ws >>= λ line. Ok (Some line))) (from_words (number + 1) rest) ≡ Ok said
again_by number ws rest said true others h = others said h
again_by number ws rest [] false others h = absurd h
again_by number ws rest (line ∷ more) false others h =
    rw (line_again ws line h.0, others more h.1) refl

lines_again : (number : ℕ) (wss : List (List (List ℕ))) (said : List Line) → AreLines (filter counts wss) said → from_words number wss ≡ Ok said
lines_again number [] [] h = refl
lines_again number [] (line ∷ said) h = absurd h
lines_again number (ws ∷ rest) said h = again_by number ws rest said (is_skipped ws) (λ more k. lines_again (number + 1) rest more k) h

-- what the lines of a lane say, by their words
pub lines_by_words : (number : ℕ) (ls : List (List ℕ)) (said : List Line) → lines_from number ls ≡ Ok said → AreLines (filter counts (map words ls)) said
lines_by_words number ls said e = lines_read number (map words ls) said (sym (by_words number ls) ∙ e)

pub lines_by_words_again : (number : ℕ) (ls : List (List ℕ)) (said : List Line) → AreLines (filter counts (map words ls)) said → lines_from number ls ≡ Ok said
lines_by_words_again number ls said h = by_words number ls ∙ lines_again number (map words ls) said h
