-- The parts of the writing, one after another.
use Rattle.std.proofs.Common.{◌≡◌, ℕ, ◌<◌, length, string_bytes, Bool, true, false, cond, List, [], ◌∷◌, ◌++◌, Option, Some, None, is_some, Result, Ok, Err, refl, sym, ap, subst, ◌∙◌, arith}
use Rattle.std.specs.Prelude.{OnOk, IfSome}
use Rattle.std.specs.Option.{option_or}
use Rattle.std.specs.Str.{bytes_eq}
use Rattle.std.specs.declared.string.String.{String}
use Rattle.std.proofs.lemmas.Bool.{and_parts}
use Rattle.dir_io.specs.Files.{Files, IsFile, IsListing, LeavesOthers, file_of, has_prefix, is_among, texts}
use Rattle.snap_write.specs.declared.fault.SnapFault.{SnapFault}
use Rattle.snap_write.specs.declared.fault.SnapFault.TheVariants as faults
use Rattle.snap_write.specs.Changes.{HasSome, IsWriting, LeavesOutside, Puts, StandsLast, TouchesOnly}
use Rattle.snap_write.specs.Faults.{HasSnapCause, is_dir_fault, is_exists}
use Rattle.snap_write.proofs.Facts.{bytes_eq-self, or_left, same_bytes}

-- ---- look-ups of files

pub file_of-append : (xs ys : Files) (q : List ℕ) → file_of (xs ++ ys) q ≡ option_or (file_of xs q) (file_of ys q)
file_of-append [] ys q = refl
file_of-append (x ∷ xs) ys q = by (bytes_eq x.0 q) (file_of-append xs ys q)
  where
    by : (b : Bool) → file_of (xs ++ ys) q ≡ option_or (file_of xs q) (file_of ys q) → cond b (Some x.1) (file_of (xs ++ ys) q) ≡ option_or (cond b (Some x.1) (file_of xs q)) (file_of ys q)
    by true rest = refl
    by false rest = rest

-- no file of the second has a name of the first
abbrev pub Apart : Files → Files → Type 0
Apart a b = (path : List ℕ) → is_some (file_of b path) ≡ true → file_of a path ≡ None

-- one file whose name the others don't have
pub apart_one : (a : Files) (path bytes : List ℕ) → file_of a path ≡ None → Apart a ((path, bytes) ∷ [])
apart_one a path bytes none q some = by (bytes_eq path q) refl some
  where
    by : (b : Bool) → bytes_eq path q ≡ b → is_some (cond b (Some bytes) None) ≡ true → file_of a q ≡ None
    by true is s = ap (file_of a) (sym (same_bytes path q is)) ∙ none
    by false is s = absurd cc

-- ---- what becomes of the files

puts_none : (f : Option Files) → Puts [] f f
puts_none None = tt
puts_none (Some files) = λ path. refl

puts_then : (a b : Files) (f g h : Option Files) → Apart a b → Puts a f g → Puts b g h → Puts (a ++ b) f h
puts_then a b None g h apart first next = tt
puts_then a b (Some old) None h apart first next = absurd first
puts_then a b (Some old) (Some mid) None apart first next = absurd next
puts_then a b (Some old) (Some mid) (Some new) apart first next = λ path.
    next path ∙ ap (option_or (file_of b path)) (first path) ∙ swap (file_of a path) (file_of b path) (file_of old path) (apart path) ∙ ap (λ o. option_or o (file_of old path)) (sym (file_of-append a b path))
  where
    swap : (x y z : Option (List ℕ)) → (is_some y ≡ true → x ≡ None) → option_or y (option_or x z) ≡ option_or (option_or x y) z
    swap None y z only = refl
    swap (Some x) None z only = refl
    swap (Some x) (Some y) z only = let never = only refl in absurd cc

puts_one : (path bytes : List ℕ) (f g : Option Files) → IsFile g path bytes → LeavesOthers f g path → Puts ((path, bytes) ∷ []) f g
puts_one path bytes None g is others = tt
puts_one path bytes (Some old) None is others = absurd others
puts_one path bytes (Some old) (Some new) is others = λ q. by q (bytes_eq path q) refl
  where
    by : (q : List ℕ) (b : Bool) → bytes_eq path q ≡ b → file_of new q ≡ option_or (cond (bytes_eq path q) (Some bytes) None) (file_of old q)
    by q true same = rw same (ap (file_of new) (sym (same_bytes path q same)) ∙ is)
    by q false differs = rw differs (others q (λ same. let self = bytes_eq-self path in let e : bytes_eq path path ≡ false = ap (bytes_eq path) (sym same) ∙ differs in absurd (cc (sym self ∙ e))))

or_nones : (x y : Option (List ℕ)) → option_or x y ≡ None → (x ≡ None) × (y ≡ None)
or_nones None y e = (refl, e)
or_nones (Some x) y e = absurd cc

-- each name of the first is one of the second
abbrev pub Within : Files → Files → Type 0
Within a b = (path : List ℕ) → file_of b path ≡ None → file_of a path ≡ None

pub within_itself : (a : Files) → Within a a
within_itself a = λ path none. none

pub within_front : (a b : Files) → Within a (a ++ b)
within_front a b = λ path none. (or_nones (file_of a path) (file_of b path) (sym (file_of-append a b path) ∙ none)).0

touches_none : (added : Files) (f : Option Files) → TouchesOnly added f f
touches_none added None = tt
touches_none added (Some files) = λ path none. refl

touches_then : (a b : Files) (f g h : Option Files) → TouchesOnly a f g → TouchesOnly b g h → TouchesOnly (a ++ b) f h
touches_then a b None g h first next = tt
touches_then a b (Some old) None h first next = absurd first
touches_then a b (Some old) (Some mid) None first next = absurd next
touches_then a b (Some old) (Some mid) (Some new) first next = λ path none.
    let both = or_nones (file_of a path) (file_of b path) (sym (file_of-append a b path) ∙ none) in
    next path both.1 ∙ first path both.0

touches_more : (a b : Files) (f g : Option Files) → Within a b → TouchesOnly a f g → TouchesOnly b f g
touches_more a b None g within first = tt
touches_more a b (Some old) None within first = absurd first
touches_more a b (Some old) (Some new) within first = λ path none. first path (within path none)

touches_one : (path bytes : List ℕ) (f g : Option Files) → LeavesOthers f g path → TouchesOnly ((path, bytes) ∷ []) f g
touches_one path bytes None g others = tt
touches_one path bytes (Some old) None others = absurd others
touches_one path bytes (Some old) (Some new) others = λ q none.
    others q (λ same. let some : None ≡ Some bytes = sym none ∙ ap (λ (b : Bool). cond b (Some bytes) None) (ap (bytes_eq path) same ∙ bytes_eq-self path) in absurd cc)

-- files whose names all have the prefix
abbrev pub AllUnder : List ℕ → Files → Type 0
AllUnder prefix files = (path : List ℕ) → has_prefix prefix path ≡ false → file_of files path ≡ None

pub outside : (prefix : List ℕ) (added : Files) (f g : Option Files) → AllUnder prefix added → TouchesOnly added f g → LeavesOutside prefix f g
outside prefix added None g under touches = tt
outside prefix added (Some old) None under touches = absurd touches
outside prefix added (Some old) (Some new) under touches = λ path lacks. touches path (under path lacks)

pub outside_same : (prefix : List ℕ) (f g : Option Files) → g ≡ f → LeavesOutside prefix f g
outside_same prefix f g same = subst (LeavesOutside prefix f) (sym same) (stay f)
  where
    stay : (f : Option Files) → LeavesOutside prefix f f
    stay None = tt
    stay (Some files) = λ path lacks. refl

-- ---- causes

pub same_fault : (X Y : Type 0) (fault : SnapFault) → is_dir_fault {X = X} (Err fault) ≡ is_dir_fault {X = Y} (Err fault)
same_fault X Y faults.Exists = refl
same_fault X Y faults.DirFault = refl
same_fault X Y faults.NoMemory = refl

there_too : (X Y : Type 0) (fault : SnapFault) → is_exists {X = X} (Err fault) ≡ false → is_exists {X = Y} (Err fault) ≡ false
there_too X Y faults.Exists e = absurd cc
there_too X Y faults.DirFault e = refl
there_too X Y faults.NoMemory e = refl

pub cause_up : {X Y : Type 0} (before now : ℕ) (fault : SnapFault) → HasSnapCause {X = X} before now (Err fault) → HasSnapCause {X = Y} before now (Err fault)
cause_up {X = X} {Y = Y} before now fault cause = record {
  later = cause.later;
  failed = λ failed. cause.failed (same_fault X Y fault ∙ failed);
  kept = λ kept. cause.kept (same_fault X Y fault ∙ kept);
}

pub cause_then : {X Y : Type 0} (before mid now : ℕ) (x : X) (r : Result Y SnapFault) → HasSnapCause before mid (Ok x) → HasSnapCause mid now r → HasSnapCause before now r
cause_then before mid now x r first next = subst (λ (n : ℕ). HasSnapCause n now r) (first.kept refl) next

pub no_cause : {X : Type 0} (n : ℕ) (r : Result X SnapFault) → is_dir_fault r ≡ false → HasSnapCause n n r
no_cause n r not_failed = record {
  later = omega arith;
  failed = λ failed. absurd (cc (sym failed ∙ not_failed));
  kept = λ kept. refl;
}

-- ---- the parts

module _ {X : Type 0} where
  -- nothing was called
  pub starts : (f : Option Files) (n : ℕ) (x : X) → IsWriting [] f f n n (Ok x)
  starts f n x = record { puts = puts_none f; others = touches_none [] f; cause = no_cause n (Ok x) refl; not_there = refl }

  -- nothing was called, since memory was wanted
  pub never_starts : (added : Files) (f : Option Files) (n : ℕ) → IsWriting {X = X} added f f n n (Err faults.NoMemory)
  never_starts added f n = record { puts = tt; others = touches_none added f; cause = no_cause n (Err faults.NoMemory) refl; not_there = refl }

  -- one file was written
  pub writes_one : (path bytes : List ℕ) (f g : Option Files) (n m : ℕ) (r : Result X SnapFault) → OnOk r (IsFile g path bytes) → LeavesOthers f g path → HasSnapCause n m r → is_exists r ≡ false
      → IsWriting ((path, bytes) ∷ []) f g n m r
  writes_one path bytes f g n m (Ok x) is others cause not_there = record { puts = puts_one path bytes f g is others; others = touches_one path bytes f g others; cause = cause; not_there = not_there }
  writes_one path bytes f g n m (Err fault) is others cause not_there = record { puts = tt; others = touches_one path bytes f g others; cause = cause; not_there = not_there }

module _ {X Y : Type 0} (a b : Files) (f g h : Option Files) (n m k : ℕ) where
  -- one part follows another
  pub follows : (x : X) (r : Result Y SnapFault) → Apart a b → IsWriting a f g n m (Ok x) → IsWriting b g h m k r → IsWriting (a ++ b) f h n k r
  follows x (Ok y) apart first next = record {
    puts = puts_then a b f g h apart first.puts next.puts;
    others = touches_then a b f g h first.others next.others;
    cause = cause_then n m k x (Ok y) first.cause next.cause;
    not_there = refl;
  }
  follows x (Err fault) apart first next = record {
    puts = tt;
    others = touches_then a b f g h first.others next.others;
    cause = cause_then n m k x (Err fault) first.cause next.cause;
    not_there = next.not_there;
  }

-- the second part fails
pub breaks : {X Y : Type 0} (Z : Type 0) (a b added : Files) (f g h : Option Files) (n m k : ℕ) (x : X) (fault : SnapFault) → Within (a ++ b) added → IsWriting a f g n m (Ok x) → IsWriting {X = Y} b g h m k (Err fault)
    → IsWriting {X = Z} added f h n k (Err fault)
breaks {Y = Y} Z a b added f g h n m k x fault within first next = record {
  puts = tt;
  others = touches_more (a ++ b) added f h within (touches_then a b f g h first.others next.others);
  cause = cause_up n k fault (cause_then n m k x (Err fault) first.cause next.cause);
  not_there = there_too Y Z fault next.not_there;
}

module _ (X Y : Type 0) (a added : Files) (within : Within a added) (f g : Option Files) (n m : ℕ) where
  -- a fault goes up as it is
  pub goes_up : (fault : SnapFault) → IsWriting {X = X} a f g n m (Err fault) → IsWriting {X = Y} added f g n m (Err fault)
  goes_up fault first = record { puts = tt; others = touches_more a added f g within first.others; cause = cause_up n m fault first.cause; not_there = there_too X Y fault first.not_there }

  -- memory is wanted for what follows
  pub stops : (x : X) → IsWriting a f g n m (Ok x) → IsWriting {X = Y} added f g n m (Err faults.NoMemory)
  stops x first = record {
    puts = tt;
    others = touches_more a added f g within first.others;
    cause = cause_then n m m x (Err faults.NoMemory) first.cause (no_cause m (Err faults.NoMemory) refl);
    not_there = refl;
  }

-- it goes on with another answer
pub answers : {X Y : Type 0} (a : Files) (f g : Option Files) (n m : ℕ) (x : X) (y : Y) → IsWriting a f g n m (Ok x) → IsWriting a f g n m (Ok y)
answers a f g n m x y first = record { puts = first.puts; others = first.others; cause = cause_then n m m x (Ok y) first.cause (no_cause m (Ok y) refl); not_there = refl }

-- a call that leaves the files follows
pub ends : {X Y : Type 0} (a : Files) (f g h : Option Files) (n m k : ℕ) (x : X) (r : Result Y SnapFault) → h ≡ g → is_exists r ≡ false → HasSnapCause m k r → IsWriting a f g n m (Ok x) → IsWriting a f h n k r
ends a f g h n m k x (Ok y) same not_there cause first = record {
  puts = subst (Puts a f) (sym same) first.puts;
  others = subst (TouchesOnly a f) (sym same) first.others;
  cause = cause_then n m k x (Ok y) first.cause cause;
  not_there = not_there;
}
ends a f g h n m k x (Err fault) same not_there cause first = record {
  puts = tt;
  others = subst (TouchesOnly a f) (sym same) first.others;
  cause = cause_then n m k x (Err fault) first.cause cause;
  not_there = not_there;
}

-- ---- what stands last

-- it was not touched
pub last_untouched : (name : List ℕ) (a : Files) (f g : Option Files) → file_of a name ≡ None → TouchesOnly a f g → StandsLast name a f g
last_untouched name a None g none touches = tt
last_untouched name a (Some old) None none touches = absurd touches
last_untouched name a (Some old) (Some new) none touches = λ not_there there. let never : is_some (file_of new name) ≡ false = ap is_some (touches name none ∙ not_there) in absurd (cc (sym there ∙ never))

pub last_same : (name : List ℕ) (a : Files) (f g : Option Files) → g ≡ f → StandsLast name a f g
last_same name a f g same = subst (StandsLast name a f) (sym same) (stay f)
  where
    stay : (f : Option Files) → StandsLast name a f f
    stay None = tt
    stay (Some files) = λ not_there there. let never : is_some (file_of files name) ≡ false = ap is_some not_there in absurd (cc (sym there ∙ never))

-- the others were put before it
pub last_behind : (name : List ℕ) (a b : Files) (f g h : Option Files) → ((path bytes : List ℕ) → file_of a path ≡ Some bytes → file_of b path ≡ None) → Puts a f g → TouchesOnly b g h → StandsLast name a f h
last_behind name a b None g h apart puts touches = tt
last_behind name a b (Some old) None h apart puts touches = absurd puts
last_behind name a b (Some old) (Some mid) None apart puts touches = absurd touches
last_behind name a b (Some old) (Some mid) (Some new) apart puts touches = λ not_there there path bytes is.
    touches path (apart path bytes is) ∙ puts path ∙ ap (λ o. option_or o (file_of old path)) is

-- a name that is listed is that of a file
pub some_listed : {A : Type 0} (files : Option Files) (prefix : List ℕ) (names : List (String A)) → IsListing files prefix (texts names) → 0 < length names → IfSome files (HasSome prefix)
some_listed None prefix names listed some = tt
some_listed (Some told) prefix [] listed some = absurd (omega arith)
some_listed (Some told) prefix (name ∷ names) listed some =
    let first : is_among (texts (name ∷ names)) (string_bytes name) ≡ true = or_left (bytes_eq (string_bytes name) (string_bytes name)) _ (bytes_eq-self (string_bytes name)) in
    let both = and_parts _ _ (sym (listed.complete (string_bytes name)) ∙ first) in
    (string_bytes name, both.1, both.0)
