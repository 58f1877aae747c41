-- A script as it is read, from left to right: its lines, or the first bad word.
use Rattle.std.specs.Prelude.{ℕ, ◌+◌, nat_le, ◌&&◌, ◌||◌, Bool, false, if◌then◌else◌, List, [], ◌∷◌, length, codes, replicate, Option, Some, None, option_and_then, Result, Ok, Err}
use Rattle.std.specs.Str.{bytes_eq}
use Rattle.std.specs.Str.Lines.{lines}
use Rattle.adb_model.specs.Account.{account_of}
use Rattle.adb_model.specs.Call.{Call, Store, Root, Purge, Load, Unpin, Lease, EndLease, FlushBegin, FlushEnd, FlushAbort, Raise, Reclaim, ShrinkBegin, ShrinkEnd, ShrinkAbort, SnapBegin, SnapEnd, Recycle, Stats}
use Rattle.adb_model.specs.View.{View}
use Rattle.text_fields.specs.Keys.{key_of}
use Rattle.text_fields.specs.Names.{name_of}
use Rattle.text_fields.specs.Numbers.{number_of}
use Rattle.script.specs.declared.fault.Kind.{Kind}
use Rattle.script.specs.declared.fault.Kind.TheVariants as kinds
use Rattle.script.specs.declared.fault.WordFault.{WordFault}
use Rattle.script.specs.declared.fault.LineFault.{LineFault}
use Rattle.script.specs.Arguments.{view_of, flag_of, data_of, max_root_of, after_of}
use Rattle.script.specs.Said.{Order, Plain, Get, Flush, Clean, Shrink, Snap, Line, Said}
use Rattle.script.specs.Words.{words, is_skipped}

-- the second step, where the first gave a value
infixl 10 ◌>>=◌
abbrev pub ◌>>=◌ : {A B E : Type 0} → Result A E → (A → Result B E) → Result B E
(Ok x) >>= f = f x
(Err e) >>= f = Err e

abbrev pub fault : {A : Type 0} → ℕ → Kind → Result A WordFault
fault word kind = Err (record { word = word; kind = kind })

-- a value that a word is, or a fault of that word
abbrev pub good : {A : Type 0} → ℕ → Kind → List (List ℕ) → Option A → Result (A × List (List ℕ)) WordFault
good word kind rest None = fault word kind
good word kind rest (Some x) = Ok (x, rest)

-- the word at this place of the line, read so, and the words after it
unfoldable pub argument : {A : Type 0} → (List ℕ → Option A) → Kind → ℕ → List (List ℕ) → Result (A × List (List ℕ)) WordFault
argument read kind word [] = fault word kinds.Missing
argument read kind word (w ∷ ws) = good word kind ws (read w)

-- the word at the front read so, or the default where no word is left
abbrev pub optional : {A : Type 0} → A → (List (List ℕ) → Result (A × List (List ℕ)) WordFault) → List (List ℕ) → Result (A × List (List ℕ)) WordFault
optional default read [] = Ok (default, [])
optional default read (w ∷ ws) = read (w ∷ ws)

-- no more bytes than an account can have
abbrev pub fitting : {B : Type 0} → ℕ → List ℕ × B → Result (List ℕ × B) WordFault
fitting word x = if nat_le (length x.0) 10485760 then Ok x else fault word kinds.DataTooLong

-- no word is too many
unfoldable pub ended : ℕ → List (List ℕ) → Result (Unit {0}) WordFault
ended word [] = Ok tt
ended word (w ∷ ws) = fault word kinds.Surplus

-- lanes 1 to 64
abbrev pub if_lane : ℕ → Option ℕ
if_lane n = if nat_le 1 n && nat_le n 64 then Some n else None

abbrev pub lane_of : List ℕ → Option ℕ
lane_of w = option_and_then if_lane (number_of w)

-- the data of a store
unfoldable pub data_argument : ℕ → List (List ℕ) → Result (List ℕ × List (List ℕ)) WordFault
data_argument word ws = argument data_of kinds.Data word ws >>= fitting word

unfoldable pub store_of : List (List ℕ) → Result Order WordFault
store_of ws = do
  slot ← argument number_of kinds.Number 3 ws
  key ← argument key_of kinds.Key 4 slot.1
  lamports ← argument number_of kinds.Number 5 key.1
  owner ← optional (replicate 32 0) (argument key_of kinds.Key 6) lamports.1
  executable ← optional false (argument flag_of kinds.Range 7) owner.1
  epoch ← optional 0 (argument number_of kinds.Number 8) executable.1
  bytes ← optional [] (data_argument 9) epoch.1
  done ← ended 10 bytes.1
  Ok (Plain (Store slot.0 key.0 (account_of lamports.0 owner.0 executable.0 epoch.0 bytes.0)))

-- the number at this place of the line, where no more words follow
unfoldable pub only_number : ℕ → List (List ℕ) → Result ℕ WordFault
only_number word ws = do
  number ← argument number_of kinds.Number word ws
  done ← ended (word + 1) number.1
  Ok number.0

-- the number of an order that has no more than that
abbrev pub number_order : (ℕ → Order) → List (List ℕ) → Result Order WordFault
number_order order ws = only_number 3 ws >>= λ n. Ok (order n)

-- from 1 to this number
abbrev pub if_up_to : {B : Type 0} → ℕ → ℕ → ℕ × B → Result (ℕ × B) WordFault
if_up_to greatest word x = if nat_le 1 x.0 && nat_le x.0 greatest then Ok x else fault word kinds.Range

-- a number from 1 to this one
unfoldable pub count_argument : ℕ → ℕ → List (List ℕ) → Result (ℕ × List (List ℕ)) WordFault
count_argument greatest word ws = argument number_of kinds.Number word ws >>= if_up_to greatest word

unfoldable pub flush_of : List (List ℕ) → Result Order WordFault
flush_of ws = do
  slot ← argument number_of kinds.Number 3 ws
  workers ← optional 1 (count_argument 16 4) slot.1
  done ← ended 5 workers.1
  Ok (Flush slot.0 workers.0)

unfoldable pub snap_of : List (List ℕ) → Result Order WordFault
snap_of ws = do
  slot ← argument number_of kinds.Number 3 ws
  name ← argument name_of kinds.Name 4 slot.1
  done ← ended 5 name.1
  Ok (Snap slot.0 name.0)

-- the name of a header that has no more than that
unfoldable pub only_name : List (List ℕ) → Result (List ℕ) WordFault
only_name ws = do
  name ← argument name_of kinds.Name 2 ws
  done ← ended 3 name.1
  Ok name.0

-- the view and the key of an order that has no more than that
unfoldable pub view_and_key_of : List (List ℕ) → Result (View × List ℕ) WordFault
view_and_key_of ws = do
  view ← argument view_of kinds.View 3 ws
  key ← argument key_of kinds.Key 4 view.1
  done ← ended 5 key.1
  Ok (view.0, key.0)

unfoldable pub reclaim_of : List (List ℕ) → Result Order WordFault
reclaim_of ws = do
  after ← argument after_of kinds.Key 3 ws
  most ← count_argument 256 4 after.1
  done ← ended 5 most.1
  Ok (Plain (Reclaim after.0 most.0))

-- the greatest root of an order that has no more than that
unfoldable pub only_max_root : List (List ℕ) → Result ℕ WordFault
only_max_root ws = do
  max_root ← argument max_root_of kinds.Number 3 ws
  done ← ended 4 max_root.1
  Ok max_root.0

-- the call of an order that has no further words
abbrev pub alone : Call → List (List ℕ) → Result Order WordFault
alone call ws = ended 3 ws >>= λ done. Ok (Plain call)

-- the commands of shrinks and of snapshots
unfoldable pub copying_of : List ℕ → List (List ℕ) → Result Order WordFault
copying_of w ws =
    if bytes_eq w (codes "shrink-begin") then number_order (λ slot. Plain (ShrinkBegin slot)) ws
    else if bytes_eq w (codes "shrink-end") then number_order (λ slot. Plain (ShrinkEnd slot)) ws
    else if bytes_eq w (codes "shrink-abort") then number_order (λ slot. Plain (ShrinkAbort slot)) ws
    else if bytes_eq w (codes "shrink") then number_order (λ slot. Shrink slot) ws
    else if bytes_eq w (codes "snap") then snap_of ws
    else if bytes_eq w (codes "snap-begin") then number_order (λ slot. Plain (SnapBegin slot)) ws
    else if bytes_eq w (codes "snap-end") then number_order (λ slot. Plain (SnapEnd slot)) ws
    else fault 2 kinds.Unknown

-- these commands, and those that have a number and no more
unfoldable pub numbered_of : List ℕ → List (List ℕ) → Result Order WordFault
numbered_of w ws =
    if bytes_eq w (codes "root") then number_order (λ slot. Plain (Root slot)) ws
    else if bytes_eq w (codes "purge") then number_order (λ slot. Plain (Purge slot)) ws
    else if bytes_eq w (codes "unpin") then number_order (λ id. Plain (Unpin id)) ws
    else if bytes_eq w (codes "flush-begin") then number_order (λ slot. Plain (FlushBegin slot)) ws
    else if bytes_eq w (codes "flush-end") then number_order (λ slot. Plain (FlushEnd slot)) ws
    else if bytes_eq w (codes "flush-abort") then number_order (λ slot. Plain (FlushAbort slot)) ws
    else if bytes_eq w (codes "raise") then number_order (λ upto. Plain (Raise upto)) ws
    else if bytes_eq w (codes "clean") then number_order (λ upto. Clean upto) ws
    else copying_of w ws

unfoldable pub order_of : List (List ℕ) → Result Order WordFault
order_of [] = fault 2 kinds.Missing
order_of (w ∷ ws) =
    if bytes_eq w (codes "store") then store_of ws
    else if bytes_eq w (codes "get") then (view_and_key_of ws >>= λ x. Ok (Get x.0 x.1))
    else if bytes_eq w (codes "load") then (view_and_key_of ws >>= λ x. Ok (Plain (Load x.0 x.1)))
    else if bytes_eq w (codes "lease") then (only_max_root ws >>= λ n. Ok (Plain (Lease n)))
    else if bytes_eq w (codes "end-lease") then (only_max_root ws >>= λ n. Ok (Plain (EndLease n)))
    else if bytes_eq w (codes "flush") then flush_of ws
    else if bytes_eq w (codes "reclaim") then reclaim_of ws
    else if bytes_eq w (codes "recycle") then alone Recycle ws
    else if bytes_eq w (codes "stats") then alone Stats ws
    else numbered_of w ws

-- the first word of a header
abbrev pub is_header : List ℕ → Bool
is_header w = bytes_eq w (codes "budget") || bytes_eq w (codes "open")

-- what is wrong with a first word that is no lane: a header line stands before all others, in its order and once
unfoldable pub first_fault : List ℕ → Kind
first_fault w = if is_header w then kinds.Header else kinds.Lane

-- the lane, and the words after it
unfoldable pub lane_argument : List (List ℕ) → Result (ℕ × List (List ℕ)) WordFault
lane_argument [] = fault 1 kinds.Missing
lane_argument (w ∷ ws) = good 1 (first_fault w) ws (lane_of w)

unfoldable pub line_of : List (List ℕ) → Result Line WordFault
line_of ws = do
  lane ← lane_argument ws
  order ← order_of lane.1
  Ok (record { lane = lane.0; order = order })

-- what a line says, if anything
abbrev pub said_by : List (List ℕ) → Result (Option Line) WordFault
said_by ws = if is_skipped ws then Ok None else (line_of ws >>= λ line. Ok (Some line))

-- a line, and the lines after it
abbrev pub and_then : ℕ → Result (Option Line) WordFault → Result (List Line) LineFault → Result (List Line) LineFault
and_then number (Err f) rest = Err (record { line = number; word = f.word; kind = f.kind })
and_then number (Ok None) rest = rest
and_then number (Ok (Some line)) (Err f) = Err f
and_then number (Ok (Some line)) (Ok lines) = Ok (line ∷ lines)

-- what some lines say, the first of them with this number
abbrev pub lines_from : ℕ → List (List ℕ) → Result (List Line) LineFault
lines_from number [] = Ok []
lines_from number (l ∷ ls) = and_then number (said_by (words l)) (lines_from (number + 1) ls)

-- some lines, and the number of the first
abbrev pub Numbered : Type 0
Numbered = ℕ × List (List ℕ)

-- the lines from the first on that is not skipped
abbrev pub unskipped : ℕ → List (List ℕ) → Numbered
unskipped number [] = (number, [])
unskipped number (l ∷ ls) = if is_skipped (words l) then unskipped (number + 1) ls else (number, l ∷ ls)

-- the words that follow this one in a line, where the line begins with it, and the lines after that one
abbrev pub words_after : List ℕ → List (List ℕ) → Numbered → Option (List (List ℕ) × Numbered)
words_after first [] rest = None
words_after first (w ∷ ws) rest = if bytes_eq w first then Some (ws, rest) else None

-- the same of the first of some lines
abbrev pub header_words : List ℕ → Numbered → Option (List (List ℕ) × Numbered)
header_words first (number, []) = None
header_words first (number, l ∷ ls) = words_after first (words l) (number + 1, ls)

-- what a header line of this number says, and the lines after it
abbrev pub headed : {A : Type 0} → ℕ → Result A WordFault → Numbered → Result (Option A × Numbered) LineFault
headed number (Ok x) rest = Ok (Some x, rest)
headed number (Err f) rest = Err (record { line = number; word = f.word; kind = f.kind })

-- the same of the words of a header that was found; else nothing, and all of the lines
abbrev pub header_read : {A : Type 0} → (List (List ℕ) → Result A WordFault) → Numbered → Option (List (List ℕ) × Numbered) → Result (Option A × Numbered) LineFault
header_read read rest None = Ok (None, rest)
header_read read rest (Some after) = headed rest.0 (read after.0) after.1

-- what a header says that begins with this word and goes on with words that are read so, if the first of some lines is one
abbrev pub header_in : {A : Type 0} → List ℕ → (List (List ℕ) → Result A WordFault) → Numbered → Result (Option A × Numbered) LineFault
header_in first read rest = header_read read rest (header_words first rest)

-- the same of the first line that counts
abbrev pub header_from : {A : Type 0} → List ℕ → (List (List ℕ) → Result A WordFault) → Numbered → Result (Option A × Numbered) LineFault
header_from first read rest = header_in first read (unskipped rest.0 rest.1)

-- the budget of some lines that begin a script
unfoldable pub budget_from : Numbered → Result (Option ℕ × Numbered) LineFault
budget_from rest = header_from (codes "budget") (only_number 2) rest

-- the name of the snapshot that lines open which follow the budget
unfoldable pub opened_from : Numbered → Result (Option (List ℕ) × Numbered) LineFault
opened_from rest = header_from (codes "open") only_name rest

-- what the bytes of a script say, or their first bad word
unfoldable pub script_of : List ℕ → Result Said LineFault
script_of bytes = do
  budget ← budget_from (1, lines bytes)
  opened ← opened_from budget.1
  said ← lines_from opened.1.0 opened.1.1
  Ok (record { budget = budget.0; opened = opened.0; lines = said })
