-- The text of the journal.
use Rattle.std.specs.Prelude.{ℕ, ◌-◌, ◌^◌, ◌==◌, nat_lt, ◌&&◌, Bool, true, false, if◌then◌else◌, List, [], ◌∷◌, ◌++◌, length, take, slice_index, codes, Option, Some, None}
use Rattle.std.specs.Fmt.{decimal}
use Rattle.std.specs.List.{flat_map, list_all, join_with_byte}
use Rattle.hex.specs.Hex.{encode_lower}
use Rattle.adb_model.specs.Account.{Account}
use Rattle.adb_model.specs.View.{View}
use Rattle.adb_model.specs.Call as machine
use Rattle.text_fields.specs.Keys.{key_text}

-- words with one space between them
abbrev pub spaced : List (List ℕ) → List ℕ
spaced ws = join_with_byte 32 ws

abbrev pub are_equal : List ℕ → Bool
are_equal bytes = list_all (λ b. b == slice_index bytes 0) bytes

-- `-` where there is none; 33 or more equal bytes as `LEN*BB`; else hexadecimal
unfoldable pub data_text : List ℕ → List ℕ
data_text bytes =
    if length bytes == 0 then codes "-"
    else if nat_lt 32 (length bytes) && are_equal bytes then decimal (length bytes) ++ 42 ∷ encode_lower (take 1 bytes)
    else encode_lower bytes

abbrev pub flag_text : Bool → List ℕ
flag_text true = codes "1"
flag_text false = codes "0"

-- `LAMPORTS OWNER EXEC EPOCH DATA`
unfoldable pub account_text : Account → List ℕ
account_text a = spaced (decimal a.lamports ∷ key_text a.owner ∷ flag_text a.executable ∷ decimal a.rent_epoch ∷ data_text a.bytes ∷ [])

-- `KEY SLOT ACCOUNT`: an account that is listed
unfoldable pub account_line : List ℕ → ℕ → Account → List ℕ
account_line key slot account = spaced (key_text key ∷ decimal slot ∷ account_text account ∷ []) ++ 10 ∷ []

-- `-`, or numbers joined by commas
unfoldable pub slots_text : List ℕ → List ℕ
slots_text [] = codes "-"
slots_text (s ∷ slots) = decimal s ++ flat_map (λ n. 44 ∷ decimal n) slots

-- `all`, or a number
unfoldable pub max_root_text : ℕ → List ℕ
max_root_text n = if n == 2 ^ 64 - 1 then codes "all" else decimal n

unfoldable pub view_text : View → List ℕ
view_text v = slots_text v.ancestors ++ 64 ∷ max_root_text v.max_root

-- `-`, or a key
abbrev pub after_text : Option (List ℕ) → List ℕ
after_text None = codes "-"
after_text (Some key) = key_text key

unfoldable pub call_text : machine.Call → List ℕ
call_text (machine.Store slot key account) = spaced (codes "store" ∷ decimal slot ∷ key_text key ∷ account_text account ∷ [])
call_text (machine.Root slot) = spaced (codes "root" ∷ decimal slot ∷ [])
call_text (machine.Purge slot) = spaced (codes "purge" ∷ decimal slot ∷ [])
call_text (machine.Load view key) = spaced (codes "load" ∷ view_text view ∷ key_text key ∷ [])
call_text (machine.Unpin id) = spaced (codes "unpin" ∷ decimal id ∷ [])
call_text (machine.Lease most) = spaced (codes "lease" ∷ max_root_text most ∷ [])
call_text (machine.EndLease most) = spaced (codes "end-lease" ∷ max_root_text most ∷ [])
call_text (machine.FlushBegin slot) = spaced (codes "flush-begin" ∷ decimal slot ∷ [])
call_text (machine.FlushEnd slot) = spaced (codes "flush-end" ∷ decimal slot ∷ [])
call_text (machine.FlushAbort slot) = spaced (codes "flush-abort" ∷ decimal slot ∷ [])
call_text (machine.Raise upto) = spaced (codes "raise" ∷ decimal upto ∷ [])
call_text (machine.Reclaim after most) = spaced (codes "reclaim" ∷ after_text after ∷ decimal most ∷ [])
call_text (machine.ShrinkBegin slot) = spaced (codes "shrink-begin" ∷ decimal slot ∷ [])
call_text (machine.ShrinkEnd slot) = spaced (codes "shrink-end" ∷ decimal slot ∷ [])
call_text (machine.ShrinkAbort slot) = spaced (codes "shrink-abort" ∷ decimal slot ∷ [])
call_text (machine.SnapBegin slot) = spaced (codes "snap-begin" ∷ decimal slot ∷ [])
call_text (machine.SnapEnd slot) = spaced (codes "snap-end" ∷ decimal slot ∷ [])
call_text machine.Recycle = codes "recycle"
call_text machine.Stats = codes "stats"

abbrev pub place_text : machine.Place → List ℕ
place_text machine.Cached = codes "cached"
place_text (machine.InStorage id) = decimal id

-- the newest root, where there is one
abbrev pub newest_text : Option ℕ → List ℕ
newest_text None = codes "none"
newest_text (Some slot) = decimal slot

unfoldable pub refusal_text : machine.Refusal → List ℕ
refusal_text (machine.SlotRooted slot newest) = spaced (codes "slot-rooted" ∷ decimal slot ∷ decimal newest ∷ [])
refusal_text (machine.RootOrder slot newest) = spaced (codes "root-order" ∷ decimal slot ∷ decimal newest ∷ [])
refusal_text (machine.Rooted slot) = spaced (codes "rooted" ∷ decimal slot ∷ [])
refusal_text (machine.ViewTooOld most cleaned) = spaced (codes "view-too-old" ∷ max_root_text most ∷ decimal cleaned ∷ [])
refusal_text (machine.TooManyPins most) = spaced (codes "too-many-pins" ∷ decimal most ∷ [])
refusal_text (machine.NotPinned id) = spaced (codes "not-pinned" ∷ decimal id ∷ [])
refusal_text (machine.NotLeased most) = spaced (codes "not-leased" ∷ max_root_text most ∷ [])
refusal_text (machine.NotRooted slot) = spaced (codes "not-rooted" ∷ decimal slot ∷ [])
refusal_text (machine.NothingCached slot) = spaced (codes "nothing-cached" ∷ decimal slot ∷ [])
refusal_text (machine.Flushing slot id) = spaced (codes "flushing" ∷ decimal slot ∷ decimal id ∷ [])
refusal_text (machine.NotFlushing slot) = spaced (codes "not-flushing" ∷ decimal slot ∷ [])
refusal_text (machine.Full used wanted limit) = spaced (codes "full" ∷ decimal used ∷ decimal wanted ∷ decimal limit ∷ [])
refusal_text (machine.NoCell limit) = spaced (codes "no-cell" ∷ decimal limit ∷ [])
refusal_text machine.IdsSpent = codes "ids-spent"
refusal_text (machine.PastRoot upto newest) = spaced (codes "past-root" ∷ decimal upto ∷ newest_text newest ∷ [])
refusal_text (machine.Leased upto least) = spaced (codes "leased" ∷ decimal upto ∷ decimal least ∷ [])
refusal_text (machine.NoStorage slot) = spaced (codes "no-storage" ∷ decimal slot ∷ [])
refusal_text (machine.Shrinking slot id) = spaced (codes "shrinking" ∷ decimal slot ∷ decimal id ∷ [])
refusal_text (machine.NothingDead slot) = spaced (codes "nothing-dead" ∷ decimal slot ∷ [])
refusal_text (machine.NotShrinking slot) = spaced (codes "not-shrinking" ∷ decimal slot ∷ [])
refusal_text (machine.SnapOpen slot) = spaced (codes "snap-open" ∷ decimal slot ∷ [])
refusal_text (machine.NotRoot slot) = spaced (codes "not-root" ∷ decimal slot ∷ [])
refusal_text (machine.SnapTooOld slot cleaned) = spaced (codes "snap-too-old" ∷ decimal slot ∷ decimal cleaned ∷ [])
refusal_text (machine.Unflushed slot) = spaced (codes "unflushed" ∷ decimal slot ∷ [])
refusal_text (machine.NotSnapping slot) = spaced (codes "not-snapping" ∷ decimal slot ∷ [])

-- a name and a number
abbrev pub count_text : List ℕ → ℕ → List ℕ
count_text name n = spaced (name ∷ decimal n ∷ [])

unfoldable pub counts_text : machine.Counts → List ℕ
counts_text c = spaced (
    count_text (codes "cached") c.cached
    ∷ count_text (codes "filling") c.filling
    ∷ count_text (codes "live") c.live
    ∷ count_text (codes "retired") c.retired
    ∷ count_text (codes "named") c.named
    ∷ count_text (codes "rows") c.rows
    ∷ count_text (codes "bytes") c.bytes
    ∷ count_text (codes "pins") c.pins
    ∷ []
    )

unfoldable pub reply_text : machine.Reply → List ℕ
reply_text machine.Done = codes "ok"
reply_text (machine.Refused refusal) = refusal_text refusal
reply_text (machine.Purged keys) = spaced (codes "ok" ∷ decimal keys ∷ [])
reply_text machine.NotFound = codes "none"
reply_text (machine.Found slot place account) = spaced (codes "some" ∷ decimal slot ∷ place_text place ∷ account_text account ∷ [])
reply_text (machine.FlushBegun id bytes) = spaced (codes "ok" ∷ decimal id ∷ decimal bytes ∷ [])
reply_text (machine.Raised cleaned) = spaced (codes "ok" ∷ decimal cleaned ∷ [])
reply_text (machine.Reclaimed key) = spaced (codes "ok" ∷ key_text key ∷ [])
reply_text machine.NothingLeft = codes "done"
reply_text (machine.ShrinkBegun old new bytes) = spaced (codes "ok" ∷ decimal old ∷ decimal new ∷ decimal bytes ∷ [])
reply_text (machine.Superseded slot old) = spaced (codes "superseded" ∷ decimal slot ∷ decimal old ∷ [])
reply_text (machine.SnapBegun storages) = spaced (codes "ok" ∷ decimal storages ∷ [])
reply_text (machine.Recycled storages) = spaced (codes "ok" ∷ decimal storages ∷ [])
reply_text (machine.Counted counts) = counts_text counts

-- the journal's line of an event: the lane, the call, `=` and the reply
unfoldable pub text_of : machine.Event → List ℕ
text_of e = spaced (decimal e.pass ∷ call_text e.call ∷ codes "=" ∷ reply_text e.reply ∷ []) ++ 10 ∷ []

-- the lines of a history
abbrev pub journal_of : List machine.Event → List ℕ
journal_of h = flat_map text_of h
