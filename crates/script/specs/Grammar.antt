-- Scripts, as relations on lines and words.
use Rattle.std.specs.Prelude.{◌≡◌, ◌≤◌, ℕ, Bool, not, List, [], ◌∷◌, ◌++◌, length, drop, codes, filter, map, Option, Some, None}
use Rattle.std.specs.Str.Lines.{lines}
use Rattle.adb_model.specs.Account.{Account, account_of}
use Rattle.adb_model.specs.Call.{Store, Root, Purge, Load, Unpin, Lease, EndLease, FlushBegin, FlushEnd, FlushAbort, Raise, Reclaim, ShrinkBegin, ShrinkEnd, ShrinkAbort, SnapBegin, SnapEnd, Recycle, Stats}
use Rattle.adb_model.specs.View.{View}
use Rattle.text_fields.specs.Keys.{key_of}
use Rattle.text_fields.specs.Names.{name_of}
use Rattle.text_fields.specs.Numbers.{number_of}
use Rattle.script.specs.Data.{IsData}
use Rattle.script.specs.Said.{Order, Plain, Get, Flush, Clean, Shrink, Snap, Line, Said}
use Rattle.script.specs.Text.{flag_text}
use Rattle.script.specs.Views.{IsMaxRoot, IsView}
use Rattle.script.specs.Words.{words, is_skipped}

-- some words, and the last of these defaults for those that are left out
abbrev pub filled : List (List ℕ) → List (List ℕ) → List (List ℕ)
filled defaults ws = ws ++ drop (length ws) defaults

-- owner, executable, rent epoch and data of a store that does not say them
abbrev pub store_defaults : List (List ℕ)
store_defaults = codes "00" ∷ codes "0" ∷ codes "0" ∷ codes "-" ∷ []

-- the four words that say them
pub record AreFurther (ws : List (List ℕ)) (owner : List ℕ) (executable : Bool) (rent_epoch : ℕ) (bytes : List ℕ) : Type 0 where
  pub owner_word : List ℕ
  pub epoch_word : List ℕ
  pub data_word : List ℕ
  pub words : ws ≡ owner_word ∷ flag_text executable ∷ epoch_word ∷ data_word ∷ []
  pub owner_is : key_of owner_word ≡ Some owner
  pub epoch_is : number_of epoch_word ≡ Some rent_epoch
  pub data_is : IsData data_word bytes

-- `store SLOT KEY LAMPORTS [OWNER [EXEC [EPOCH [DATA]]]]`
pub record IsStore (ws : List (List ℕ)) (slot : ℕ) (key : List ℕ) (account : Account) : Type 0 where
  pub slot_word : List ℕ
  pub key_word : List ℕ
  pub lamports_word : List ℕ
  pub further : List (List ℕ)
  pub lamports : ℕ
  pub owner : List ℕ
  pub executable : Bool
  pub rent_epoch : ℕ
  pub bytes : List ℕ
  pub words : ws ≡ codes "store" ∷ slot_word ∷ key_word ∷ lamports_word ∷ further
  pub slot_is : number_of slot_word ≡ Some slot
  pub key_is : key_of key_word ≡ Some key
  pub lamports_is : number_of lamports_word ≡ Some lamports
  pub further_are : AreFurther (filled store_defaults further) owner executable rent_epoch bytes
  pub account_is : account_of lamports owner executable rent_epoch bytes ≡ account

-- a command and a number
pub record IsOfNumber (command : List ℕ) (ws : List (List ℕ)) (number : ℕ) : Type 0 where
  pub number_word : List ℕ
  pub words : ws ≡ command ∷ number_word ∷ []
  pub number_is : number_of number_word ≡ Some number

-- a command, a view and a key
pub record IsOfView (command : List ℕ) (ws : List (List ℕ)) (view : View) (key : List ℕ) : Type 0 where
  pub view_word : List ℕ
  pub key_word : List ℕ
  pub words : ws ≡ command ∷ view_word ∷ key_word ∷ []
  pub view_is : IsView view_word view
  pub key_is : key_of key_word ≡ Some key

-- the workers of a flush that does not say them
abbrev pub flush_defaults : List (List ℕ)
flush_defaults = codes "1" ∷ []

-- a number from 1 to this one
pub record IsUpTo (greatest : ℕ) (w : List ℕ) (count : ℕ) : Type 0 where
  pub number : number_of w ≡ Some count
  pub least : 1 ≤ count
  pub most : count ≤ greatest

-- `flush SLOT [WORKERS]`
pub record IsFlush (ws : List (List ℕ)) (slot workers : ℕ) : Type 0 where
  pub slot_word : List ℕ
  pub further : List (List ℕ)
  pub workers_word : List ℕ
  pub words : ws ≡ codes "flush" ∷ slot_word ∷ further
  pub slot_is : number_of slot_word ≡ Some slot
  pub further_are : filled flush_defaults further ≡ workers_word ∷ []
  pub workers_are : IsUpTo 16 workers_word workers

-- a command and a greatest root
pub record IsOfMaxRoot (command : List ℕ) (ws : List (List ℕ)) (max_root : ℕ) : Type 0 where
  pub max_root_word : List ℕ
  pub words : ws ≡ command ∷ max_root_word ∷ []
  pub max_root_is : IsMaxRoot max_root_word max_root

-- `-`, or a key
abbrev pub IsAfter : List ℕ → Option (List ℕ) → Type 0
IsAfter w None = w ≡ codes "-"
IsAfter w (Some key) = key_of w ≡ Some key

-- `reclaim AFTER MOST`, of at most 256 keys
pub record IsReclaim (ws : List (List ℕ)) (after : Option (List ℕ)) (most : ℕ) : Type 0 where
  pub after_word : List ℕ
  pub most_word : List ℕ
  pub words : ws ≡ codes "reclaim" ∷ after_word ∷ most_word ∷ []
  pub after_is : IsAfter after_word after
  pub most_is : IsUpTo 256 most_word most

-- `snap SLOT NAME`
pub record IsSnap (ws : List (List ℕ)) (slot : ℕ) (name : List ℕ) : Type 0 where
  pub slot_word : List ℕ
  pub name_word : List ℕ
  pub words : ws ≡ codes "snap" ∷ slot_word ∷ name_word ∷ []
  pub slot_is : number_of slot_word ≡ Some slot
  pub name_is : name_of name_word ≡ Some name

-- the words after the lane
abbrev pub IsOrder : List (List ℕ) → Order → Type 0
IsOrder ws (Plain (Store slot key account)) = IsStore ws slot key account
IsOrder ws (Plain (Root slot)) = IsOfNumber (codes "root") ws slot
IsOrder ws (Plain (Purge slot)) = IsOfNumber (codes "purge") ws slot
IsOrder ws (Plain (Load view key)) = IsOfView (codes "load") ws view key
IsOrder ws (Plain (Unpin id)) = IsOfNumber (codes "unpin") ws id
IsOrder ws (Plain (Lease max_root)) = IsOfMaxRoot (codes "lease") ws max_root
IsOrder ws (Plain (EndLease max_root)) = IsOfMaxRoot (codes "end-lease") ws max_root
IsOrder ws (Plain (FlushBegin slot)) = IsOfNumber (codes "flush-begin") ws slot
IsOrder ws (Plain (FlushEnd slot)) = IsOfNumber (codes "flush-end") ws slot
IsOrder ws (Plain (FlushAbort slot)) = IsOfNumber (codes "flush-abort") ws slot
IsOrder ws (Plain (Raise upto)) = IsOfNumber (codes "raise") ws upto
IsOrder ws (Plain (Reclaim after most)) = IsReclaim ws after most
IsOrder ws (Plain (ShrinkBegin slot)) = IsOfNumber (codes "shrink-begin") ws slot
IsOrder ws (Plain (ShrinkEnd slot)) = IsOfNumber (codes "shrink-end") ws slot
IsOrder ws (Plain (ShrinkAbort slot)) = IsOfNumber (codes "shrink-abort") ws slot
IsOrder ws (Plain (SnapBegin slot)) = IsOfNumber (codes "snap-begin") ws slot
IsOrder ws (Plain (SnapEnd slot)) = IsOfNumber (codes "snap-end") ws slot
IsOrder ws (Plain Recycle) = ws ≡ codes "recycle" ∷ []
IsOrder ws (Plain Stats) = ws ≡ codes "stats" ∷ []
IsOrder ws (Get view key) = IsOfView (codes "get") ws view key
IsOrder ws (Flush slot workers) = IsFlush ws slot workers
IsOrder ws (Clean upto) = IsOfNumber (codes "clean") ws upto
IsOrder ws (Shrink slot) = IsOfNumber (codes "shrink") ws slot
IsOrder ws (Snap slot name) = IsSnap ws slot name

-- the words of a line: a lane from 1 to 64, and what it is to do
pub record IsLine (ws : List (List ℕ)) (line : Line) : Type 0 where
  pub lane_word : List ℕ
  pub order_words : List (List ℕ)
  pub words : ws ≡ lane_word ∷ order_words
  pub lane_is : number_of lane_word ≡ Some line.lane
  pub least : 1 ≤ line.lane
  pub most : line.lane ≤ 64
  pub order : IsOrder order_words line.order

-- each of them is that line
abbrev pub AreLines : List (List (List ℕ)) → List Line → Type 0
AreLines [] [] = Unit {0}
AreLines (ws ∷ rest) (line ∷ lines) = IsLine ws line × AreLines rest lines
AreLines [] (line ∷ lines) = ⊥
AreLines (ws ∷ rest) [] = ⊥

-- `open NAME`
pub record IsOpen (ws : List (List ℕ)) (name : List ℕ) : Type 0 where
  pub name_word : List ℕ
  pub words : ws ≡ codes "open" ∷ name_word ∷ []
  pub name_is : name_of name_word ≡ Some name

-- `open NAME` is the first of them, where a snapshot is opened; the others are the lines
abbrev pub AreOpened : List (List (List ℕ)) → Option (List ℕ) → List Line → Type 0
AreOpened wss None lines = AreLines wss lines
AreOpened (ws ∷ rest) (Some name) lines = IsOpen ws name × AreLines rest lines
AreOpened [] (Some name) lines = ⊥

-- `budget N` is the first of them, where there is a budget; the others are `open NAME`, if there is one, and the lines
abbrev pub AreSaid : List (List (List ℕ)) → Option ℕ → Option (List ℕ) → List Line → Type 0
AreSaid wss None opened lines = AreOpened wss opened lines
AreSaid (ws ∷ rest) (Some budget) opened lines = IsOfNumber (codes "budget") ws budget × AreOpened rest opened lines
AreSaid [] (Some budget) opened lines = ⊥

-- the lines of some bytes, each as its words, but for those that are skipped
abbrev pub spoken : List (List ℕ) → List (List (List ℕ))
spoken ls = filter (λ ws. not (is_skipped ws)) (map words ls)

-- the bytes are a script that says this
abbrev pub IsScript : List ℕ → Said → Type 0
IsScript bytes said = AreSaid (spoken (lines bytes)) said.budget said.opened said.lines

-- the bytes are no script
abbrev pub IsNoScript : List ℕ → Type 0
IsNoScript bytes = (said : Said) → ¬ IsScript bytes said
