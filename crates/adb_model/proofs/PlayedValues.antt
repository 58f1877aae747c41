-- Short words for what stands in played histories, and their keys and accounts.
use Rattle.std.proofs.Common.{ℕ, true, false, List, [], ◌∷◌, map, replicate}
use Rattle.adb_model.specs.Account.{Account, account_of}
use Rattle.adb_model.specs.State.{Filling, Live, Retired, Phase, Row, State, fresh}
use Rattle.adb_model.specs.State as state
use Rattle.adb_model.specs.Call as call
use Rattle.adb_model.specs.Call.{Call, Reply, Event}
use Rattle.adb_model.specs.Opened.{Image}

abbrev pub counts : ℕ → ℕ → ℕ → ℕ → ℕ → ℕ → ℕ → ℕ → call.Counts
counts cached filling live retired named rows bytes pins = record {
  cached = cached;
  filling = filling;
  live = live;
  retired = retired;
  named = named;
  rows = rows;
  bytes = bytes;
  pins = pins;
}

abbrev pub stored : ℕ → List ℕ → Account → state.Stored
stored slot key account = record { slot = slot; key = key; account = account }

abbrev pub row : List ℕ → Account → Row
row key account = record { key = key; account = account }

abbrev pub storage : ℕ → ℕ → List Row → ℕ → Phase → state.Storage
storage id slot rows bytes phase = record { id = id; slot = slot; rows = rows; bytes = bytes; phase = phase }

abbrev pub pair : ℕ → List ℕ → state.Pair
pair slot key = record { slot = slot; key = key }

abbrev pub pin : ℕ → ℕ → state.Pin
pin pass id = record { pass = pass; id = id }

abbrev pub lease : ℕ → ℕ → state.Lease
lease pass max_root = record { pass = pass; max_root = max_root }

abbrev pub shrink : ℕ → ℕ → ℕ → state.Shrink
shrink slot old new = record { slot = slot; old = old; new = new }

abbrev pub snap : ℕ → List ℕ → state.Snap
snap slot ids = record { slot = slot; ids = ids }

abbrev pub image : ℕ → List Row → ℕ → Image
image slot rows bytes = record { slot = slot; rows = rows; bytes = bytes }

-- what a pass asked, and was told
abbrev pub told : ℕ → Call → Reply → Event
told pass call reply = record { pass = pass; call = call; reply = reply }

abbrev pub calls_of : List Event → List (ℕ × Call)
calls_of events = map (λ e. (e.pass, e.call)) events

abbrev pub replies_of : List Event → List Reply
replies_of events = map (λ e. e.reply) events

abbrev pub key_0 : List ℕ
key_0 = (1 ∷ replicate 31 0)

abbrev pub account_0 : Account
account_0 = account_of 1 (replicate 32 0) false 0 []

abbrev pub key_1 : List ℕ
key_1 = (2 ∷ replicate 31 0)

abbrev pub account_1 : Account
account_1 = account_of 40 (replicate 32 0) true 0 []

abbrev pub key_2 : List ℕ
key_2 = (4 ∷ replicate 31 0)

abbrev pub key_3 : List ℕ
key_3 = (0 ∷ 0 ∷ 255 ∷ replicate 29 0)

abbrev pub account_2 : Account
account_2 = account_of 18446744073709551615 (170 ∷ replicate 31 0) false 0 []

abbrev pub key_4 : List ℕ
key_4 = (replicate 32 255)

abbrev pub account_3 : Account
account_3 = account_of 7 (replicate 32 0) false 0 []

abbrev pub account_4 : Account
account_4 = account_of 7 (11 ∷ replicate 31 0) false 0 []

abbrev pub account_5 : Account
account_5 = account_of 2 (replicate 32 0) false 0 []

abbrev pub account_6 : Account
account_6 = account_of 1 (11 ∷ replicate 31 0) false 0 []

abbrev pub account_7 : Account
account_7 = account_of 40 (170 ∷ replicate 31 0) true 18446744073709551615 []

abbrev pub account_8 : Account
account_8 = account_of 2 (replicate 32 0) true 18446744073709551615 []

abbrev pub key_5 : List ℕ
key_5 = (3 ∷ replicate 31 0)

abbrev pub account_9 : Account
account_9 = account_of 40 (170 ∷ replicate 31 0) false 0 []

abbrev pub account_10 : Account
account_10 = account_of 18446744073709551615 (11 ∷ replicate 31 0) false 3 []

abbrev pub account_11 : Account
account_11 = account_of 40 (replicate 32 0) false 0 []

abbrev pub account_12 : Account
account_12 = account_of 2 (170 ∷ replicate 31 0) false 18446744073709551615 []

abbrev pub account_13 : Account
account_13 = account_of 18446744073709551615 (replicate 32 0) false 0 []

abbrev pub account_14 : Account
account_14 = account_of 40 (11 ∷ replicate 31 0) false 0 []

abbrev pub account_15 : Account
account_15 = account_of 2 (replicate 32 0) true 0 []

abbrev pub account_16 : Account
account_16 = account_of 1 (replicate 32 0) true 3 []

abbrev pub account_17 : Account
account_17 = account_of 2 (11 ∷ replicate 31 0) false 0 []

abbrev pub account_18 : Account
account_18 = account_of 18446744073709551615 (170 ∷ replicate 31 0) true 0 []

abbrev pub account_19 : Account
account_19 = account_of 18446744073709551615 (11 ∷ replicate 31 0) false 0 []

abbrev pub account_20 : Account
account_20 = account_of 1 (170 ∷ replicate 31 0) true 3 []

abbrev pub account_21 : Account
account_21 = account_of 2 (170 ∷ replicate 31 0) false 0 []

abbrev pub account_22 : Account
account_22 = account_of 18446744073709551615 (11 ∷ replicate 31 0) true 3 (replicate 33 171)

abbrev pub account_23 : Account
account_23 = account_of 1 (11 ∷ replicate 31 0) true 18446744073709551615 []

abbrev pub account_24 : Account
account_24 = account_of 3 (replicate 32 0) false 0 []

abbrev pub account_25 : Account
account_25 = account_of 7 (170 ∷ replicate 31 0) false 3 (170 ∷ [])

abbrev pub account_26 : Account
account_26 = account_of 40 (11 ∷ replicate 31 0) false 18446744073709551615 []

abbrev pub account_27 : Account
account_27 = account_of 1 (170 ∷ replicate 31 0) false 18446744073709551615 (170 ∷ [])

abbrev pub account_28 : Account
account_28 = account_of 2 (replicate 32 0) true 3 (replicate 32 205)

abbrev pub account_29 : Account
account_29 = account_of 18446744073709551615 (11 ∷ replicate 31 0) false 3 (171 ∷ 205 ∷ [])

abbrev pub account_30 : Account
account_30 = account_of 1 (170 ∷ replicate 31 0) false 0 []

abbrev pub account_31 : Account
account_31 = account_of 7 (170 ∷ replicate 31 0) true 0 []

abbrev pub account_32 : Account
account_32 = account_of 2 (11 ∷ replicate 31 0) true 0 []

abbrev pub account_33 : Account
account_33 = account_of 18446744073709551615 (11 ∷ replicate 31 0) true 0 []

abbrev pub account_34 : Account
account_34 = account_of 2 (11 ∷ replicate 31 0) false 3 (replicate 33 171)

abbrev pub account_35 : Account
account_35 = account_of 18446744073709551615 (replicate 32 0) true 3 []

abbrev pub account_36 : Account
account_36 = account_of 1 (11 ∷ replicate 31 0) true 0 []

abbrev pub account_37 : Account
account_37 = account_of 7 (replicate 32 0) true 0 []

abbrev pub account_38 : Account
account_38 = account_of 18446744073709551615 (replicate 32 0) false 3 []

abbrev pub account_39 : Account
account_39 = account_of 1 (11 ∷ replicate 31 0) true 3 (0 ∷ [])

abbrev pub account_40 : Account
account_40 = account_of 6 (replicate 32 0) false 0 []

abbrev pub account_41 : Account
account_41 = account_of 40 (170 ∷ replicate 31 0) false 18446744073709551615 []

abbrev pub account_42 : Account
account_42 = account_of 5 (replicate 32 0) false 0 []

abbrev pub account_43 : Account
account_43 = account_of 40 (11 ∷ replicate 31 0) true 3 []

abbrev pub account_44 : Account
account_44 = account_of 18446744073709551615 (replicate 32 0) false 18446744073709551615 []

abbrev pub account_45 : Account
account_45 = account_of 7 (11 ∷ replicate 31 0) true 18446744073709551615 []

abbrev pub account_46 : Account
account_46 = account_of 7 (11 ∷ replicate 31 0) false 3 (171 ∷ 205 ∷ [])

abbrev pub account_47 : Account
account_47 = account_of 1 (170 ∷ replicate 31 0) true 0 []

abbrev pub account_48 : Account
account_48 = account_of 40 (170 ∷ replicate 31 0) true 0 []
