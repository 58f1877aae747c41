-- What the program's values stand for.
use Rattle.std.specs.Prelude.{◌≡◌, ◌+◌, ℕ, length, map, Result, Ok, Err, option_map, string_bytes}
use Rattle.std.specs.Str.Lines.{lines}
use Rattle.adb_model.specs.Seen.{call_of}
use Rattle.script.specs.declared.fault.WordFault.{WordFault}
use Rattle.script.specs.declared.fault.LineFault.{LineFault}
use Rattle.script.specs.declared.fault.ReadError.{ReadError}
use Rattle.script.specs.declared.fault.ReadError.TheVariants as read_errors
use Rattle.script.specs.declared.fault.LineError.{LineError}
use Rattle.script.specs.declared.fault.LineError.TheVariants as line_errors
use Rattle.script.specs.declared.line.Order.{Order}
use Rattle.script.specs.declared.line.Order.TheVariants as orders
use Rattle.script.specs.declared.line.Line.{Line}
use Rattle.script.specs.declared.line.Script.{Script}
use Rattle.script.specs.declared.parsing.Rest.{Rest}
use Rattle.script.specs.Reader.{Numbered}
use Rattle.script.specs.Said as said
use Rattle.script.specs.Said.{Said}

abbrev pub order_seen : Order → said.Order
order_seen (orders.Event call) = said.Plain (call_of call)
order_seen (orders.Get view key) = said.Get view key.0
order_seen (orders.Flush slot workers) = said.Flush slot workers
order_seen (orders.Clean upto) = said.Clean upto
order_seen (orders.Shrink slot) = said.Shrink slot
order_seen (orders.Snap slot name) = said.Snap slot (string_bytes name)

abbrev pub line_seen : Line → said.Line
line_seen l = record { lane = l.lane; order = order_seen l.order }

-- the lines that are left
abbrev pub rest_seen : Rest → Numbered
rest_seen rest = (rest.number, lines rest.bytes.now)

-- none of them has a greater number
abbrev pub most_number : Rest → ℕ
most_number rest = rest.number + length rest.bytes.now

-- what a script says
abbrev pub script_seen : Script → Said
script_seen s = record { budget = s.budget; opened = option_map string_bytes s.opened; lines = map line_seen s.lines.items }

-- what a function answered, seen so, is what the reader gives, unless memory ran out
abbrev pub Fails : {Y : Type 0} → ReadError → Result Y WordFault → Type 0
Fails read_errors.Memory read = Unit {0}
Fails (read_errors.Fault f) read = read ≡ Err f

abbrev pub Gives : {X Y : Type 0} → (X → Y) → Result X ReadError → Result Y WordFault → Type 0
Gives view (Ok x) read = read ≡ Ok (view x)
Gives view (Err e) read = Fails e read

-- the same of a whole script
abbrev pub FailsScript : {Y : Type 0} → LineError → Result Y LineFault → Type 0
FailsScript line_errors.Memory read = Unit {0}
FailsScript (line_errors.Fault f) read = read ≡ Err f

abbrev pub GivesScript : {X Y : Type 0} → (X → Y) → Result X LineError → Result Y LineFault → Type 0
GivesScript view (Ok x) read = read ≡ Ok (view x)
GivesScript view (Err e) read = FailsScript e read

-- the error of a line's word, by the line's number
abbrev pub error_at : ℕ → ReadError → LineError
error_at line read_errors.Memory = line_errors.Memory
error_at line (read_errors.Fault f) = line_errors.Fault (record { line = line; word = f.word; kind = f.kind })
