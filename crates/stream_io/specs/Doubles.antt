-- A source and a sink in memory, which fail at listed calls.
use Rattle.std.specs.Prelude.{ℕ, List, Contains}
use Rattle.std.specs.declared.result.Result.{Result}
use Rattle.stream_io.specs.Stream.{raised, faults_after}

-- how many calls were made, the numbers of those that fail, and how often one failed
pub record Calls : Type 0 where
  pub made : ℕ
  pub failing : List ℕ
  pub faults : ℕ

-- before the first call
abbrev pub no_calls : List ℕ → Calls
no_calls failing = record { made = 0; failing = failing; faults = 0 }

-- the next call is one of those that fail
abbrev pub IsListed : Calls → Type 0
IsListed calls = Contains calls.failing calls.made

-- after one more call, which answered this
abbrev pub after : {T E : Type 0} → Calls → Result T E → Calls
after calls result = record {
  made = raised calls.made;
  failing = calls.failing;
  faults = faults_after calls.faults result;
}

-- a source in memory: the bytes that it has left
pub record SourceState : Type 0 where
  pub left : List ℕ
  pub calls : Calls

-- a sink in memory: the bytes that it has taken, and how many more it takes
pub record SinkState : Type 0 where
  pub taken : List ℕ
  pub room : ℕ
  pub calls : Calls
