-- Readers and writers of std that count their faults.
use Rattle.std.specs.Prelude.{ℕ, Bool}

-- a reader or a writer, and how often it failed
pub record Counted (S : Type 0) : Type 0 where
  pub inner : S
  pub faults : ℕ

-- a writer, how often it failed, and whether it holds nothing back
pub record CountedSink (W : Type 0) : Type 0 where
  pub inner : W
  pub faults : ℕ
  pub flushed : Bool
