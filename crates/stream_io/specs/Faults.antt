-- What the faults of streams say.
use Rattle.std.specs.Prelude.{◌≡◌, ℕ, ◌+◌, ◌≤◌, List, ◌++◌, codes, decimal}
use Rattle.stream_io.specs.declared.fault.ReadFault.{ReadFault}
use Rattle.stream_io.specs.declared.fault.ReadFault.TheVariants.{Failed, TooLong, NoMemory}

-- so many bytes were taken before this fault, by a call that keeps at most `most`
abbrev pub TakenBefore : ReadFault → ℕ → ℕ → Type 0
TakenBefore Failed most count = count ≤ most
TakenBefore (TooLong m) most count = count ≡ most + 1
TakenBefore NoMemory most count = count ≤ most

-- a fault in words
abbrev pub fault_text : ReadFault → List ℕ
fault_text Failed = codes "a read failed"
fault_text (TooLong most) = codes "more than " ++ decimal most ++ codes " bytes"
fault_text NoMemory = codes "no memory"
