-- Numbers of eight bytes in a list of bytes, the lowest byte first.
use Rattle.std.specs.Prelude.{ℕ, ◌+◌, ◌*◌, ◌/◌, List, ◌++◌, take, drop, slice_range}
use Rattle.std.specs.Int.{w64, to_le_bytes, from_le_bytes}

-- the eight bytes of a number
abbrev pub number_bytes : ℕ → List ℕ
number_bytes n = to_le_bytes w64 n

-- the number in the eight bytes from a place on
abbrev pub number_at : List ℕ → ℕ → ℕ
number_at bytes at = from_le_bytes w64 (slice_range bytes at (at + 8))

-- the bytes with a number's written over the eight from a place on
abbrev pub with_number : List ℕ → ℕ → ℕ → List ℕ
with_number bytes at value = take at bytes ++ number_bytes value ++ drop (at + 8) bytes

-- the least multiple of eight that is not below n
abbrev pub rounded : ℕ → ℕ
rounded n = 8 * ((n + 7) / 8)
