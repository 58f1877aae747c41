-- Places rounded up to multiples of eight.
use Rattle.std.proofs.Common.{◌≡◌, ℕ, ◌+◌, ◌%◌, ◌≤◌, arith}
use Rattle.le_fields.specs.Fields.{rounded}

pub rounded_from : (at n : ℕ) → at % 8 ≡ 0 → rounded (at + n) ≡ at + rounded n
rounded_from at n is = omega arith

pub rounded-mod : (n : ℕ) → rounded n % 8 ≡ 0
rounded-mod n = omega arith

pub rounded_at : (n : ℕ) → n % 8 ≡ 0 → rounded n ≡ n
rounded_at n is = omega arith

pub le-rounded : (n : ℕ) → n ≤ rounded n
le-rounded n = omega arith
