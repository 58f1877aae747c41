-- What the values of two digits, looked up, say of a pair.
use Rattle.std.proofs.Common.{◌≡◌, ℕ, ◌+◌, ◌*◌, ◌<◌, ◌≤◌, Option, Some, None, Ok, Err, refl, sym, ap, ◌∙◌, arith}
use Rattle.std.specs.Prelude.{unwrap_or}
use Rattle.hex.specs.Hex.{digit_or_error, hex_digit_value, pair_value, value_at}
use Rattle.hex.specs.declared.error.FromHexError.{FromHexError}
use Rattle.hex.specs.declared.error.FromHexError.TheVariants.{InvalidHexCharacter}

hex_digit_value-small : (c v : ℕ) → hex_digit_value c ≡ Some v → v < 16
hex_digit_value-small c v h = grind (arith)

from_value : (c i v : ℕ) (o : Option ℕ) → hex_digit_value c ≡ o → v ≡ unwrap_or o 16 → v < 16 → value_at c i ≡ Ok v
from_value c i v None is e lt = absurd (omega arith)
from_value c i v (Some w) is e lt = ap (digit_or_error c i) is ∙ ap Ok (sym e)

-- a digit that was found
digit_found : (c i v : ℕ) → v ≡ unwrap_or (hex_digit_value c) 16 → v < 16 → value_at c i ≡ Ok v
digit_found c i v e lt = from_value c i v (hex_digit_value c) refl e lt

from_none : (c i v : ℕ) (o : Option ℕ) → hex_digit_value c ≡ o → v ≡ unwrap_or o 16 → 16 ≤ v → value_at c i ≡ Err (InvalidHexCharacter c i)
from_none c i v None is e le = ap (digit_or_error c i) is
from_none c i v (Some w) is e le = absurd (omega (arith, hex_digit_value-small c w is))

-- what is no digit
no_digit : (c i v : ℕ) → v ≡ unwrap_or (hex_digit_value c) 16 → 16 ≤ v → value_at c i ≡ Err (InvalidHexCharacter c i)
no_digit c i v e le = from_none c i v (hex_digit_value c) refl e le

module _ (a b x y : ℕ) (first : x ≡ unwrap_or (hex_digit_value a) 16) (second : y ≡ unwrap_or (hex_digit_value b) 16) where
  -- two digits
  pub pair_found : x < 16 → y < 16 → (i : ℕ) → pair_value a b i ≡ Ok (x * 16 + y)
  pair_found lx ly i = rw (digit_found a i x first lx, digit_found b (i + 1) y second ly) refl

  -- the first is none
  pub first_no_digit : 16 ≤ x → (i : ℕ) → (e : FromHexError) × (pair_value a b i ≡ Err e)
  first_no_digit le i = (InvalidHexCharacter a i, rw (no_digit a i x first le) refl)

  -- the second is none
  pub second_no_digit : x < 16 → 16 ≤ y → (i : ℕ) → (e : FromHexError) × (pair_value a b i ≡ Err e)
  second_no_digit lx le i = (InvalidHexCharacter b (i + 1), rw (digit_found a i x first lx, no_digit b (i + 1) y second le) refl)
