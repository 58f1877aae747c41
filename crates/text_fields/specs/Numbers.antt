-- The words of numbers.
use Rattle.std.specs.Prelude.{◌≡◌, ◌<◌, ◌≤◌, ◌^◌, ◌&&◌, nat_lt, nat_le, Bool, ℕ, List, length, Option, Some, None, if◌then◌else◌}
use Rattle.std.specs.Char.{is_ascii_digit}
use Rattle.std.specs.List.{AllPass, list_all}
use Rattle.std.specs.Str.Parse.{digits_value}

-- 1 to 20 decimal digits, leading zeros allowed, whose value is below 2 ^ 64
abbrev pub is_number : List ℕ → Bool
is_number w = nat_lt 0 (length w) && (nat_le (length w) 20 && (list_all (λ b. is_ascii_digit b) w && nat_lt (digits_value 10 w) (2 ^ 64)))

-- the number that a word is
unfoldable pub number_of : List ℕ → Option ℕ
number_of w = if is_number w then Some (digits_value 10 w) else None

-- the same as facts on the word and its number
pub record IsNumberWord (w : List ℕ) (n : ℕ) : Type 0 where
  pub some : 0 < length w
  pub most : length w ≤ 20
  pub digits : AllPass (λ b. is_ascii_digit b) w
  pub value : digits_value 10 w ≡ n
  pub fits : n < 2 ^ 64
