-- The words that name snapshots.
use Rattle.std.specs.Prelude.{◌≡◌, ◌≢◌, ◌≤◌, ◌==◌, nat_lt, nat_le, ◌&&◌, ◌||◌, not, Bool, ℕ, List, length, slice_index, Option, Some, None, if◌then◌else◌}
use Rattle.std.specs.Char.{is_ascii_alphanumeric}
use Rattle.std.specs.List.{AllPass, list_all}

-- a character that a name may have: a letter, a digit, '_' or '-'
abbrev pub is_name_char : ℕ → Bool
is_name_char c = is_ascii_alphanumeric c || (c == 95 || c == 45)

-- 1 to 64 such characters, of which the first is not '-'
abbrev pub is_name : List ℕ → Bool
is_name w = nat_lt 0 (length w) && (nat_le (length w) 64 && (not (slice_index w 0 == 45) && list_all (λ c. is_name_char c) w))

-- the name that a word is, which is the word itself
unfoldable pub name_of : List ℕ → Option (List ℕ)
name_of w = if is_name w then Some w else None

-- the same as facts on the word and its name
pub record IsNameWord (w name : List ℕ) : Type 0 where
  pub some : 1 ≤ length w
  pub most : length w ≤ 64
  pub first : slice_index w 0 ≢ 45
  pub chars : AllPass (λ c. is_name_char c) w
  pub itself : name ≡ w
