-- The words of a line.
use Rattle.std.specs.Prelude.{ℕ, ◌==◌, nat_lt, ◌||◌, not, Bool, true, List, [], ◌∷◌, length, slice_index, codes, filter, take_while}
use Rattle.std.specs.List.{slice_split}
use Rattle.std.specs.Str.{bytes_eq}

-- space and tab
abbrev pub is_blank : ℕ → Bool
is_blank b = b == 32 || b == 9

-- the pieces between blanks that are not empty
abbrev pub pieces : List ℕ → List (List ℕ)
pieces line = filter (λ w. nat_lt 0 (length w)) (slice_split (λ b. is_blank b) line)

-- a word `=` and all after it do not count
unfoldable pub words : List ℕ → List (List ℕ)
words line = take_while (λ w. not (bytes_eq w (codes "="))) (pieces line)

-- a line without words, or a comment, which begins with `#`
abbrev pub is_skipped : List (List ℕ) → Bool
is_skipped [] = true
is_skipped (w ∷ ws) = slice_index w 0 == 35
