-- The reader and the grammar agree, and what is written is read.
use Rattle.std.specs.Prelude.{◌≡◌, ◌≢◌, ◌↔◌, ◌<◌, ◌-◌, ◌==◌, ℕ, false, not, List, [], ◌∷◌, ◌++◌, length, slice_index, codes, take_while, Ok}
use Rattle.std.specs.List.{All, flat_map}
use Rattle.std.specs.Str.{bytes_eq}
use Rattle.std.specs.Str.Lines.{lines}
use Rattle.script.specs.Grammar.{IsScript}
use Rattle.script.specs.Reader.{script_of}
use Rattle.script.specs.Said.{Said}
use Rattle.script.specs.Text.{spaced}
use Rattle.script.specs.Words.{is_blank, words}

-- what is read is in the grammar, and what is in the grammar is read
abbrev pub ReadsTheGrammar : Type 0
ReadsTheGrammar = (bytes : List ℕ) (said : Said) → (script_of bytes ≡ Ok said) ↔ IsScript bytes said

-- a word as it may stand in a line: not empty, and without blanks
pub record IsWord (w : List ℕ) : Type 0 where
  pub some : 0 < length w
  pub whole : All (λ b. is_blank b ≡ false) w

-- words with single spaces between them are read as these words, up to a word `=`
abbrev pub SpacedWordsAreRead : Type 0
SpacedWordsAreRead = (ws : List (List ℕ)) → All IsWord ws → words (spaced ws) ≡ take_while (λ w. not (bytes_eq w (codes "="))) ws

-- a line as it may stand in a text: without newlines, and with no carriage return at its end
pub record IsTextLine (l : List ℕ) : Type 0 where
  pub whole : All (λ b. (b == 10) ≡ false) l
  pub unreturned : slice_index l (length l - 1) ≢ 13

-- lines that newlines end are read as these lines
abbrev pub EndedLinesAreRead : Type 0
EndedLinesAreRead = (ls : List (List ℕ)) → All IsTextLine ls → lines (flat_map (λ l. l ++ 10 ∷ []) ls) ≡ ls
