-- What is printed is read again, and what is read.
use Rattle.std.specs.Prelude.{◌≡◌, ◌↔◌, ◌<◌, ◌^◌, ℕ, List, length, Some, IsSome}
use Rattle.std.specs.Fmt.{decimal}
use Rattle.hex.specs.Hex.{IsBytes}
use Rattle.text_fields.specs.Numbers.{IsNumberWord, number_of}
use Rattle.text_fields.specs.Names.{IsNameWord, name_of}
use Rattle.text_fields.specs.Keys.{IsKeyWord, key_of, key_text}

-- a number's text is read as the number
abbrev pub NumberTextsAreNumbers : Type 0
NumberTextsAreNumbers = (n : ℕ) → n < 2 ^ 64 → number_of (decimal n) ≡ Some n

-- a word is read as a number exactly where it is that number's
abbrev pub NumberWordsAreNumbers : Type 0
NumberWordsAreNumbers = (w : List ℕ) (n : ℕ) → (number_of w ≡ Some n) ↔ IsNumberWord w n

-- the text of a 32-byte value is read as the value
abbrev pub KeyTextsAreKeys : Type 0
KeyTextsAreKeys = (k : List ℕ) → length k ≡ 32 → IsBytes k → key_of (key_text k) ≡ Some k

-- a word is read as a 32-byte value exactly where it is such a word
abbrev pub KeyWordsAreKeys : Type 0
KeyWordsAreKeys = (w : List ℕ) → IsSome (key_of w) ↔ IsKeyWord w

-- a word is read as a name exactly where it is one, and is itself that name
abbrev pub NameWordsAreNames : Type 0
NameWordsAreNames = (w name : List ℕ) → (name_of w ≡ Some name) ↔ IsNameWord w name
