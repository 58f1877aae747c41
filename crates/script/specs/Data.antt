-- The words of data.
use Rattle.std.specs.Prelude.{◌≡◌, ◌≤◌, ◌⊎◌, ℕ, List, [], ◌∷◌, ◌++◌, length, replicate, codes, Some, Ok}
use Rattle.hex.specs.Hex.{decode_of}
use Rattle.text_fields.specs.Numbers.{number_of}

-- one or more bytes in hexadecimal
pub record AreDigits (w : List ℕ) (bytes : List ℕ) : Type 0 where
  pub some : 1 ≤ length bytes
  pub digits : decode_of w ≡ Ok bytes

-- `LEN*BB`: so many bytes, all of them BB
pub record IsRepeat (w : List ℕ) (bytes : List ℕ) : Type 0 where
  pub len_word : List ℕ
  pub byte_word : List ℕ
  pub len : ℕ
  pub byte : ℕ
  pub joined : w ≡ len_word ++ 42 ∷ byte_word
  pub len_is : number_of len_word ≡ Some len
  pub byte_is : decode_of byte_word ≡ Ok (byte ∷ [])
  pub bytes_are : replicate len byte ≡ bytes

-- `-`, or one of the two, with at most as many bytes as an account has
pub record IsData (w : List ℕ) (bytes : List ℕ) : Type 0 where
  pub form : ((w ≡ codes "-") × (bytes ≡ [])) ⊎ (AreDigits w bytes ⊎ IsRepeat w bytes)
  pub most : length bytes ≤ 10485760
