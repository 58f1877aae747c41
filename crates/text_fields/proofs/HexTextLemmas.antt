-- Texts of bytes in hexadecimal.
use Rattle.std.proofs.Common.{◌≡◌, ℕ, List, [], ◌∷◌, ◌++◌, length, take, drop, refl, sym, ap, ◌∙◌, append_assoc, append-nil, ltb, ◌/◌, ◌%◌, arith}
use Rattle.std.specs.Prelude.{slice_index}
use Rattle.std.specs.Str.{IsUtf8}
use Rattle.std.proofs.lemmas.List.{take-append-drop}
use Rattle.std.proofs.lemmas.Str.{IsUtf8-from_ascii}
use Rattle.std.proofs.lemmas.Str.Ascii.{IsAscii-from_all}
use Rattle.std.proofs.lemmas.Bool.{ltb-true}
use Rattle.std.proofs.lemmas.List.Sums.{AllPass-from_list_all}
use Rattle.hex.specs.Hex.{encode_with, encode_lower, lower_digits}
use Rattle.hex.proofs.HexLemmas.{IsAscii-encode_with}

-- digits are text
pub digits_are_text : (bytes digits : List ℕ) → digits ≡ encode_lower bytes → IsUtf8 digits
digits_are_text bytes digits is = rw is (IsUtf8-from_ascii (encode_lower bytes) (IsAscii-encode_with lower_digits bytes (IsAscii-from_all lower_digits (λ k d lt. ltb-true _ _ (AllPass-from_list_all (λ b. ltb b 128) lower_digits refl k d lt)))))

joined : (table xs ys : List ℕ) → encode_with table (xs ++ ys) ≡ encode_with table xs ++ encode_with table ys
unfolding encode_with
joined table [] ys = refl
joined table (x ∷ xs) ys = ap (λ (ds : List ℕ). slice_index table (x / 16) ∷ slice_index table (x % 16) ∷ ds) (joined table xs ys)

-- a front, and what follows it
piece_by_piece : (n : ℕ) (bytes : List ℕ) → encode_lower bytes ≡ encode_lower (take n bytes) ++ encode_lower (drop n bytes)
piece_by_piece n bytes = ap encode_lower (sym (take-append-drop n bytes)) ∙ joined lower_digits (take n bytes) (drop n bytes)

-- what is put, piece by piece
pub more_put : (n : ℕ) (text more whole bytes : List ℕ) → text ++ encode_lower bytes ≡ whole → more ≡ text ++ encode_lower (take n bytes) → more ++ encode_lower (drop n bytes) ≡ whole
more_put n text more whole bytes so_far is =
    ap (λ (t : List ℕ). t ++ encode_lower (drop n bytes)) is ∙ append_assoc text (encode_lower (take n bytes)) (encode_lower (drop n bytes))
    ∙ ap (λ (t : List ℕ). text ++ t) (sym (piece_by_piece n bytes)) ∙ so_far

pub all_put : (text whole bytes : List ℕ) → text ++ encode_lower bytes ≡ whole → length bytes ≡ 0 → text ≡ whole
unfolding encode_with
all_put text whole [] so_far none = sym (append-nil text) ∙ so_far
all_put text whole (b ∷ bytes) so_far none = absurd (omega arith)
