-- Rows of the image that a cell has.
use Rattle.std.proofs.Common.{◌≡◌, ℕ, Option, Some, None, option_map, option_and_then, is_some, sym, ap, subst}
use Rattle.std.proofs.lemmas.Bool.{true≢false}
use Rattle.std.proofs.lemmas.Option.{same_Some}
use Rattle.vec_scan.specs.Image.{Image}
use Rattle.vec_scan.specs.Seal.{row_there}
use Rattle.adb_model.specs.State.{Row}
use Rattle.book_parts.specs.Parts.{Shared}

-- a row that is found in a cell stands in its image
pub row_of_image : (o : Option Shared) (image : Image) (offset : ℕ) (row : Row) → option_map (λ s. s.value) o ≡ Some image → option_and_then (λ s. row_there s.value.rows offset) o ≡ Some row
    → row_there image.rows offset ≡ Some row
row_of_image None image offset row has found = absurd (true≢false (sym (ap is_some found)))
row_of_image (Some s) image offset row has found = subst (λ (i : Image). row_there i.rows offset ≡ Some row) (same_Some s.value image has) found
