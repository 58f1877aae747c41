-- A file that is read next.
use Rattle.std.proofs.Common.{◌≡◌, List, [], ◌∷◌, ◌++◌, All, Option, Some, None, is_some, true, subst, sym}
use Rattle.std.specs.Prelude.{IfSome}
use Rattle.std.proofs.lemmas.List.Elements.{All-head, All-tail}
use Rattle.dir_io.specs.Files.{Files, file_of}
use Rattle.field_codec.specs.Forms.{NamedFile}

-- where all files of a form are there
abbrev pub AreThere : List NamedFile → Files → Type 0
AreThere files told = All (λ file. is_some (file_of told file.path) ≡ true) files

at : (P : NamedFile → Type 0) (front : List NamedFile) (file : NamedFile) (rest : List NamedFile) → All P (front ++ file ∷ rest) → P file
at P [] file rest all = All-head P file rest all
at P (x ∷ front) file rest all = at P front file rest (All-tail P x (front ++ file ∷ rest) all)

pub next_there : (old now : Option Files) (front : List NamedFile) (file : NamedFile) (rest whole : List NamedFile) → now ≡ old → front ++ file ∷ rest ≡ whole → IfSome old (AreThere whole) → IfSome now (λ told. is_some (file_of told file.path) ≡ true)
next_there None now front file rest whole same parts all = subst (λ (o : Option Files). IfSome o (λ told. is_some (file_of told file.path) ≡ true)) (sym same) tt
next_there (Some told) now front file rest whole same parts all =
    subst (λ (o : Option Files). IfSome o (λ t. is_some (file_of t file.path) ≡ true)) (sym same)
    (at (λ f. is_some (file_of told f.path) ≡ true) front file rest (subst (λ (l : List NamedFile). AreThere l told) (sym parts) all))
