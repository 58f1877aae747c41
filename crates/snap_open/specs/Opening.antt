-- What a book that was opened from a snapshot stands for.
use Rattle.std.specs.Prelude.{ℕ, List, [], Option, IfSome}
use Rattle.adb_model.specs.Laws.{MayOpen}
use Rattle.adb_model.specs.Opened as machine
use Rattle.adb_model.specs.Opened.{opened}
use Rattle.dir_io.specs.Files.{Files}
use Rattle.book_parts.specs.Parts.{Parts}
use Rattle.book_parts.specs.Stands.{Stands}
use Rattle.snap_write.specs.Snapshot.{HoldsSnapshot}

-- the book stands for the state opened from these images and further slots, which are those of the snapshot of this slot that the
-- files hold, where they are told
pub record OpenedFrom (budget : ℕ) (name : List ℕ) (files : Option Files) (answer : Parts × ℕ) : Type 0 where
  pub images : List machine.Image
  pub more : List ℕ
  pub room : MayOpen budget images
  pub stands : Stands answer.0 (opened budget answer.1 images more) []
  pub holds : IfSome files (λ told. HoldsSnapshot told name answer.1 images more)
