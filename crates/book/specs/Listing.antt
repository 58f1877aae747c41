-- What is listed of a book: each key with the answer that a view gives it.
use Rattle.std.specs.Prelude.{◌≡◌, ℕ, List, Option, option_map, All}
use Rattle.slot_list.specs.declared.Version.{Version}
use Rattle.slot_list.specs.Latest.{sees, IsLatest}
use Rattle.accounts_index.specs.Index.{Index, kept}
use Rattle.adb_model.specs.declared.key.Key.{Key}
use Rattle.adb_model.specs.View.{View}
use Rattle.adb_model.specs.State.{State}
use Rattle.adb_model.specs.Load.{answer}
use Rattle.book_parts.specs.Parts.{Parts}
use Rattle.book.specs.declared.loading.Answer.{Answer}
use Rattle.book.specs.Answers.{told}

-- the keys of a book that are still to come, and the view that reads them
pub record Listing : Type 0 where
  pub book : Parts
  pub view : View
  pub keys : List (List ℕ)

-- each key that was read has its answer
abbrev pub HaveAnswers : State → View → List (Key × Option Answer) → Type 0
HaveAnswers m view read = All (λ r. option_map (told r.0.0) r.1 ≡ answer m view r.0.0) read

-- the versions that stand with the keys are those that the index keeps
abbrev pub AreKept : Index → List (List ℕ × List Version) → Type 0
AreKept index keys = All (λ e. (kept index e.0).versions ≡ e.1) keys

-- the version that a view sees of a key is the latest one
abbrev pub IsSeen : Parts → View → List ℕ → Option Version → Type 0
IsSeen p view key seen = IsLatest (sees view.ancestors p.roots view.max_root) (kept p.index key).versions seen
