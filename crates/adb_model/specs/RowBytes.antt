-- How many bytes rows take at least.
use Rattle.std.specs.Prelude.{ℕ, ◌*◌, ◌≤◌, List, length, All}
use Rattle.adb_model.specs.State.{Row, State}
use Rattle.adb_model.specs.Opened.{Image}

-- each row takes 136 of the bytes
abbrev pub RowsTake : List Row → ℕ → Type 0
RowsTake rows bytes = 136 * length rows ≤ bytes

-- the bytes of each storage are enough for its rows
abbrev pub HaveBytes : State → Type 0
HaveBytes m = All (λ t. RowsTake t.rows t.bytes) m.storages

-- and those of each image
abbrev pub ImagesHaveBytes : List Image → Type 0
ImagesHaveBytes images = All (λ i. RowsTake i.rows i.bytes) images
