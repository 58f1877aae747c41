-- What images show of the accounts in them.
use Rattle.std.specs.Prelude.{List, length, map}
use Rattle.std.specs.Global.{Global}
use Rattle.std.specs.declared.sync.Arc.{Arc}
use Rattle.adb_model.specs.Opened as machine
use Rattle.adb_model.specs.Storages.{bytes_of}
use Rattle.vec_scan.specs.Image.{Image}
use Rattle.vec_scan.specs.Seal.{rows_in}

-- the images that are shared
abbrev pub images_of : List (Arc Image Global) → List Image
images_of storages = map (λ s. s.value) storages

-- an image's slot, its rows, and the bytes of their records
abbrev pub shown : Image → machine.Image
shown image = record { slot = image.slot; rows = rows_in image; bytes = bytes_of (rows_in image) }

-- an image's slot, its rows, and its own bytes
abbrev pub stored : Image → machine.Image
stored image = record { slot = image.slot; rows = rows_in image; bytes = length image.bytes }
