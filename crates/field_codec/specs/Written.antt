-- The written form of a manifest.
use Rattle.std.specs.Prelude.{ℕ, ◌<◌, ◌^◌, List, ◌++◌, length, replicate}
use Rattle.std.specs.List.{AllByRecursion}
use Rattle.std.specs.List.Sorted.{IsStrictlyIncreasing}
use Rattle.le_fields.specs.Fields.{number_bytes}
use Rattle.field_codec.specs.Manifest.{Content, Fits, map_bytes, slots_of}

-- the slots rise, what a reader skips is zeros, and both sequences are there and empty
abbrev pub written_manifest : Content → List ℕ
written_manifest content =
    map_bytes content.storages ++ (replicate 8 0 ++ (number_bytes content.slot ++ (replicate 104 0 ++ (number_bytes 0 ++ number_bytes 0))))

-- what the program can write: the slots rise, and each number has room in its eight bytes
pub record IsWritable (content : Content) : Type 0 where
  pub count_fits : length content.storages < 2 ^ 64
  pub storages_fit : AllByRecursion Fits content.storages
  pub slot_fits : content.slot < 2 ^ 64
  pub rise : IsStrictlyIncreasing (slots_of content.storages)
