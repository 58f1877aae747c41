-- What the private fields of a sealed image stand for, and the facts that hold of them.
use Rattle.std.specs.Prelude.{◌≡◌, ◌%◌, length}
use Rattle.std.specs.List.Sorted.{IsStrictlyIncreasing}
use Rattle.vec_scan.specs.Image.{Image, IsImage}
use Rattle.vec_scan.specs.Forward.{rows_of}
use Rattle.vec_scan.specs.declared.sealed.Sealed.TheInside.{Inside}

abbrev pub image_of : Inside → Image
image_of s = record { slot = s.slot; id = s.id; bytes = s.bytes.items; rows = rows_of s.bytes.items s.offsets.items }

-- the offsets rise, and are those of the rows of the bytes, which end at a multiple of eight
pub record IsSealed (s : Inside) : Type 0 where
  pub image : IsImage s.bytes.items (rows_of s.bytes.items s.offsets.items)
  pub rise : IsStrictlyIncreasing s.offsets.items
  pub aligned : length s.bytes.items % 8 ≡ 0
