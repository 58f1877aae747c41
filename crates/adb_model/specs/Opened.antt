-- The state that a snapshot opens to.
use Rattle.std.specs.Prelude.{ℕ, ◌+◌, ◌∷◌, [], List, ◌++◌, length, map, flat_map}
use Rattle.std.specs.List.{enumerate_from}
use Rattle.std.specs.Ordering.{nat_cmp}
use Rattle.std.specs.Prelude.{None}
use Rattle.adb_model.specs.Lists.{rising, distinct}
use Rattle.adb_model.specs.State.{Stored, Row, Live, Storage, Pair, State}
use Rattle.std.specs.Str.{bytes_eq}

-- a slot's rows, and the bytes of their image
pub record Image : Type 0 where
  pub slot : ℕ
  pub rows : List Row
  pub bytes : ℕ

-- the image's rows as stores
abbrev pub stores_of : Image → List Stored
stores_of i = map (λ r. record { slot = i.slot; key = r.key; account = r.account }) i.rows

-- its pairs, each once
abbrev pub pairs_of : Image → List Pair
pairs_of i = map (λ k. record { slot = i.slot; key = k }) (distinct bytes_eq (map (λ r. r.key) i.rows))

-- a Live storage with this id
abbrev pub storage_of : ℕ × Image → Storage
storage_of n = record { id = n.0; slot = n.1.slot; rows = n.1.rows; bytes = n.1.bytes; phase = Live }

-- the images' slots, the further ones and the snapshot's own
abbrev pub opened_roots : ℕ → List Image → List ℕ → List ℕ
opened_roots slot images more = rising nat_cmp (map (λ i. i.slot) images ++ more ++ slot ∷ [])

-- each image's rows stand in a Live storage of their own, cleaned and flushed up to the snapshot's slot
abbrev pub opened : ℕ → ℕ → List Image → List ℕ → State
opened budget slot images more = record {
  stores = flat_map stores_of images;
  roots = opened_roots slot images more;
  cleaned = slot;
  leases = [];
  flushed = opened_roots slot images more;
  storages = map storage_of (enumerate_from 1 images);
  named = flat_map pairs_of images;
  pins = [];
  shrinks = [];
  snap = None;
  next_id = length images + 1;
  budget = budget;
}
