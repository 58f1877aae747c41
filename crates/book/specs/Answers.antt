-- What a book tells of a key where nothing is pinned.
use Rattle.std.specs.Prelude.{ℕ, List}
use Rattle.adb_model.specs.State.{Stored}
use Rattle.book.specs.declared.loading.Answer.{Answer}

-- the store of this key that was found
abbrev pub told : List ℕ → Answer → Stored
told key found = record {
  slot = found.slot;
  key = key;
  account = record {
    lamports = found.head.lamports;
    owner = found.head.owner;
    executable = found.head.executable;
    rent_epoch = found.head.rent_epoch;
    bytes = found.data.now;
  };
}
