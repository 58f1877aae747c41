use Rattle.field_codec.proofs.Names.{version_under, manifest_under, storage_under, version_no_manifest, version_no_storage, manifest_no_storage, storages_differ}
use Rattle.field_codec.proofs.laws.names_of_files_differ.Goals as goal

pub returns : goal.returns
returns c = record {
  version = version_under;
  manifest = manifest_under;
  storage = storage_under;
  version_alone = version_no_manifest;
  version_apart = version_no_storage;
  manifest_apart = manifest_no_storage;
  slots = storages_differ;
}
