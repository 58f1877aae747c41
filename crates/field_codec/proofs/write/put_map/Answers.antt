use Rattle.field_codec.specs.declared.fields.FieldStorage.{FieldStorage}
use Rattle.field_codec.proofs.Writing.{fits_more, map_more}
use Rattle.field_codec.proofs.write.put_map.Goals as goal

pub loop-storage-preserved : goal.loop-storage-preserved
loop-storage-preserved c =
    let loop = c.loop-storage in
    let none : FieldStorage = record { slot = 0; id = 0; len = 0 } in
    record {
      written = map_more c.args.bytes.now.items loop.bytes.items c.put_entry.new.bytes.items c.args.storages.now loop.storage-index none c.loop-storage-test.true loop.invariant.written c.in_ok-put_entry.ensures.written;
      fit = fits_more c.args.storages.now loop.storage-index none c.loop-storage-test.true loop.invariant.fit c.put_entry.ensures.fits;
    }
