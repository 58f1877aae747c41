use Rattle.std.proofs.Common.{inr}
use Rattle.adb.proofs.Listings.{of_err, lists_all, lists_front}
use Rattle.adb.proofs.opening.open.Goals as goal

pub returns-in-Ok-listed-clause-ended : goal.returns-in-Ok-listed-clause-ended
returns-in-Ok-listed-clause-ended g c =
    let from = c.in-Ok.ensures.opened in
    lists_all (g.D.Dir.files c.args.dir.now) (g.K.Sink.taken c.args.sink.now) (g.K.Sink.taken c.write_listing-listed.new.sink) c.args.name.now c.in-Ok.book c.in-Ok.slot from
    (c.in-Ok-listed.ensures.ok from.images from.more from.stands)

pub returns-in-Err-NoMemory-clause-ended : goal.returns-in-Err-NoMemory-clause-ended
returns-in-Err-NoMemory-clause-ended g c =
    let from = c.in-Ok.ensures.opened in
    inr (lists_front (g.D.Dir.files c.args.dir.now) (g.K.Sink.taken c.args.sink.now) (g.K.Sink.taken c.write_listing-listed.new.sink) c.args.name.now c.in-Ok.book c.in-Ok.slot from
    (of_err c.write_listing-listed.result c.in-Err-NoMemory.field-0 c.in-Err-NoMemory.is (c.write_listing-listed.ensures.err from.images from.more from.stands)))

pub returns-in-Err-SinkFault-clause-ended : goal.returns-in-Err-SinkFault-clause-ended
returns-in-Err-SinkFault-clause-ended g c =
    let from = c.in-Ok.ensures.opened in
    lists_front (g.D.Dir.files c.args.dir.now) (g.K.Sink.taken c.args.sink.now) (g.K.Sink.taken c.write_listing-listed.new.sink) c.args.name.now c.in-Ok.book c.in-Ok.slot from
    (of_err c.write_listing-listed.result c.in-Err-SinkFault.field-0 c.in-Err-SinkFault.is (c.write_listing-listed.ensures.err from.images from.more from.stands))
