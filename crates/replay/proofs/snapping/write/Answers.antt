use Rattle.std.proofs.Common.{List, map, sym, subst}
use Rattle.std.specs.List.Sorted.{IsStrictlyIncreasing}
use Rattle.vec_scan.specs.Image.{Image}
use Rattle.replay.proofs.Snaps.{of_hand, slots_rise}
use Rattle.replay.proofs.snapping.write.Goals as goal

pub write_snapshot-requires-clause-rise : goal.write_snapshot-requires-clause-rise
write_snapshot-requires-clause-rise g c =
    let opened = of_hand c.args.snap.now c.in-Some.job c.requires.stands.0 c.in-Some.is c.requires.stands.1 in
    subst (λ (images : List Image). IsStrictlyIncreasing (map (λ image. image.slot) images)) (sym c.storages.ensures) (slots_rise c.in-Some.job.storages opened.rise)
