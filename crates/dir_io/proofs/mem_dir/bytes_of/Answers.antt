use Rattle.std.proofs.Common.{Some, sym, ap, ◌∙◌}
use Rattle.dir_io.proofs.Kept.{look_there, look_none}
use Rattle.dir_io.proofs.mem_dir.bytes_of.Goals as goal

pub returns-in-Some : goal.returns-in-Some
returns-in-Some c =
    ap Some c.deref.ensures.value
    ∙ sym (look_there c.args.files.now c.args.name.now c.in-Some.place c.index-files-place.result (sym c.place_of.ensures ∙ c.in-Some.is))

pub returns-in-None : goal.returns-in-None
returns-in-None c = sym (look_none c.args.files.now c.args.name.now (sym c.place_of.ensures ∙ c.in-None.is))
