use Rattle.std.proofs.Common.{sym, ◌∙◌}
use Rattle.dir_io.proofs.Noted.{noted_before}
use Rattle.dir_io.proofs.folder.note.Goals as goal

pub returns-then-contains-clause-noted : goal.returns-then-contains-clause-noted
returns-then-contains-clause-noted c = noted_before c.args.written.now c.args.path.now (sym c.contains.ensures ∙ c.if-contains.true)
