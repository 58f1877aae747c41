use Rattle.book_parts.proofs.OpenFlush.{open_in, open_id}
use Rattle.book_parts.proofs.flushing.open_flush_reflects.Goals as goal

pub returns-clause-cell : goal.returns-clause-cell
returns-clause-cell c = λ p m slot t h once r e. open_in p m slot t r (c.open_flushes_stand.ensures m h slot t e) once e

pub returns-clause-at : goal.returns-clause-at
returns-clause-at c = λ p m slot cell id t h r e o. open_id p m slot t r (c.open_flushes_stand.ensures m h slot t e) cell id o
