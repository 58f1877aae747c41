use Rattle.book_parts.proofs.NewParts.{reflects_new}
use Rattle.book_parts.proofs.laws.new_parts_stand.Goals as goal

pub returns : goal.returns
returns c = λ table id all free. record {
  legal = tt;
  sound = c.states_are_sound.ensures.start table.limit id;
  once = c.named_pairs_stand_once.ensures.start table.limit id;
  bytes = c.rows_have_bytes.ensures.start table.limit id;
  parts = reflects_new table id all free;
}
