use Rattle.book_parts.proofs.opening.opened_parts_stand.Goals as goal

pub returns : goal.returns
returns c = λ p budget slot images more may have r. record {
  legal = tt;
  sound = c.states_are_sound.ensures.open budget slot images more may;
  once = c.named_pairs_stand_once.ensures.open budget slot images more may;
  bytes = c.rows_have_bytes.ensures.open budget slot images more have;
  parts = r;
}
