use Rattle.book_parts.proofs.CrowdedKeys.{Crowded, crowded_same}
use Rattle.book_parts.proofs.cleaning.crowded_keys_reflect.Goals as goal

pub returns : goal.returns
returns c = λ p m h r ordered rise after.
    let crowded : Crowded m = record {
      rise = c.crowded_keys_follow.ensures.rise m;
      each = c.crowded_keys_follow.ensures.each m;
      slots = c.crowded_keys_follow.ensures.slots m;
      tomb = c.crowded_keys_follow.ensures.tomb m;
    } in
    crowded_same p m h.sound r crowded rise after ordered
