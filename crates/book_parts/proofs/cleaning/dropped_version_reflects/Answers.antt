use Rattle.book_parts.proofs.DroppedVersion.{Left, row_alive, reflects_dropped}
use Rattle.book_parts.proofs.cleaning.dropped_version_reflects.Goals as goal

pub returns-clause-alive : goal.returns-clause-alive
returns-clause-alive c = λ p m h r slot key named.
    let left : Left m slot key = record {
      present = c.names_leave.ensures.present m h.sound slot key named;
      named_in = c.names_leave.ensures.named_in m h.once slot key named;
      named_count = c.names_leave.ensures.named_count m h.once slot key named;
    } in
    row_alive p m slot key h.sound r named left

pub returns-clause-done : goal.returns-clause-done
returns-clause-done c = λ p m slot key index slots h r named e becomes.
    let left : Left m slot key = record {
      present = c.names_leave.ensures.present m h.sound slot key named;
      named_in = c.names_leave.ensures.named_in m h.once slot key named;
      named_count = c.names_leave.ensures.named_count m h.once slot key named;
    } in
    reflects_dropped p m slot key h.sound r named left index slots c.lookups_follow_edits.ensures.without e becomes
