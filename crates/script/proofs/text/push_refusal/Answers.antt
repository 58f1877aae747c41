use Rattle.std.proofs.Common.{rules, ◌≡◌, ◌++◌, append_assoc}
use Rattle.std.specs.Prelude.{codes}
use Rattle.std.specs.String.{string_bytes}
use Rattle.script.specs.Text.{refusal_text}
use Rattle.script.proofs.text.push_refusal.Goals as goal

pub returns-in-TooManyPins : goal.returns-in-TooManyPins
unfolding refusal_text
returns-in-TooManyPins c = rw c.in-TooManyPins.is (search rules)

pub returns-in_ok-push_max_root-in-ViewTooOld : goal.returns-in_ok-push_max_root-in-ViewTooOld
unfolding refusal_text
returns-in_ok-push_max_root-in-ViewTooOld c =
    let name : string_bytes c.push_str.new.self ≡ string_bytes c.args.text.now ++ codes "view-too-old " = c.in_ok-push_str-in-ViewTooOld.ensures.bytes in
    rw c.in-ViewTooOld.is (rw (c.in_ok-push_max_root-in-ViewTooOld.ensures, name, append_assoc, append_assoc) at c.write-in-ViewTooOld.ensures.bytes)
