use Rattle.script.proofs.ScriptLemmas.{script_read, script_again}
use Rattle.script.specs.Seen.{script_seen}
use Rattle.script.proofs.parsing.parse.Goals as goal

pub returns-in-Ok-clause-script : goal.returns-in-Ok-clause-script
returns-in-Ok-clause-script c = script_read c.args.bytes.now (script_seen c.in-Ok.script) c.in-Ok.ensures

pub returns-in-Err-Fault-clause-form : goal.returns-in-Err-Fault-clause-form
returns-in-Err-Fault-clause-form c = let read = rw c.in-Err-Fault.field-0-is at c.in-Err-Fault.ensures in λ refused said holds. let again = script_again c.args.bytes.now said holds in absurd (cc (read, again))
