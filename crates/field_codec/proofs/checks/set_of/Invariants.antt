use Rattle.std.proofs.Common.{◌≡◌, ℕ, List, take, string_bytes}
use Rattle.std.specs.List.{list_any}
use Rattle.std.specs.BTreeSet.{contains_text}
use Rattle.std.specs.Str.{bytes_eq}
use Rattle.field_codec.proofs.checks.set_of.Given as goal

abbrev pub invariant-loop-name : goal.invariant-loop-name
invariant-loop-name l = (q : List ℕ) → contains_text l.set q ≡ list_any (λ n. bytes_eq (string_bytes n) q) (take l.name-index l.names)
