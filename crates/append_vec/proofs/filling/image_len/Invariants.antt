use Rattle.std.proofs.Common.{◌≡◌, ◌<◌, ◌^◌, take}
use Rattle.append_vec.specs.Filled.{rows_of, total_size}
use Rattle.append_vec.proofs.filling.image_len.Given as goal

abbrev pub invariant-loop-account : goal.invariant-loop-account
invariant-loop-account l = (l.len ≡ total_size (rows_of (take l.account-index l.accounts))) × (l.len < 2 ^ 63)
