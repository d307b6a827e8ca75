use Rattle.std.proofs.Common.{◌≡◌, ◌<◌, ℕ, [], false, get_or}
use Rattle.std.specs.Prelude.{bytes_eq}
use Rattle.tc_record.proofs.logged.index_of.Given as goal

abbrev pub invariant-loop-index : goal.invariant-loop-index
invariant-loop-index g l = (k : ℕ) → k < l.index → bytes_eq (get_or l.name-items k []) l.thread ≡ false
