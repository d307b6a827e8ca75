use Rattle.std.proofs.Common.{◌≡◌, ◌++◌, length}
use Rattle.path_log.specs.Texts.{packed, bytes_for}
use Rattle.path_log.proofs.writing.push_packed.Given as goal

abbrev pub invariant-loop-rest : goal.invariant-loop-rest
invariant-loop-rest l = l.text.items ++ packed (bytes_for (length l.rest)) l.rest
    ≡ l.initial.text.items ++ packed (bytes_for (length l.outcomes)) l.outcomes

abbrev pub decreases-loop-rest : goal.decreases-loop-rest
decreases-loop-rest l = length l.rest
