use Rattle.std.proofs.Common.{◌≡◌}
use Rattle.cdcl_steps.proofs.backs.go_back.Given as goal

abbrev pub invariant-loop-place : goal.invariant-loop-place
invariant-loop-place l = l.activity ≡ l.initial.activity
