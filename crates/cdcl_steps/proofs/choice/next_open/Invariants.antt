use Rattle.std.proofs.Common.{◌≡◌}
use Rattle.cdcl_steps.proofs.choice.next_open.Given as goal

abbrev pub invariant-loop : goal.invariant-loop
invariant-loop l = l.activity ≡ l.initial.activity
