use Rattle.std.proofs.Common.{arith, ◌≤◌}
use Rattle.std.proofs.lemmas.List.Elements.{All-replicate}
use Rattle.cnf_core.specs.Clauses.{var_of}
use Rattle.test_circuits.proofs.fresh.Goals as goal

pub loop-place-init : goal.loop-place-init
loop-place-init c = record {
  within = All-replicate (λ l. var_of l ≤ c.args.vars) 32 c.new-word.result (omega (arith, c.new-word.ensures.var, c.requires.there));
}
