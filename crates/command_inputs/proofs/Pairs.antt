-- Files are one pair of a program and a log at most.
use Rattle.std.proofs.Common.{ℕ, List, subst}
use Rattle.path_log.proofs.Logs.{one_log}
use Rattle.run_log.specs.Logs.{StoredLog}
use Rattle.tc_code.specs.Code.{Code}
use Rattle.tc_compile.proofs.OnePrograms.{one_code}
use Rattle.command_inputs.specs.Forms.{Pair}

-- what holds of a pair's code and log holds of any other's
pub at_pair : {program log : List ℕ} (P : Code → StoredLog → Type 0) (p q : Pair program log) → P p.code p.run → P q.code q.run
at_pair {program} {log} P p q h =
    subst (λ (r : StoredLog). P q.code r) (one_log log p.run q.run p.logs q.logs)
    (subst (λ c. P c p.run) (one_code program p.code q.code p.programs q.programs) h)
