use Rattle.std.proofs.Common.{◌≢◌, ◌<◌, ℕ, []}
use Rattle.std.specs.Prelude.{slice_get, IfSome}
use Rattle.cdcl_core.proofs.loading.first_empty.Given as goal

abbrev pub invariant-loop-place : goal.invariant-loop-place
invariant-loop-place l = (k : ℕ) → k < l.place → IfSome (slice_get l.cnf.clauses k) (λ c. c ≢ [])
