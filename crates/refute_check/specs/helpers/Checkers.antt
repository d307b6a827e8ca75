-- How a checker is stored in memory.
use Rattle.std.specs.Prelude.{◌≡◌, ◌≢◌, ℕ, ◌+◌, ◌<◌, ◌≤◌, [], Some, IfSome, IsTrue}
use Rattle.std.specs.FinMap.{get}
use Rattle.cnf_core.specs.declared.cnf.TheConstants.{LIMIT}
use Rattle.cnf_core.specs.Clauses.{is_within}
use Rattle.refute_check.specs.Kept.{KeptClauses}
use Rattle.refute_check.specs.Refutations.{Checking}
use Rattle.refute_check.specs.declared.line.TheConstants.{LINES}
use Rattle.refute_check.specs.declared.checker.Checker.TheInside.{Inside}
use Rattle.refute_check.specs.declared.verdict.CheckFault.TheVariants.{Memory}

-- the state that a checker is in
abbrev pub checking_of : Inside → Checking
checking_of c = record {
  line = c.line;
  vars = c.vars;
  kept = c.kept;
  next = c.next;
  closed = c.closed;
  fault = c.fault;
}

-- each kept clause is over the first `vars` variables
abbrev pub AreWithin : ℕ → KeptClauses → Type 0
AreWithin vars kept = (n : ℕ) → IfSome (get kept n) (λ c. IsTrue (is_within vars c))

pub record IsReady (c : Inside) : Type 0 where
  pub few : c.vars < LIMIT
  pub within : AreWithin c.vars c.kept
  pub room : c.next ≤ LIMIT + c.line
  pub begun : 1 ≤ c.line
  pub lines : c.line ≤ LINES + 1
  pub fault : c.fault ≢ Some Memory
  pub vars : c.given.vars ≡ c.vars
  pub given : c.given.literals ≡ []
