-- Plans: which calls fail.
use Rattle.std.specs.Prelude.{ℕ, List, [], find, ◌==◌, Option, option_map}
use Rattle.test_shelves.specs.declared.plan.Fail.{Fail}
use Rattle.tc_io.specs.Outside.{capped_sum}

-- the number of calls so far, and the calls that fail
pub record PlainPlan : Type 0 where
  pub calls : ℕ
  pub fails : List Fail

-- no call so far, and none that fails
abbrev pub no_plan : PlainPlan
no_plan = record { calls = 0; fails = [] }

-- the plan after one more call
abbrev pub with_call : PlainPlan → PlainPlan
with_call plan = record plan { calls = capped_sum plan.calls 1 }

-- after how many bytes the latest call fails, if it fails
abbrev pub told_at : PlainPlan → Option ℕ
told_at plan = option_map (λ fail. fail.after) (find (λ fail. fail.call == plan.calls) plan.fails)
