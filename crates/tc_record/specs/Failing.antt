-- Where a run failed.
use Rattle.std.specs.Prelude.{ℕ, Option, option_and_then}
use Rattle.std.specs.FinMap as fin
use Rattle.tc_base.specs.Names.{Name}
use Rattle.tc_base.specs.States.{State}
use Rattle.tc_code.specs.Code.{Code, line_at}

-- the line of the instruction at a thread's place; in a failed thread, that is the failing one
abbrev pub line_in : {B : Type 0} → Code → State B → Name → Option ℕ
line_in code s n =
    option_and_then (λ t. line_at code t.local.function t.local.instruction) (fin.get s.threads n)

-- the line of the failing instruction, if a thread has failed
abbrev pub failing_line : {B : Type 0} → Code → State B → Option ℕ
failing_line code s = option_and_then (line_in code s) s.failed
