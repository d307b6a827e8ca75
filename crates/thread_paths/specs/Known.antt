-- Values of slots that a path alone determines, and paths that go against them.
use Rattle.std.specs.Prelude.{◌≡◌, ◌≢◌, ℕ, zero, suc, ◌+◌, ◌-◌, ◌<◌, ℤ, pos, List, ◌++◌, length, replicate, Option, Some, None, Ok, option_map, option_and_then, slice_get, slice_index_or, slice_set, if◌then◌else◌}
use Rattle.std.specs.Option.{option_map_or}
use Rattle.tc_code.specs.int_ops.Arith.{unary, binary}
use Rattle.tc_code.specs.tc_base.Paths.{Path}
use Rattle.tc_code.specs.Code.{Code}
use Rattle.tc_code.specs.Expr.{Expr}
use Rattle.tc_code.specs.Expr.{Expr.Number, Expr.Slot, Expr.Unary, Expr.Binary}
use Rattle.tc_code.specs.Lawful.{written}
use Rattle.tc_code.specs.Step.{ints_of, is_nonzero}
use Rattle.tc_code.specs.declared.instr.Instr.{Instr}
use Rattle.tc_code.specs.declared.instr.Instr.TheVariants.{Set, Branch}
use Rattle.thread_marks.specs.path_walk.Steps.{places_from}
use Rattle.thread_paths.specs.Turns.{place_of, instr_of}

-- the value of each slot, if it is known
abbrev pub Known : Type 0
Known = List (Option ℤ)

abbrev pub params_of : Code → ℕ → ℕ
params_of code f = option_map_or (λ g. g.params) (slice_get code.functions f) 0

-- at the start of a function each slot is 0, except the parameters
abbrev pub known_at_start : Code → ℕ → Known
known_at_start code f =
    replicate (params_of code f) None
    ++ replicate (ints_of code f - params_of code f) (Some (pos 0))

-- the value of an expression, if each slot that it names is known
abbrev pub known_value : Known → Expr → Option ℤ
known_value known (Number n) = Some n
known_value known (Slot k) = slice_index_or known k None
known_value known (Unary op e) = option_map (unary op) (known_value known e)
known_value known (Binary op a b) =
    option_and_then (λ v. option_map (binary op v) (known_value known b)) (known_value known a)

-- the value that an instruction writes, if it is known: a value from memory isn't
abbrev pub known_write : Known → Instr → Option ℤ
known_write known (Set k e) = known_value known e
known_write known _ = None

-- what is known after an instruction
abbrev pub known_after : Known → Instr → Known
known_after known i =
    option_map_or (λ k. slice_set known k (known_write known i)) (written i) known

-- the place to which an instruction leads, if it is a branch whose test is known
abbrev pub leads_to : Known → ℕ → Instr → Option ℕ
leads_to known place (Branch e to) =
    option_map (λ v. if is_nonzero v then place + 1 else to) (known_value known e)
leads_to known place _ = None

-- what is known before the k-th of the steps at these places
abbrev pub known_before : Code → ℕ → List ℕ → ℕ → Known
known_before code f places zero = known_at_start code f
known_before code f places (suc k) =
    known_after (known_before code f places k) (instr_of code f places k)

-- the path goes from a branch whose test is known to a step elsewhere than where that leads
pub record GoesAgainst (code : Code) (f : ℕ) (p : Path) : Type 0 where
  pub places : List ℕ
  pub along : places_from code f p.steps 0 p.outcomes ≡ Ok places
  pub branch : ℕ
  pub goes_on : branch + 1 < length places
  pub target : ℕ
  pub leads : leads_to (known_before code f places branch) (place_of code f places branch)
      (instr_of code f places branch) ≡ Some target
  pub against : place_of code f places (branch + 1) ≢ target
