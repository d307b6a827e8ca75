-- Flat code.
use Rattle.std.specs.Prelude.{ℕ, ℤ, List, Option, option_and_then, slice_get}
use Rattle.tc_code.specs.declared.instr.Instr.{Instr}
use Rattle.tc_code.specs.declared.code.Func.{Func}

pub record Code : Type 0 where
  -- the initial value of each cell
  pub memory : List ℤ
  pub mutexes : ℕ
  pub conditions : ℕ
  -- the functions, main last
  pub functions : List Func

-- code made of these parts
abbrev pub code_of : List ℤ → ℕ → ℕ → List Func → Code
code_of memory mutexes conditions functions =
    record { memory = memory; mutexes = mutexes; conditions = conditions; functions = functions }

-- the instruction at a place, if there is one
abbrev pub instr_at : Code → ℕ → ℕ → Option Instr
instr_at code function instruction =
    option_and_then (λ f. slice_get f.instrs instruction) (slice_get code.functions function)

-- the line of an instruction in the program's text
abbrev pub line_at : Code → ℕ → ℕ → Option ℕ
line_at code function instruction =
    option_and_then (λ f. slice_get f.lines instruction) (slice_get code.functions function)
