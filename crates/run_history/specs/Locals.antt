-- The local state of each thread after a history.
use Rattle.std.specs.Prelude.{ℕ, ◌+◌, ◌-◌, ℤ, List, [], Option, option_and_then, option_map, fold, length}
use Rattle.std.specs.Option.{option_map_or}
use Rattle.std.specs.FinMap as fin
use Rattle.store_buffers.specs.tc_base.Names.{Name, ByName, main, child}
use Rattle.store_buffers.specs.Buffers.{no_buffer}
use Rattle.store_buffers.specs.tc_base.States.{Local}
use Rattle.store_buffers.specs.tc_base.declared.request.Request.{Request}
use Rattle.store_buffers.specs.tc_base.declared.request.Request.TheVariants.{Start, Fail}
use Rattle.run_laws.specs.tc_code.declared.instr.Instr.{Instr}
use Rattle.run_laws.specs.tc_code.Code.{Code}
use Rattle.run_laws.specs.tc_code.Step.{request, step_in_place, local_after, arguments_of, instr_of, born}
use Rattle.run_history.specs.History.{Deed, Did, Drained}

-- a thread at the start of a function
abbrev pub born_local : Code → ℕ → List ℤ → Local
born_local code f arguments = (born no_buffer code f arguments).local

-- a thread after a step with this request that reads this value
abbrev pub after_step : Local → Instr → Request → ℤ → Local
after_step t i Fail took = step_in_place t
after_step t i r took = local_after t i took

-- the threads with the child that a step creates, if any
abbrev pub with_child : Code → Name → Local → Instr → Request → ByName Local → ByName Local
with_child code n t i (Start f) ts =
    fin.insert ts (child n (t.children + 1)) (born_local code f (arguments_of t i))
with_child code n t i r ts = ts

-- the threads after a deed; a step does the instruction at its thread's place
abbrev pub after_deed : Code → ByName Local → Deed → ByName Local
after_deed code ts (Did n k r took other) =
    option_map_or
    (λ t. option_map_or (λ i. with_child code n t i r (fin.insert ts n (after_step t i r took)))
    (instr_of code t) ts) (fin.get ts n) ts
after_deed code ts (Drained n k c v) = ts

-- the threads after a history that begins with main alone
abbrev pub locals_in : Code → List Deed → ByName Local
locals_in code h =
    fold (after_deed code)
    (fin.insert fin.empty main (born_local code (length code.functions - 1) [])) h

-- a thread's next request, if the thread exists and has not exited
abbrev pub asks_next : Code → List Deed → Name → Option Request
asks_next code h n =
    option_and_then (λ t. option_map (request t) (instr_of code t)) (fin.get (locals_in code h) n)
