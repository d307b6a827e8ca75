-- The code of a program.
use Rattle.std.specs.Prelude.{ℕ, ◌+◌, ℤ, pos, List, [], ◌∷◌, ◌++◌, length, map, replicate, codes}
use Rattle.int_ops.specs.Arith.{negated}
use Rattle.tc_code.specs.declared.instr.Instr.TheVariants.{Exit}
use Rattle.tc_code.specs.Code.{Code}
use Rattle.tc_code.specs.declared.code.Func.{Func}
use Rattle.tc_tree.specs.declared.expression.Name.{Name}
use Rattle.tc_tree.specs.declared.program.Initial.{Initial}
use Rattle.tc_tree.specs.declared.program.Initial.TheVariants.{Zero, Plain, Negated}
use Rattle.tc_tree.specs.declared.program.Global.{Global}
use Rattle.tc_tree.specs.declared.program.Global.TheVariants.{Int, Array, Mutex, Condition}
use Rattle.tc_tree.specs.Grammar.{Body, Thread, Program}
use Rattle.tc_tree.specs.Counts.{elements, mutexes, conditions}
use Rattle.tc_lower.specs.declared.things.Named.{Named}
use Rattle.tc_names.specs.Names.{name_text}
use Rattle.tc_lower.specs.Things.{thing_in_scope, own_things, program_things, ints, handles}
use Rattle.tc_lower.specs.Statements.{all_lowered}

abbrev pub initial_value : Initial → ℤ
initial_value Zero = pos 0
initial_value (Plain n) = n.value
initial_value (Negated n) = negated n.value

-- the initial value of each cell
abbrev pub memory_of : List Global → List ℤ
memory_of [] = []
memory_of (Int x i ∷ gs) = initial_value i ∷ memory_of gs
memory_of (Array a n ∷ gs) = replicate (elements n.value) (pos 0) ++ memory_of gs
memory_of (Mutex m ∷ gs) = memory_of gs
memory_of (Condition c ∷ gs) = memory_of gs

-- the function of a body: its statements, then an exit on the line of its closing brace
abbrev pub function_of : List ℕ → List Named → List ℕ → List Name → Body → Func
function_of source all name parameters b =
    let own = own_things parameters b.locals in
    let code = all_lowered (thing_in_scope source own all) 0
    (length parameters + ints b.locals) b.statements in
    record {
      name = name;
      params = length parameters;
      ints = code.free;
      handles = handles b.locals;
      instrs = code.instrs ++ Exit ∷ [];
      lines = code.lines ++ b.end.line ∷ [];
    }

abbrev pub thread_function : List ℕ → List Named → Thread → Func
thread_function source all t = function_of source all (name_text source t.name) t.parameters t.body

-- the code of a program in this text
abbrev pub code_of : List ℕ → Program → Code
code_of source p =
    let all = program_things p.globals p.threads in
    record {
      memory = memory_of p.globals;
      mutexes = mutexes p.globals;
      conditions = conditions p.globals;
      functions =
          map (thread_function source all) p.threads
          ++ function_of source all (codes "main") [] p.main ∷ [];
    }
