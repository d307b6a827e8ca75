-- The loops of each function of a program nest.
use Rattle.std.proofs.Common.{◌≡◌, ℕ, ◌+◌, List, [], length, map, Some, codes, refl, subst, slice_get, get_or}
use Rattle.std.specs.List.{All}
use Rattle.std.proofs.lemmas.List.Elements.{All-push, All-map}
use Rattle.std.proofs.lemmas.Option.{get_or_from_slice_get, slice_get_within}
use Rattle.tc_code.specs.Code.{Code}
use Rattle.tc_code.specs.declared.code.Func.{Func}
use Rattle.tc_compile.specs.Programs.{IsCodeOf}
use Rattle.tc_tree.specs.declared.expression.Name.{Name}
use Rattle.tc_tree.specs.Grammar.{Body, Thread}
use Rattle.tc_names.specs.Names.{name_text}
use Rattle.tc_lower.specs.Things.{own_things, program_things, thing_in_scope, ints}
use Rattle.tc_lower.specs.Lowering.{code_of, function_of, thread_function}
use Rattle.places.specs.code_loops.Loops.{LoopsNest}
use Rattle.places.proofs.code_loops.Nesting.{both, falls, whole}
use Rattle.places.proofs.code_loops.Pieces.{all_nest}

function_nests : (source : List ℕ) (things : _) (name : List ℕ) (parameters : List Name) (b : Body)
    → LoopsNest (function_of source things name parameters b).instrs
function_nests source things name parameters b =
    let scope = thing_in_scope source (own_things parameters b.locals) things in
    let f = function_of source things name parameters b in
    whole f.instrs (both (all_nest scope b.statements 0 (length parameters + ints b.locals)) (falls refl))

thread_nests : (source : List ℕ) (things : _) (t : Thread) → LoopsNest (thread_function source things t).instrs
thread_nests source things t = function_nests source things (name_text source t.name) t.parameters t.body

pub program_nests : (program : List ℕ) (code : Code) (k : ℕ) (g : Func) → IsCodeOf program code → slice_get code.functions k ≡ Some g → LoopsNest g.instrs
program_nests source code k g is at =
    let p = is.program in
    let things = program_things p.globals p.threads in
    let nests : Func → Type 0 = λ f. LoopsNest f.instrs in
    let all : All nests (code_of source p).functions =
    All-push nests (map (thread_function source things) p.threads) (function_of source things (codes "main") [] p.main)
    (All-map nests (thread_function source things) p.threads (λ j t within. thread_nests source things (get_or p.threads j t)))
    (function_nests source things (codes "main") [] p.main) in
    let there = subst (λ c. slice_get c.functions k ≡ Some g) is.lowers at in
    subst nests (get_or_from_slice_get (code_of source p).functions k g g there) (all k g (slice_get_within (code_of source p).functions k g there))
