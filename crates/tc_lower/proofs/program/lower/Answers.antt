use Rattle.std.proofs.Common.{◌≡◌, [], ◌∷◌, ◌++◌, map, ap, sym, subst, ◌∙◌, arith}
use Rattle.std.specs.Prelude.{codes}
use Rattle.std.proofs.lemmas.List.{length-map}
use Rattle.tc_code.specs.Code as flat
use Rattle.tc_code.specs.Lawful.{IsLawful}
use Rattle.tc_tree.specs.Counts.{mutexes, conditions}
use Rattle.tc_tree.specs.Seen.{thread_of, program_of}
use Rattle.tc_lower.specs.Things.{program_things}
use Rattle.tc_lower.specs.Lowering.{memory_of, function_of, thread_function, code_of}
use Rattle.tc_lower.proofs.Fits.{has_few}
use Rattle.tc_lower.proofs.Ints.{program_ints}
use Rattle.tc_lower.proofs.Programs.{program_is_lawful}
use Rattle.tc_lower.proofs.program.lower.Goals as goal

pub program_things-requires-clause-globals : goal.program_things-requires-clause-globals
program_things-requires-clause-globals c = (has_few [] [] (program_of c.args.tree.now.program) c.requires.few).globals

pub program_things-requires-clause-threads : goal.program_things-requires-clause-threads
program_things-requires-clause-threads c =
    let few = (has_few [] [] (program_of c.args.tree.now.program) c.requires.few).threads in
    omega (arith, few, length-map c.args.tree.now.program.threads.items thread_of)

pub functions_of-requires-clause-threads : goal.functions_of-requires-clause-threads
functions_of-requires-clause-threads c =
    (has_few c.args.tree.now.text.now c.as_slice-2.result.now (program_of c.args.tree.now.program) c.requires.few).bodies

pub functions_of-requires-clause-main : goal.functions_of-requires-clause-main
functions_of-requires-clause-main c =
    (has_few c.args.tree.now.text.now c.as_slice-2.result.now (program_of c.args.tree.now.program) c.requires.few).main

pub new-requires : goal.new-requires
new-requires c =
    let source = c.args.tree.now.text.now in
    let p = program_of c.args.tree.now.program in
    let memory : c.in_ok-memory.memory.items ≡ memory_of p.globals = c.in_ok-memory.ensures ∙ ap memory_of c.as_slice.ensures.value in
    let mutexes_are : c.in_ok-names.field-0.numbers.mutexes ≡ mutexes p.globals = c.in_ok-names.ensures.mutexes in
    let conditions_are : c.in_ok-names.field-0.numbers.conditions ≡ conditions p.globals = c.in_ok-names.ensures.conditions in
    let names : c.in_ok-names.field-0.names.items ≡ program_things p.globals p.threads = c.in_ok-names.ensures.names in
    let all : c.as_slice-2.result.now ≡ program_things p.globals p.threads = c.as_slice-2.ensures.value ∙ names in
    let functions : c.in_ok-functions.functions.items
    ≡ map (thread_function source (program_things p.globals p.threads)) p.threads
    ++ function_of source (program_things p.globals p.threads) (codes "main") [] p.main ∷ [] =
    c.in_ok-functions.ensures
    ∙ ap (λ ns. map (thread_function source ns) p.threads ++ function_of source ns (codes "main") [] p.main ∷ []) all in
    let same : flat.code_of c.in_ok-memory.memory.items c.in_ok-names.field-0.numbers.mutexes c.in_ok-names.field-0.numbers.conditions
    c.in_ok-functions.functions.items
    ≡ code_of source p =
    ap (λ ms. flat.code_of ms c.in_ok-names.field-0.numbers.mutexes c.in_ok-names.field-0.numbers.conditions c.in_ok-functions.functions.items) memory
    ∙ ap (λ n. flat.code_of (memory_of p.globals) n c.in_ok-names.field-0.numbers.conditions c.in_ok-functions.functions.items) mutexes_are
    ∙ ap (λ n. flat.code_of (memory_of p.globals) (mutexes p.globals) n c.in_ok-functions.functions.items) conditions_are
    ∙ ap (λ fs. flat.code_of (memory_of p.globals) (mutexes p.globals) (conditions p.globals) fs) functions in
    subst IsLawful (sym same) (program_is_lawful source p c.requires.cells (program_ints p c.requires.ints))
