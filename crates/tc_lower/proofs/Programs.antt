-- The code of each program is lawful.
use Rattle.std.proofs.Common.{
  ◌≡◌,
  ℕ,
  zero,
  suc,
  ◌+◌,
  ◌-◌,
  ◌≤◌,
  Bool,
  true,
  false,
  IsTrue,
  cond,
  List,
  [],
  ◌∷◌,
  ◌++◌,
  length,
  map,
  replicate,
  Option,
  Some,
  None,
  pos,
  refl,
  ap,
  sym,
  subst,
  ◌∙◌,
  append_assoc,
  arith,
  length-append,
  slice_get,
  bytes_eq,
}
use Rattle.std.specs.Prelude.{◌==◌, codes}
use Rattle.std.specs.Option.{option_map_or}
use Rattle.std.proofs.lemmas.Bool.Decides.{Decides-eqb}
use Rattle.std.proofs.lemmas.List.{length-replicate}
use Rattle.std.proofs.lemmas.Option.{none-some, same_Some}
use Rattle.tc_code.specs.declared.instr.Instr.{Instr}
use Rattle.tc_code.specs.declared.instr.Instr.TheVariants.{Exit}
use Rattle.tc_code.specs.Code.{Code}
use Rattle.tc_code.specs.tc_limits.declared.limits.TheConstants.{CELLS}
use Rattle.tc_code.specs.Lawful as lawful
use Rattle.tc_code.specs.Lawful.{takes, keeps_apart, IsLawfulFunction, IsLawful}
use Rattle.tc_code.specs.declared.code.Func.{Func}
use Rattle.tc_tree.specs.declared.expression.Name.{Name}
use Rattle.tc_tree.specs.declared.program.Global.{Global}
use Rattle.tc_tree.specs.declared.program.Global.TheVariants.{Int, Array, Mutex, Condition}
use Rattle.tc_tree.specs.declared.program.Local.{Local}
use Rattle.tc_tree.specs.declared.program.Local.TheVariants.{Int as LocalInt, Handle}
use Rattle.tc_tree.specs.Counts.{elements, cells, mutexes, conditions}
use Rattle.tc_tree.specs.Grammar.{Body, Thread, Program}
use Rattle.tc_lower.specs.declared.tables.Numbers.{Numbers}
use Rattle.tc_lower.specs.declared.things.Named.{Named}
use Rattle.tc_lower.specs.declared.things.Thing.{Thing}
use Rattle.tc_names.specs.Names.{name_text}
use Rattle.tc_lower.specs.Things.{
  thing_in,
  own_first,
  thing_in_scope,
  past_global,
  globals_from,
  no_numbers,
  threads_from,
  parameters_from,
  locals_from,
  ints,
  handles,
  own_things,
  program_things,
}
use Rattle.tc_lower.specs.Statements.{all_lowered}
use Rattle.tc_lower.specs.Lowering.{memory_of, function_of, thread_function, code_of}
use Rattle.tc_lower.proofs.Blocks.{Block}
use Rattle.tc_lower.proofs.Arrays.{
  arrays_from,
  arrays_apart,
  arrays_zero,
  ArraysSoFar,
  outside_all,
  past_int,
  among_all,
  past_array,
  past_mutex,
  past_condition,
  from_none,
}
use Rattle.tc_lower.proofs.Functions.{function_keeps_apart, function_is_lawful}
use Rattle.tc_lower.proofs.Ints.{BodyInts, ThreadsInts, ProgramInts}
use Rattle.tc_lower.proofs.Parts.{IsAt}
use Rattle.tc_lower.proofs.Pieces.{all_lined}
use Rattle.tc_lower.proofs.Sound.{InBounds, IfThere, block_at}

seam : {A : Type 0} (xs : List A) (y : A) (ys : List A) → slice_get (xs ++ y ∷ ys) (length xs) ≡ Some y
seam [] y ys = refl
seam (x ∷ xs) y ys = seam xs y ys

-- ---- existing things

abbrev pub AllThere : List lawful.Array → Code → Func → ℕ → List Named → Type 0
AllThere arrays code f base [] = Unit {0}
AllThere arrays code f base (n ∷ ns) = InBounds arrays code f base n.thing × AllThere arrays code f base ns

module _ (arrays : List lawful.Array) (code : Code) (f : Func) (base : ℕ) where
  one_of_two : (b : Bool) (t : Thing) (o : Option Thing) → InBounds arrays code f base t → IfThere arrays code f base o
      → IfThere arrays code f base (cond b (Some t) o)
  one_of_two true t o h g = h
  one_of_two false t o h g = g

  found_there : (source : List ℕ) (ns : List Named) (x : Name) → AllThere arrays code f base ns → IfThere arrays code f base (thing_in source ns x)
  found_there source [] x h = tt
  found_there source (n ∷ ns) x h =
      one_of_two (bytes_eq (name_text source n.name) (name_text source x)) n.thing (thing_in source ns x) h.0 (found_there source ns x h.1)

  first_there : (o q : Option Thing) → IfThere arrays code f base o → IfThere arrays code f base q → IfThere arrays code f base (own_first o q)
  first_there (Some t) q h g = h
  first_there None q h g = g

  pub scope_there : (source : List ℕ) (own all : List Named) → AllThere arrays code f base own → AllThere arrays code f base all → (x : Name)
      → IfThere arrays code f base (thing_in_scope source own all x)
  scope_there source own all h g x =
      first_there (thing_in source own x) (thing_in source all x) (found_there source own x h) (found_there source all x g)

  append_there : (ns ms : List Named) → AllThere arrays code f base ns → AllThere arrays code f base ms → AllThere arrays code f base (ns ++ ms)
  append_there [] ms h g = g
  append_there (n ∷ ns) ms h g = (h.0, append_there ns ms h.1 g)

  globals_there : (n : Numbers) (gs : List Global) → ArraysSoFar arrays n.cells gs → n.cells + cells gs ≤ length code.memory
      → n.mutexes + mutexes gs ≤ code.mutexes → n.conditions + conditions gs ≤ code.conditions → AllThere arrays code f base (globals_from n gs)
  globals_there n [] o a b c = tt
  globals_there n (Int x i ∷ gs) o a b c = (
    (omega (arith, a), outside_all arrays n.cells x i gs o),
    globals_there (past_global n (Int x i)) gs (past_int arrays n.cells x i gs o) (omega (arith, a)) (omega (arith, b)) (omega (arith, c)),
  )
  globals_there n (Array x size ∷ gs) o a b c = (
    (omega (arith, a), among_all arrays n.cells x size gs o),
    globals_there (past_global n (Array x size)) gs (past_array arrays n.cells x size gs o) (omega (arith, a)) (omega (arith, b)) (omega (arith, c)),
  )
  globals_there n (Mutex x ∷ gs) o a b c = (
    omega (arith, b),
    globals_there (past_global n (Mutex x)) gs (past_mutex arrays n.cells x gs o) (omega (arith, a)) (omega (arith, b)) (omega (arith, c)),
  )
  globals_there n (Condition x ∷ gs) o a b c = (
    omega (arith, c),
    globals_there (past_global n (Condition x)) gs (past_condition arrays n.cells x gs o) (omega (arith, a)) (omega (arith, b)) (omega (arith, c)),
  )

  parameters_there : (slot : ℕ) (xs : List Name) → slot + length xs ≤ base → AllThere arrays code f base (parameters_from slot xs)
  parameters_there slot [] h = tt
  parameters_there slot (x ∷ xs) h = (omega (arith, h), parameters_there (slot + 1) xs (omega (arith, h)))

  locals_there : (slot handle : ℕ) (ls : List Local) → slot + ints ls ≤ base → handle + handles ls ≤ f.handles
      → AllThere arrays code f base (locals_from slot handle ls)
  locals_there slot handle [] h g = tt
  locals_there slot handle (LocalInt x ∷ ls) h g = (omega (arith, h), locals_there (slot + 1) handle ls (omega (arith, h)) g)
  locals_there slot handle (Handle x ∷ ls) h g = (omega (arith, g), locals_there slot (handle + 1) ls h (omega (arith, g)))

  threads_there : (function_for : Thread → Func) → ((t : Thread) → (function_for t).params ≡ length t.parameters) →
      (before after : List Func) (ts : List Thread)
      → code.functions ≡ before ++ (map function_for ts ++ after) → AllThere arrays code f base (threads_from (length before) ts)
  threads_there function_for params before after [] e = tt
  threads_there function_for params before after (t ∷ ts) e =
      let g = function_for t in
      let at : slice_get code.functions (length before) ≡ Some g = ap (λ fs. slice_get fs (length before)) e ∙ seam before g (map function_for ts ++ after) in
      let taken : IsTrue (takes code (length before) (length t.parameters)) =
      subst (λ o. IsTrue (option_map_or (λ (h : Func). h.params == length t.parameters) o false)) (sym at)
      ((Decides-eqb g.params (length t.parameters)).1 (params t)) in
      let moved : code.functions ≡ (before ++ g ∷ []) ++ (map function_for ts ++ after) = e ∙ sym (append_assoc before (g ∷ []) (map function_for ts
      ++ after)) in
      let size : length (before ++ g ∷ []) ≡ length before + 1 = length-append before (g ∷ []) in
      (taken, subst (λ k. AllThere arrays code f base (threads_from k ts)) size (threads_there function_for params (before ++ g ∷ []) after ts moved))

-- ---- memory

pub memory_length : (gs : List Global) → length (memory_of gs) ≡ cells gs
memory_length [] = refl
memory_length (Int x i ∷ gs) = omega (arith, memory_length gs)
memory_length (Array a size ∷ gs) =
    omega (arith, memory_length gs, length-append (replicate (elements size.value) (pos 0)) (memory_of gs), length-replicate (elements size.value) (pos 0))
memory_length (Mutex m ∷ gs) = omega (arith, memory_length gs)
memory_length (Condition c ∷ gs) = omega (arith, memory_length gs)

-- ---- functions

-- a function is lawful and treats these arrays as separate
record IsLawfulWith (arrays : List lawful.Array) (code : Code) (f : Func) : Type 0 where
  pub lawful : IsLawfulFunction code f
  pub apart : (k : ℕ) (i : Instr) → slice_get f.instrs k ≡ Some i → IsTrue (keeps_apart arrays i)

module _ (source : List ℕ) (p : Program) (few : cells p.globals ≤ CELLS) (has : ProgramInts p) where
  abbrev arrays : List lawful.Array
  arrays = arrays_from 0 p.globals

  -- each function of the program
  body_lawful : (name : List ℕ) (parameters : List Name) (b : Body) → BodyInts b
      → IsLawfulWith arrays (code_of source p) (function_of source (program_things p.globals p.threads) name parameters b)
  body_lawful name parameters b fine =
      let code = code_of source p in
      let all = program_things p.globals p.threads in
      let f = function_of source all name parameters b in
      let base = length parameters + ints b.locals in
      let own = own_things parameters b.locals in
      let globals = globals_there arrays code f base no_numbers p.globals (from_none p.globals) (omega (arith, memory_length p.globals)) (omega arith)
      (omega arith) in
      let threads = threads_there arrays code f base (thread_function source all) (λ t. refl) []
      (function_of source all (codes "main") [] p.main ∷ []) p.threads refl in
      let outer = append_there arrays code f base (globals_from no_numbers p.globals) (threads_from 0 p.threads) globals threads in
      let inner = append_there arrays code f base (parameters_from 0 parameters) (locals_from (length parameters) 0 b.locals)
      (parameters_there arrays code f base 0 parameters (omega arith))
      (locals_there arrays code f base (length parameters) 0 b.locals (omega arith) (omega arith)) in
      let there = scope_there arrays code f base source own all inner outer in
      let written = all_lowered (thing_in_scope source own all) 0 base b.statements in
      let lined = all_lined arrays code f base (thing_in_scope source own all) there 0 base b.statements (omega arith) in
      let named = lined.piece.named (omega arith) in
      let is_at : IsAt f.instrs 0 written.instrs = record { before = []; after = Exit ∷ []; whole = refl; place = refl } in
      let block : Block f.instrs 0 (length written.instrs) =
      block_at f.instrs 0 0 (0 + length written.instrs) (length written.instrs) refl (omega arith) (lined.piece.block f.instrs is_at) in
      record {
        lawful = function_is_lawful code f written.instrs refl block arrays
            (omega (arith, lined.lines, length-append written.lines (b.end.line ∷ []), length-append written.instrs (Exit ∷ [])))
            (omega (arith, lined.piece.grows)) named (fine (thing_in_scope source own all) 0 base);
        apart = function_keeps_apart code f written.instrs refl block arrays named;
      }

  each_function : (after : List Func) → ((k : ℕ) (g : Func) → slice_get after k ≡ Some g → IsLawfulWith arrays (code_of source p) g) →
      (ts : List Thread) → ThreadsInts ts → (k : ℕ) (g : Func)
      → slice_get (map (thread_function source (program_things p.globals p.threads)) ts ++ after) k ≡ Some g → IsLawfulWith arrays (code_of source p) g
  each_function after h [] fine k g there = h k g there
  each_function after h (t ∷ ts) fine zero g there =
      subst (IsLawfulWith arrays (code_of source p)) (same_Some (thread_function source (program_things p.globals p.threads) t) g there)
      (body_lawful (name_text source t.name) t.parameters t.body fine.0)
  each_function after h (t ∷ ts) fine (suc k) g there = each_function after h ts fine.1 k g there

  only_main : (k : ℕ) (g : Func) → slice_get (function_of source (program_things p.globals p.threads) (codes "main") [] p.main ∷ []) k ≡ Some g
      → IsLawfulWith arrays (code_of source p) g
  only_main zero g there =
      subst (IsLawfulWith arrays (code_of source p))
      (same_Some (function_of source (program_things p.globals p.threads) (codes "main") [] p.main) g there)
      (body_lawful (codes "main") [] p.main has.main)
  only_main (suc k) g there = absurd (none-some g there)

  all_functions : (k : ℕ) (g : Func) → slice_get (code_of source p).functions k ≡ Some g → IsLawfulWith arrays (code_of source p) g
  all_functions = each_function (function_of source (program_things p.globals p.threads) (codes "main") [] p.main ∷ []) only_main p.threads has.threads

  pub program_is_lawful : IsLawful (code_of source p)
  program_is_lawful =
      let all = program_things p.globals p.threads in
      let fs = map (thread_function source all) p.threads in
      let main = function_of source all (codes "main") [] p.main in
      let last : length fs ≡ length (fs ++ main ∷ []) - 1 = omega (arith, length-append fs (main ∷ [])) in
      record {
        cells = omega (arith, memory_length p.globals, few);
        ints = has.memory;
        functions = λ k g there. (all_functions k g there).lawful;
        arrays = record {
          arrays = arrays;
          apart = arrays_apart 0 p.globals;
          zero = arrays_zero p.globals;
          named = λ f k g i there here. (all_functions f g there).apart k i here;
        };
        main = record { main = main; there = subst (λ k. slice_get (fs ++ main ∷ []) k ≡ Some main) last (seam fs main []); params = refl };
      }
