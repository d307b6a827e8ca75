-- Faults of the parts of a program, and the fault of the program.
use Rattle.std.proofs.Common.{◌≡◌, List, [], ◌∷◌, ◌++◌, length, map, take, drop, ℕ, Option, Some, None, Err, refl, sym, ap, ◌∙◌}
use Rattle.tc_tree.specs.declared.program.Global.{Global}
use Rattle.tc_tree.specs.declared.program.Thread.{Thread as TreeThread}
use Rattle.tc_tree.specs.Grammar.{Program}
use Rattle.tc_tree.specs.Seen.{thread_of}
use Rattle.tc_names.specs.declared.fault.NameFault.{NameFault}
use Rattle.tc_names.specs.declared.fault.NameFault.TheVariants.{Unknown, Twice, Kind, Arguments, Memory}
use Rattle.tc_names.specs.Answers.{TellsUnlessMemory}
use Rattle.tc_names.specs.declared.scope.Declaration.{Declaration}
use Rattle.tc_names.specs.Names.{◌then◌, global_declaration, thread_declaration, globals_fault, threads_fault, body_fault, names_fault, program_declarations}

-- the threads follow the globals among all declarations
pub threads_left : (gs : List Global) (ds : List Declaration) → drop (length gs) (map global_declaration gs ++ ds) ≡ ds
threads_left [] ds = refl
threads_left (g ∷ gs) ds = threads_left gs ds

pub globals_taken : (gs : List Global) (ds : List Declaration) → take (length gs) (map global_declaration gs ++ ds) ≡ map global_declaration gs
globals_taken [] ds = refl
globals_taken (g ∷ gs) ds = ap (λ (es : List Declaration). global_declaration g ∷ es) (globals_taken gs ds)

pub threads_seen : (ts : List TreeThread) → map (λ (t : TreeThread). thread_declaration (thread_of t)) ts ≡ map thread_declaration (map thread_of ts)
threads_seen [] = refl
threads_seen (t ∷ ts) = ap (λ (es : List Declaration). thread_declaration (thread_of t) ∷ es) (threads_seen ts)

pub declared_is : (gs : List Global) (ts : List TreeThread) (all : List Declaration)
    → all ≡ map global_declaration gs ++ map (λ (t : TreeThread). thread_declaration (thread_of t)) ts
    → all ≡ map global_declaration gs ++ map thread_declaration (map thread_of ts)
declared_is gs ts all e = e ∙ ap (λ (ds : List Declaration). map global_declaration gs ++ ds) (threads_seen ts)

pub threads_of_all : (p : Program) (all : List Declaration) → all ≡ program_declarations p
    → drop (length p.globals) all ≡ map thread_declaration p.threads
threads_of_all p all e = ap (λ (ds : List Declaration). drop (length p.globals) ds) e ∙ threads_left p.globals (map thread_declaration p.threads)

globals_of_all : (p : Program) (all : List Declaration) → all ≡ program_declarations p
    → take (length p.globals) all ≡ map global_declaration p.globals
globals_of_all p all e = ap (λ (ds : List Declaration). take (length p.globals) ds) e ∙ globals_taken p.globals (map thread_declaration p.threads)

same_threads : (source : List ℕ) (p : Program) (all : List Declaration) → all ≡ program_declarations p
    → threads_fault source (program_declarations p) (map global_declaration p.globals) p.threads ≡ threads_fault source all
    (take (length p.globals) all) p.threads
same_threads source p all e =
    ap (λ (ds : List Declaration). threads_fault source ds (map global_declaration p.globals) p.threads) (sym e)
    ∙ ap (λ (ds : List Declaration). threads_fault source all ds p.threads) (sym (globals_of_all p all e))

-- if the globals have no fault, a fault of the threads is the program's
pub names_threads : (source : List ℕ) (p : Program) (all : List Declaration) (f : NameFault) → all ≡ program_declarations p
    → globals_fault source [] p.globals ≡ None → threads_fault source all (take (length p.globals) all) p.threads ≡ Some f
    → names_fault source p ≡ Some f
names_threads source p all f e clear bad =
    let threads = threads_fault source (program_declarations p) (map global_declaration p.globals) p.threads in
    let main = body_fault source (program_declarations p) [] p.main in
    ap (λ (g : Option NameFault). g then (threads then main)) clear
    ∙ ap (λ (g : Option NameFault). g then main) (same_threads source p all e ∙ bad)

-- if the threads have none either, a fault of main is the program's
pub names_main : (source : List ℕ) (p : Program) (all : List Declaration) → all ≡ program_declarations p
    → globals_fault source [] p.globals ≡ None → threads_fault source all (take (length p.globals) all) p.threads ≡ None
    → names_fault source p ≡ body_fault source all [] p.main
names_main source p all e clear good =
    let threads = threads_fault source (program_declarations p) (map global_declaration p.globals) p.threads in
    let main = body_fault source (program_declarations p) [] p.main in
    ap (λ (g : Option NameFault). g then (threads then main)) clear
    ∙ ap (λ (g : Option NameFault). g then main) (same_threads source p all e ∙ good)
    ∙ ap (λ (ds : List Declaration). body_fault source ds [] p.main) (sym e)

-- ---- where memory may run out

pub told : (A B : Type 0) (f : NameFault) (x y : Option NameFault) → TellsUnlessMemory {A = A} (Err f) x → (x ≡ Some f → y ≡ Some f)
    → TellsUnlessMemory {A = B} (Err f) y
told A B (Unknown p) x y h k = k h
told A B (Twice p) x y h k = k h
told A B (Kind p) x y h k = k h
told A B (Arguments p) x y h k = k h
told A B Memory x y h k = tt
