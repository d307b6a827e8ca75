-- The function of each thread of a run, by code and log.
use Rattle.std.proofs.Common.{◌≡◌, ◌∙◌, inl, inr, ℕ, zero, suc, ◌≤◌, List, [], ◌∷◌, ◌++◌, length, Some, sym, ap, arith}
use Rattle.std.specs.Prelude.{slice_get, option_and_then}
use Rattle.std.specs.FinMap as fin
use Rattle.std.proofs.lemmas.List.{map-append, length-append}
use Rattle.std.proofs.lemmas.List.Elements.{filter_map-append}
use Rattle.path_walk.specs.tc_base.Names.{Name}
use Rattle.path_walk.specs.run_log.Logs.{Log}
use Rattle.path_walk.specs.tc_base.States.{Local, Thread, State}
use Rattle.path_walk.specs.tc_code.Code.{Code}
use Rattle.path_walk.specs.Steps.{Step, step_at, steps_at}
use Rattle.path_walk.specs.Fits.{starts, started, places_in, child_function, function_of}
use Rattle.path_walk.proofs.Faults.{function_of_child}
use Rattle.path_laws.specs.Prefixes.{fails_by}
use Rattle.path_walk.proofs.list_laws.Lists.{get_front}
use Rattle.path_laws.proofs.States.{created, told_is, AllKnown}

module _ (code : Code) (log : Log) where
  -- these places are the first ones of the named thread's path
  abbrev pub AreFirst : Name → Local → List ℕ → Type 0
  AreFirst n t places = (rest : List ℕ) × (places_in code log n t.function ≡ places ++ rest)

  module _ {B : Type 0} (s : State B) (known : AllKnown code s.threads s.failed)
      (first : (n : Name) (t : Thread B) (there : fin.get s.threads n ≡ Some t) → function_of code log n ≡ Some t.local.function
      → AreFirst n t.local (known n t there).places) where
    -- the path names the function of each thread that this thread has created
    born_child : (n : Name) (t : Thread B) (there : fin.get s.threads n ≡ Some t) → function_of code log n ≡ Some t.local.function → (j f : ℕ)
        → slice_get (created code t.local) j ≡ Some f → child_function code log n t.local.function (suc j) ≡ Some f
    born_child n t there function j f at =
        let k = known n t there in
        let g = t.local.function in
        let rest = first n t there function in
        ap (λ xs. slice_get (started (steps_at code g xs)) j) rest.1
        ∙ ap (λ xs. slice_get (started xs) j) (map-append (step_at code g) k.places rest.0)
        ∙ ap (λ xs. slice_get xs j) (filter_map-append (λ (x : Step). starts x.instr) (steps_at code g k.places) (steps_at code g rest.0))
        ∙ get_front (started (steps_at code g k.places)) _ j f
        (ap (λ xs. slice_get (started (steps_at code g xs)) j) (sym (told_is code (fails_by s.failed n) t.local k.places k.stands)) ∙ at)

    -- a thread's function is that of the code and log, for names up to any length
    has_function : (m : ℕ) (n : Name) (t : Thread B) → length n ≤ m → fin.get s.threads n ≡ Some t → function_of code log n ≡ Some t.local.function
    has_function zero n t few there =
        elim (known n t there).born [
          | inl is ↦ ap (function_of code log) is.0 ∙ ap (λ f. Some f) (sym is.1)
          | inr b ↦ absurd (omega (arith, few, ap length b.name, length-append b.parent (suc b.number ∷ [])))
        ]
    has_function (suc m) n t few there =
        elim (known n t there).born [
          | inl is ↦ ap (function_of code log) is.0 ∙ ap (λ f. Some f) (sym is.1)
          | inr b ↦
              let less : length b.parent ≤ m = omega (arith, few, ap length b.name, length-append b.parent (suc b.number ∷ [])) in
              let function = has_function m b.parent b.thread less b.there in
              ap (function_of code log) b.name
              ∙ function_of_child code log b.parent (suc b.number)
              ∙ ap (option_and_then (λ g. child_function code log b.parent g (suc b.number))) function
              ∙ born_child b.parent b.thread b.there function b.number t.local.function b.creates
        ]

    -- a thread's function is that of the code and log
    pub function_is : (n : Name) (t : Thread B) → fin.get s.threads n ≡ Some t → function_of code log n ≡ Some t.local.function
    function_is n t there = has_function (length n) n t (omega arith) there
