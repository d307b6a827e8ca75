-- The tests of a region whose thread is found, and steps over the variables of a mutex.
use Rattle.std.proofs.Common.{◌≡◌, ◌∙◌, ℕ, List, [], Option, Some, length, map, take, ap, sym}
use Rattle.std.specs.Prelude.{slice_get}
use Rattle.std.specs.Option.{option_map_or}
use Rattle.tc_code.specs.Code.{Code}
use Rattle.path_walk.specs.Paths.{Paths}
use Rattle.path_walk.specs.declared.event.Region.{Region}
use Rattle.sym_terms.specs.declared.node.Node.{Node}
use Rattle.sym_exec.specs.Executed.{Course, Symbolic}
use Rattle.sym_exec.specs.declared.symbolic.Access.{Access}
use Rattle.sym_exec.specs.declared.symbolic.Test.{Test}
use Rattle.order_formula.specs.declared.formula.Conjunct.{Conjunct}
use Rattle.order_events.specs.lawful_order.Events.{Placed}
use Rattle.read_write.specs.Accesses.{all_accesses}
use Rattle.mutex_regions.specs.Variables.{guarded}
use Rattle.mutex_regions.specs.declared.functions.Loaded.{Loaded}
use Rattle.mutex_regions.specs.declared.variables.Variable.{Variable}
use Rattle.mutex_states.specs.States.{step_of}
use Rattle.mutex_states.specs.Steps.{Step, Tested}
use Rattle.mutex_clauses.specs.steps.helpers.Over.{all_tested, first_test, step_over, tests_of}

module _ (symbolic : Symbolic) (nodes : List Node) (conjuncts : ℕ) where
  pub tests_found : (r : Placed Region) (loads : List Loaded) (threads : List Course) (course : Course) (first : ℕ)
      (tests : List Test) → threads ≡ symbolic.threads → slice_get threads r.thread ≡ Some course
      → first ≡ first_test conjuncts threads r.thread → tests ≡ course.tests
      → take 16 (all_tested nodes loads first r.it.«from» tests) ≡ tests_of symbolic nodes conjuncts r loads
  tests_found r loads threads course first tests same found number are =
      let kept : ℕ → List Test → List Tested = λ n ts. all_tested nodes loads n r.it.«from» ts in
      let own : ℕ = first_test conjuncts symbolic.threads r.thread in
      let here : Option Course → List Tested = λ o. take 16 (option_map_or (λ (c : Course). kept own c.tests) o []) in
      ap (λ n. take 16 (kept n tests)) (number ∙ ap (λ ts. first_test conjuncts ts r.thread) same) ∙ ap (λ ts. take 16 (kept own ts)) are
      ∙ sym (ap here (sym (ap (λ ts. slice_get ts r.thread) same) ∙ found))

  pub steps_are : (code : Code) (paths : Paths) (formula : List Conjunct) (m : ℕ) (variables : List Variable)
      (accesses : List (Placed Access)) (regions : List (Placed Region)) → length formula ≡ conjuncts
      → variables ≡ guarded paths symbolic m → accesses ≡ all_accesses symbolic
      → map (step_over symbolic nodes conjuncts variables accesses) regions ≡ map (step_of code paths symbolic nodes formula m) regions
  steps_are code paths formula m variables accesses regions count own all =
      let steps : ℕ → List Variable → List (Placed Access) → List Step = λ n vs xs. map (step_over symbolic nodes n vs xs) regions in
      ap (λ n. steps n variables accesses) (sym count) ∙ ap (λ vs. steps (length formula) vs accesses) own
      ∙ ap (steps (length formula) (guarded paths symbolic m)) all
