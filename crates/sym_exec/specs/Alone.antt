-- What symbolic execution says about a thread alone on its path, given the values of its loads.
use Rattle.std.specs.Prelude.{◌≡◌, ℕ, zero, suc, ◌+◌, ◌<◌, ◌≤◌, ℤ, pos, List, [], ◌∷◌, ◌++◌, map, length, Bool, Option, Some, None, option_map}
use Rattle.std.specs.Prelude.{option_and_then, slice_index_or}
use Rattle.std.specs.List.{All, cons_option}
use Rattle.std.specs.Option.{option_map_or}
use Rattle.int_ops.specs.Arith.{IsInt, is_distance}
use Rattle.int_ops.specs.Updates.{updated}
use Rattle.tc_base.specs.declared.request.Request.{Request}
use Rattle.tc_base.specs.declared.request.Request.TheVariants.{Read, Write, Exchange}
use Rattle.tc_base.specs.States.{Local}
use Rattle.tc_code.specs.Code.{Code, instr_at}
use Rattle.tc_code.specs.declared.instr.Instr.{Instr}
use Rattle.tc_code.specs.declared.instr.Instr.TheVariants.{Inside, Branch, Create, Assert, Nonzero, InRange}
use Rattle.tc_code.specs.Step.{ints_of, instr_of, value_in, is_within, is_nonzero, cell_at, request}
use Rattle.run_laws.specs.Alone.{Alone, goes_on, after_steps}
use Rattle.sym_terms.specs.Terms.{AreTerms}
use Rattle.sym_terms.specs.Values.{value_of}
use Rattle.sym_terms.specs.declared.node.Node.{Node}
use Rattle.sym_exec.specs.Thread.{Handed, Doing, HasTerms, Route, after_all}
use Rattle.sym_exec.specs.declared.symbolic.Access.{Access}
use Rattle.tc_code.specs.declared.cell.Cell.{Cell}
use Rattle.tc_code.specs.declared.cell.Cell.TheVariants.{Fixed, Element}
use Rattle.sym_exec.specs.declared.symbolic.Test.{Test}

-- the values of the slots' terms
abbrev pub slots_by : List ℤ → Doing → List ℤ
slots_by loads d = map (value_of d.nodes loads) d.slots

-- the outcome of an instruction's test, if it has one
abbrev pub condition : Local → Instr → Option Bool
condition t (Inside len i) = Some (is_within len (value_in t i))
condition t (Branch e to) = Some (is_nonzero (value_in t e))
condition t (Assert e) = Some (is_nonzero (value_in t e))
condition t (Nonzero e) = Some (is_nonzero (value_in t e))
condition t (InRange e) = Some (is_distance (value_in t e))
condition t _ = None

-- the outcomes of the tests in a thread's next k steps, in order
abbrev pub outcomes_of : Code → ℕ → Alone → List Bool
outcomes_of code zero a = []
outcomes_of code (suc k) a =
    cons_option (option_and_then (condition a.local) (instr_of code a.local))
    (outcomes_of code k (goes_on code a))

-- the outcome of a test: whether its term is nonzero
abbrev pub outcome_by : List Node → List ℤ → Test → Bool
outcome_by nodes loads x = is_nonzero (value_of nodes loads x.term)

-- the arguments that an instruction, or a thread's next k steps, hand to new children, in order
abbrev pub given_by : Local → Instr → List (List ℤ)
given_by t (Create h f es) = map (value_in t) es ∷ []
given_by t _ = []

abbrev pub given_of : Code → ℕ → Alone → List (List ℤ)
given_of code zero a = []
given_of code (suc k) a =
    option_map_or (given_by a.local) (instr_of code a.local) [] ++ given_of code k (goes_on code a)

-- the values of the arguments that a create hands over
abbrev pub values_in : List Node → List ℤ → Handed → List ℤ
values_in nodes loads h = map (value_of nodes loads) h.terms

-- an access to a cell: the value that it loads, if any, and the value that it stores, if any
pub record Asked : Type 0 where
  pub cell : ℕ
  pub takes : Option ℤ
  pub writes : Option ℤ

-- the accesses of a request, where a load takes the value v
abbrev pub asked_by : ℤ → Request → List Asked
asked_by v (Read c) = record { cell = c; takes = Some v; writes = None } ∷ []
asked_by v (Write c w) = record { cell = c; takes = None; writes = Some w } ∷ []
asked_by v (Exchange c u) = record { cell = c; takes = Some v; writes = Some (updated u v) } ∷ []
asked_by v _ = []

-- the accesses of a thread's next k steps, in order
abbrev pub asked_of : Code → ℕ → Alone → List Asked
asked_of code zero a = []
asked_of code (suc k) a =
    option_map_or (λ i. asked_by (slice_index_or a.values 0 (pos 0)) (request a.local i))
    (instr_of code a.local) [] ++ asked_of code k (goes_on code a)

-- the cell of a symbolic access, and the whole access, with the values of its terms
abbrev pub cell_by : List Node → List ℤ → Cell ℕ → ℕ
cell_by nodes loads (Fixed c) = c
cell_by nodes loads (Element first len index) = cell_at first (value_of nodes loads index)

abbrev pub asked_in : List Node → List ℤ → Access → Asked
asked_in nodes loads x = record {
  cell = cell_by nodes loads x.cell;
  takes = option_map (λ k. slice_index_or loads k (pos 0)) x.takes;
  writes = option_map (value_of nodes loads) x.writes;
}

-- the thread's next instructions are those at these places of a function
abbrev pub GoesAlong : Code → ℕ → List ℕ → Alone → Type 0
GoesAlong code f [] a = Unit {0}
GoesAlong code f (place ∷ places) a =
    (instr_of code a.local ≡ instr_at code f place) × GoesAlong code f places (goes_on code a)

-- the loads numbered from `first` to before `end` take these values in order
abbrev pub TakesFrom : List ℤ → ℕ → ℕ → List ℤ → Type 0
TakesFrom loads first end values =
    (k : ℕ) → first + k < end
    → slice_index_or loads (first + k) (pos 0) ≡ slice_index_or values k (pos 0)

module _ (r : Route) (loads : List ℤ) where
  -- a symbolic execution that agrees with a thread, which follows the places
  pub record StandsFor (places : List ℕ) (d : Doing) (a : Alone) : Type 0 where
    pub terms : AreTerms d.nodes
    pub sound : HasTerms d
    pub ints : ints_of r.code r.function ≤ length d.slots
    -- each slot has the value of its term
    pub slots : a.local.slots ≡ slots_by loads d
    pub along : GoesAlong r.code r.function places a
    -- the execution's loads take the values that the thread takes
    pub takes : TakesFrom loads d.loads (after_all r d places).loads a.values
    -- the thread's slots, and the values that it takes, are ints
    pub slot_ints : All IsInt a.local.slots
    pub taken_ints : All IsInt a.values

  -- after the steps at the places, slots, tests, creates and accesses agree with their terms
  pub record Tells (places : List ℕ) (d : Doing) (a : Alone) : Type 0 where
    pub slots : (after_steps r.code (length places) a).local.slots
        ≡ slots_by loads (after_all r d places)
    pub tests : map (outcome_by (after_all r d places).nodes loads) (after_all r d places).tests
        ≡ map (outcome_by (after_all r d places).nodes loads) d.tests
        ++ outcomes_of r.code (length places) a
    pub creates : map (values_in (after_all r d places).nodes loads) (after_all r d places).creates
        ≡ map (values_in (after_all r d places).nodes loads) d.creates
        ++ given_of r.code (length places) a
    pub accesses : map (asked_in (after_all r d places).nodes loads) (after_all r d places).accesses
        ≡ map (asked_in (after_all r d places).nodes loads) d.accesses
        ++ asked_of r.code (length places) a
