-- The steps of one thread, by its path alone.
use Rattle.std.specs.Prelude.{ℕ, zero, suc, ◌+◌, ◌-◌, List, [], ◌∷◌, Bool, true, false, map, Option, Some, None, unwrap_or, slice_get, length}
use Rattle.std.specs.Prelude.{if◌then◌else◌, Result, Ok, Err}
use Rattle.std.specs.Option.{option_map_or}
use Rattle.tc_base.specs.Paths.{Path}
use Rattle.tc_code.specs.Code.{Code, instr_at}
use Rattle.tc_code.specs.declared.instr.Instr.{Instr}
use Rattle.tc_code.specs.declared.instr.Instr.TheVariants.{Branch, Goto, Inside, Holds, Lock, Wake, Ready, Join, Assert, Nonzero, InRange, Exit}
use Rattle.path_walk.specs.declared.ending.Ending.{Ending}
use Rattle.path_walk.specs.declared.ending.Ending.TheVariants.{Fails, Rests}
use Rattle.path_walk.specs.declared.fault.Misfit.{Misfit}
use Rattle.path_walk.specs.declared.fault.Misfit.TheVariants.{OutcomesShort, OutcomesLeft, PastExit, NotASite, NotBlocked}

-- the place where a thread goes on, and its remaining outcomes
pub record Onward : Type 0 where
  pub place : ℕ
  pub outcomes : List Bool

-- where a branch leads by the next outcome, if there is one: to the target if that is false
abbrev pub branched : ℕ → ℕ → List Bool → Option Onward
branched next to [] = None
branched next to (true ∷ outcomes) = Some (record { place = next; outcomes = outcomes })
branched next to (false ∷ outcomes) = Some (record { place = to; outcomes = outcomes })

-- where the instruction at place k leads
abbrev pub onward : ℕ → Instr → List Bool → Option Onward
onward k (Branch e to) outcomes = branched (k + 1) to outcomes
onward k (Goto to) outcomes = Some (record { place = to; outcomes = outcomes })
onward k _ outcomes = Some (record { place = k + 1; outcomes = outcomes })

-- a place in front of the places found, or the fault
abbrev pub with_place : ℕ → Result (List ℕ) Misfit → Result (List ℕ) Misfit
with_place k (Ok places) = Ok (k ∷ places)
with_place k (Err fault) = Err fault

-- the places of n steps of function f from place k on with these outcomes, or what is wrong
abbrev pub places_from : Code → ℕ → ℕ → ℕ → List Bool → Result (List ℕ) Misfit
places_from code f zero k [] = Ok []
places_from code f zero k (_ ∷ _) = Err OutcomesLeft
places_from code f (suc n) k outcomes =
    option_map_or
    (λ i. option_map_or (λ on. with_place k (places_from code f n on.place on.outcomes))
    (onward k i outcomes) (Err OutcomesShort))
    (instr_at code f k) (Err PastExit)

-- whether a thread fails in the last step of its path
abbrev pub is_failing : Ending → Bool
is_failing Fails = true
is_failing _ = false

-- the place that n steps from place k lead to, with these outcomes
abbrev pub end_from : Code → ℕ → ℕ → ℕ → List Bool → ℕ
end_from code f zero k outcomes = k
end_from code f (suc n) k outcomes =
    option_map_or
    (λ i. option_map_or (λ on. end_from code f n on.place on.outcomes) (onward k i outcomes) k)
    (instr_at code f k) k

-- the next instruction of a thread at the end of its path; none after an exit
abbrev pub standing : Code → ℕ → Path → Option Instr
standing code f path = instr_at code f (end_from code f path.steps 0 path.outcomes)

-- a step: an instruction and its place in the function
pub record Step : Type 0 where
  pub place : ℕ
  pub instr : Instr

-- the step at a place of a function; every place that a path leads to has an instruction
abbrev pub step_at : Code → ℕ → ℕ → Step
step_at code f k = record { place = k; instr = unwrap_or (instr_at code f k) Exit }

-- the steps at places of a function
abbrev pub steps_at : Code → ℕ → List ℕ → List Step
steps_at code f places = map (step_at code f) places

-- whether an instruction is a site: it only tests something, and fails if that is false
abbrev pub is_site : Instr → Bool
is_site (Inside len i) = true
is_site (Holds m) = true
is_site (Ready h) = true
is_site (Assert e) = true
is_site (Nonzero e) = true
is_site (InRange e) = true
is_site _ = false

-- whether there is a last step, and it is at a site
abbrev pub ends_at_site : Code → ℕ → List ℕ → Bool
ends_at_site code f places =
    option_map_or (λ k. is_site (step_at code f k).instr)
    (slice_get places (length places - 1)) false

-- whether a thread may block at an instruction
abbrev pub can_block : Instr → Bool
can_block (Lock m) = true
can_block (Wake c m) = true
can_block (Join h) = true
can_block _ = false

-- the places found, if the path ends well: a failure at a site, a rest after an exit or at a block
abbrev pub places_if_well_ended : Code → ℕ → Ending → Path → Result (List ℕ) Misfit
    → Result (List ℕ) Misfit
places_if_well_ended code f Fails path (Ok places) =
    if ends_at_site code f places then Ok places else Err NotASite
places_if_well_ended code f Rests path (Ok places) =
    if option_map_or can_block (standing code f path) true then Ok places else Err NotBlocked
places_if_well_ended code f _ path found = found

-- the places of a thread's steps in function f, from its path and ending, or what is wrong
abbrev pub places_of : Code → ℕ → Ending → Path → Result (List ℕ) Misfit
places_of code f ending path =
    places_if_well_ended code f ending path (places_from code f path.steps 0 path.outcomes)
