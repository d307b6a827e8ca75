-- The account of one thread of a log.
use Rattle.std.specs.Prelude.{◌≡◌, ℕ, List, ◌++◌, drop, map, sum, Bool, Result, Ok, Err}
use Rattle.std.specs.List.{list_any}
use Rattle.tc_base.specs.Paths.{ThreadPath}
use Rattle.tc_code.specs.Code.{Code}
use Rattle.path_walk.specs.Steps.{Onward, is_failing, steps_at}
use Rattle.path_walk.specs.Fits.{started}
use Rattle.path_walk.specs.Marks.{marked_steps}
use Rattle.path_walk.specs.Events.{operators_of, is_impossible}
use Rattle.path_walk.specs.Paths.{Walk, saturated_count, walk_by}
use Rattle.path_walk.specs.declared.ending.Ending.{Ending}
use Rattle.path_walk.specs.declared.fault.Misfit.{Misfit}
use Rattle.path_walk.specs.declared.follow.FollowFault.{FollowFault}
use Rattle.path_walk.specs.declared.follow.FollowFault.TheVariants.{Unfit, Memory}
use Rattle.path_walk.specs.declared.follow.Position.{Position}

-- a function fails as the definition does, unless memory ran out
abbrev pub Fails : {Y : Type 0} → FollowFault → Result Y Misfit → Type 0
Fails (Unfit m) given = given ≡ Err m
Fails Memory given = Unit {0}

-- a function returns what the definition gives, unless memory ran out
abbrev pub Gives : {X Y : Type 0} → (X → Y) → Result X FollowFault → Result Y Misfit → Type 0
Gives view (Ok x) given = given ≡ Ok (view x)
Gives view (Err e) given = Fails e given

-- places in front of the places found, or the fault
abbrev pub prefixed : List ℕ → Result (List ℕ) Misfit → Result (List ℕ) Misfit
prefixed front (Ok places) = Ok (front ++ places)
prefixed front (Err e) = Err e

-- a position as a place and the remaining outcomes
abbrev pub position_of : List Bool → Position → Onward
position_of outcomes at = record { place = at.place; outcomes = drop at.used outcomes }

-- the account of one thread: its walk, its children's functions and its counts
pub record Account : Type 0 where
  pub walk : Walk
  -- the functions of the children that it creates
  pub started : List ℕ
  pub operators : ℕ
  pub dead : Bool

abbrev pub account_by : Code → Ending → ThreadPath → ℕ → List ℕ → Account
account_by code ending t f places = record {
  walk = walk_by code ending t f places;
  started = started (steps_at code f places);
  operators = saturated_count (sum (map (λ s. operators_of s.instr) (steps_at code f places)));
  dead = list_any is_impossible (marked_steps code f (is_failing ending) (steps_at code f places));
}

abbrev pub mapped : {X Y : Type 0} → (X → Y) → Result X Misfit → Result Y Misfit
mapped f (Ok x) = Ok (f x)
mapped f (Err e) = Err e
