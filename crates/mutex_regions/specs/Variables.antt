-- The variables of a mutex: those that are written, and only in its regions. A variable is a cell
-- or a short array, and a state has a value for each of their cells.
use Rattle.std.specs.Prelude.{ℕ, ◌+◌, ◌==◌, ◌&&◌, ◌||◌, Bool, true, false, not, nat_le, List, [], ◌∷◌, ◌++◌, fold, is_none, is_some, if◌then◌else◌, map}
use Rattle.std.specs.Bool.{beq}
use Rattle.std.specs.List.{flat_map, list_all, list_any, range_with_len, sum_by}
use Rattle.path_walk.specs.Paths.{Paths}
use Rattle.path_walk.specs.declared.event.Region.{Region}
use Rattle.sym_exec.specs.Executed.{Symbolic}
use Rattle.sym_exec.specs.declared.symbolic.Access.{Access}
use Rattle.sym_exec.specs.tc_code.declared.cell.Cell.{Cell}
use Rattle.sym_exec.specs.tc_code.declared.cell.Cell.TheVariants.{Fixed, Element}
use Rattle.order_events.specs.lawful_order.Events.{Placed}
use Rattle.read_write.specs.Accesses.{all_accesses}
use Rattle.mutex_regions.specs.Regions.{lies_in, regions_of}
use Rattle.mutex_regions.specs.declared.variables.Spot.{Spot}
use Rattle.mutex_regions.specs.declared.variables.Variable.{Variable}

-- the variable of an access's cell
abbrev pub variable_of : Cell ℕ → Variable
variable_of (Fixed c) = record { first = c; cells = 1; is_array = false }
variable_of (Element f n i) = record { first = f; cells = n; is_array = true }

abbrev pub same_variable : Variable → Variable → Bool
same_variable v u = v.first == u.first && beq v.is_array u.is_array

-- whether one of the variables is this one
abbrev pub is_among : List Variable → Variable → Bool
is_among vs v = list_any (same_variable v) vs

-- whether a variable is short, and a state of it and some others has few cells
abbrev pub fits : List Variable → Variable → Bool
fits vs v = nat_le v.cells 8 && nat_le (sum_by (λ u. u.cells) vs + v.cells) 64

module _ (regions : List (Placed Region)) where
  -- whether an access lies in one of the regions
  abbrev pub is_inside : Placed Access → Bool
  is_inside a = list_any (λ r. lies_in r a) regions

  -- an access is to another variable; or it has this length, and lies in a region if it writes
  abbrev pub is_proper : Variable → Placed Access → Bool
  is_proper v a =
      let u = variable_of a.it.cell in
      not (same_variable v u) || (v.cells == u.cells && (is_none a.it.writes || is_inside a))

  module _ (accesses : List (Placed Access)) where
    -- whether all writes to a variable lie in the regions
    abbrev pub is_guarded : Variable → Bool
    is_guarded v = list_all (is_proper v) accesses

    -- whether an access writes a variable that is guarded, fits and isn't among these
    abbrev pub is_new : List Variable → Placed Access → Bool
    is_new vs a =
        let v = variable_of a.it.cell in
        is_some a.it.writes && (not (is_among vs v) && (is_guarded v && fits vs v))

    -- appends such a variable
    abbrev pub with_variable : List Variable → Placed Access → List Variable
    with_variable vs a = if is_new vs a then vs ++ variable_of a.it.cell ∷ [] else vs

    abbrev pub variables_of : List Variable
    variables_of = fold with_variable [] accesses

-- the variables of the mutex m
abbrev pub guarded : Paths → Symbolic → ℕ → List Variable
guarded paths symbolic m = variables_of (regions_of paths m) (all_accesses symbolic)

-- the cells of a state, one variable after another
abbrev pub spots_of : List Variable → List Spot
spots_of vs =
    flat_map (λ v. map (λ k. record { variable = v; index = k }) (range_with_len 0 v.cells)) vs
