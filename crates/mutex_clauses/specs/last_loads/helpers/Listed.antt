-- The clauses of loads after all regions, over lists of the regions and of the state's cells.
use Rattle.std.specs.Prelude.{ℕ, ◌==◌, ◌&&◌, Bool, true, false, if◌then◌else◌, is_some, not, List, [], ℤ, pos, fold, get_or}
use Rattle.std.specs.List.{enumerate_from, flat_map, list_all}
use Rattle.std.specs.Option.{option_map_or}
use Rattle.std.specs.Ordering.{int_eq}
use Rattle.path_walk.specs.Paths.{Paths}
use Rattle.path_walk.specs.declared.event.Region.{Region}
use Rattle.sym_terms.specs.declared.node.Node.{Node}
use Rattle.sym_exec.specs.declared.symbolic.Access.{Access}
use Rattle.sym_exec.specs.tc_code.declared.cell.Cell.{Cell}
use Rattle.sym_exec.specs.tc_code.declared.cell.Cell.TheVariants.{Fixed, Element}
use Rattle.order_cells.specs.Same.{constant_of}
use Rattle.order_events.specs.order_formula.declared.formula.Conjunct.{Conjunct}
use Rattle.order_events.specs.lawful_order.Events.{Placed, number_of}
use Rattle.cnf_core.specs.Clauses.{Formula}
use Rattle.bit_gates.specs.Folded.{Made, conjunction, constant}
use Rattle.bit_order.specs.Comparators.{before_literal}
use Rattle.bit_order.specs.Layouts.{Layout, load_word}
use Rattle.bit_blast.specs.Reads.{value_clauses, with_clauses}
use Rattle.mutex_regions.specs.Regions.{lies_in}
use Rattle.mutex_regions.specs.declared.variables.Spot.{Spot}
use Rattle.mutex_states.specs.InOrder.{read_number}

-- some clauses, if they are wanted
abbrev pub where_wanted : Bool → List (List ℤ) → List (List ℤ)
where_wanted wanted clauses = if wanted then clauses else []

-- if a literal is true, two words are equal
abbrev pub word_clauses : (after : ℤ) → (taken held : List ℤ) → List (List ℤ)
word_clauses after taken held = value_clauses after (constant true) taken held

-- an access lies in none of the regions, all of which have an end
abbrev pub is_outside : List (Placed Region) → Placed Access → Bool
is_outside regions a = list_all (λ r. is_some r.it.to && not (lies_in r a)) regions

module _ (nodes : List Node) where
  -- whether a term is a constant with this value
  abbrev pub is_number : (term number : ℕ) → Bool
  is_number term number = option_map_or (int_eq (pos number)) (constant_of nodes term) false

  -- whether a cell is this one of the state in every world
  abbrev pub names_spot : Spot → Cell ℕ → Bool
  names_spot s (Fixed c) = not s.variable.is_array && s.variable.first == c
  names_spot s (Element f n i) =
      s.variable.is_array && (s.variable.first == f && is_number i s.index)

  -- the load of a cell takes what the state holds there
  abbrev pub spots_clauses : List Spot → (state : List (List ℤ)) → Cell ℕ → (word : List ℤ)
      → (after : ℤ) → List (List ℤ)
  spots_clauses spots state cell word after =
      flat_map
      (λ x. where_wanted (names_spot x.1 cell) (word_clauses after word (get_or state x.0 [])))
      (enumerate_from 0 spots)

module _ (paths : Paths) (y : Layout) where
  -- a region ends before an access
  abbrev pub ends_before : Placed Access → Placed Region → ℤ
  ends_before a r =
      option_map_or
      (λ k. before_literal y (number_of paths r.thread k) (number_of paths a.thread a.it.step))
      r.it.to (constant false)

  module _ (formula : List Conjunct) (roots : List ℤ) where
    -- all is in order, the load is right, and all regions end before it
    abbrev pub after_made : (ordered : ℤ) → List (Placed Region) → Formula → Placed Access → Made
    after_made ordered regions f a =
        fold (λ all r. conjunction all.formula all.literal (ends_before a r))
        (conjunction f ordered (get_or roots (read_number paths formula a) (constant false)))
        regions

    module _ (nodes : List Node) (ordered : ℤ) (regions : List (Placed Region))
        (spots : List Spot) (state : List (List ℤ)) where
      -- then the load takes what the last state holds
      abbrev pub with_load : Placed Access → Formula → (load : ℕ) → Formula
      with_load a f load =
          let after : Made = after_made ordered regions f a in
          with_clauses after.formula
          (spots_clauses nodes spots state a.it.cell (load_word y load) after.literal)

      -- the clauses of an access, if it is a load after all regions
      abbrev pub with_outside : Formula → Placed Access → Formula
      with_outside f a =
          if is_outside regions a then option_map_or (with_load a f) a.it.takes f else f
