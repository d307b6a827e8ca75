-- The literals of a mutex's regions, over lists of its regions and of their accesses.
use Rattle.std.specs.Prelude.{ℕ, ◌==◌, ◌&&◌, Bool, true, false, if◌then◌else◌, nat_lt, List, [], ◌∷◌, ◌++◌, ℤ, pos, filter, fold, get_or, map}
use Rattle.std.specs.List.{enumerate_from, flat_map}
use Rattle.std.specs.Option.{option_to_list}
use Rattle.path_walk.specs.Paths.{Paths}
use Rattle.path_walk.specs.declared.event.Region.{Region}
use Rattle.sym_exec.specs.declared.symbolic.Access.{Access}
use Rattle.sym_exec.specs.tc_code.declared.cell.Cell.{Cell}
use Rattle.sym_exec.specs.tc_code.declared.cell.Cell.TheVariants.{Fixed, Element}
use Rattle.order_formula.specs.declared.formula.Conjunct.{Conjunct}
use Rattle.order_events.specs.lawful_order.Events.{Placed, number_of}
use Rattle.cnf_core.specs.Clauses.{Formula}
use Rattle.bit_gates.specs.Folded.{Made, conjunction, constant, kept}
use Rattle.bit_words.specs.Words.{less_literal}
use Rattle.bit_order.specs.Comparators.{before_literal}
use Rattle.bit_order.specs.Layouts.{Layout}
use Rattle.bit_terms.specs.Terms.{constant_word, word_at}
use Rattle.mutex_regions.specs.Functions.{is_used}
use Rattle.mutex_regions.specs.InOrder.{must_keep}
use Rattle.mutex_regions.specs.declared.variables.Variable.{Variable}
use Rattle.mutex_states.specs.InOrder.{is_of_mutex, read_number}
use Rattle.mutex_clauses.specs.in_order.Given.{used_in}

-- a literal, if it is wanted
abbrev pub where_wanted : Bool → ℤ → List ℤ
where_wanted wanted l = if wanted then l ∷ [] else []

module _ (paths : Paths) (y : Layout) where
  -- the literal that a step of a thread comes before another
  abbrev pub step_before : (t k u j : ℕ) → ℤ
  step_before t k u j = before_literal y (number_of paths t k) (number_of paths u j)

  -- a region begins before it ends
  abbrev pub forward : Placed Region → List ℤ
  forward r = map (λ k. step_before r.thread r.it.«from» r.thread k) (option_to_list r.it.to)

  -- a region begins before those that follow on its thread's path
  abbrev pub follows : Placed Region → Placed Region → Bool
  follows r s = r.thread == s.thread && nat_lt r.it.«from» s.it.«from»

  abbrev pub rise : List (Placed Region) → Placed Region → List ℤ
  rise regions r =
      map (λ s. step_before r.thread r.it.«from» s.thread s.it.«from») (filter (follows r) regions)

  -- an access comes before those to which its order matters
  abbrev pub matters : Placed Access → Placed Access → Bool
  matters a b = nat_lt a.it.step b.it.step && must_keep a.it b.it

  abbrev pub orders : List (Placed Access) → Placed Access → List ℤ
  orders uses a =
      map (λ b. step_before a.thread a.it.step b.thread b.it.step) (filter (matters a) uses)

  -- an access comes before its region's end
  abbrev pub ends : Placed Region → Placed Access → List ℤ
  ends r a = map (λ k. step_before a.thread a.it.step r.thread k) (option_to_list r.it.to)

module _ (paths : Paths) (y : Layout) (formula : List Conjunct) (roots : List ℤ) where
  abbrev pub root : ℕ → ℤ
  root number = get_or roots number (constant false)

  -- a mutex's regions don't overlap
  abbrev pub apart : ℕ → List ℤ
  apart m = map (λ p. root p.0) (filter (λ p. is_of_mutex m p.1.group) (enumerate_from 0 formula))

  -- an access takes the value that it must
  abbrev pub reads : Placed Access → List ℤ
  reads a = map (λ _. root (read_number paths formula a)) (option_to_list a.it.takes)

  -- an access lies in its region, takes the value that it must, and has its order to later ones
  abbrev pub of_access : Placed Region → List (Placed Access) → Placed Access → List ℤ
  of_access r uses a =
      step_before paths y r.thread r.it.«from» a.thread a.it.step
      ∷ (ends paths y r a ++ (reads a ++ orders paths y uses a))

  abbrev pub of_region : Placed Region → List (Placed Access) → List ℤ
  of_region r uses = flat_map (of_access r uses) uses

  abbrev pub of_mutex : ℕ → List (Placed Region) → (Placed Region → List (Placed Access)) → List ℤ
  of_mutex m regions uses =
      apart m
      ++ (flat_map (forward paths y) regions
      ++ (flat_map (rise paths y regions) regions
      ++ flat_map (λ r. of_region r (uses r)) regions))

-- a literal, and another
abbrev pub with_next : Made → ℤ → Made
with_next all l = conjunction all.formula all.literal l

abbrev pub all_of : Formula → ℤ → List ℤ → Made
all_of f first ls = fold with_next (kept f first) ls

-- a literal, and that an index is in range
abbrev pub with_range : List (List ℤ) → Made → Cell ℕ → Made
with_range words all (Fixed c) = all
with_range words all (Element f n i) =
    let below : Made = less_literal (kept all.formula (constant false)) (word_at words i)
    (constant_word (pos n)) in
    conjunction below.formula all.literal below.literal

-- a literal, and that the indexes of accesses are in range
abbrev pub with_index : List (List ℤ) → Made → Placed Access → Made
with_index words all a = with_range words all a.it.cell

abbrev pub with_ranges : List (List ℤ) → Made → List (Placed Access) → Made
with_ranges words all accesses = fold (with_index words) all accesses

-- all literals of a mutex, and that all indexes are in range
abbrev pub made_in : Paths → Layout → List Conjunct → (roots : List ℤ) → (words : List (List ℤ))
    → ℕ → List (Placed Region) → List Variable → List (Placed Access) → Formula → Made
made_in paths y formula roots words m regions vs accesses f =
    with_ranges words
    (all_of f (constant true)
    (of_mutex paths y formula roots m regions (λ r. filter (is_used vs r) accesses)))
    (used_in vs accesses regions)
