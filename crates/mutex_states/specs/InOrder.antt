-- The literal that all is in order in the regions of a mutex: a conjunction of literals of the order
-- and of conjuncts, and of tests that indexes are in range.
use Rattle.std.specs.Prelude.{◌≡◌, ℕ, ◌==◌, ◌&&◌, Bool, true, false, nat_lt, List, ◌∷◌, ◌++◌, ℤ, pos, Some, IsSome, fold, filter, get_or, map, slice_get}
use Rattle.std.specs.List.{Contains, enumerate_from, flat_map, position_or_len}
use Rattle.std.specs.Option.{option_to_list}
use Rattle.order_cells.specs.sym_exec.path_walk.tc_code.Code.{Code}
use Rattle.order_cells.specs.sym_exec.path_walk.Paths.{Paths}
use Rattle.order_cells.specs.sym_exec.path_walk.declared.event.Region.{Region}
use Rattle.order_cells.specs.sym_exec.Executed.{Symbolic}
use Rattle.order_cells.specs.sym_exec.declared.symbolic.Access.{Access}
use Rattle.order_cells.specs.sym_exec.tc_code.declared.cell.Cell.{Cell}
use Rattle.order_cells.specs.sym_exec.tc_code.declared.cell.Cell.TheVariants.{Fixed, Element}
use Rattle.mutex_regions.specs.order_events.order_formula.declared.formula.Body.{Body}
use Rattle.mutex_regions.specs.order_events.order_formula.declared.formula.Body.TheVariants as body
use Rattle.mutex_regions.specs.order_events.order_formula.declared.formula.Conjunct.{Conjunct}
use Rattle.mutex_regions.specs.order_events.order_formula.declared.group.Group.{Group}
use Rattle.mutex_regions.specs.order_events.order_formula.declared.group.Group.TheVariants.{Mutex}
use Rattle.circuit_sizes.specs.sym_terms.declared.node.Node.{Node}
use Rattle.mutex_regions.specs.order_events.order_formula.Truth.{body_at}
use Rattle.mutex_regions.specs.order_events.order_formula.Worlds.{World}
use Rattle.mutex_regions.specs.order_events.lawful_order.Events.{Placed, number_of}
use Rattle.mutex_regions.specs.order_events.lawful_order.Mutexes.{MutexRule}
use Rattle.cnf_core.specs.Clauses.{Formula}
use Rattle.bit_gates.specs.Folded.{Made, conjunction, constant, kept}
use Rattle.circuit_sizes.specs.bit_ops.bit_words.Words.{less_literal}
use Rattle.bit_order.specs.Comparators.{before_literal}
use Rattle.circuit_sizes.specs.bit_terms.Terms.{constant_word, word_at}
use Rattle.bit_blast.specs.Drafts.{Draft}
use Rattle.mutex_regions.specs.read_write.Accesses.{all_accesses}
use Rattle.mutex_regions.specs.Functions.{is_used}
use Rattle.mutex_regions.specs.InOrder.{IsRight, must_keep}
use Rattle.mutex_regions.specs.Regions.{regions_of}
use Rattle.mutex_regions.specs.Variables.{guarded}

-- whether a conjunct is about two regions of a mutex, or about the load of an event
abbrev pub is_of_mutex : ℕ → Group → Bool
is_of_mutex m (Mutex n) = n == m
is_of_mutex m _ = false

abbrev pub is_read_of : ℕ → Body → Bool
is_read_of event (body.Any _) = false
is_read_of event (body.Read r) = r.event == event

-- the index of the conjunct about an access's load
abbrev pub read_number : Paths → List Conjunct → Placed Access → ℕ
read_number paths formula a =
    position_or_len (λ c. is_read_of (number_of paths a.thread a.it.step) c.body) formula

-- the accesses of a region to the mutex's variables, and of all its regions
abbrev pub uses : Paths → Symbolic → ℕ → Placed Region → List (Placed Access)
uses paths symbolic m r = filter (is_used (guarded paths symbolic m) r) (all_accesses symbolic)

abbrev pub used : Paths → Symbolic → ℕ → List (Placed Access)
used paths symbolic m = flat_map (uses paths symbolic m) (regions_of paths m)

-- the draft of a formula over some paths
module _ (paths : Paths) (symbolic : Symbolic) (formula : List Conjunct) (d : Draft) where
  -- the literal that a step of a thread comes before another
  abbrev pub steps_before : (t k u j : ℕ) → ℤ
  steps_before t k u j = before_literal d.layout (number_of paths t k) (number_of paths u j)

  -- the literal of the conjunct at an index, and of an access's load
  abbrev pub root : ℕ → ℤ
  root number = get_or d.roots number (constant false)

  abbrev pub read_literal : Placed Access → ℤ
  read_literal a = root (read_number paths formula a)

  module _ (m : ℕ) where
    -- the mutex's regions don't overlap
    abbrev pub apart_literals : List ℤ
    apart_literals =
        map (λ p. root p.0) (filter (λ p. is_of_mutex m p.1.group) (enumerate_from 0 formula))

    -- each region begins before it ends
    abbrev pub forward_literals : List ℤ
    forward_literals =
        flat_map
        (λ r. map (λ k. steps_before r.thread r.it.«from» r.thread k) (option_to_list r.it.to))
        (regions_of paths m)

    -- a thread's regions are in the order of its path
    abbrev pub rise_literals : List ℤ
    rise_literals =
        flat_map
        (λ r. map (λ s. steps_before r.thread r.it.«from» s.thread s.it.«from»)
        (filter (λ s. r.thread == s.thread && nat_lt r.it.«from» s.it.«from»)
        (regions_of paths m))) (regions_of paths m)

    -- an access lies in its region, takes the value that it must, and has its order to later ones
    abbrev pub access_literals : Placed Region → Placed Access → List ℤ
    access_literals r a =
        steps_before r.thread r.it.«from» a.thread a.it.step
        ∷ (map (λ k. steps_before a.thread a.it.step r.thread k) (option_to_list r.it.to)
        ++ (map (λ _. read_literal a) (option_to_list a.it.takes)
        ++ map (λ b. steps_before a.thread a.it.step b.thread b.it.step)
        (filter (λ b. nat_lt a.it.step b.it.step && must_keep a.it b.it)
        (uses paths symbolic m r))))

    abbrev pub literals : List ℤ
    literals =
        apart_literals
        ++ (forward_literals
        ++ (rise_literals
        ++ flat_map (λ r. flat_map (access_literals r) (uses paths symbolic m r))
        (regions_of paths m)))

    -- all of some literals, and that an access's index is in range
    abbrev pub with_literal : Made → ℤ → Made
    with_literal all l = conjunction all.formula all.literal l

    abbrev pub with_index : Made → Cell ℕ → Made
    with_index all (Fixed c) = all
    with_index all (Element f n i) =
        let below : Made = less_literal (kept all.formula (constant false)) (word_at d.words i)
        (constant_word (pos n)) in
        conjunction below.formula all.literal below.literal

    abbrev pub in_order_made : Formula → Made
    in_order_made f =
        fold (λ all a. with_index all a.it.cell)
        (fold with_literal (kept f (constant true)) literals) (used paths symbolic m)

-- the rules that conjuncts state in a world: a mutex's regions don't overlap, and a load is right
pub record RulesFollow (code : Code) (paths : Paths) (symbolic : Symbolic) (nodes : List Node)
    (formula : List Conjunct) (w : World) (m : ℕ) : Type 0 where
  pub apart : ((c : Conjunct) → Contains formula c → is_of_mutex m c.group ≡ true
      → body_at nodes w c.body ≡ true) → MutexRule paths w m
  pub right : (a : Placed Access) (c : Conjunct) → Contains (all_accesses symbolic) a
      → IsSome a.it.takes → slice_get formula (read_number paths formula a) ≡ Some c
      → body_at nodes w c.body ≡ true → IsRight code paths symbolic nodes w m a
