-- Bounds on the sizes of the conjuncts of loads, and of the terms that they need.
use Rattle.std.proofs.Common.{◌≡◌, ℕ, ◌+◌, ◌*◌, ◌≤◌, List, [], ◌∷◌, length, Bool, true, false, Option, Some, None, subst, arith}
use Rattle.std.specs.Prelude.{option_and_then, option_map, option_to_list, if◌then◌else◌}
use Rattle.std.specs.List.{cons_option, filter_map}
use Rattle.std.specs.Option.{option_map_or}
use Rattle.std.proofs.lemmas.List.Sums.{sum_by-cons}
use Rattle.clap_system.specs.tc_code.Code.{Code}
use Rattle.clap_system.specs.path_walk.Paths.{Paths}
use Rattle.clap_system.specs.path_walk.declared.event.Event.{Event}
use Rattle.mutex_states.specs.bit_blast.sym_terms.declared.node.Node.{Node}
use Rattle.mutex_states.specs.bit_blast.sym_terms.declared.node.Node.TheVariants.{Constant, Symbol}
use Rattle.clap_system.specs.sym_exec.Executed.{Symbolic}
use Rattle.clap_system.specs.sym_exec.declared.symbolic.Access.{Access}
use Rattle.mutex_states.specs.bit_blast.order_formula.declared.formula.Conjunct.{Conjunct}
use Rattle.clap_system.specs.lawful_order.Cells.{value_at_start}
use Rattle.clap_system.specs.lawful_order.Events.{Placed, all_events}
use Rattle.clap_system.specs.order_cells.Same.{same_test}
use Rattle.clap_system.specs.read_write.Accesses.{all_accesses}
use Rattle.clap_system.specs.read_write.Reading.{may_be_seen, test_of, needs_of, read_needs, candidate_of, conjunct_of, read_formula}
use Rattle.mutex_states.specs.bit_blast.bit_terms.Sizes.{node_size, terms_size}
use Rattle.mutex_states.specs.bit_blast.Sizes.{read_size, size_of}
use Rattle.clap_solve.proofs.formula_sizes.Own.{conjunct_size, test_size}
use Rattle.clap_solve.proofs.formula_sizes.Sums.{regroup, times_le, of_flat, of_filter_map}

pub filter_map_few : {X Y : Type 0} (f : X → Option Y) (xs : List X) → length (filter_map f xs) ≤ length xs
filter_map_few f [] = omega arith
filter_map_few {Y} f (x ∷ xs) = by (f x) (filter_map_few f xs)
  where
    by : (o : Option Y) → length (filter_map f xs) ≤ length xs → length (cons_option o (filter_map f xs)) ≤ length (x ∷ xs)
    by None rest = omega (arith, rest)
    by (Some y) rest = omega (arith, rest)

module _ (nodes : List Node) (load : Placed Access) where
  seen_size : (b : Placed Access) → terms_size (option_to_list (test_of nodes load b)) ≤ 224
  seen_size b = by (may_be_seen nodes load b) b.it.writes
    where
      by : (s : Bool) (o : Option ℕ) → terms_size (option_to_list (if s then option_and_then (λ _. same_test nodes b.it.cell load.it.cell) o else None)) ≤ 224
      by true (Some w) = test_size nodes b.it.cell load.it.cell
      by true None = omega arith
      by false o = omega arith

  test_is : (b : Placed Access) (n : Node) → test_of nodes load b ≡ Some n → node_size n ≤ 224
  test_is b n e = let h = subst (λ o. terms_size (option_to_list o) ≤ 224) e (seen_size b) in omega (arith, h, sum_by-cons node_size n [])

  module _ (code : Code) (accesses : List (Placed Access)) where
    load_needs_size : (number : ℕ) → terms_size (needs_of code accesses nodes load number) ≤ length accesses * 224
    load_needs_size number =
        let first : Node = Constant (value_at_start code load.it.cell) in
        let tests = filter_map (test_of nodes load) accesses in
        omega (
          arith,
          of_filter_map node_size (test_of nodes load) 224 accesses test_is,
          sum_by-cons node_size (Symbol number) (first ∷ tests),
          sum_by-cons node_size first tests,
        )

    access_needs_size : terms_size (option_map_or (needs_of code accesses nodes load) load.it.takes []) ≤ length accesses * 224
    access_needs_size = by load.it.takes
      where
        by : (o : Option ℕ) → terms_size (option_map_or (needs_of code accesses nodes load) o []) ≤ length accesses * 224
        by None = omega arith
        by (Some number) = load_needs_size number

pub read_needs_size : (code : Code) (symbolic : Symbolic) (nodes : List Node)
    → terms_size (read_needs code symbolic nodes) ≤ length (all_accesses symbolic) * length (all_accesses symbolic) * 224
read_needs_size code symbolic nodes =
    let accesses = all_accesses symbolic in
    let n : ℕ = length accesses in
    let h = of_flat node_size (λ (a : Placed Access). option_map_or (needs_of code accesses nodes a) a.it.takes []) (n * 224) accesses
    (λ a. access_needs_size nodes a code accesses) in
    omega (arith, h, regroup n n 224)

pub read_more : (c n : ℕ) → c ≤ n → read_size c ≤ read_size n
read_more c n few = times_le (c + 1) (c + 170) (n + 1) (n + 170) (omega (arith, few)) (omega (arith, few))

module _ (code : Code) (events : List (Placed Event)) (accesses : List (Placed Access)) (nodes : List Node) where
  load_size : (load : Placed Access) (number : ℕ) → conjunct_size (conjunct_of code events accesses nodes load number) ≤ read_size (length accesses) + 1
  load_size load number =
      let candidates = filter_map (candidate_of events nodes load) accesses in
      let h = read_more (length candidates) (length accesses) (filter_map_few (candidate_of events nodes load) accesses) in
      omega (arith, h)

  one_size : (load : Placed Access) (c : Conjunct) → option_map (conjunct_of code events accesses nodes load) load.it.takes ≡ Some c
      → conjunct_size c ≤ read_size (length accesses) + 1
  one_size load c e = by load.it.takes e
    where
      by : (o : Option ℕ) → option_map (conjunct_of code events accesses nodes load) o ≡ Some c → conjunct_size c ≤ read_size (length accesses) + 1
      by None is = absurd (cc)
      by (Some number) is =
          let same : conjunct_of code events accesses nodes load number ≡ c = cc in
          subst (λ k. conjunct_size k ≤ read_size (length accesses) + 1) same (load_size load number)

pub read_formula_size : (code : Code) (paths : Paths) (symbolic : Symbolic) (nodes : List Node)
    → size_of (read_formula code paths symbolic nodes) ≤ length (all_accesses symbolic) * (read_size (length (all_accesses symbolic)) + 1)
read_formula_size code paths symbolic nodes =
    let accesses = all_accesses symbolic in
    of_filter_map conjunct_size (λ (a : Placed Access). option_map (conjunct_of code (all_events paths) accesses nodes a) a.it.takes)
    (read_size (length accesses) + 1) accesses (one_size code (all_events paths) accesses nodes)
