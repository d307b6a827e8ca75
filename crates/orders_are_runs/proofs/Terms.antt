-- The terms of a system are distinct, and each names only earlier ones.
use Rattle.std.proofs.Common.{◌≡◌, ◌∙◌, ℕ, ◌≤◌, Bool, true, false, not, cond, ◌&&◌, List, [], ◌∷◌, fold, length, Option, Some, None, ap, subst, arith, length-append}
use Rattle.std.specs.Prelude.{is_none, option_and_then}
use Rattle.std.specs.List.{All, Contains, IsDistinct, filter_map}
use Rattle.std.specs.Option.{option_map_or}
use Rattle.std.proofs.lemmas.List.Elements.{All-nil, All-cons, All-contains, All-head, All-tail, All-weaker}
use Rattle.std.proofs.lemmas.Option.{cond_some, none-some, option_and_then_some}
use Rattle.lawful_terms.specs.int_ops.declared.arith.BinOp.TheVariants.{Eq}
use Rattle.clap_system.specs.tc_code.Code.{Code}
use Rattle.clap_system.specs.tc_code.Lawful.{IsLawful}
use Rattle.clap_system.specs.path_walk.Paths.{Paths}
use Rattle.clap_system.specs.path_walk.declared.event.Event.{Event}
use Rattle.clap_system.specs.store_buffers.Pending.{Binding}
use Rattle.clap_system.specs.sym_terms.Terms.{AreTerms, NamesBelow, same_node, with_node}
use Rattle.clap_system.specs.sym_terms.declared.node.Node.{Node}
use Rattle.clap_system.specs.sym_terms.declared.node.Node.TheVariants.{Constant, Symbol, Unary, Binary}
use Rattle.clap_system.proofs.sym_terms.Growth.{are_with, grows}
use Rattle.clap_system.specs.sym_exec.Executed.{Executed, Symbolic, executed}
use Rattle.clap_system.specs.sym_exec.declared.symbolic.Access.{Access}
use Rattle.clap_system.specs.tc_code.declared.cell.Cell.{Cell}
use Rattle.clap_system.specs.tc_code.declared.cell.Cell.TheVariants.{Fixed, Element}
use Rattle.plan_runs.proofs.sym_laws.Executed.{whole_on}
use Rattle.clap_system.proofs.sym_events.Terms.{have_terms}
use Rattle.lawful_terms.specs.lawful_order.Cells.{value_at_start}
use Rattle.lawful_terms.specs.lawful_order.Events.{Placed}
use Rattle.lawful_terms.specs.order_cells.Same.{known_same, same_test}
use Rattle.lawful_terms.specs.order_cells.Terms.{AccessIsOf, CellIsOf, HaveTerms}
use Rattle.clap_system.proofs.order_events.Lists.{of_filter_map, of_flat_map}
use Rattle.clap_system.proofs.order_events.Parts.{each_in, in_of_each, of_option}
use Rattle.lawful_terms.specs.memory_order.Own.{cells_of, keeps, kept_test, own_needs, thread_tests, two_tests}
use Rattle.lawful_terms.specs.memory_order.Twos.{Two, twos}
use Rattle.lawful_terms.proofs.memory_order.Stay.{cells_within}
use Rattle.clap_system.specs.read_write.Accesses.{all_accesses}
use Rattle.clap_system.specs.read_write.Reading.{may_be_seen, needs_of, read_needs, test_of}
use Rattle.clap_system.proofs.read_write.Numbers.{access_of}
use Rattle.clap_system.specs.Systems.{system_by}
use Rattle.clap_system.proofs.Needs.{have_own, with_own}

none_twice : IsDistinct same_node []
unfolding IsDistinct
none_twice = tt

-- the empty list is a list of terms
pub no_terms : AreTerms []
no_terms = record { distinct = none_twice; earlier = λ id node at. absurd (none-some node at) }

-- terms stay terms with a node that names them
below_more : (node : Node) (m n : ℕ) → m ≤ n → NamesBelow m node → NamesBelow n node
below_more (Constant k) m n up names = tt
below_more (Symbol k) m n up names = tt
below_more (Unary op a) m n up names = omega (arith, up, names)
below_more (Binary op a b) m n up names = (omega (arith, up, names.0), omega (arith, up, names.1))

longer : (nodes : List Node) (node : Node) → length nodes ≤ length (with_node nodes node)
longer nodes node = let g = grows nodes node in omega (arith, ap length g.1 ∙ length-append nodes g.0)

more_terms : (nodes needs : List Node) → AreTerms nodes → All (NamesBelow (length nodes)) needs → AreTerms (fold with_node nodes needs)
more_terms nodes [] are names = are
more_terms nodes (n ∷ ns) are names =
    let next = with_node nodes n in
    more_terms next ns (are_with nodes n are (All-head (NamesBelow (length nodes)) n ns names))
    (All-weaker (NamesBelow (length nodes)) (NamesBelow (length next)) (λ m below. below_more m (length nodes) (length next) (longer nodes n) below) ns
    (All-tail (NamesBelow (length nodes)) n ns names))

-- the test of two indexes names their terms
test_names : (nodes : List Node) (a b : Cell ℕ) (n : Node) → CellIsOf (length nodes) a → CellIsOf (length nodes) b → same_test nodes a b ≡ Some n
    → NamesBelow (length nodes) n
test_names nodes (Element f m i) (Element g k j) n one other is =
    subst (NamesBelow (length nodes)) (cond_some (is_none (known_same nodes (Element f m i) (Element g k j))) (Binary Eq i j) n is).1 (one, other)
test_names nodes (Element f m i) (Fixed c) n one other is = absurd (none-some n is)
test_names nodes (Fixed c) b n one other is = absurd (none-some n is)

module _ (symbolic : Symbolic) (nodes : List Node) (have : HaveTerms nodes symbolic) where
  abbrev Names : Node → Type 0
  Names = NamesBelow (length nodes)

  -- the terms that the order of a thread's events needs
  kept_names : (buffered : Bool) (bound : Binding) (t : ℕ) (p : Two Event) (n : Node) → kept_test buffered bound symbolic nodes t p ≡ Some n → Names n
  kept_names buffered bound t p n is =
      by (keeps buffered bound true p.first p.second && not (keeps buffered bound false p.first p.second)) is
    where
      by : (b : Bool) → cond b (option_and_then (λ c. same_test nodes c.0 c.1) (cells_of symbolic t p.first p.second)) None ≡ Some n → Names n
      by true is = option_and_then_some (λ (c : Cell ℕ × Cell ℕ). same_test nodes c.0 c.1) (cells_of symbolic t p.first p.second) n is (λ c at test.
          let both = cells_within symbolic nodes have t p.first p.second c at in test_names nodes c.0 c.1 n both.0 both.1 test)
      by false is = absurd (none-some n is)

  own_names : (buffered : Bool) (bound : Binding) (paths : Paths) → All Names (own_needs buffered bound paths symbolic nodes)
  own_names buffered bound paths = each_in Names (own_needs buffered bound paths symbolic nodes) (λ n i.
      let o = in_of_each (thread_tests buffered bound symbolic nodes) paths.threads n i in
      let p = of_flat_map (two_tests buffered bound symbolic nodes o.place) n (twos o.element.events) o.there in
      kept_names buffered bound o.place p.0 n (of_option (kept_test buffered bound symbolic nodes o.place p.0) n p.2))

  -- the terms that loads need
  abbrev accesses : List (Placed Access)
  accesses = all_accesses symbolic

  access_is : (a : Placed Access) → Contains accesses a → AccessIsOf (length nodes) a.it
  access_is a i = have a.thread a.it (access_of symbolic a i)

  test_of_names : (load b : Placed Access) (n : Node) → Contains accesses load → Contains accesses b → test_of nodes load b ≡ Some n → Names n
  test_of_names load b n i j is = by (may_be_seen nodes load b) is
    where
      by : (m : Bool) → cond m (option_and_then (λ (v : ℕ). same_test nodes b.it.cell load.it.cell) b.it.writes) None ≡ Some n → Names n
      by true is = option_and_then_some (λ (v : ℕ). same_test nodes b.it.cell load.it.cell) b.it.writes n is
          (λ v at test. test_names nodes b.it.cell load.it.cell n (access_is b j).cell (access_is load i).cell test)
      by false is = absurd (none-some n is)

  load_names : (code : Code) (load : Placed Access) → Contains accesses load → (o : Option ℕ) → All Names (option_map_or (needs_of code accesses nodes load) o [])
  load_names code load i None = All-nil Names
  load_names code load i (Some number) =
      let start = Constant (value_at_start code load.it.cell) in
      let tests = filter_map (test_of nodes load) accesses in
      All-cons Names (Symbol number) (start ∷ tests) tt (All-cons Names start tests tt (each_in Names tests (λ n j.
      let o = of_filter_map (test_of nodes load) n accesses j in test_of_names load o.0 n i o.1 o.2)))

  read_names : (code : Code) → All Names (read_needs code symbolic nodes)
  read_names code = each_in Names (read_needs code symbolic nodes) (λ n i.
      let o = of_flat_map (λ (a : Placed Access). option_map_or (needs_of code accesses nodes a) a.it.takes []) n accesses i in
      All-contains Names (option_map_or (needs_of code accesses nodes o.0) o.0.it.takes []) n (load_names code o.0 o.1 o.0.it.takes) o.2)

-- the terms of the system of paths are terms
pub system_terms : (buffered : Bool) (bound : Binding) (code : Code) (paths : Paths) → IsLawful code → AreTerms (system_by buffered bound code paths).nodes
system_terms buffered bound code paths lawful =
    let x : Executed = executed code paths [] in
    let have : HaveTerms x.nodes x.symbolic = have_terms code lawful paths [] in
    let own : List Node = with_own buffered bound code paths x.symbolic x.nodes in
    more_terms own (read_needs code x.symbolic own)
    (more_terms x.nodes (own_needs buffered bound paths x.symbolic x.nodes) (whole_on code lawful paths [] no_terms paths.threads).well.terms
    (own_names x.symbolic x.nodes have buffered bound paths))
    (read_names x.symbolic own (have_own buffered bound code paths x.symbolic x.nodes have) code)
