-- The group of each conjunct of a log's formula names a thread of its paths, if it names one.
use Rattle.std.proofs.Common.{◌≡◌, ◌<◌, ℕ, Bool, List, [], ◌++◌, length, map, Some, inl, inr, sym, subst, arith}
use Rattle.std.specs.Prelude.{option_to_list, slice_get}
use Rattle.std.specs.List.{All, Contains}
use Rattle.std.proofs.lemmas.List.Elements.{All-append, All-contains}
use Rattle.std.proofs.lemmas.Option.{slice_get_within}
use Rattle.tc_code.specs.Code.{Code}
use Rattle.store_buffers.specs.Pending.{Binding}
use Rattle.path_walk.specs.Paths.{ArePaths, Paths, Walk}
use Rattle.path_walk.specs.declared.event.Event.{Event}
use Rattle.order_formula.specs.sym_terms.declared.node.Node.{Node}
use Rattle.clap_solve.specs.sym_exec.Executed.{Symbolic, executed}
use Rattle.clap_solve.proofs.sym_events.Whole.{is_executed}
use Rattle.order_formula.specs.declared.formula.Conjunct.{Conjunct}
use Rattle.order_formula.specs.declared.group.Group.{Group}
use Rattle.why_impossible.specs.reached_groups.lawful_order.Events.{Placed, all_events}
use Rattle.why_impossible.specs.reached_groups.lawful_order.Whole.{IsExecutedBy}
use Rattle.why_impossible.proofs.reached_groups.order_events.Lists.{of_map}
use Rattle.why_impossible.proofs.reached_groups.order_events.Numbers.{of_all_from}
use Rattle.why_impossible.proofs.reached_groups.order_events.Parts.{each_in, in_of_each}
use Rattle.clap_solve.specs.condition_order.Conditions.{condition_formula}
use Rattle.clap_solve.proofs.condition_order.Groups.{have_their_group}
use Rattle.clap_solve.specs.memory_order.Own.{own_formula}
use Rattle.clap_solve.proofs.memory_order.Exact.{Always, Failing, IsOwn, Tested, of_formula}
use Rattle.clap_solve.specs.sync_order.Children.{children_formula}
use Rattle.clap_solve.specs.sync_order.Mutexes.{mutexes_formula}
use Rattle.clap_solve.specs.sync_order.Stuck.{stuck_at, stuck_formula}
use Rattle.clap_solve.specs.sync_order.Sync.{sync_formula}
use Rattle.clap_solve.proofs.sync_order.Links.{made_by}
use Rattle.clap_solve.proofs.sync_order.Regions.{mutexes_group}
use Rattle.clap_solve.proofs.sync_order.Whole.{each_part}
use Rattle.clap_solve.specs.read_write.Reading.{read_formula}
use Rattle.clap_solve.proofs.read_write.Formulas.{load_from}
use Rattle.clap_solve.proofs.read_write.Numbers.{access_of}
use Rattle.clap_solve.specs.clap_system.Systems.{rules_of, system_by, with_needs}
use Rattle.clap_solve.specs.clap_system.Tests.{test_formula}
use Rattle.clap_solve.proofs.clap_system.Tests.{of_test}
use Rattle.why_impossible.specs.reached_groups.Groups.{AreReachedGroups}
use Rattle.why_impossible.specs.reached_groups.bit_blast.Blasted.{Blasted}
use Rattle.refute_check.specs.declared.line.Line.{Line}
use Rattle.why_impossible.proofs.reached_groups.order_events.Lists.{at_in}
use Rattle.why_impossible.specs.helpers.There.{IsThere}

module _ (paths : Paths) where
  abbrev pub There : Conjunct → Type 0
  There c = IsThere paths c.group

  of_thread : (t : ℕ) (q : Walk) → slice_get paths.threads t ≡ Some q → t < length paths.threads
  of_thread t q at = slice_get_within paths.threads t q at

  of_event : (x : Placed Event) → Contains (all_events paths) x → x.thread < length paths.threads
  of_event x i = let o = of_all_from (λ (q : Walk). q.events) 0 paths.threads x i in omega (arith, of_thread o.place o.owner o.at, o.thread)

  own_there : (buffered : Bool) (bound : Binding) (symbolic : Symbolic) (nodes : List Node) (c : Conjunct)
      → Contains (own_formula buffered bound paths symbolic nodes) c → There c
  own_there buffered bound symbolic nodes c i = by (of_formula buffered bound paths symbolic nodes c i)
    where
      by : IsOwn buffered bound paths symbolic nodes c → There c
      by (Always t q p at two next is) = subst There is (of_thread t q at)
      by (Tested t q p test at two kept is) = subst There is (of_thread t q at)
      by (Failing x f first second before failing is) = subst There is (of_event x first)

  children_there : (c : Conjunct) → Contains (children_formula paths) c → There c
  children_there c i = elim (made_by paths c i) [
    | inl m ↦ subst There m.made (of_thread m.place m.has.0 m.has.1)
    | inr m ↦ subst There m.made (of_thread m.place m.walk m.at)
  ]

  mutexes_there : (c : Conjunct) → Contains (mutexes_formula paths) c → There c
  mutexes_there c i = subst (IsThere paths) (sym (mutexes_group paths c i).1) tt

  conditions_there : (c : Conjunct) → Contains (condition_formula paths) c → There c
  conditions_there c i = subst (IsThere paths) (sym (have_their_group paths c i).1) tt

  stuck_there : (c : Conjunct) → Contains (stuck_formula paths) c → There c
  stuck_there c i =
      let o = in_of_each (λ t q. map (stuck_at paths t q) (option_to_list q.blocked)) paths.threads c i in
      let b = of_map (stuck_at paths o.place o.element) c (option_to_list o.element.blocked) o.there in
      subst There b.2 (of_thread o.place o.element o.at)

  sync_there : All There (sync_formula paths)
  sync_there = each_part paths There children_there mutexes_there (each_in There (condition_formula paths) conditions_there) stuck_there

  module _ (code : Code) (symbolic : Symbolic) (nodes : List Node) (done : IsExecutedBy paths symbolic) where
    read_there : (c : Conjunct) → Contains (read_formula code paths symbolic nodes) c → There c
    read_there c i =
        let l = load_from code paths symbolic nodes c i in
        let e = done.accesses l.load.thread l.load.it (access_of symbolic l.load l.among) in
        subst There l.is (of_thread l.load.thread e.1.0 e.1.1)

    test_there : (c : Conjunct) → Contains (test_formula symbolic) c → There c
    test_there c i =
        let o = of_test symbolic c i in
        let less : o.thread < length paths.threads = omega (arith, slice_get_within symbolic.threads o.thread o.course o.at, done.threads) in
        subst There o.is less

    rules_there : (buffered : Bool) (bound : Binding) → All There (rules_of buffered bound code paths symbolic nodes)
    rules_there buffered bound =
        let own = own_formula buffered bound paths symbolic nodes in
        let read = read_formula code paths symbolic nodes in
        let test = test_formula symbolic in
        All-append There ((own ++ sync_formula paths) ++ read) test
        (All-append There (own ++ sync_formula paths) read
        (All-append There own (sync_formula paths) (each_in There own (own_there buffered bound symbolic nodes)) sync_there)
        (each_in There read read_there))
        (each_in There test test_there)

  pub are_there : (buffered : Bool) (bound : Binding) (code : Code) → ArePaths code paths → All There (system_by buffered bound code paths).formula
  are_there buffered bound code are =
      let x = executed code paths [] in
      rules_there code x.symbolic (with_needs buffered bound code paths x.symbolic x.nodes) (is_executed code paths [] are) buffered bound

  -- so is that of each group that is reached
  pub groups_there : (formula : List Conjunct) (b : Blasted) (lines : List Line) (groups : List Group) → AreReachedGroups formula b lines groups
      → All There formula → All (IsThere paths) groups
  groups_there formula b lines groups are all = each_in (IsThere paths) groups (λ g i.
      let r = are.each g i in
      subst (IsThere paths) r.of (All-contains There formula r.conjunct all (at_in formula r.number r.conjunct r.there)))
