-- All terms that the parts of a system need exist.
use Rattle.std.proofs.Common.{◌≡◌, Bool, true, List, [], fold, sym, ap, subst}
use Rattle.std.specs.List.{All, Contains}
use Rattle.std.proofs.lemmas.List.Elements.{All-contains}
use Rattle.tc_code.specs.Code.{Code}
use Rattle.tc_code.specs.Lawful.{IsLawful}
use Rattle.path_walk.specs.Paths.{Paths, ArePaths}
use Rattle.store_buffers.specs.Pending.{Binding}
use Rattle.sym_terms.specs.Terms.{AreTerms, with_node}
use Rattle.sym_terms.specs.declared.node.Node.{Node}
use Rattle.sym_exec.specs.Executed.{Symbolic, executed}
use Rattle.sym_exec.specs.Making.{Grows}
use Rattle.sym_exec.proofs.Grown.{grows_none, grows_both}
use Rattle.order_formula.specs.declared.formula.Conjunct.{Conjunct}
use Rattle.order_formula.specs.Worlds.{World, IsWorld}
use Rattle.order_events.specs.lawful_order.Lawful.{IsWorldOf}
use Rattle.order_events.specs.lawful_order.Whole.{AreWhole, IsExecutedBy}
use Rattle.memory_order.specs.order_cells.Terms.{HaveTerms}
use Rattle.memory_order.proofs.order_cells.Needs.{grows_all, all_there, there_later}
use Rattle.memory_order.proofs.order_cells.Stay.{have_later}
use Rattle.order_events.proofs.Parts.{each_in}
use Rattle.order_events.proofs.Whole.{whole}
use Rattle.sym_events.proofs.Terms.{have_terms}
use Rattle.sym_events.proofs.Whole.{is_executed}
use Rattle.memory_order.specs.Own.{own_formula, own_needs}
use Rattle.memory_order.proofs.Exact.{exact, of_formula, own_group}
use Rattle.memory_order.proofs.Stay.{needs_later, formula_later}
use Rattle.sync_order.specs.Sync.{is_sync, sync_formula}
use Rattle.sync_order.proofs.Whole.{exactly, groups}
use Rattle.read_write.specs.Reading.{read_formula, read_needs}
use Rattle.read_write.proofs.Exact.{IsAbout}
use Rattle.read_write.proofs.Formulas.{rule_from_formula, formula_from_rule, load_from}
use Rattle.read_write.proofs.Terms.{needs_there}
use Rattle.clap_system.specs.Systems.{with_needs}
use Rattle.clap_system.specs.Tests.{test_formula}
use Rattle.clap_system.proofs.Exact.{ArePartsExact}
use Rattle.clap_system.proofs.Groups.{Apart, HaveGroups, is_own, is_read, is_test}
use Rattle.clap_system.proofs.Tests.{of_test, tests_exact}

module _ (buffered : Bool) (bound : Binding) (code : Code) (paths : Paths) (symbolic : Symbolic) (nodes : List Node) where
  -- the terms, with those that the order of a thread's events needs
  abbrev pub with_own : List Node
  with_own = fold with_node nodes (own_needs buffered bound paths symbolic nodes)

  abbrev pub with_all : List Node
  with_all = with_needs buffered bound code paths symbolic nodes

  pub own_grows : Grows with_own with_all
  own_grows = grows_all with_own (read_needs code symbolic with_own)

  pub all_grows : Grows nodes with_all
  all_grows = grows_both nodes with_own with_all (grows_all nodes (own_needs buffered bound paths symbolic nodes)) own_grows

  module _ (have : HaveTerms nodes symbolic) where
    pub have_own : HaveTerms with_own symbolic
    have_own = have_later nodes with_own symbolic (grows_all nodes (own_needs buffered bound paths symbolic nodes)) have

    -- the terms needed at first are still needed with more terms, and exist
    needed_at : (later : List Node) → Grows nodes later → Grows with_own later → All (Contains later) (own_needs buffered bound paths symbolic later)
    needed_at later grows grown =
        let needs = own_needs buffered bound paths symbolic nodes in
        subst (All (Contains later)) (sym (needs_later symbolic nodes have later grows buffered bound paths))
        (each_in (Contains later) needs (λ n i. there_later with_own later n grown (All-contains (Contains with_own) needs n (all_there nodes needs) i)))

    pub own_needed : All (Contains with_own) (own_needs buffered bound paths symbolic with_own)
    own_needed = needed_at with_own (grows_all nodes (own_needs buffered bound paths symbolic nodes)) (grows_none with_own)

    pub all_needed : All (Contains with_all) (own_needs buffered bound paths symbolic with_all)
    all_needed = needed_at with_all all_grows own_grows

    pub reads_needed : All (Contains with_all) (read_needs code symbolic with_all)
    reads_needed = needs_there code symbolic with_own with_all have_own (grows_none with_all)

    -- the formula of a thread's own events stays the same
    pub own_stays : own_formula buffered bound paths symbolic with_all ≡ own_formula buffered bound paths symbolic with_own
    own_stays = formula_later symbolic with_own have_own with_all own_grows buffered bound paths own_needed

own_groups : (buffered : Bool) (bound : Binding) (paths : Paths) (symbolic : Symbolic) (nodes : List Node)
    → HaveGroups is_own (own_formula buffered bound paths symbolic nodes)
own_groups buffered bound paths symbolic nodes c there =
    let o = own_group buffered bound paths symbolic nodes c (of_formula buffered bound paths symbolic nodes c there) in ap is_own o.1

read_groups : (code : Code) (paths : Paths) (symbolic : Symbolic) (nodes : List Node) → HaveGroups is_read (read_formula code paths symbolic nodes)
read_groups code paths symbolic nodes c there =
    let l = load_from code paths symbolic nodes c there in
    ap (λ (d : Conjunct). is_read d.group) (sym l.is)

sync_groups : (paths : Paths) → HaveGroups is_sync (sync_formula paths)
sync_groups paths c there = All-contains (λ (d : Conjunct). is_sync d.group ≡ true) (sync_formula paths) c (groups paths) there

test_groups : (symbolic : Symbolic) → HaveGroups is_test (test_formula symbolic)
test_groups symbolic c there = let o = of_test symbolic c there in ap (λ (d : Conjunct). is_test d.group) (sym o.is)

pub apart : (buffered : Bool) (bound : Binding) (code : Code) (paths : Paths) (symbolic : Symbolic) (nodes : List Node)
    → Apart (own_formula buffered bound paths symbolic nodes) (sync_formula paths) (read_formula code paths symbolic nodes) (test_formula symbolic)
apart buffered bound code paths symbolic nodes = record {
  own = own_groups buffered bound paths symbolic nodes;
  sync = sync_groups paths;
  read = read_groups code paths symbolic nodes;
  test = test_groups symbolic;
}

-- each part of the system of paths is exact
pub parts_exact : (buffered : Bool) (bound : Binding) (code : Code) (paths : Paths) (w : World) → ((barred : Bool) → bound true barred ≡ true)
    → IsLawful code → ArePaths code paths → AreTerms (with_needs buffered bound code paths (executed code paths []).symbolic (executed code paths []).nodes)
    → IsWorld w → IsWorldOf paths (executed code paths []).symbolic w
    → ArePartsExact buffered bound code paths (executed code paths []).symbolic
    (with_needs buffered bound code paths (executed code paths []).symbolic (executed code paths []).nodes) w
parts_exact buffered bound code paths w up lawful are terms world of =
    let symbolic = (executed code paths []).symbolic in
    let nodes = (executed code paths []).nodes in
    let all = with_needs buffered bound code paths symbolic nodes in
    let have : HaveTerms nodes symbolic = have_terms code lawful paths [] in
    let is_whole : AreWhole paths = whole code paths are in
    let is_done : IsExecutedBy paths symbolic = is_executed code paths [] are in
    let reads : All (Contains all) (read_needs code symbolic all) = reads_needed buffered bound code paths symbolic nodes have in
    let about : IsAbout paths symbolic all w = record { world = world; of = of; whole = is_whole; executed = is_done; terms = terms } in
    record {
      own = exact buffered bound paths symbolic all w up is_whole is_done terms (all_needed buffered bound code paths symbolic nodes have);
      sync = exactly paths buffered bound code symbolic all w of;
      read = λ t line. record {
        to = rule_from_formula code paths symbolic all w about reads t line;
        back = formula_from_rule code paths symbolic all w about reads t line;
      };
      test = tests_exact symbolic all w;
      apart = apart buffered bound code paths symbolic all;
    }
