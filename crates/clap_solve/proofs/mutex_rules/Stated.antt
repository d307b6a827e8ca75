-- A system's conjuncts state the rules on which the states of its mutexes rest.
use Rattle.std.proofs.Common.{Bool, List, []}
use Rattle.std.specs.List.{All, Contains}
use Rattle.std.proofs.lemmas.List.Elements.{All-weaker}
use Rattle.mutex_states.specs.mutex_regions.order_events.sym_exec.path_walk.tc_code.Code.{Code}
use Rattle.mutex_states.specs.mutex_regions.order_events.sym_exec.path_walk.tc_code.Lawful.{IsLawful}
use Rattle.mutex_states.specs.mutex_regions.order_events.sym_exec.path_walk.Paths.{ArePaths, Paths}
use Rattle.mutex_states.specs.mutex_regions.order_events.store_buffers.Pending.{Binding}
use Rattle.mutex_states.specs.bit_blast.order_formula.sym_terms.Terms.{AreTerms}
use Rattle.mutex_states.specs.bit_blast.order_formula.sym_terms.declared.node.Node.{Node}
use Rattle.mutex_states.specs.bit_blast.order_formula.sym_terms.declared.node.Node.TheVariants.{Constant}
use Rattle.mutex_states.specs.mutex_regions.order_events.sym_exec.Executed.{Executed, executed}
use Rattle.mutex_states.specs.mutex_regions.order_events.sym_exec.Ints.{HasInt}
use Rattle.mutex_states.specs.mutex_regions.order_events.lawful_order.Whole.{IsExecutedBy}
use Rattle.mutex_states.proofs.mutex_regions.order_events.Whole.{whole}
use Rattle.mutex_states.specs.mutex_regions.read_write.Reading.{read_needs}
use Rattle.mutex_states.specs.bit_blast.bit_terms.Laws.{IsIntNode}
use Rattle.clap_system.specs.Systems.{system_by, with_needs}
use Rattle.clap_system.proofs.Needs.{reads_needed}
use Rattle.clap_system.proofs.Ready.{is_ready}
use Rattle.clap_system.proofs.sym_events.Terms.{have_terms}
use Rattle.clap_system.proofs.sym_events.Whole.{is_executed}
use Rattle.mutex_states.specs.Adding.{StatesRules}
use Rattle.clap_solve.proofs.mutex_rules.Rules.{rules_follow}
use Rattle.clap_solve.proofs.mutex_rules.Tests.{tests_hold}

pub int_node : (n : Node) → HasInt n → IsIntNode n
int_node (Constant k) int = int
int_node _ none = tt

pub states_rules : (buffered : Bool) (bound : Binding) (code : Code) (paths : Paths) → IsLawful code → ArePaths code paths
    → AreTerms (system_by buffered bound code paths).nodes
    → StatesRules code paths (system_by buffered bound code paths).symbolic (system_by buffered bound code paths).nodes
    (system_by buffered bound code paths).formula
states_rules buffered bound code paths lawful are terms =
    let x : Executed = executed code paths [] in
    let nodes : List Node = with_needs buffered bound code paths x.symbolic x.nodes in
    let done : IsExecutedBy paths x.symbolic = is_executed code paths [] are in
    let needs : All (Contains nodes) (read_needs code x.symbolic nodes) =
    reads_needed buffered bound code paths x.symbolic x.nodes (have_terms code lawful paths []) in
    record {
      lawful = lawful;
      are = are;
      executed = done;
      terms = terms;
      constants = All-weaker HasInt IsIntNode int_node nodes (is_ready buffered bound code paths lawful are).ints;
      rules = λ w m world of.
          rules_follow buffered bound code paths x.symbolic nodes w
          (record { world = world; of = of; whole = whole code paths are; executed = done; terms = terms }) needs m;
      tests = λ w. tests_hold buffered bound code paths x.symbolic nodes w;
    }
