-- The states of all mutexes keep the worlds of a draft.
use Rattle.std.proofs.Common.{List, sym, subst}
use Rattle.order_cells.specs.sym_exec.path_walk.tc_code.Code.{Code}
use Rattle.order_cells.specs.sym_exec.path_walk.Paths.{Paths}
use Rattle.circuit_sizes.specs.sym_terms.declared.node.Node.{Node}
use Rattle.order_cells.specs.sym_exec.Executed.{Symbolic}
use Rattle.mutex_regions.specs.order_events.order_formula.declared.formula.Conjunct.{Conjunct}
use Rattle.bit_blast.specs.Drafts.{Draft, KeepsWorlds}
use Rattle.bit_blast.specs.Says.{DraftTells}
use Rattle.mutex_states.specs.Adding.{HasWorlds, StatesRules}
use Rattle.mutex_states.specs.States.{with_states}
use Rattle.mutex_states.proofs.AllMutexes.{all_keep}
use Rattle.mutex_states.proofs.OneMutex.{mutex_keeps}

pub states_keep : (code : Code) (paths : Paths) (symbolic : Symbolic) (nodes : List Node) (formula : List Conjunct) (d : Draft)
    → StatesRules code paths symbolic nodes formula → HasWorlds paths symbolic nodes d.layout → DraftTells nodes formula d
    → KeepsWorlds nodes formula d (with_states code paths symbolic nodes formula d)
states_keep code paths symbolic nodes formula d rules worlds tells =
    all_keep code paths symbolic nodes formula d tells (λ m e keeps told.
    mutex_keeps code paths symbolic nodes formula rules m e (subst (HasWorlds paths symbolic nodes) (sym keeps.layout) worlds) told.clauses told)
