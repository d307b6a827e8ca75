-- The facts about a system that the code which makes its clauses relies on.
use Rattle.std.specs.Prelude.{◌≤◌, length}
use Rattle.std.specs.List.{All}
use Rattle.schedule_file.specs.tc_limits.declared.limits.TheConstants.{EVENTS}
use Rattle.first_run.specs.lawful_order.Events.{all_events}
use Rattle.bit_blast.specs.bit_terms.Laws.{IsIntNode}
use Rattle.mutex_clauses.specs.Loads.{LoadsAreBelow}
use Rattle.clap_system.specs.Ready.{IsSound}
use Rattle.clap_system.specs.Systems.{System}
use Rattle.clap_solve.specs.formula_sizes.Small.{ClausesHaveRoom}

pub record IsDraftable (s : System) : Type 0 where
  pub sound : IsSound s
  pub constants : All IsIntNode s.nodes
  pub events : length (all_events s.paths) ≤ EVENTS
  pub loads : LoadsAreBelow s.symbolic s.symbolic.loads
  pub room : ClausesHaveRoom s
