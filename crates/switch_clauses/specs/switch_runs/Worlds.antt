-- Context switches in a world of the paths.
use Rattle.std.specs.Prelude.{ℕ, List, map, Option, option_map}
use Rattle.std.specs.List.{find}
use Rattle.plan_runs.specs.path_walk.Paths.{Paths}
use Rattle.order_switches.specs.order_formula.Worlds.{World}
use Rattle.order_switches.specs.Switches.{switches}
use Rattle.plan_runs.specs.lawful_order.Events.{all_events, number_of}
use Rattle.plan_runs.specs.world_plan.Plan.{is_failure}

-- the thread of each event
abbrev pub threads_of : Paths → List ℕ
threads_of paths = map (λ e. e.thread) (all_events paths)

-- the number of the failing event, if any
abbrev pub failing_of : Paths → Option ℕ
failing_of paths =
    option_map (λ e. number_of paths e.thread e.it.step)
    (find (λ e. is_failure e.it.kind) (all_events paths))

abbrev pub world_switches : Paths → World → ℕ
world_switches paths w = switches (threads_of paths) (failing_of paths) w
