-- How the variables of ranks are stored in memory.
use Rattle.std.specs.Prelude.{◌<◌, ◌≤◌, ◌+◌, ◌*◌}
use Rattle.cnf_core.specs.declared.cnf.TheConstants.{LIMIT}
use Rattle.mutex_states.specs.Ranks.{Ranking}
use Rattle.mutex_states.specs.declared.ranks.Ranks.TheInside.{Inside}

abbrev pub ranking_of : Inside → Ranking
ranking_of r = record { count = r.count; start = r.start }

-- few regions, whose variables are below the limit and aren't the constant
pub record IsHeld (r : Inside) : Type 0 where
  pub few : r.count ≤ 256
  pub positive : 1 < r.start
  pub small : r.start + r.count * r.count ≤ LIMIT
