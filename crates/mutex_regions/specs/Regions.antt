-- The regions of a mutex, and the accesses in them.
use Rattle.std.specs.Prelude.{ℕ, ◌==◌, ◌&&◌, Bool, true, nat_lt, List, filter}
use Rattle.std.specs.Option.{option_map_or}
use Rattle.path_walk.specs.Paths.{Paths}
use Rattle.path_walk.specs.declared.event.Region.{Region}
use Rattle.sym_exec.specs.declared.symbolic.Access.{Access}
use Rattle.order_events.specs.lawful_order.Events.{Placed, all_from}

-- all regions, one thread after another, and those of the mutex m
abbrev pub all_regions : Paths → List (Placed Region)
all_regions paths = all_from (λ q. q.regions) 0 paths.threads

abbrev pub regions_of : Paths → ℕ → List (Placed Region)
regions_of paths m = filter (λ r. r.it.mutex == m) (all_regions paths)

-- whether an access lies in a region: after its begin and, if it has an end, before that
abbrev pub lies_in : Placed Region → Placed Access → Bool
lies_in r a =
    a.thread == r.thread
    && (nat_lt r.it.«from» a.it.step && option_map_or (nat_lt a.it.step) r.it.to true)
