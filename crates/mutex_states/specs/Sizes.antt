-- Upper bounds on the variables, and on the clauses, that are added.
use Rattle.std.specs.Prelude.{ℕ, ◌+◌, ◌*◌, if◌then◌else◌, List, length, sum_by}
use Rattle.circuit_sizes.specs.bit_terms.Sizes.{terms_size}
use Rattle.mutex_regions.specs.Functions.{is_closed}
use Rattle.mutex_states.specs.Steps.{Step, pool, shapes}

-- ranks: for each region and each number, a clause for each other region, and one more
abbrev pub ranks_size : (regions : ℕ) → ℕ
ranks_size regions = regions * (regions * (regions + 1))

-- one rank: a gate for each region, a clause for each two regions, and one more
abbrev pub rank_size : (regions : ℕ) → ℕ
rank_size regions = 3 * regions + (regions * regions + 1)

-- The literal that all is in order: a gate for each literal, and for each access of the regions a
-- comparison of its index. `conjuncts` are those about the mutex.
abbrev pub order_size : (conjuncts regions used : ℕ) → ℕ
order_size conjuncts regions used =
    (conjuncts + (regions + (regions * regions + used * (3 + used)))) * 3 + used * 387

-- a shape at one rank: its words, and a clause for each region that has it
abbrev pub shape_size : (regions : ℕ) → List ℕ → ℕ
shape_size regions shape = length shape * 64 + (regions + 2)

-- a region at one rank: its words if it has no shape, those of its loads, and its tests
abbrev pub region_size : Step → ℕ
region_size s =
    (if is_closed s.does then 0 else length s.does.cells * 64)
    + (length s.does.loads * 64 + length s.tests * 32)

-- the state after a rank: the circuits of its terms, its variables, its shapes and its regions
abbrev pub turn_size : (cells : ℕ) → List Step → ℕ
turn_size cells steps =
    terms_size (pool cells steps)
    + (32 * cells + 1
    + (sum_by (shape_size (length steps)) (shapes cells steps) + sum_by region_size steps))

-- the loads after all regions: a gate for each region and one more, and a word for each cell
abbrev pub last_size : (regions cells accesses : ℕ) → ℕ
last_size regions cells accesses = accesses * ((regions + 1) * 3 + cells * 64)

-- all clauses of a mutex
abbrev pub states_size : (cells : ℕ) → List Step → (conjuncts used accesses : ℕ) → ℕ
states_size cells steps conjuncts used accesses =
    order_size conjuncts (length steps) used + ranks_size (length steps)
    + (length steps * (rank_size (length steps) + turn_size cells steps)
    + last_size (length steps) cells accesses)

-- at most this many variables, and this many clauses, for all mutexes of a log together
abbrev pub most_size : ℕ
most_size = 20_000_000
