-- Requests for cells, mutexes and conditions that exist.
use Rattle.std.specs.Prelude.{ℕ, ◌<◌}
use Rattle.tc_code.specs.tc_base.declared.request.Request.{Request}
use Rattle.tc_code.specs.tc_base.declared.request.Request.TheVariants.{Read, Write, Exchange, Acquire, Release}
use Rattle.tc_code.specs.tc_base.declared.request.Request.TheVariants.{BeginWait, EndWait, WakeOne, WakeAll}

-- the request names only cells, mutexes and conditions below these counts
abbrev pub AsksWithin : (cells mutexes conditions : ℕ) → Request → Type 0
AsksWithin cells mutexes conditions (Read c) = c < cells
AsksWithin cells mutexes conditions (Write c v) = c < cells
AsksWithin cells mutexes conditions (Exchange c u) = c < cells
AsksWithin cells mutexes conditions (Acquire m) = m < mutexes
AsksWithin cells mutexes conditions (Release m) = m < mutexes
AsksWithin cells mutexes conditions (BeginWait c m) = (c < conditions) × (m < mutexes)
AsksWithin cells mutexes conditions (EndWait c m) = (c < conditions) × (m < mutexes)
AsksWithin cells mutexes conditions (WakeOne c) = c < conditions
AsksWithin cells mutexes conditions (WakeAll c) = c < conditions
AsksWithin cells mutexes conditions _ = Unit {0}
