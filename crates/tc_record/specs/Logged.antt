-- Logs of states.
use Rattle.std.specs.Prelude.{◌≡◌, ℕ, None, Bool, ◌&&◌, nat_le, length, IsTrue}
use Rattle.std.specs.List.{list_all}
use Rattle.tc_limits.specs.declared.limits.TheConstants.{THREADS, DEPTH}
use Rattle.tc_base.specs.Names.{Name}
use Rattle.tc_base.specs.States.{State}
use Rattle.run_log.specs.Logs.{Log, failing_of}
use Rattle.tc_base.specs.Paths.{path_under}
use Rattle.run_log.specs.memory_models.declared.model.Model.{Model}
use Rattle.tc_code.specs.Run.{path_in}
use Rattle.run_log.specs.Logs.{StoredLog, is_log}

-- the log of a state: the thread that failed, if one did, and each thread's path, ordered by name
pub record IsLogOf {B : Type 0} (under : Model) (s : State B) (stored : StoredLog) : Type 0 where
  pub digest : stored.digest ≡ None
  pub model : stored.log.model ≡ under
  pub is_log : IsTrue (is_log stored.log)
  pub failing : failing_of stored.log ≡ s.failed
  pub paths : (n : Name) → path_in s n ≡ path_under n stored.log.threads

-- whether a log is within the limits on threads and depth
abbrev pub is_small : Log → Bool
is_small log =
    nat_le (length log.threads) THREADS && list_all (λ t. nat_le (length t.name) DEPTH) log.threads

-- the most bytes that such a log's text has: 39 for the head, 2 for counts, 131,084 for each thread
abbrev pub most_log_bytes : ℕ
most_log_bytes = 2097385
