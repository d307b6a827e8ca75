-- A bound on the text of a schedule that reproduces a log.
use Rattle.std.specs.Prelude.{◌≡◌, ℕ, ◌+◌, ◌*◌, ◌≤◌, true, length}
use Rattle.std.specs.List.{All}
use Rattle.path_log.specs.run_log.Logs.{Log}
use Rattle.schedule_file.specs.tc_limits.declared.limits.TheConstants.{THREADS, DEPTH, STEPS, EVENTS}
use Rattle.path_laws.specs.tc_code.Code.{Code}
use Rattle.path_log.specs.run_log.Logs.{is_log}
use Rattle.path_laws.specs.path_walk.Paths.{paths_of}

-- the first line: `clap-schedule 1`, a space, a model of at most three letters, and the line's end
abbrev pub header_bytes : ℕ
header_bytes = 20

-- a name: a zero, and for each create a dot and at most three digits
abbrev pub name_bytes : ℕ
name_bytes = 1 + 4 * DEPTH

-- the line of a run: its letter, a space, a name, and the end of the line
abbrev pub run_bytes : ℕ
run_bytes = 3 + name_bytes

-- any line: a wake adds a space and a name, and a drain a space and at most four digits
abbrev pub line_bytes : ℕ
line_bytes = run_bytes + (1 + name_bytes)

-- the first line, a run's line for each step of each thread, and a line of any kind for each event
abbrev pub most_bytes : ℕ
most_bytes = header_bytes + (THREADS * STEPS * run_bytes + EVENTS * line_bytes)

-- a log within the limits on threads, steps and events
pub record IsSmall (code : Code) (log : Log) : Type 0 where
  pub is_log : is_log log ≡ true
  pub threads : length log.threads ≤ THREADS
  pub steps : All (λ t. t.path.steps ≤ STEPS) log.threads
  pub events : (paths_of code log).events ≤ EVENTS
