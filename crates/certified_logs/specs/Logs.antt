-- The logs that a certificate refutes, and the runs that it rules out.
use Rattle.std.specs.Prelude.{ℕ, ◌==◌, Bool, ◌||◌, ◌⊎◌, List, length, nat_le, if◌then◌else◌}
use Rattle.std.specs.Bool.{MatchBool}
use Rattle.std.specs.List.{list_any}
use Rattle.tc_base.specs.Paths.{ThreadPath}
use Rattle.tc_base.specs.declared.failing.Failing.{Failing}
use Rattle.tc_base.specs.declared.failing.Failing.TheVariants as failing
use Rattle.run_log.specs.Logs.{Log, failing_of}
use Rattle.tc_code.specs.Code.{Code}
use Rattle.tc_code.specs.tc_limits.declared.limits.TheConstants.{THREADS}
use Rattle.store_buffers.specs.Buffers.{buffer_of}
use Rattle.log_walk.specs.Given.{IsLeftOut}
use Rattle.log_walk.specs.Rest.{all, MakeUp}
use Rattle.log_walk.specs.declared.bounds.Kind.{Kind}
use Rattle.log_walk.specs.declared.bounds.Kind.TheVariants.{Failure, Deadlock}
use Rattle.log_walk.specs.declared.bounds.LeftOut.{LeftOut}
use Rattle.none_certificates.specs.Certificates.{LogLine}
use Rattle.none_certificates.specs.declared.header.Header.{Header}
use Rattle.find_failures.specs.Runs.{NoneNeedless, IsNeeded, AreImpossible, NoneBefore, NoneEnds, NoneEndsWithin}

-- how many logs these threads have: in a failure, one for each thread that may fail
abbrev pub ends_of : Kind → List ThreadPath → ℕ
ends_of Failure ts = length ts
ends_of Deadlock ts = 1

-- the end of the log of this index
abbrev pub end_at : Kind → ℕ → Failing
end_at Failure k = failing.Thread k
end_at Deadlock k = failing.Deadlock

-- whether some thread has as many outcomes as the bound allows
abbrev pub are_new : (level : ℕ) → List ThreadPath → Bool
are_new level ts = level == 0 || list_any (λ t. nat_le level (length t.path.outcomes)) ts

-- the index of the first log that wasn't gone through with fewer outcomes
abbrev pub first_end : (level : ℕ) → Kind → List ThreadPath → ℕ
first_end level kind ts = if are_new level ts then 0 else ends_of kind ts

-- the log of this index
abbrev pub log_at : Header → List ThreadPath → ℕ → Log
log_at h ts k =
    record { model = h.model; failing = end_at h.bounds.kind k; threads = ts }

-- what the line of a log says
abbrev pub line_of : Log → LogLine
line_of log = record { failing = failing_of log; threads = log.threads }

module _ (code : Code) (h : Header) where
  -- no moves reproduce a log of these threads
  abbrev pub AreRefuted : List ThreadPath → Type 0
  AreRefuted = AreImpossible (buffer_of h.model) h.model code h.bounds.kind

  -- no moves reproduce a log without needless paths, except maybe those left out
  abbrev pub AllAreRefuted : LeftOut → Type 0
  AllAreRefuted out =
      (ts : List ThreadPath) → MakeUp code h.bounds.kind (all code h.bounds.kind) ts
      → NoneNeedless code h.bounds.kind ts
      → AreRefuted ts ⊎ IsLeftOut h.bounds.most THREADS out ts

  -- a log that the search looks for, and no moves reproduce one of those before its threads
  pub record IsNext (log : Log) : Type 0 where
    pub needed : IsNeeded h.model code h.bounds.kind h.bounds.most log
    pub first : NoneBefore (buffer_of h.model) h.model code h.bounds.kind log.threads

  -- no run ends as the certificate says; if it isn't whole, none with few outcomes
  abbrev pub NoneRuns : Type 0
  NoneRuns =
      MatchBool h.whole (NoneEnds (buffer_of h.model) code h.bounds.kind)
      (NoneEndsWithin (buffer_of h.model) code h.bounds.kind h.bounds.most)
