-- The logs gone through.
use Rattle.std.specs.Prelude.{◌≡◌, ℕ, ◌+◌, ◌⊎◌, List, Option, Some, None, IfSome, Bool, true, not, ◌==◌, ◌||◌, if◌then◌else◌}
use Rattle.std.specs.List.{All}
use Rattle.std.specs.Option.{option_map_or}
use Rattle.memory_models.specs.declared.model.Model.{Model}
use Rattle.tc_base.specs.Buffers.{BufferOps}
use Rattle.tc_base.specs.Paths.{ThreadPath}
use Rattle.run_log.specs.Logs.{Log, StoredLog}
use Rattle.tc_code.specs.Code.{Code}
use Rattle.tc_code.specs.tc_limits.declared.limits.TheConstants.{THREADS}
use Rattle.store_buffers.specs.Pending.{Binding}
use Rattle.log_walk.specs.thread_paths.pure_turns.Live.{Liveness}
use Rattle.log_walk.specs.Given.{IsLeftOut}
use Rattle.log_walk.specs.Rest.{all, MakeUp}
use Rattle.log_walk.specs.declared.bounds.Kind.{Kind}
use Rattle.log_walk.specs.declared.bounds.LeftOut.{LeftOut}
use Rattle.find_failures.specs.LeftOut.{is_over}
use Rattle.find_failures.specs.Found.{IsRefuted, IsUnknown, AreMany}
use Rattle.find_failures.specs.Runs.{AreExcluded, AreExcludedBelow, IsNeeded, IsPossible, NoneBefore}
use Rattle.find_failures.specs.declared.asked.Asked.{Asked}
use Rattle.find_failures.specs.declared.found.Found.{Found}
use Rattle.find_failures.specs.declared.found.Found.TheVariants as found
use Rattle.find_failures.specs.declared.found.Reach.TheVariants.{Every, Bounded}
use Rattle.find_failures.specs.declared.found.Searched.{Searched}
use Rattle.find_failures.specs.declared.found.Unknown.{Unknown}
use Rattle.find_failures.specs.declared.gone.Gone.{Gone}
use Rattle.find_failures.specs.declared.round.Ended.{Ended}
use Rattle.find_failures.specs.declared.round.Ended.TheVariants.{Possible, TooMany, Done}

module _ {B : Type 0} (ops : BufferOps B) (model : Model) (code : Code) (kind : Kind) where
  -- if no log is unknown, no log before the one of these threads is possible
  abbrev pub AreReached : Gone → List ThreadPath → Type 0
  AreReached gone ts = gone.unknown ≡ None → NoneBefore ops model code kind ts

module _ {B : Type 0} (ops : BufferOps B) (model : Model) (code : Code) (live : Liveness)
    (kind : Kind) where
  -- if no log is unknown, those with fewer outcomes are excluded
  abbrev pub AreSettled : ℕ → Gone → Type 0
  AreSettled most gone = gone.unknown ≡ None → AreExcludedBelow ops model code live kind most

  -- all logs were gone through: if none is unknown, each is excluded, or was left out
  abbrev pub AreDone : ℕ → Gone → LeftOut → Type 0
  AreDone most gone out =
      gone.unknown ≡ None → (ts : List ThreadPath) → MakeUp code kind (all code kind) ts
      → AreExcluded ops model code live kind ts ⊎ IsLeftOut most THREADS out ts

module _ {B : Type 0} (ops : BufferOps B) (model : Model) (bound : Binding) (code : Code)
    (asked : Asked) where
  -- the logs gone through are refuted, and the unknown one is unknown
  pub record AreGone (gone : Gone) : Type 0 where
    pub refuted : All (IsRefuted ops bound code) gone.refuted.items
    pub unknown : IfSome gone.unknown (IsUnknown ops bound code model asked)

  -- a log that is needed can be reproduced
  abbrev pub IsHit : Log → Type 0
  IsHit log = IsNeeded model code asked.kind asked.outcomes log × IsPossible ops code log

  -- logs were tried: this one is possible, or if none is unknown, none was, and this holds
  abbrev pub IsTried : Gone → Gone → Type 0 → Option StoredLog → Type 0
  IsTried before after fact (Some log) = AreGone after × IsHit log.log
  IsTried before after fact None =
      AreGone after × (after.unknown ≡ None → (before.unknown ≡ None) × fact)

module _ {B : Type 0} (ops : BufferOps B) (model : Model) (bound : Binding) (code : Code)
    (live : Liveness) (asked : Asked) where
  -- how going through the logs with at most this number of outcomes ended
  abbrev pub HasEnded : ℕ → Gone → Ended → Type 0
  HasEnded most after (Possible log) = IsHit ops model bound code asked log.log
  HasEnded most after TooMany = AreMany code asked (asked.logs + 1)
  HasEnded most after (Done out) = AreDone ops model code live asked.kind most after out

  -- the logs gone through, and how that ended
  abbrev pub IsEnded : ℕ → Gone → Ended → Type 0
  IsEnded most after ended =
      AreGone ops model bound code asked after × HasEnded most after ended

-- whether more outcomes aren't asked for, or lead to no more logs
abbrev pub is_last : Asked → ℕ → Ended → Bool
is_last asked level (Done out) = level == asked.outcomes || not out.outcomes
is_last asked level _ = true

-- the result after all logs
abbrev pub after_all : Option Unknown → LeftOut → Found
after_all unknown out =
    option_map_or (λ u. found.Unknown u) unknown
    (if is_over out then found.LeftOut out
    else if out.outcomes then found.Never Bounded else found.Never Every)

-- the result of going through logs, the first unknown one of which is this
abbrev pub found_of : Option Unknown → Ended → Found
found_of unknown (Possible log) = found.Possible log
found_of unknown TooMany = found.TooMany
found_of unknown (Done out) = after_all unknown out

-- the result of going through logs, and those refuted
abbrev pub searched : Gone → Ended → Searched
searched gone ended = record { found = found_of gone.unknown ended; refuted = gone.refuted }
