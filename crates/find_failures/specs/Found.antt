-- The results of a search.
use Rattle.std.specs.Prelude.{◌≡◌, ℕ, ◌+◌, List, [], ◌∷◌, length, true, slice_get}
use Rattle.std.specs.List.{All}
use Rattle.memory_models.specs.declared.model.Model.{Model}
use Rattle.tc_base.specs.Buffers.{BufferOps}
use Rattle.tc_base.specs.Paths.{ThreadPath}
use Rattle.run_log.specs.Logs.{Log}
use Rattle.tc_code.specs.Code.{Code}
use Rattle.store_buffers.specs.Pending.{Binding}
use Rattle.log_walk.specs.Given.{IsOne}
use Rattle.log_walk.specs.Order.{are_to_come}
use Rattle.log_walk.specs.declared.bounds.LeftOut.{LeftOut as LeftOutBy}
use Rattle.refute_check.specs.Refutations.{IsClosed}
use Rattle.refute_check.specs.declared.line.Line.{Line}
use Rattle.clap_solve.specs.cdcl_core.Solving.{Solves}
use Rattle.clap_solve.specs.cdcl_core.declared.answer.Answer.TheVariants as answer
use Rattle.clap_system.specs.Faults.{IsBuildFault}
use Rattle.clap_system.specs.declared.fault.BuildFault.TheVariants as build
use Rattle.clap_solve.specs.Clauses.{clauses_of}
use Rattle.clap_solve.specs.Solved.{IsWithin}
use Rattle.find_failures.specs.LeftOut.{is_over}
use Rattle.find_failures.specs.Runs.{IsNeeded, IsPossible}
use Rattle.find_failures.specs.Runs.{NoneBefore, NoneEnds, NoneEndsWithin, NoneWithin}
use Rattle.find_failures.specs.declared.asked.Asked.{Asked}
use Rattle.find_failures.specs.declared.found.Found.{Found}
use Rattle.find_failures.specs.declared.found.Found.TheVariants.{Possible, Never, Unknown}
use Rattle.find_failures.specs.declared.found.Found.TheVariants.{TooMany, LeftOut}
use Rattle.find_failures.specs.declared.found.Unknown.{Unknown as UnknownLog}
use Rattle.find_failures.specs.declared.found.Reach.{Reach}
use Rattle.find_failures.specs.declared.found.Reach.TheVariants.{Every, Bounded}
use Rattle.find_failures.specs.declared.found.Reason.{Reason}
use Rattle.find_failures.specs.declared.found.Reason.TheVariants.{Spent, Limit}
use Rattle.find_failures.specs.declared.found.Refuted.{Refuted}
use Rattle.find_failures.specs.declared.found.Searched.{Searched}

-- each log comes after the next one in the list
abbrev pub Descend : List (List ThreadPath) → Type 0
Descend [] = Unit {0}
Descend (ts ∷ before) = (are_to_come (slice_get before 0) ts ≡ true) × Descend before

-- there are n different logs of this kind within the bound on outcomes
pub record AreMany (code : Code) (asked : Asked) (n : ℕ) : Type 0 where
  pub logs : List (List ThreadPath)
  pub many : length logs ≡ n
  pub apart : Descend logs
  pub each : All (IsOne code (record { kind = asked.kind; most = asked.outcomes })) logs

module _ {B : Type 0} (ops : BufferOps B) (bound : Binding) (code : Code) where
  -- the derivation is closed on the clauses of the log, so that no moves reproduce it
  pub record IsRefuted (r : Refuted) : Type 0 where
    pub within : IsWithin code r.log.log
    pub closed : IsClosed (clauses_of ops.buffered bound code r.log.log) r.derivation

  -- the search for a schedule learnt as many clauses as the budget says, or a limit is exceeded
  abbrev pub IsReason : ℕ → Log → Reason → Type 0
  IsReason budget log Spent =
      (lines : List Line)
      × Solves (clauses_of ops.buffered bound code log) budget (answer.Spent lines)
  IsReason budget log (Limit which n limit) = IsBuildFault code log (build.Limit which n limit)

  module _ (model : Model) (asked : Asked) where
    -- the log is needed and none before it is possible, but for this reason, of it that isn't known
    pub record IsUnknown (unknown : UnknownLog) : Type 0 where
      pub needed : IsNeeded model code asked.kind asked.outcomes unknown.log.log
      pub first : NoneBefore ops model code asked.kind unknown.log.log.threads
      pub reason : IsReason asked.budget unknown.log.log unknown.reason

    -- the runs that were ruled out don't end as asked
    abbrev pub NoneReached : Reach → Type 0
    NoneReached Every = NoneEnds ops code asked.kind
    NoneReached Bounded = NoneEndsWithin ops code asked.kind asked.outcomes

    -- logs were left out for a limit, and none within the limits is possible
    abbrev pub AreOver : LeftOutBy → Type 0
    AreOver out =
        (is_over out ≡ true)
        × NoneWithin ops model code asked.kind asked.outcomes

    -- the result of a search
    abbrev pub IsFound : Found → Type 0
    IsFound (Possible log) =
        IsNeeded model code asked.kind asked.outcomes log.log × IsPossible ops code log.log
    IsFound (Never reach) = NoneReached reach
    IsFound (Unknown unknown) = IsUnknown unknown
    IsFound TooMany = AreMany code asked (asked.logs + 1)
    IsFound (LeftOut out) = AreOver out

    -- the result of a search, and the logs that it refuted
    pub record IsSearched (s : Searched) : Type 0 where
      pub found : IsFound s.found
      pub refuted : All IsRefuted s.refuted.items
