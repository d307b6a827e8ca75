-- How far the logs of a certificate were gone through.
use Rattle.std.specs.Prelude.{◌≡◌, ℕ, ◌<◌, ◌≤◌, ◌⊎◌, List, Option, Some, option_map, IfSome, false}
use Rattle.tc_base.specs.Paths.{ThreadPath}
use Rattle.run_log.specs.Logs.{Log}
use Rattle.tc_code.specs.Code.{Code}
use Rattle.tc_code.specs.tc_limits.declared.limits.TheConstants.{THREADS}
use Rattle.store_buffers.specs.Buffers.{buffer_of}
use Rattle.log_walk.specs.thread_paths.pure_turns.Live.{Liveness, IsClosed}
use Rattle.log_walk.specs.Given.{IsLeftOut, IsOne}
use Rattle.log_walk.specs.Order.{are_to_come}
use Rattle.log_walk.specs.Rest.{all, MakeUp}
use Rattle.log_walk.specs.Needless.{SomeNeedless}
use Rattle.log_walk.specs.declared.bounds.LeftOut.{LeftOut}
use Rattle.slot_liveness.specs.Tables.{liveness}
use Rattle.refute_check.specs.Refutations.{start}
use Rattle.clap_system.specs.Faults.{IsBuildFault}
use Rattle.clap_system.specs.declared.fault.BuildFault.TheVariants as build
use Rattle.clap_solve.specs.Clauses.{model_clauses}
use Rattle.clap_solve.specs.Solved.{IsImpossible, IsWithin}
use Rattle.none_certificates.specs.declared.header.Header.{Header}
use Rattle.find_failures.specs.Runs.{AreExcluded, AreExcludedBelow, NoneBefore}
use Rattle.certified_logs.specs.Logs.{ends_of, log_at, IsNext}
use Rattle.certified_logs.specs.declared.next.Next.{Next}
use Rattle.certified_logs.specs.declared.next.Next.TheVariants as next
use Rattle.certified_logs.specs.declared.place.Place.{Place}

-- the threads given last
abbrev pub last_of : Place → Option (List ThreadPath)
last_of p = option_map (λ v. v.items) p.last

-- the place is at this log
pub record IsOf (h : Header) (p : Place) (log : Log) : Type 0 where
  pub threads : List ThreadPath
  pub last : last_of p ≡ Some threads
  pub end : p.end < ends_of h.bounds.kind threads
  pub is : log ≡ log_at h threads p.end

module _ (code : Code) (live : Liveness) (h : Header) where
  -- no moves reproduce a log of these threads, unless some path is needless
  abbrev pub AreDone : List ThreadPath → Type 0
  AreDone = AreExcluded (buffer_of h.model) h.model code live h.bounds.kind

  -- the same of all logs, except maybe those left out
  abbrev pub AllAreDone : LeftOut → Type 0
  AllAreDone out =
      (ts : List ThreadPath) → MakeUp code h.bounds.kind (all code h.bounds.kind) ts
      → AreDone ts ⊎ IsLeftOut h.bounds.most THREADS out ts

  -- no moves reproduce one of the first logs of these threads, nor one of those before them; and
  -- if none reproduces any log of these threads, the search is through with them; all this unless
  -- some path is needless
  pub record AreReached (level end : ℕ) (out : LeftOut) (ts : List ThreadPath) : Type 0 where
    pub one : IsOne code (record { kind = h.bounds.kind; most = level }) ts
    pub first : NoneBefore (buffer_of h.model) h.model code h.bounds.kind ts
    pub ends : end ≤ ends_of h.bounds.kind ts
    pub gone : (SomeNeedless code live h.bounds.kind (all code h.bounds.kind) ts → ⊥)
        → (k : ℕ) → k < end → IsImpossible (buffer_of h.model) code (log_at h ts k)
    pub through : AreDone ts → (us : List ThreadPath)
        → MakeUp code h.bounds.kind (all code h.bounds.kind) us → are_to_come (Some ts) us ≡ false
        → AreDone us ⊎ IsLeftOut level THREADS out us

  -- no moves reproduce a log that comes before a place
  pub record IsReachedAt (p : Place) : Type 0 where
    pub level : p.level ≤ h.bounds.most
    pub below : AreExcludedBelow (buffer_of h.model) h.model code live h.bounds.kind p.level
    pub last : IfSome (last_of p) (AreReached p.level p.end p.out)

module _ (code : Code) (h : Header) where
  -- the same, with the slots that the place has as live
  pub record IsAt (p : Place) : Type 0 where
    pub closed : IsClosed code (liveness p.live)
    pub reached : IsReachedAt code (liveness p.live) h p

  -- the next log that has clauses, and a checker over them; or why there is none
  abbrev pub IsNextAt : Place → Next → Type 0
  IsNextAt p (next.Log log checker) =
      IsAt p × IsOf h p log.log × IsWithin code log.log
      × (checker ≡ start (model_clauses h.model code log.log))
  IsNextAt p (next.Limit which n limit) =
      (log : Log) × IsNext code h log × IsBuildFault code log (build.Limit which n limit)
  IsNextAt p (next.Done out) =
      IsClosed code (liveness p.live) × AllAreDone code (liveness p.live) h out
