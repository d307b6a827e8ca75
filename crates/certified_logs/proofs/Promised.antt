-- What refuted logs show.
use Rattle.std.proofs.Common.{◌≡◌, Bool, true, false, ◌&&◌, List, inl, inr}
use Rattle.std.specs.Prelude.{◌⊎◌}
use Rattle.std.specs.Bool.{MatchBool}
use Rattle.memory_models.specs.declared.model.Model.{Model}
use Rattle.run_log.specs.Logs.{Log, is_log}
use Rattle.tc_code.specs.Code.{Code}
use Rattle.tc_code.specs.Lawful.{IsLawful}
use Rattle.store_buffers.specs.Buffers.{BufferOf, buffer_of}
use Rattle.walked_logs.specs.run_follows.Machine.{Machine}
use Rattle.clap_system.specs.path_walk.declared.fault.WalkFault.{WalkFault}
use Rattle.clap_system.specs.Faults.{IsBuildFault}
use Rattle.clap_system.specs.declared.fault.BuildFault.TheVariants as build
use Rattle.clap_solve.specs.Clauses.{bound_of, model_clauses}
use Rattle.clap_solve.specs.Solved.{IsImpossible, IsWithin}
use Rattle.clap_solve.proofs.Meaning.{closed_is_impossible}
use Rattle.clap_solve.proofs.Models.{model_laws}
use Rattle.refute_check.specs.Refutations.{IsClosed}
use Rattle.refute_check.specs.declared.line.Line.{Line}
use Rattle.tc_code.specs.tc_limits.declared.limits.TheConstants.{THREADS}
use Rattle.log_walk.specs.thread_paths.pure_turns.Live.{Liveness, IsClosed as IsLive}
use Rattle.log_walk.specs.Given.{IsLeftOut}
use Rattle.log_walk.specs.declared.bounds.LeftOut.{LeftOut}
use Rattle.none_certificates.specs.declared.header.Header.{Header}
use Rattle.find_failures.specs.LeftOut.{is_over}
use Rattle.find_failures.specs.Runs.{NoneEnds, NoneEndsWithin}
use Rattle.find_failures.proofs.Runs.{none_if_whole, none_in_bounds}
use Rattle.find_failures.proofs.Tried.{unfit_by}
use Rattle.certified_logs.specs.Logs.{AreRefuted, AllAreRefuted, NoneRuns}
use Rattle.certified_logs.specs.Places.{AreDone, AllAreDone}

-- the machine under a memory model
abbrev pub machine : (m : Model) (code : Code) → IsLawful code → Machine (BufferOf m)
machine m code lawful =
    record { ops = buffer_of m; model = m; bound = bound_of m; laws = model_laws m; code = code; lawful = lawful }

module _ (code : Code) where
  -- logs without needless paths are refuted
  pub all_refuted : (live : Liveness) → IsLive code live → (h : Header) (out : LeftOut) → AllAreDone code live h out → AllAreRefuted code h out
  all_refuted live closed h out done ts made needed = by (done ts made)
    where
      by : AreDone code live h ts ⊎ IsLeftOut h.bounds.most THREADS out ts → AreRefuted code h ts ⊎ IsLeftOut h.bounds.most THREADS out ts
      by (inl excluded) = inl (excluded (needed live closed))
      by (inr left) = inr left

module _ (code : Code) (lawful : IsLawful code) where
  -- no moves reproduce a log that doesn't fit
  pub unfit_so : (m : Model) (log : Log) (fault : WalkFault) → IsBuildFault code log (build.Walk fault)
      → IsImpossible (buffer_of m) code log
  unfit_so m log fault is = unfit_by (machine m code lawful) log fault is

  -- nor one whose clauses are refuted
  pub refuted_so : (m : Model) (log : Log) (lines : List Line) → is_log log ≡ true → IsWithin code log
      → IsClosed (model_clauses m code log) lines → IsImpossible (buffer_of m) code log
  refuted_so m log lines is within closed =
      closed_is_impossible (buffer_of m) m (bound_of m) code log (model_laws m) lawful is within lines closed

  -- if none reproduce any log, no run ends as the certificate says
  pub none_runs : (live : Liveness) → IsLive code live → (h : Header) (out : LeftOut) → AllAreDone code live h out → is_over out ≡ false → (h.whole && out.outcomes) ≡ false
      → NoneRuns code h
  none_runs live closed h out done within whole = by h.whole whole
    where
      by : (b : Bool) → (b && out.outcomes) ≡ false
          → MatchBool b (NoneEnds (buffer_of h.model) code h.bounds.kind)
          (NoneEndsWithin (buffer_of h.model) code h.bounds.kind h.bounds.most)
      by true cut = none_if_whole (machine h.model code lawful) live closed h.bounds.kind h.bounds.most out done within cut
      by false cut = none_in_bounds (machine h.model code lawful) live closed h.bounds.kind h.bounds.most out done within
