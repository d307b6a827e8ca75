-- No path of the log of a history without pure turns is needless.
use Rattle.std.proofs.Common.{◌≡◌, ◌∙◌, inl, inr, ℕ, ◌+◌, ◌<◌, List, length, Result, Ok, Some, sym, subst}
use Rattle.tc_record.specs.run_log.Logs.{Log}
use Rattle.tc_record.specs.path_walk.declared.fault.Misfit.{Misfit}
use Rattle.tc_record.specs.path_laws.Setting.{Setting}
use Rattle.tc_record.specs.path_laws.history.Along.{PathThread, path_thread}
use Rattle.tc_record.proofs.path_laws.of_history.Logged.{history_again}
use Rattle.tc_record.proofs.path_laws.of_history.Walks.{walk_is}
use Rattle.least_runs.specs.run_history.History.{Deed}
use Rattle.least_runs.specs.run_follows.Machine.{Machine}
use Rattle.pure_turns.specs.Live.{Liveness}
use Rattle.short_runs.specs.Turns.{HasNoPureTurnIn}
use Rattle.log_walk.specs.thread_paths.Turns.{HasTurn, IsTurn, place_of, instr_of}
use Rattle.log_walk.specs.thread_paths.Known.{GoesAgainst, known_before, leads_to}
use Rattle.log_walk.specs.thread_paths.Needless.{IsNeedless}
use Rattle.log_walk.specs.Rest.{all, MakeUp}
use Rattle.log_walk.specs.Needless.{SomeNeedless}
use Rattle.log_walk.specs.declared.bounds.Kind.{Kind}
use Rattle.normal_logs.specs.Normal.{FitTogether}
use Rattle.normal_logs.proofs.Histories.{HasLog}
use Rattle.normal_logs.proofs.Reproduced.{done}
use Rattle.lean_logs.proofs.Turns.{no_turn}
use Rattle.lean_logs.proofs.Against.{never_against}
use Rattle.lean_logs.proofs.Shown.{some_path}

abbrev the_ok : List ℕ → Result (List ℕ) Misfit
the_ok ps = Ok ps

same_places : (ps qs : List ℕ) → the_ok ps ≡ the_ok qs → ps ≡ qs
same_places ps qs e = cc

module _ {B : Type 0} (m : Machine B) (g : List Deed) (which : Log → Type 0) (r : HasLog m g which) (fit : FitTogether m.code r.log) (live : Liveness)
    (turnless : HasNoPureTurnIn m.code live g) where
  abbrev setting : Setting B
  setting = record { machine = m; log = r.log; log_is = fit.is_log }

  no_turn_of : (thread : PathThread m.code r.log)
      → HasTurn m.code live thread.walk.function (walk_is m.code r.log fit.is_log fit.fits thread).path → ⊥
  no_turn_of thread has =
      let w = thread.walk in
      let k = walk_is m.code r.log fit.is_log fit.fits thread in
      let places : has.places ≡ w.places = same_places has.places w.places (sym has.along ∙ k.places) in
      no_turn setting (history_again setting r.moves r.again) thread live has.first has.last
      (subst (λ ps. IsTurn m.code w.function ps live has.first has.last) places has.turn)
      (done setting r.moves r.again thread) (subst (HasNoPureTurnIn m.code live) (sym r.told) turnless)

  not_against : (thread : PathThread m.code r.log) → GoesAgainst m.code thread.walk.function (walk_is m.code r.log fit.is_log fit.fits thread).path → ⊥
  not_against thread goes =
      let w = thread.walk in
      let k = walk_is m.code r.log fit.is_log fit.fits thread in
      let places : goes.places ≡ w.places = same_places goes.places w.places (sym goes.along ∙ k.places) in
      subst (λ ps. goes.branch + 1 < length ps
      → leads_to (known_before m.code w.function ps goes.branch) (place_of m.code w.function ps goes.branch) (instr_of m.code w.function ps goes.branch)
      ≡ Some goes.target → (place_of m.code w.function ps (goes.branch + 1) ≡ goes.target → ⊥) → ⊥) (sym places)
      (λ more leads against. against (never_against setting (history_again setting r.moves r.again) thread (done setting r.moves r.again thread)
      goes.branch goes.target more leads))
      goes.goes_on goes.leads goes.against

  needed : (thread : PathThread m.code r.log)
      → IsNeedless m.code live thread.walk.function (walk_is m.code r.log fit.is_log fit.fits thread).path → ⊥
  needed thread (inl turn) = no_turn_of thread turn
  needed thread (inr against) = not_against thread against

  pub none_needless : (kind : Kind) → MakeUp m.code kind (all m.code kind) r.log.threads → SomeNeedless m.code live kind (all m.code kind) r.log.threads → ⊥
  none_needless kind made some =
      let t = some_path m.code r.log fit.is_log fit.fits live kind made some in
      needed (path_thread t.place t.walk t.there) t.needless
