-- A log is reproduced if a history goes as logged.
use Rattle.std.proofs.Common.{◌≡◌, ◌∙◌, List, Option, Some, None, refl, sym, ap, subst}
use Rattle.std.specs.Prelude.{option_map, slice_get, IsSomeAnd}
use Rattle.std.specs.FinMap as fin
use Rattle.run_history.specs.tc_base.Buffers.{BufferOps}
use Rattle.run_history.specs.tc_base.Paths.{ThreadPath}
use Rattle.run_history.specs.run_log.Logs.{Log}
use Rattle.run_history.specs.tc_base.declared.failing.Failing.{Failing}
use Rattle.run_history.specs.tc_base.declared.failing.Failing.TheVariants as failing
use Rattle.run_history.specs.tc_base.Names.{Name}
use Rattle.run_history.specs.tc_base.States.{Thread, State}
use Rattle.run_history.specs.tc_base.declared.moves.Move.{Move}
use Rattle.run_history.specs.tc_code.Code.{Code}
use Rattle.run_history.specs.tc_code.Run.{run, EndsAs, Reproduces, path_of, path_in}
use Rattle.run_history.specs.History.{Deed, history}
use Rattle.run_history.specs.Told.{failed_in}
use Rattle.run_history.proofs.Frame.{holds_after}
use Rattle.run_history.proofs.Locals.{LocalsAre, keeps_locals, opening_locals}
use Rattle.run_history.proofs.Shared.{FailureIs, keeps_failure}
use Rattle.run_follows.specs.Machine.{Machine}
use Rattle.run_follows.specs.Follow.{AllFollow, moves_for}
use Rattle.run_follows.specs.Logged.{path_by, path_told, EndsAsIn, GoesAsLogged}
use Rattle.run_follows.proofs.Plays.{follows_is_run}
use Rattle.run_follows.proofs.Stuck.{stuck_is_told}

module _ {B : Type 0} where
  path_of_local : (o : Option (Thread B)) → option_map path_by (option_map (λ (t : Thread B). t.local) o) ≡ option_map path_of o
  path_of_local None = refl
  path_of_local (Some t) = refl

  module _ (ops : BufferOps B) (code : Code) (ms : List Move) (s : State B) (leads : run ops code ms ≡ Some s) where
    path_is : (n : Name) → path_told code (history ops code ms) n ≡ path_in s n
    path_is n =
        ap (option_map path_by) (holds_after ops code (LocalsAre ops code) (keeps_locals ops code) (opening_locals ops code) ms s leads n)
        ∙ path_of_local (fin.get s.threads n)

    failure_is : s.failed ≡ failed_in (history ops code ms)
    failure_is = holds_after ops code (FailureIs ops code) (keeps_failure ops code) refl ms s leads

  module _ (machine : Machine B) (ms : List Move) (s : State B) (leads : run machine.ops machine.code ms ≡ Some s) (ts : List ThreadPath) where
    open machine use {ops, bound, code}

    abbrev h : List Deed
    h = history ops code ms

    ends_told : (f : Failing) → EndsAs ops code f ts s → EndsAsIn ops.buffered bound code f ts h
    ends_told (failing.Thread k) e =
        subst (λ o. IsSomeAnd (slice_get ts k) (λ (t : ThreadPath). o ≡ Some t.name)) (failure_is ops code ms s leads) e
    ends_told failing.Deadlock e = (stuck_is_told machine ms s leads).0 e

    ends_there : (f : Failing) → EndsAsIn ops.buffered bound code f ts h → EndsAs ops code f ts s
    ends_there (failing.Thread k) e =
        subst (λ o. IsSomeAnd (slice_get ts k) (λ (t : ThreadPath). o ≡ Some t.name)) (sym (failure_is ops code ms s leads)) e
    ends_there failing.Deadlock e = (stuck_is_told machine ms s leads).1 e

  pub reproduces_as_logged : (machine : Machine B) (log : Log) (ms : List Move) → Reproduces machine.ops machine.code log ms
      → GoesAsLogged machine.ops.buffered machine.bound machine.code log (history machine.ops machine.code ms)
  reproduces_as_logged machine log ms r = record {
    ends = ends_told machine ms r.state r.leads log.threads log.failing r.ends;
    paths = λ n. path_is machine.ops machine.code ms r.state r.leads n ∙ r.paths n;
  }

  pub deeds_reproduce : (machine : Machine B) (log : Log) (h : List Deed) → AllFollow machine.ops.buffered machine.bound machine.code h
      → GoesAsLogged machine.ops.buffered machine.bound machine.code log h → Reproduces machine.ops machine.code log (moves_for machine.bound h)
  deeds_reproduce machine log h all goes =
      let p = follows_is_run machine h all in
      let ms = moves_for machine.bound h in
      record {
        state = p.0;
        leads = p.1;
        ends =
            ends_there machine ms p.0 p.1 log.threads log.failing
            (subst (EndsAsIn machine.ops.buffered machine.bound machine.code log.failing log.threads) (sym p.2) goes.ends);
        paths = λ n. sym (path_is machine.ops machine.code ms p.0 p.1 n) ∙ ap (λ g. path_told machine.code g n) p.2 ∙ goes.paths n;
      }
