-- In a deadlock each blocked thread has a cause.
use Rattle.std.proofs.Common.{◌≡◌, ◌∙◌, ℕ, false, length, List, Some, IsSome, sym, ap, subst, arith}
use Rattle.std.proofs.lemmas.Bool.{false≢true}
use Rattle.tc_record.specs.tc_base.Names.{Name, child}
use Rattle.tc_record.specs.tc_base.declared.failing.Failing.TheVariants.{Deadlock}
use Rattle.tc_record.specs.tc_base.declared.moves.Move.{Move}
use Rattle.tc_record.specs.tc_code.Run.{Reproduces}
use Rattle.least_runs.proofs.run_laws.Basics.{some_value}
use Rattle.least_runs.specs.run_history.History.{Deed, history}
use Rattle.least_runs.specs.run_history.Told.{owner_in, steps_in, has_exited_in}
use Rattle.least_runs.specs.run_follows.blocked.Stuck.{IsBlockedIn}
use Rattle.tc_record.specs.path_walk.Paths.{Walk}
use Rattle.tc_record.specs.path_walk.declared.event.Blocked.{Blocked}
use Rattle.tc_record.specs.path_walk.declared.event.Blocked.TheVariants.{Lock, Wake, Join}
use Rattle.tc_record.specs.path_laws.Setting.{Setting}
use Rattle.tc_record.specs.path_laws.events.Done.{IsOpenAfter}
use Rattle.tc_record.specs.path_laws.history.Along.{IsThread, PathThread, path_thread}
use Rattle.tc_record.specs.path_laws.stuck.Blocked.{asked_at}
use Rattle.tc_record.proofs.path_laws.of_events.Owners.{took_it, region_owned}
use Rattle.tc_record.proofs.path_laws.of_events.Waiters.{exits_told}
use Rattle.tc_record.proofs.path_laws.of_stuck.Stuck.{blocked_is_left}
use Rattle.normal_logs.specs.Ends.{IsHeldAtEnd, NeverExits}
use Rattle.normal_logs.specs.Normal.{HasCause}
use Rattle.normal_logs.proofs.Reproduced.{done}
use Rattle.tc_record.proofs.path_laws.of_history.Logged.{history_again}

module _ {B : Type 0} (setting : Setting B) (moves : List Move) (again : Reproduces setting.ops setting.code setting.log moves) where
  open setting use {ops, code, log}

  abbrev h : List Deed
  h = history ops code moves

  -- the path of a mutex's owner holds it at its end
  held : (m : ℕ) → IsSome (owner_in h m) → IsHeldAtEnd code log m
  held m some =
      let o = some_value (owner_in h m) some in
      let t = (took_it setting (history_again setting moves again) m o.0 o.1).thread in
      let r = (region_owned setting (history_again setting moves again) t.thread m).0 (o.1 ∙ ap (λ n. Some n) (sym t.name_is)) in
      let ends = done setting moves again t.thread in
      record {
        place = t.index;
        walk = t.walk;
        there = t.there;
        holds = record { region = r.0; there = r.1; of = r.2; lasts = subst (λ n. IsOpenAfter n r.0) ends r.3 };
      }

  -- a thread that hasn't exited has no exit on its path
  runs_on : (n : Name) → has_exited_in h n ≡ false → NeverExits code log n
  runs_on n going j w there name ends =
      let thread : PathThread code log = path_thread j w there in
      let every : steps_in h w.name ≡ length w.places = done setting moves again thread in
      let gone = (exits_told setting (history_again setting moves again) thread).1 (ends.event, ends.there, ends.asks, omega (arith, every, ends.last)) in
      false≢true (sym going ∙ ap (has_exited_in h) (sym name) ∙ gone)

  cause_by : (w : Walk) (b : Blocked) → IsBlockedIn h w.name (asked_at b) → HasCause code log w b
  cause_by w (Lock m) blocked = held m blocked
  cause_by w (Wake c m k) blocked = tt
  cause_by w (Join k) blocked = runs_on (child w.name k) blocked

  pub caused : log.failing ≡ Deadlock → (j : ℕ) (w : Walk) (b : Blocked) → IsThread code log j w → w.blocked ≡ Some b → HasCause code log w b
  caused dead j w b there blocked =
      cause_by w b (blocked_is_left setting dead moves again (path_thread j w there) b blocked).1.blocked
