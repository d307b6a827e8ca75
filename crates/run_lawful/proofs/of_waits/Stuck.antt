-- At the end of a deadlock, the world blocks each thread that hasn't exited.
use Rattle.std.proofs.Common.{◌≡◌, ◌∙◌, inl, inr, ℕ, ◌<◌, ◌≤◌, Bool, true, false, cond, IsSome, List, length}
use Rattle.std.proofs.Common.{Option, Some, None, refl, sym, ap, subst, arith, bytes_eq}
use Rattle.std.specs.Prelude.{slice_get, option_map, option_and_then}
use Rattle.std.specs.FinSet as set
use Rattle.std.specs.List.{Contains}
use Rattle.std.proofs.lemmas.Bool.{true≢false, and_parts, ltb-true}
use Rattle.std.proofs.lemmas.Option.{none-some, same_Some, slice_get_cases}
use Rattle.sym_events.specs.run_log.Logs.{Log}
use Rattle.sym_events.specs.tc_base.Paths.{ThreadPath, place_in}
use Rattle.sym_events.specs.tc_base.Names.{Name, child}
use Rattle.sym_events.specs.tc_base.declared.failing.Failing.{Failing}
use Rattle.sym_events.specs.tc_base.declared.failing.Failing.TheVariants.{Thread, Deadlock}
use Rattle.sym_events.specs.tc_base.declared.moves.Move.{Move}
use Rattle.sym_events.specs.tc_code.Code.{Code}
use Rattle.sym_events.specs.tc_code.Run.{Reproduces}
use Rattle.sym_events.specs.tc_code.declared.instr.Instr.{Instr}
use Rattle.sym_events.proofs.run_laws.Basics.{some_value}
use Rattle.sym_steps.specs.run_history.History.{Deed}
use Rattle.sym_steps.specs.run_history.Told.{owner_in, waiting_in, has_exited_in, steps_in}
use Rattle.sym_steps.specs.run_follows.blocked.Stuck.{IsBlockedIn}
use Rattle.sym_events.specs.run_log.Logs.{rises_from, is_there, is_log}
use Rattle.sym_events.specs.path_walk.Fits.{Fits, ending_by}
use Rattle.sym_events.specs.path_walk.Marks.{Marks, marks_at_start, marks_after}
use Rattle.sym_events.specs.path_walk.Paths.{Walk, Paths, blocked_after}
use Rattle.sym_events.specs.path_walk.Steps.{steps_at, standing}
use Rattle.sym_events.specs.path_walk.declared.ending.Ending.{Ending}
use Rattle.sym_events.specs.path_walk.declared.ending.Ending.TheVariants.{Fails, Open}
use Rattle.sym_events.specs.path_walk.declared.event.Blocked.{Blocked}
use Rattle.sym_events.specs.path_walk.declared.event.Blocked.TheVariants.{Lock, Wake, Join}
use Rattle.sym_events.specs.path_walk.declared.event.Region.{Region}
use Rattle.sym_events.specs.path_walk.declared.event.Sleep.{Sleep}
use Rattle.sym_steps.specs.path_laws.Setting.{Setting}
use Rattle.sym_steps.specs.path_laws.history.Along.{IsThread, HistoryAlong, path_thread}
use Rattle.sym_steps.proofs.path_laws.of_history.Walks.{IsWalk, walk_is}
use Rattle.sym_steps.proofs.path_laws.of_events.Events.{event_within}
use Rattle.sym_steps.proofs.path_laws.of_events.Lists.{in_contains}
use Rattle.sym_steps.proofs.path_laws.of_events.Owners.{took_it, region_owned}
use Rattle.sym_steps.proofs.path_laws.of_events.Waiters.{sleep_waits, sleeps_still, exits_told}
use Rattle.sym_steps.specs.path_laws.stuck.Blocked.{asked_at}
use Rattle.sym_steps.proofs.path_laws.of_stuck.Ends.{at_last_sleep}
use Rattle.sym_steps.proofs.path_laws.of_stuck.Stuck.{blocked_is_left}
use Rattle.sym_steps.specs.sym_laws.Valued.{found}
use Rattle.sym_events.specs.sym_terms.declared.node.Node.{Node}
use Rattle.sym_events.specs.lawful_order.Events.{ender_of}
use Rattle.sym_events.specs.lawful_order.Stuck.{IsHeld, SleepsOn, RunsOn, CannotGoOn, StuckRule}
use Rattle.run_lawful.proofs.of_world.Enders.{ended_told}
use Rattle.run_lawful.proofs.of_world.Run.{all_steps}
use Rattle.run_lawful.proofs.of_waits.Deeds.{regions_are, h, paths, w, fit}
use Rattle.run_lawful.proofs.of_waits.Parts.{region_of_events}
use Rattle.run_lawful.proofs.of_waits.Sleeping.{ended_is_awake}
use Rattle.sym_steps.proofs.path_laws.of_history.Logged.{history_again}

-- only a path that rests has something that blocks its thread
unblocked : (m n : Name) (t : Marks) (ss : List Sleep) (at : Option Instr) (b : Blocked) → blocked_after (ending_by (Some m) n) t ss at ≡ Some b → ⊥
unblocked m n t ss at b e = by (bytes_eq n m) e
  where
    the_ending : Bool → Ending
    the_ending c = cond c Fails Open

    by : (c : Bool) → blocked_after (the_ending c) t ss at ≡ Some b → ⊥
    by true e = none-some b e
    by false e = none-some b e

-- a log in which a path is blocked is that of a deadlock
pub deadlock : (code : Code) (log : Log) (is : is_log log ≡ true) (q : Walk) (b : Blocked) → IsWalk code log q → q.blocked ≡ Some b → log.failing ≡ Deadlock
deadlock code log is q b k blocked = by log.failing refl
  where
    failed : (n : Failing) → log.failing ≡ n → (j : ℕ) → n ≡ Thread j → is_there log.failing (length log.threads) ≡ true → ⊥
    failed n e j this inside =
        elim (slice_get_cases log.threads j).1 [
          | inl at ↦
              let failing = ap (λ f. option_and_then (λ i. option_map (λ (x : ThreadPath). x.name) (slice_get log.threads i)) (place_in f)) (e ∙ this)
              ∙ ap (option_map (λ (x : ThreadPath). x.name)) at.2 in
              unblocked at.0.name q.name (marks_after (marks_at_start code q.function) (steps_at code q.function q.places)) q.sleeps
              (standing code q.function k.path) b
              (ap (λ o. blocked_after (ending_by o q.name) (marks_after (marks_at_start code q.function) (steps_at code q.function q.places)) q.sleeps
              (standing code q.function k.path)) (sym failing) ∙ sym k.blocked ∙ blocked)
          | inr past ↦
              let less = ltb-true j (length log.threads) (ap (λ f. is_there f (length log.threads)) (sym (e ∙ this)) ∙ inside) in
              omega (arith, less, past.0)
        ]

    by : (f : Failing) → log.failing ≡ f → log.failing ≡ Deadlock
    by Deadlock e = e
    by (Thread j) e = absurd (failed (Thread j) e j refl (and_parts (rises_from None log.threads) (is_there log.failing (length log.threads)) is).1)

module _ {B : Type 0} (setting : Setting B) (nodes : List Node) (moves : List Move) (again : Reproduces setting.ops setting.code setting.log moves) where
  open setting use {code, lawful, log, log_is as is}

  abbrev done : List Deed
  done = h setting nodes moves again

  abbrev threads : Paths
  threads = paths setting nodes moves again

  abbrev f : Fits code log
  f = fit setting nodes moves again

  abbrev all : HistoryAlong setting
  all = history_again setting moves again

  -- a mutex that somebody owns at the end is held
  held : (m : ℕ) → IsSome (owner_in done m) → IsHeld threads (w setting nodes moves again) m
  held m owned =
      let o = some_value (owner_in done m) owned in
      let n = (took_it setting all m o.0 o.1).thread in
      let g = (region_owned setting all n.thread m).0 (o.1 ∙ ap (λ x. Some x) (sym n.name_is)) in
      record {
        thread = n.index;
        region = g.0;
        there = (n.walk, n.there, g.1);
        of = g.2;
        lasts = no_end n.index n.walk n.there g.0 g.1 g.3.lasts;
      }
    where
      -- a region that is still open after all steps has no end
      no_end : (t : ℕ) (q : Walk) (there : IsThread code log t q) (r : Region) → Contains q.regions r
          → ((k : ℕ) → r.to ≡ Some k → steps_in done q.name ≤ k) → r.to ≡ None
      no_end t q there r i lasts = by r.to refl
        where
          by : (o : Option ℕ) → r.to ≡ o → r.to ≡ None
          by None to = to
          by (Some k) to =
              let parts = region_of_events q.events r (subst (λ rs. Contains rs r) (regions_are code log is f t q there) i) in
              let x = parts.left k to in
              let inside = event_within code log q (walk_is code log is f (path_thread t q there)) x.event (in_contains x.event q.events x.among) in
              let many = all_steps setting moves again t q there in
              let later = lasts k to in
              absurd (omega (arith, inside, many, later, x.step))

  module _ (t : ℕ) (q : Walk) (there : IsThread code log t q) where
    -- a thread that waits at the end is never woken
    sleeps_on : (c m k : ℕ) → q.blocked ≡ Some (Wake c m k) → set.contains (waiting_in done c) q.name ≡ true
        → SleepsOn threads (w setting nodes moves again) t k
    sleeps_on c m k blocked waits s x at own step =
        by (ender_of (w setting nodes moves again) s) refl
      where
        by : (o : Option ℕ) → ender_of (w setting nodes moves again) s ≡ o
            → ender_of (w setting nodes moves again) s ≡ None
        by None e = e
        by (Some g) e =
            let a = (sleep_waits setting all (path_thread t q there) c).0 waits in
            let still = sleeps_still setting all q.name a.0 a.3 in
            let last = at_last_sleep code lawful log q (walk_is code log is f (path_thread t q there)) c m k blocked in
            let many = all_steps setting moves again t q there in
            let same : a.0.step ≡ x.it.step = omega (arith, still, last.ends, many, step) in
            let ended = ended_told setting moves again (found code log nodes).symbolic s g x at e in
            absurd (ended_is_awake setting nodes moves again s g x t q a.0 there own a.1 same a.3 at ended)

    -- a child for which a thread waits at the end never exits
    runs_on : (k : ℕ) → has_exited_in done (child q.name k) ≡ false → RunsOn threads (w setting nodes moves again) t k
    runs_on k going c x is_child event exits =
        let parent : is_child.0 ≡ q = same_Some is_child.0 q (sym is_child.2 ∙ there) in
        let own : is_child.1 ≡ event.0 = same_Some is_child.1 event.0 (sym is_child.3 ∙ event.1) in
        let name = sym (ap (λ (v : Walk). v.name) own) ∙ is_child.4 ∙ ap (λ (v : Walk). child v.name k) parent in
        let inside = event_within code log event.0 (walk_is code log is f (path_thread c event.0 event.1)) x (in_contains x event.0.events event.2) in
        let many = all_steps setting moves again c event.0 event.1 in
        let less : x.step < steps_in done event.0.name = omega (arith, inside, many) in
        let gone = (exits_told setting all (path_thread c event.0 event.1)).1 (x, event.2, exits, less) in
        true≢false (sym gone ∙ ap (has_exited_in done) name ∙ going)

    cannot_go_on : (b : Blocked) → q.blocked ≡ Some b → IsBlockedIn done q.name (asked_at b)
        → CannotGoOn threads (w setting nodes moves again) t b
    cannot_go_on (Lock m) is_it blocked = held m blocked
    cannot_go_on (Wake c m k) is_it (inl waits) = inr (sleeps_on c m k is_it waits)
    cannot_go_on (Wake c m k) is_it (inr owned) = inl (held m owned)
    cannot_go_on (Join k) is_it going = runs_on k going

  pub stuck_rule : (t : ℕ) → StuckRule threads (w setting nodes moves again) t
  stuck_rule t = record {
    stuck = λ q b there is_it.
        let dead = deadlock code log is q b (walk_is code log is f (path_thread t q there)) is_it in
        cannot_go_on t q there b is_it (blocked_is_left setting dead moves again (path_thread t q there) b is_it).1.blocked;
  }
