-- The plan of a lawful world reproduces the log.
use Rattle.std.proofs.Common.{◌≡◌, ◌∙◌, ℕ, suc, ◌<◌, ◌&&◌, true, false, List, [], ◌∷◌, length}
use Rattle.std.proofs.Common.{Option, Some, None, refl, sym, ap, ap₂, subst}
use Rattle.std.specs.Prelude.{slice_get, is_none, IsSome, IsSomeAnd}
use Rattle.std.specs.List.{list_all}
use Rattle.std.proofs.lemmas.Bool.{false≢true, and_parts, or_parts, ltb-true, eq-eqb}
use Rattle.std.proofs.lemmas.Option.{none-some, same_Some, slice_get-get_or}
use Rattle.condition_order.specs.tc_base.Paths.{Path, ThreadPath}
use Rattle.condition_order.specs.tc_base.Names.{Name}
use Rattle.condition_order.specs.tc_base.declared.failing.Failing.{Failing}
use Rattle.condition_order.specs.tc_base.declared.failing.Failing.TheVariants as failing
use Rattle.condition_order.proofs.tc_base.Names.{same_true}
use Rattle.condition_order.specs.tc_code.Run.{Reproduces}
use Rattle.sym_steps.specs.run_history.History.{Deed, history}
use Rattle.sym_steps.specs.run_history.Told.{failed_in}
use Rattle.sym_steps.specs.run_follows.Follow.{IsLeftIn, IsStuckIn, NothingFollows, moves_for}
use Rattle.sym_steps.specs.run_follows.Logged.{EndsAsIn}
use Rattle.sym_steps.proofs.run_follows.Reproduced.{deeds_reproduce}
use Rattle.sym_steps.specs.run_follows.blocked.Stuck.{AllDrained, AllAreBlocked}
use Rattle.sym_steps.proofs.run_follows.of_blocked.Stuck.{nothing_follows}
use Rattle.condition_order.specs.run_log.Logs.{is_there, rises_from}
use Rattle.condition_order.specs.path_walk.Fits.{fails_in}
use Rattle.condition_order.specs.path_walk.Paths.{Walk, Paths, paths_of, have_exited}
use Rattle.condition_order.specs.path_walk.declared.event.Blocked.{Blocked}
use Rattle.sym_steps.specs.path_laws.Setting.{Setting}
use Rattle.sym_steps.specs.path_laws.Prefixes.{fails_by}
use Rattle.sym_steps.specs.path_laws.history.Along.{IsThread, AllAreThere, HistoryAlong, PathThread, path_thread}
use Rattle.sym_steps.proofs.path_laws.of_history.Logged.{all_there, goes_as_logged}
use Rattle.sym_steps.proofs.path_laws.of_history.Told.{RunOf, along_is_run, thread_of, steps_of, local_is, its_run}
use Rattle.sym_steps.proofs.path_laws.of_history.Walks.{walk_is}
use Rattle.sym_steps.proofs.path_laws.of_stuck.Rests.{left_blocked}
use Rattle.condition_order.specs.sym_exec.Executed.{has_failed}
use Rattle.sym_steps.proofs.sym_laws.Follows.{walk_at}
use Rattle.condition_order.specs.sym_terms.declared.node.Node.{Node}
use Rattle.condition_order.specs.order_formula.Worlds.{World}
use Rattle.world_plan.specs.Going.{IsLawfulWorld}
use Rattle.world_plan.specs.Plan.{plan}
use Rattle.world_plan.proofs.Threads.{fails_by_place}
use Rattle.plan_runs.proofs.End.{end, all_before}
use Rattle.plan_runs.proofs.Given.{Gone, Given}
use Rattle.plan_runs.proofs.Rest.{plan_along, plan_done, plan_gone}

-- if not all threads have exited, some thread is blocked
some_blocked : (ws : List Walk) → list_all (λ (v : Walk). is_none v.blocked) ws ≡ false → (t : ℕ) × (q : Walk) × (slice_get ws t ≡ Some q) × IsSome q.blocked
some_blocked [] e = absurd cc
some_blocked (v ∷ ws) e = by v.blocked refl e (some_blocked ws)
  where
    by : (o : Option Blocked) → v.blocked ≡ o → (is_none v.blocked && list_all (λ (v : Walk). is_none v.blocked) ws) ≡ false
        → (list_all (λ (v : Walk). is_none v.blocked) ws ≡ false → (t : ℕ) × (q : Walk) × (slice_get ws t ≡ Some q) × IsSome q.blocked)
        → (t : ℕ) × (q : Walk) × (slice_get (v ∷ ws) t ≡ Some q) × IsSome q.blocked
    by (Some b) is e rest = (0, v, refl, subst IsSome (sym is) refl)
    by None is e rest =
        let r = rest (ap (λ o. is_none o && list_all (λ (v : Walk). is_none v.blocked) ws) (sym is) ∙ e) in
        (suc r.0, r.1, r.2, r.3)

-- the thread that has failed has this name
failed_name : (o : Option Name) (n : Name) → fails_by o n ≡ true → o ≡ Some n
failed_name None n e = absurd (false≢true e)
failed_name (Some m) n e = ap (λ a. Some a) (sym (same_true n m e))

module _ {B : Type 0} (setting : Setting B) (nodes : List Node) (w : World) (l : IsLawfulWorld setting nodes w) (g : Given setting nodes w) where
  open setting use {machine, ops, bound, code, log}

  abbrev paths : Paths
  paths = paths_of code log

  abbrev h : List Deed
  h = plan ops.buffered code paths w

  abbrev along : HistoryAlong setting
  along = record { deeds = h; fits = l.fits; along = plan_along setting nodes w l g }

  r : RunOf machine log h
  r = its_run setting along

  are_there : AllAreThere code log h
  are_there = all_there setting along (plan_done setting nodes w l g)

  -- A thread that fails in the log has failed.
  fails_so : (t : ℕ) (q : Walk) → IsThread code log t q → fails_in log q.name ≡ true → failed_in h ≡ Some q.name
  fails_so t q there fails =
      let own = thread_of machine log h r q.name (are_there (path_thread t q there)) in
      let on = along.along.on q.name own.0.local (local_is machine log h r q.name own.0 own.1) in
      let k = walk_is code log setting.log_is l.fits (path_thread t q there) in
      let path : on.path ≡ k.path = same_Some on.path k.path (sym on.there ∙ k.under) in
      let steps : own.0.local.steps ≡ on.path.steps =
      steps_of machine log h r q.name own.0 own.1 ∙ plan_done setting nodes w l g (path_thread t q there)
      ∙ k.long ∙ ap (λ (p : Path). p.steps) (sym path) in
      failed_name (failed_in h) q.name (on.fails ∙ ap₂ (λ a b. a && b) fails (eq-eqb own.0.local.steps on.path.steps steps))

  ends_failing : (k : ℕ) → log.failing ≡ failing.Thread k → EndsAsIn ops.buffered bound code (failing.Thread k) log.threads h
  ends_failing k is = by (slice_get log.threads k) refl
    where
      within : k < length log.threads
      within =
          ltb-true k (length log.threads)
          (ap (λ f. is_there f (length log.threads)) (sym is)
          ∙ (and_parts (rises_from None log.threads) (is_there log.failing (length log.threads)) setting.log_is).1)

      by : (o : Option ThreadPath) → slice_get log.threads k ≡ o → IsSomeAnd o (λ t. failed_in h ≡ Some t.name)
      by None none =
          let p = slice_get-get_or log.threads k (record { name = []; path = record { outcomes = []; steps = 0 } }) within in
          absurd (none-some _ (sym none ∙ p))
      by (Some p) at =
          let there = walk_at code log nodes setting.lawful setting.log_is l.terms k p at in
          fails_so k _ there
          (fails_by_place code log setting.log_is k _ there ∙ ap (λ f. has_failed f k) is ∙ eq-eqb k k refl)

  -- A deadlock.
  module _ (dead : log.failing ≡ failing.Deadlock) where
    gone : Gone setting nodes w (end setting nodes w l) h
    gone = plan_gone setting nodes w l g dead

    passes : (t : ℕ) (q : Walk) → IsThread code log t q → fails_in log q.name ≡ false
    passes t q there = fails_by_place code log setting.log_is t q there ∙ ap (λ f. has_failed f t) dead

    still : NothingFollows ops.buffered bound code h
    still =
        let before = all_before setting nodes w l passes in
        let drained = g.all_drain (end setting nodes w l) h gone before in
        let blocked = g.blocks (end setting nodes w l) h dead gone before (plan_done setting nodes w l g) in
        subst (NothingFollows ops.buffered bound code) r.is
        ((nothing_follows machine r.moves r.state r.leads).1
        (subst (AllDrained ops.buffered) (sym r.is) drained, subst (AllAreBlocked code) (sym r.is) blocked))

    some_left : (n : Name) × IsLeftIn h n
    some_left =
        let exited = (or_parts _ (have_exited log.failing paths.threads) l.lives).1 in
        let some = some_blocked paths.threads (ap (λ f. have_exited f paths.threads) (sym dead) ∙ exited) in
        let thread : PathThread code log = path_thread some.0 some.1 some.2 in
        let there = are_there thread in (
          some.1.name,
          record {
            there = there;
            going = (left_blocked setting along thread there (plan_done setting nodes w l g thread) dead).1 some.3;
          },
        )

    stuck : IsStuckIn ops.buffered bound code h
    stuck = record { unfailed = gone.going; still = still; left = some_left }

  ends : (f : Failing) → log.failing ≡ f → EndsAsIn ops.buffered bound code f log.threads h
  ends (failing.Thread k) is = ends_failing k is
  ends failing.Deadlock is = stuck is

  pub plan_reproduces : Reproduces ops code log (moves_for bound h)
  plan_reproduces =
      deeds_reproduce machine log h (plan_along setting nodes w l g).follow
      (goes_as_logged setting along (plan_done setting nodes w l g) (ends log.failing refl))

  pub plan_is_history : history ops code (moves_for bound h) ≡ h
  plan_is_history = (along_is_run machine log h (plan_along setting nodes w l g)).2
