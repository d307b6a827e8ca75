-- What blocks each thread where moves reproduce the log of a deadlock.
use Rattle.std.proofs.Common.{◌≡◌, ◌∙◌, true, List, Some, sym, ap, subst}
use Rattle.std.specs.Prelude.{option_map}
use Rattle.std.specs.FinMap as fin
use Rattle.std.proofs.lemmas.Option.{same_Some}
use Rattle.path_walk.specs.tc_base.declared.failing.Failing.TheVariants.{Deadlock}
use Rattle.path_walk.specs.tc_base.declared.moves.Move.{Move}
use Rattle.path_walk.specs.tc_code.Run.{EndsAs, Reproduces}
use Rattle.run_follows.proofs.run_laws.Basics.{some_is}
use Rattle.run_follows.specs.run_history.History.{Deed, history}
use Rattle.run_follows.specs.run_history.Locals.{asks_next}
use Rattle.run_follows.specs.Follow.{IsLeftIn}
use Rattle.run_follows.specs.blocked.Stuck.{IsBlockedIn, IsDeadlockIn}
use Rattle.run_follows.proofs.of_blocked.Stuck.{deadlock_told}
use Rattle.path_walk.specs.declared.event.Blocked.{Blocked}
use Rattle.path_laws.specs.Setting.{Setting}
use Rattle.path_laws.specs.history.Along.{HasDoneAll, PathThread}
use Rattle.path_laws.proofs.of_history.Logged.{is_there, has_done, history_again}
use Rattle.path_laws.specs.stuck.Blocked.{asked_at, IsBlockedAt}
use Rattle.path_laws.proofs.of_stuck.Rests.{mapped_from, asks_blocked, left_blocked}
use Rattle.run_follows.specs.run_history.Told.{is_thread_in}

module _ {B : Type 0} (setting : Setting B) (dead : setting.log.failing ≡ Deadlock) (moves : List Move)
    (again : Reproduces setting.ops setting.code setting.log moves) where
  open setting use {machine, ops, code, log}

  abbrev h : List Deed
  h = history ops code moves

  deadlock : IsDeadlockIn ops.buffered code h
  deadlock =
      (deadlock_told machine moves again.state again.leads).0
      (subst (λ f. EndsAs ops code f log.threads again.state) dead again.ends)

  module _ (thread : PathThread code log) where
    open thread use {walk as w}

    there : is_thread_in h w.name ≡ true
    there = is_there setting moves again thread

    done : HasDoneAll h w
    done = has_done setting moves again thread

    asks : asks_next code h w.name ≡ option_map asked_at w.blocked
    asks = asks_blocked setting (history_again setting moves again) thread there done dead

    pub left_is_blocked : IsLeftIn h w.name → (b : Blocked) × IsBlockedAt code h w b
    left_is_blocked left =
        let n = deadlock.blocked w.name left in
        let b = mapped_from asked_at w.blocked n.request (sym asks ∙ n.asks) in
        (b.0, record { is = b.1; asks = asks ∙ ap (option_map asked_at) b.1; blocked = subst (IsBlockedIn h w.name) (sym b.2) n.blocked })

    pub blocked_is_left : (b : Blocked) → w.blocked ≡ Some b → IsLeftIn h w.name × IsBlockedAt code h w b
    blocked_is_left b blocked =
        let left : IsLeftIn h w.name =
        record {
          there = there;
          going = (left_blocked setting (history_again setting moves again) thread there done dead).1 (some_is w.blocked b blocked);
        } in
        let x = left_is_blocked left in
        (left, subst (IsBlockedAt code h w) (same_Some x.0 b (sym x.1.is ∙ blocked)) x.1)
