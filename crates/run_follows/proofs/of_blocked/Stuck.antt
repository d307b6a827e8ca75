-- No deed may follow a history exactly if each thread that hasn't exited is blocked.
use Rattle.std.proofs.Common.{◌≡◌, ◌↔◌, ◌∙◌, List, Some, sym, ap}
use Rattle.std.specs.Prelude.{option_map, option_and_then}
use Rattle.std.proofs.lemmas.Bool.{false≢true}
use Rattle.run_history.specs.tc_base.Names.{Name}
use Rattle.run_history.specs.tc_base.States.{Local, Thread, State}
use Rattle.run_history.specs.tc_base.declared.moves.Move.{Move}
use Rattle.run_history.specs.tc_code.Step.{request, instr_of}
use Rattle.run_history.specs.tc_code.Run.{IsStuck, run}
use Rattle.run_history.proofs.run_laws.Basics.{unless}
use Rattle.run_history.proofs.run_laws.Exits.{has_next}
use Rattle.run_history.specs.History.{Deed, Did, Drained, history}
use Rattle.run_history.proofs.of_pending.Own.{stores_have_drained}
use Rattle.run_follows.specs.Machine.{Machine}
use Rattle.run_follows.specs.Follow.{MayFollow, NothingFollows, IsLeftIn}
use Rattle.run_follows.proofs.Enabled.{Tells, told}
use Rattle.run_follows.proofs.Plays.{asker}
use Rattle.run_follows.proofs.Stuck.{left_told, left_there, stuck_is_told}
use Rattle.run_follows.specs.blocked.Stuck.{AllDrained, IsBlockedNext, AllAreBlocked, IsDeadlockIn}
use Rattle.run_follows.proofs.of_blocked.Blocked.{step_is_blocked}
use Rattle.run_follows.proofs.of_blocked.Drained.{all_drained}

module _ {B : Type 0} (machine : Machine B) (ms : List Move) (s : State B) (leads : run machine.ops machine.code ms ≡ Some s) where
  open machine use {ops, model, bound, laws, code, lawful}

  abbrev h : List Deed
  h = history ops code ms

  tells : Tells ops model bound laws code s h
  tells = told ops model bound laws code ms s leads

  -- a thread that hasn't exited has a next request
  all_blocked : NothingFollows ops.buffered bound code h → AllDrained ops.buffered h → (n : Name) → IsLeftIn h n → IsBlockedNext code h n
  all_blocked none drained n left =
      let l = left_there machine s h tells n left in
      let next = has_next ops code s lawful (record { moves = ms; leads = leads }) n l.thread l.there l.going in
      let asks = ap (option_and_then (λ (t : Local). option_map (request t) (instr_of code t)))
      (tells.locals n ∙ ap (option_map (λ (t : Thread B). t.local)) l.there) ∙ ap (option_map (request l.thread.local)) next.1 in
      record {
        request = request l.thread.local next.0;
        asks = asks;
        blocked = (step_is_blocked ops.buffered bound code h n _ asks (drained n)).0 (λ k r took other m. none (Did n k r took other) m);
      }

  -- a thread with a next request hasn't exited
  no_deed : AllDrained ops.buffered h → AllAreBlocked code h → (d : Deed) → MayFollow ops.buffered bound code h d → ⊥
  no_deed drained blocked (Did n k r took other) m =
      let x = asker machine s h n r tells m.asks in
      let going = (unless x.thread.local.has_exited _ x.by.instr x.by.at).0 in
      let w = blocked n (left_told machine s h tells n (record { thread = x.thread; there = x.there; going = going })) in
      (step_is_blocked ops.buffered bound code h n w.request w.asks (drained n)).1 w.blocked k r took other m
  no_deed drained blocked (Drained n k c v) m =
      false≢true (sym m.next.pending ∙ (stores_have_drained ops.buffered h n).0 (drained n) m.buffers k c v m.next.issued)

  pub nothing_follows : NothingFollows ops.buffered bound code h ↔ (AllDrained ops.buffered h × AllAreBlocked code h)
  nothing_follows = (
    λ none. let drained = all_drained ops model bound code ms s laws leads none in (drained, all_blocked none drained),
    λ all. no_deed all.0 all.1,
  )

  pub deadlock_told : IsStuck ops code s ↔ IsDeadlockIn ops.buffered code h
  deadlock_told =
      let is = stuck_is_told machine ms s leads in (
        λ stuck.
            let k = is.0 stuck in
            let all = nothing_follows.0 k.still in
            record { unfailed = k.unfailed; drained = all.0; left = k.left; blocked = all.1 },
        λ d. is.1 (record { unfailed = d.unfailed; still = nothing_follows.1 (d.drained, d.blocked); left = d.left }),
      )
