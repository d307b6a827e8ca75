-- Why a move isn't enabled.
use Rattle.std.specs.Prelude.{ℕ, ◌==◌, List, Option, Some, None, not, ◌&&◌, is_some, if◌then◌else◌, codes}
use Rattle.std.specs.Option.{option_map_or}
use Rattle.std.specs.FinMap as map
use Rattle.std.specs.FinSet as set
use Rattle.tc_base.specs.Names.{Name}
use Rattle.tc_base.specs.Buffers.{BufferOps}
use Rattle.tc_base.specs.States.{Thread, State}
use Rattle.tc_base.specs.declared.moves.Move.{Move}
use Rattle.tc_base.specs.declared.moves.Move.TheVariants.{Run, Wake, Drain}
use Rattle.tc_code.specs.declared.instr.Instr.{Instr}
use Rattle.tc_code.specs.declared.instr.Instr.TheVariants.{Signal}
use Rattle.tc_code.specs.Code.{Code}
use Rattle.tc_base.specs.declared.request.Request.{Request}
use Rattle.tc_base.specs.declared.request.Request.TheVariants.{Acquire, EndWait, WakeOne, Await}
use Rattle.tc_code.specs.Step.{request, instr_of, drains_first, waiting_on, is_free, child_has_exited}
use Rattle.tc_machine.specs.declared.fault.StepFault.{StepFault}
use Rattle.tc_machine.specs.declared.fault.StepFault.TheVariants.{NotEnabled, Memory}
use Rattle.tc_machine.specs.declared.why.Why.{Why}
use Rattle.tc_machine.specs.declared.why.Why.TheVariants.{Stopped, NoThread, Exited, NotDrained, NotWoken, Held, NotEnded, WaiterNeeded, WrongWaiter, NoEntry}

-- the name of a reason
abbrev pub why_text : Why → List ℕ
why_text Stopped = codes "Stopped"
why_text NoThread = codes "NoThread"
why_text Exited = codes "Exited"
why_text NotDrained = codes "NotDrained"
why_text NotWoken = codes "NotWoken"
why_text Held = codes "Held"
why_text NotEnded = codes "NotEnded"
why_text WaiterNeeded = codes "WaiterNeeded"
why_text WrongWaiter = codes "WrongWaiter"
why_text NoEntry = codes "NoEntry"

module _ {B : Type 0} where
  -- why a mutex can't be acquired: it has an owner, maybe the thread itself
  abbrev pub why_taken : State B → ℕ → Option Why
  why_taken s m = if is_free s m then None else Some Held

  -- why mutexes, waiters or children don't allow a request
  abbrev pub why_let : State B → Name → Request → Option Why
  why_let s n (Acquire m) = why_taken s m
  why_let s n (EndWait c m) = if set.contains (waiting_on s c) n then Some NotWoken
      else why_taken s m
  why_let s n (WakeOne c) = if set.len (waiting_on s c) == 0 then None else Some WaiterNeeded
  why_let s n (Await k) = if child_has_exited s n k then None else Some NotEnded
  why_let s n _ = None

  -- why a thread can't be woken: it doesn't wait on the condition
  abbrev pub why_not_there : State B → Name → ℕ → Option Why
  why_not_there s u c = if set.contains (waiting_on s c) u then None else Some WrongWaiter

module _ {B : Type 0} (ops : BufferOps B) where
  -- the reason for the named thread, or that there is no such thread
  abbrev pub why_at : State B → Name → (Thread B → Option Why) → Option Why
  why_at s n reason = option_map_or reason (map.get s.threads n) (Some NoThread)

  -- the reason for the named thread and its next instruction, or that it has exited
  abbrev pub why_doing : Code → State B → Name → (Thread B → Instr → Option Why) → Option Why
  why_doing code s n reason =
      why_at s n (λ t. option_map_or (reason t) (instr_of code t.local) (Some Exited))

  -- why a request can't be met now; most requests first wait for an empty buffer
  abbrev pub why_unmet : State B → Name → Thread B → Request → Option Why
  why_unmet s n t r =
      if drains_first r && not (ops.is_empty t.buffer) then Some NotDrained else why_let s n r

  -- why a thread can't wake another
  abbrev pub why_unwoken : State B → Name → Thread B → Instr → Option Why
  why_unwoken s u t (Signal c) =
      if ops.is_empty t.buffer then why_not_there s u c else Some NotDrained
  why_unwoken s u t _ = Some WrongWaiter

  -- why no store of a thread can drain by a form
  abbrev pub why_undrained : Option ℕ → Thread B → Option Why
  why_undrained form t = if ops.may_drain t.buffer form then None else Some NoEntry

  -- why a move isn't enabled, in a state without a failure
  abbrev pub why_not : Code → State B → Move → Option Why
  why_not code s (Run n) = why_doing code s n (λ t i. why_unmet s n t (request t.local i))
  why_not code s (Wake n u) = why_doing code s n (why_unwoken s u)
  why_not code s (Drain n form) = why_at s n (why_undrained form)

  -- why a move isn't enabled, and none if it is; after a failure no move is enabled
  abbrev pub why : Code → State B → Move → Option Why
  why code s m = if is_some s.failed then Some Stopped else why_not code s m

-- why a move wasn't made, and none if memory ran out
abbrev pub reason_of : StepFault → Option Why
reason_of (NotEnabled w) = Some w
reason_of Memory = None
