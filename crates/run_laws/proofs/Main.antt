-- Threads stay, and main is one of them.
use Rattle.std.proofs.Common.{◌≡◌, Some, sym, subst, IsSome}
use Rattle.std.specs.FinMap as fin
use Rattle.tc_code.specs.tc_base.Names.{Name, ByName, main}
use Rattle.tc_code.specs.tc_base.Buffers.{BufferOps}
use Rattle.tc_code.specs.tc_base.States.{Local, Thread, State}
use Rattle.tc_code.specs.tc_base.declared.moves.Move.{Move}
use Rattle.tc_code.specs.declared.instr.Instr.{Instr}
use Rattle.tc_code.specs.declared.instr.Instr.TheVariants.{Create}
use Rattle.tc_code.specs.Code.{Code}
use Rattle.tc_code.specs.Step.{step}
use Rattle.tc_code.specs.Run.{IsReached}
use Rattle.run_laws.proofs.Basics.{some_is}
use Rattle.run_laws.proofs.Names.{get_put, stays_after_put}
use Rattle.run_laws.proofs.Steps.{holds_in_reached}
use Rattle.run_laws.proofs.Changes.{Went_on, Stayed, with_child, step_changes}

module _ {B : Type 0} (ops : BufferOps B) (code : Code) where
  -- a thread of the state stays if an instruction adds a child
  stays_with_child : (t : Local) (n : Name) (i : Instr) (threads : ByName (Thread B)) (q : Name) → IsSome (fin.get threads q)
      → IsSome (fin.get (with_child ops code t n i threads) q)
  stays_with_child t n (Create h f es) threads q there = stays_after_put threads _ _ q there
  stays_with_child t n _ threads q there = there

  -- a thread of the state stays in each move
  pub thread_stays : (q : Name) (s u : State B) (m : Move) → step ops code s m ≡ Some u → IsSome (fin.get s.threads q) → IsSome (fin.get u.threads q)
  thread_stays q s u m one there =
      elim (step_changes ops code s u m one) [
        | Went_on n i g ↦ subst (λ m. IsSome (fin.get m q)) (sym g.threads)
            (stays_with_child g.before.local n i _ q (stays_after_put s.threads n g.after q there))
        | Stayed n g ↦ subst (λ m. IsSome (fin.get m q)) (sym g.threads) (stays_after_put s.threads n g.after q there)
      ]

  -- main is a thread of every state that a run reaches
  pub main_is_there : (s : State B) → IsReached ops code s → IsSome (fin.get s.threads main)
  main_is_there =
      holds_in_reached ops code (λ (u : State B). IsSome (fin.get u.threads main)) (some_is _ _ (get_put fin.empty main _))
      (λ s u m r one there. thread_stays main s u m one there)
