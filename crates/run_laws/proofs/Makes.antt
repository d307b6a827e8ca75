-- A move is enabled if its conditions hold.
use Rattle.std.proofs.Common.{◌≡◌, ◌∙◌, ℕ, IsTrue, Option, Some, None, ap}
use Rattle.std.specs.Prelude.{is_some, if◌then◌else◌, option_and_then}
use Rattle.std.specs.FinMap as fin
use Rattle.std.specs.FinSet as set
use Rattle.std.proofs.lemmas.Bool.{and_from}
use Rattle.tc_code.specs.tc_base.Names.{Name}
use Rattle.tc_code.specs.tc_base.Buffers.{BufferOps}
use Rattle.tc_code.specs.tc_base.States.{Thread, State}
use Rattle.tc_code.specs.tc_base.declared.moves.Move.{Move}
use Rattle.tc_code.specs.tc_base.declared.moves.Move.TheVariants as move
use Rattle.tc_code.specs.tc_base.declared.request.Request.{Request}
use Rattle.tc_code.specs.declared.instr.Instr.{Instr}
use Rattle.tc_code.specs.declared.instr.Instr.TheVariants.{Signal}
use Rattle.tc_code.specs.Code.{Code}
use Rattle.tc_code.specs.Step.{request, instr_of, allows, perform, waiting_on, state_after_wake, state_after_drain, step, move_of, run_of, wake_of, drain_of}

module _ {B : Type 0} (ops : BufferOps B) (code : Code) (s : State B) (n : Name) (t : Thread B) (going : s.failed ≡ None)
    (there : fin.get s.threads n ≡ Some t) where
  goes : (m : Move) → step ops code s m ≡ move_of ops code s m
  goes m = ap (λ o. if is_some o then None else move_of ops code s m) going

  -- a thread does an instruction whose request is allowed
  pub makes_run : (i : Instr) (r : Request) → instr_of code t.local ≡ Some i → request t.local i ≡ r → IsTrue (allows ops s n t r)
      → step ops code s (move.Run n) ≡ Some (perform ops code s n t i r)
  makes_run i r at asks may =
      goes (move.Run n)
      ∙ ap (option_and_then (λ x. option_and_then (run_of ops code s n x) (instr_of code x.local))) there
      ∙ ap (option_and_then (run_of ops code s n t)) at
      ∙ ap (λ q. if allows ops s n t q then Some (perform ops code s n t i q) else None) asks
      ∙ ap (λ b. if b then Some (perform ops code s n t i r) else None) may

  -- a thread signals, and wakes a thread that waits
  pub makes_wake : (u : Name) (c : ℕ) → instr_of code t.local ≡ Some (Signal c) → IsTrue (ops.is_empty t.buffer)
      → IsTrue (set.contains (waiting_on s c) u) → step ops code s (move.Wake n u) ≡ Some (state_after_wake ops s n u t c)
  makes_wake u c at empty waits =
      goes (move.Wake n u)
      ∙ ap (option_and_then (λ x. option_and_then (wake_of ops s n u x) (instr_of code x.local))) there
      ∙ ap (option_and_then (wake_of ops s n u t)) at
      ∙ ap (λ b. if b then Some (state_after_wake ops s n u t c) else None) (and_from _ _ empty waits)

  -- a store of the thread drains
  pub makes_drain : (form : Option ℕ) → IsTrue (ops.may_drain t.buffer form) → step ops code s (move.Drain n form) ≡ Some (state_after_drain ops s n t form)
  makes_drain form may =
      goes (move.Drain n form)
      ∙ ap (option_and_then (λ x. drain_of ops s n x form)) there
      ∙ ap (λ b. if b then Some (state_after_drain ops s n t form) else None) may
