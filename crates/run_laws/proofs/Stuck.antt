-- In a stuck state, each thread that hasn't exited waits for others.
use Rattle.std.proofs.Common.{◌≡◌, ◌∙◌, ◌||◌, Bool, true, false, Some, None, refl, sym, ap, true≢false}
use Rattle.std.specs.Prelude.{not}
use Rattle.std.specs.FinMap as fin
use Rattle.std.proofs.Math.Bool.{or-true}
use Rattle.std.proofs.lemmas.Bool.{and_from, false_from_ne_true}
use Rattle.std.proofs.lemmas.Option.{none-some}
use Rattle.tc_code.specs.tc_base.Names.{Name}
use Rattle.tc_code.specs.tc_base.Buffers.{BufferOps}
use Rattle.tc_code.specs.tc_base.States.{Local, Thread, State}
use Rattle.tc_code.specs.tc_base.declared.moves.Move.{Move}
use Rattle.tc_code.specs.tc_base.declared.moves.Move.TheVariants as move
use Rattle.tc_code.specs.tc_base.declared.request.Request.{Request}
use Rattle.tc_code.specs.tc_base.declared.request.Request.TheVariants.{Acquire, EndWait, WakeOne, Await}
use Rattle.tc_code.specs.Code.{Code}
use Rattle.tc_code.specs.declared.instr.Instr.{Instr}
use Rattle.tc_code.specs.declared.instr.Instr.TheVariants.{Inside, Holds, Signal, Ready, Assert, Nonzero, InRange}
use Rattle.tc_code.specs.Step.{request, site, instr_of, waiting_on, is_let, drains_first, step}
use Rattle.run_laws.proofs.Makes.{makes_run, makes_wake}
use Rattle.run_laws.proofs.Names.{some_in}

-- whether a request may have to wait for other threads
abbrev pub may_wait : Request → Bool
may_wait (Acquire m) = true
may_wait (EndWait c m) = true
may_wait (Await k) = true
may_wait _ = false

site_wakes_none : (b : Bool) (c : _) → site b ≡ WakeOne c → ⊥
site_wakes_none true c e = cc
site_wakes_none false c e = cc

-- only a signal requests to wake a thread
pub signals : (t : Local) (i : Instr) (c : _) → request t i ≡ WakeOne c → i ≡ Signal c
signals t (Signal d) c e = cc
signals t (Inside len x) c e = absurd (site_wakes_none _ c e)
signals t (Holds m) c e = absurd (site_wakes_none _ c e)
signals t (Ready h) c e = absurd (site_wakes_none _ c e)
signals t (Assert x) c e = absurd (site_wakes_none _ c e)
signals t (Nonzero x) c e = absurd (site_wakes_none _ c e)
signals t (InRange x) c e = absurd (site_wakes_none _ c e)
signals t i c e = absurd cc

-- A thread with all its stores in memory, in a state where no move is enabled.
module _ {B : Type 0} (ops : BufferOps B) (code : Code) (s : State B) (n : Name) (t : Thread B) (i : Instr) (going : s.failed ≡ None)
    (still : (m : Move) → step ops code s m ≡ None) (there : fin.get s.threads n ≡ Some t) (at : instr_of code t.local ≡ Some i)
    (empty : ops.is_empty t.buffer ≡ true) where
  abbrev asked : Request
  asked = request t.local i

  -- the other threads don't let it do its next instruction
  not_let : is_let s n asked ≡ false
  not_let =
      false_from_ne_true _ (λ lets. none-some _ (sym (still (move.Run n))
      ∙ makes_run ops code s n t going there i asked at refl
      (and_from _ _ (ap (λ b. not (drains_first asked) || b) empty ∙ or-true (not (drains_first asked))) lets)))

  waits_by : (r : Request) → asked ≡ r → is_let s n r ≡ false → may_wait r ≡ true
  waits_by (Acquire m) is held = refl
  waits_by (EndWait c m) is held = refl
  waits_by (Await k) is held = refl
  waits_by (WakeOne c) is held =
      let w = some_in (waiting_on s c) held in
      absurd (none-some _ (sym (still (move.Wake n w.0))
      ∙ makes_wake ops code s n t going there w.0 c (at ∙ ap (λ j. Some j) (signals t.local i c is)) empty w.1))
  waits_by r is held = absurd (true≢false held)

  -- it waits for other threads, and its request is one that may wait
  pub stuck_waits : (is_let s n asked ≡ false) × (may_wait asked ≡ true)
  stuck_waits = (not_let, waits_by asked refl not_let)
