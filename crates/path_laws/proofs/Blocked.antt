-- Where a thread of a deadlock is blocked.
use Rattle.std.proofs.Common.{◌≡◌, ◌∙◌, Bool, true, false, List, Option, Some, None, refl, sym, ap, ap₂, arith, true≢false}
use Rattle.std.specs.Prelude.{slice_get, is_none, option_and_then}
use Rattle.std.proofs.lemmas.Option.{option_and_then_some, slice_get_past}
use Rattle.path_walk.specs.tc_base.States.{Local}
use Rattle.path_walk.specs.tc_code.Code.{Code, instr_at}
use Rattle.path_walk.specs.tc_code.Step.{request, site}
use Rattle.path_walk.specs.tc_code.declared.instr.Instr.{Instr}
use Rattle.path_walk.specs.tc_code.declared.instr.Instr.TheVariants.{Inside, Holds, Lock, Wake, Ready, Join, Assert, Nonzero, InRange, Exit}
use Rattle.path_walk.specs.tc_code.Lawful.{IsLawful}
use Rattle.run_follows.specs.run_laws.Laws.{IsPastExit}
use Rattle.run_follows.proofs.run_laws.Stuck.{may_wait}
use Rattle.path_walk.specs.Steps.{can_block}
use Rattle.path_walk.specs.Marks.{Marks}
use Rattle.path_walk.specs.Events.{blocked_at}
use Rattle.path_walk.specs.Paths.{blocked_after}
use Rattle.path_walk.specs.declared.ending.Ending.{Ending}
use Rattle.path_walk.specs.declared.ending.Ending.TheVariants.{Rests}
use Rattle.path_walk.specs.declared.event.Sleep.{Sleep as Wait}

site_waits : (b : Bool) → may_wait (site b) ≡ false
site_waits true = refl
site_waits false = refl

-- a thread may wait exactly at an instruction that can block
pub waits_where_blocked : (t : Local) (i : Instr) → may_wait (request t i) ≡ can_block i
waits_where_blocked t (Inside len x) = site_waits _
waits_where_blocked t (Holds m) = site_waits _
waits_where_blocked t (Ready k) = site_waits _
waits_where_blocked t (Assert x) = site_waits _
waits_where_blocked t (Nonzero x) = site_waits _
waits_where_blocked t (InRange x) = site_waits _
waits_where_blocked t i = refl

-- an instruction that can block does block its thread
blocks_some : (t : Marks) (sleeps : List Wait) (i : Instr) → can_block i ≡ true → is_none (blocked_at t sleeps i) ≡ false
blocks_some t sleeps (Lock m) h = refl
blocks_some t sleeps (Wake c m) h = refl
blocks_some t sleeps (Join k) h = refl
blocks_some t sleeps i h = absurd (true≢false (sym h))

pub blocked_there : (e : Ending) (t : Marks) (sleeps : List Wait) (o : Option Instr) (i : Instr) → e ≡ Rests → o ≡ Some i → can_block i ≡ true
    → is_none (blocked_after e t sleeps o) ≡ false
blocked_there e t sleeps o i rests at h = ap₂ (λ x y. is_none (blocked_after x t sleeps y)) rests at ∙ blocks_some t sleeps i h

-- no instruction follows an exit
pub none_behind_exit : (code : Code) (t : Local) → IsLawful code → IsPastExit code t → instr_at code t.function t.instruction ≡ None
none_behind_exit code t lawful past =
    option_and_then_some (λ g. slice_get g.instrs past.place) (slice_get code.functions t.function) Exit past.exit
    (λ g there at.
    let last = (lawful.functions t.function g there).only past.place at in
    ap (option_and_then (λ f. slice_get f.instrs t.instruction)) there ∙ slice_get_past g.instrs t.instruction (omega (arith, last, past.next)))
