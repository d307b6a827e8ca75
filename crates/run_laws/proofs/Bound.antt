-- What holds at an instruction that belongs to the one before it.
use Rattle.std.proofs.Common.{◌≡◌, ◌∙◌, inl, inr, ℕ, suc, ℤ, List, [], true, false, IsTrue, Some, refl, ap, sym, subst, arith, slice_get, true≢false}
use Rattle.std.proofs.lemmas.Option.{same_Some}
use Rattle.tc_code.specs.tc_base.Buffers.{BufferOps}
use Rattle.tc_code.specs.tc_base.States.{Local, State}
use Rattle.tc_code.specs.declared.instr.Instr.{Instr}
use Rattle.tc_code.specs.declared.instr.Instr.TheVariants.{Holds, Unlock, Sleep, Ready, Join}
use Rattle.tc_code.specs.Code.{Code}
use Rattle.tc_code.specs.Lawful.{target, is_bound, StandsBefore, IsTarget, IsLawfulFunction, IsLawful}
use Rattle.tc_code.specs.declared.code.Func.{Func}
use Rattle.tc_code.specs.Step.{holds, can_be_joined, handle_of, local_after, instr_of, request, born}
use Rattle.tc_code.specs.Run.{IsReached}
use Rattle.tc_code.proofs.Facts.{placed_next}
use Rattle.run_laws.specs.Laws.{HasTested}
use Rattle.run_laws.specs.Whole.{AllThreads}
use Rattle.run_laws.proofs.After.{Leads, after_has, place_after}
use Rattle.run_laws.proofs.Changes.{is_fail, site_is_true}
use Rattle.run_laws.proofs.AllThreads.{Keeps, all_in_reached}

-- no jump leads to a bound instruction
not_target : (is : List Instr) (k : ℕ) (j : Instr) → slice_get is k ≡ Some j → is_bound j ≡ true → IsTarget is k → ⊥
not_target is k j there bound t = true≢false (sym bound ∙ ap is_bound (same_Some j t.instr (sym there ∙ t.there)) ∙ t.unbound)

-- a thread comes to a bound instruction from the place before it
from_before : (is : List Instr) (p k : ℕ) (i j : Instr) → slice_get is p ≡ Some i → (target i ≡ Some k → IsTarget is k) → slice_get is k ≡ Some j
    → is_bound j ≡ true → Leads i p k → k ≡ suc p
from_before is p k i j at jumps there bound (inl next) = omega (arith, next)
from_before is p k i j at jumps there bound (inr jump) = absurd (not_target is k j there bound (jumps jump))

-- the instruction before a bound instruction is the one that the thread did last
came_before : (code : Code) (t : Local) (i j b : Instr) (v : ℤ) → IsLawful code → instr_of code t ≡ Some i
    → instr_of code (local_after t i v) ≡ Some j → is_bound j ≡ true
    → ((g : Func) → IsLawfulFunction code g → (k : ℕ) → slice_get g.instrs k ≡ Some j → StandsBefore g.instrs k b) → i ≡ b
came_before code t i j b v lawful at next bound stands =
    let here = placed_next code t i lawful at in
    let there = placed_next code (local_after t i v) j lawful next in
    let same : there.function ≡ here.function = same_Some _ _ (sym there.there ∙ ap (slice_get code.functions) (after_has t i v).function ∙ here.there) in
    let k = (local_after t i v).instruction in
    let at_k : slice_get here.function.instrs k ≡ Some j = subst (λ f. slice_get f.instrs k ≡ Some j) same there.at in
    let after = from_before here.function.instrs t.instruction k i j here.at (here.lawful.jump t.instruction k i here.at) at_k bound (place_after t i v) in
    same_Some i b (sym here.at ∙ subst (λ n. StandsBefore here.function.instrs n b) after (stands here.function here.lawful k at_k))

-- after a passed test of a mutex, the thread holds the mutex
holds_after : (t : Local) (i : Instr) (v : ℤ) (m : ℕ) → i ≡ Holds m → is_fail (request t i) ≡ false → IsTrue (holds (local_after t i v) m)
holds_after t i v m is went =
    subst (λ j. IsTrue (holds (local_after t j v) m)) (sym is) (site_is_true (holds t m) (subst (λ j. is_fail (request t j) ≡ false) is went))

-- after a passed test of a thread variable, there is a child to join
ready_after : (t : Local) (i : Instr) (v : ℤ) (h : ℕ) → i ≡ Ready h → is_fail (request t i) ≡ false → IsTrue (can_be_joined (handle_of (local_after t i v) h))
ready_after t i v h is went =
    subst (λ j. IsTrue (can_be_joined (handle_of (local_after t j v) h))) (sym is)
    (site_is_true (can_be_joined (handle_of t h)) (subst (λ j. is_fail (request t j) ≡ false) is went))

-- after each instruction, what a bound instruction needs holds
has_tested_after : (code : Code) (t : Local) (i : Instr) (v : ℤ) → IsLawful code → instr_of code t ≡ Some i → is_fail (request t i) ≡ false
    → HasTested code (local_after t i v)
has_tested_after code t i v lawful at went = record {
  unlock = λ m next. holds_after t i v m (came_before code t i (Unlock m) (Holds m) v lawful at next refl (λ g is k. is.unlock k m)) went;
  sleep = λ c m next. holds_after t i v m (came_before code t i (Sleep c m) (Holds m) v lawful at next refl (λ g is k. is.sleep k c m)) went;
  join = λ h next. ready_after t i v h (came_before code t i (Join h) (Ready h) v lawful at next refl (λ g is k. is.join k h)) went;
}

module _ {B : Type 0} (ops : BufferOps B) (code : Code) where
  -- a function doesn't begin with a bound instruction
  born_has_tested : (f : ℕ) (vs : List ℤ) → IsLawful code → HasTested code (born ops code f vs).local
  born_has_tested f vs lawful =
      let t = (born ops code f vs).local in
      record {
        unlock = λ m at. let p = placed_next code t (Unlock m) lawful at in absurd (p.lawful.unlock 0 m p.at);
        sleep = λ c m at. let p = placed_next code t (Sleep c m) lawful at in absurd (p.lawful.sleep 0 c m p.at);
        join = λ h at. let p = placed_next code t (Join h) lawful at in absurd (p.lawful.join 0 h p.at);
      }

  -- each move keeps that
  keeps_tested : IsLawful code → (s : State B) → Keeps ops code s (HasTested code) (HasTested code)
  keeps_tested lawful s = record {
    stays = λ t steps few h. record { unlock = h.unlock; sleep = h.sleep; join = h.join };
    does = λ u n i g h. has_tested_after code g.before.local i g.value lawful g.at g.passes;
    bears = λ u n h f es g has. born_has_tested f _ lawful;
  }

  -- in each reached state of lawful code, what the instruction before a bound one tests holds
  pub reached_has_tested : (s : State B) → IsLawful code → IsReached ops code s → AllThreads (HasTested code) s.threads
  reached_has_tested s lawful = all_in_reached ops code (HasTested code) (λ v r. keeps_tested lawful v) (born_has_tested _ [] lawful) s
