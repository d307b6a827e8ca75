-- What a step of a pure turn leaves as it was.
use Rattle.std.proofs.Common.{◌≡◌, ◌≢◌, ◌∙◌, inl, inr, ℕ, ◌+◌, ℤ, pos, Bool, true, false, cond, List, Some, refl, sym, ap, slice_set, slice_index_or}
use Rattle.std.specs.Ordering.{int_eq}
use Rattle.std.proofs.lemmas.Bool.{false≢true}
use Rattle.std.proofs.lemmas.Bool.Decides.{Decides-int_eq}
use Rattle.log_walk.specs.tc_base.States.{Local}
use Rattle.log_walk.specs.tc_base.declared.request.Request.{Request}
use Rattle.log_walk.specs.tc_base.declared.request.Request.TheVariants.{Silent, Exchange, Fail}
use Rattle.log_walk.specs.tc_code.Expr.{Expr}
use Rattle.log_walk.specs.tc_code.int_ops.Arith.{is_distance}
use Rattle.log_walk.specs.tc_code.int_ops.Updates.{replaced}
use Rattle.log_walk.specs.tc_code.int_ops.declared.update.Update.{Update}
use Rattle.log_walk.specs.tc_code.int_ops.declared.update.Update.TheVariants as update
use Rattle.log_walk.specs.tc_code.Lawful.{written}
use Rattle.log_walk.specs.tc_code.Step.{request, site, is_within, is_nonzero, value_in, can_be_joined, handle_of, holds, local_after}
use Rattle.log_walk.specs.tc_code.declared.cell.Cell.{Cell}
use Rattle.log_walk.specs.tc_code.declared.instr.Instr.{Instr}
use Rattle.log_walk.specs.tc_code.declared.instr.Instr.TheVariants.{Set, Load, Inside, Branch, Goto, Holds, Lock, Unlock, Sleep, Wake, Ready, Assert, Nonzero, InRange, Modify, Fence}
use Rattle.pure_turns.proofs.run_laws.After.{branch_is}
use Rattle.pure_turns.proofs.run_laws.Basics.{index_or-set_cases}
use Rattle.short_runs.specs.Turns.{is_pure_step}
use Rattle.least_runs.specs.run_history.Locals.{after_step}
use Rattle.log_walk.specs.thread_paths.Turns.{is_idle, RulesOut}

-- Slots.

set_apart : (xs : List ℤ) (k slot : ℕ) (x : ℤ) → (Some k ≡ Some slot → ⊥)
    → slice_index_or xs slot (pos 0) ≡ slice_index_or (slice_set xs k x) slot (pos 0)
set_apart xs k slot x apart =
    elim (index_or-set_cases xs k slot x (pos 0)) [
      | inl is ↦ absurd (apart (ap (λ n. Some n) (sym is.0)))
      | inr was ↦ sym was
    ]

slot_after : (t : Local) (i : Instr) (v : ℤ) (slot : ℕ) → written i ≢ Some slot
    → slice_index_or t.slots slot (pos 0) ≡ slice_index_or (local_after t i v).slots slot (pos 0)
slot_after t (Set k e) v slot other = set_apart t.slots k slot (value_in t e) other
slot_after t (Load k c) v slot other = set_apart t.slots k slot v other
slot_after t (Modify k c u) v slot other = set_apart t.slots k slot v other
slot_after t (Branch e to) v slot other = sym (ap (λ (x : Local). slice_index_or x.slots slot (pos 0)) (branch_is t (is_nonzero (value_in t e)) to))
slot_after t _ v slot other = refl

-- a step leaves each slot that its instruction doesn't write
pub slot_stays : (t : Local) (i : Instr) (r : Request) (v : ℤ) (slot : ℕ) → written i ≢ Some slot
    → slice_index_or t.slots slot (pos 0) ≡ slice_index_or (after_step t i r v).slots slot (pos 0)
slot_stays t i Fail v slot other = refl
slot_stays t i Silent v slot other = slot_after t i v slot other
slot_stays t i r v slot other = slot_after t i v slot other

-- Mutexes.

held_after : (t : Local) (i : Instr) (v : ℤ) → is_idle i ≡ true → t.held ≡ (local_after t i v).held
held_after t (Branch e to) v idle = sym (ap (λ (x : Local). x.held) (branch_is t (is_nonzero (value_in t e)) to))
held_after t (Lock m) v idle = absurd (false≢true idle)
held_after t (Unlock m) v idle = absurd (false≢true idle)
held_after t (Sleep c m) v idle = absurd (false≢true idle)
held_after t (Wake c m) v idle = absurd (false≢true idle)
held_after t _ v idle = refl

-- an idle step and an exchange leave the mutexes that the thread holds
pub held_stays : (t : Local) (i : Instr) (r : Request) (v : ℤ) → is_idle i ≡ true → t.held ≡ (after_step t i r v).held
held_stays t i Fail v idle = refl
held_stays t i Silent v idle = held_after t i v idle
held_stays t i r v idle = held_after t i v idle

pub held_by_update : (t : Local) (k : ℕ) (c : Cell Expr) (u : Update Expr) (r : Request) (v : ℤ) → t.held ≡ (after_step t (Modify k c u) r v).held
held_by_update t k c u Fail v = refl
held_by_update t k c u Silent v = refl
held_by_update t k c u r v = refl

-- Requests.

site_pure : (b : Bool) (held : List Bool) (v : ℤ) → site b ≢ Fail → is_pure_step held (site b) v ≡ true
site_pure true held v going = refl
site_pure false held v going = absurd (going refl)

-- an idle step that doesn't fail is pure
pub idle_pure : (t : Local) (i : Instr) (held : List Bool) (v : ℤ) → is_idle i ≡ true → request t i ≢ Fail
    → is_pure_step held (request t i) v ≡ true
idle_pure t (Set k e) held v idle going = refl
idle_pure t (Load k c) held v idle going = refl
idle_pure t (Inside len e) held v idle going = site_pure (is_within len (value_in t e)) held v going
idle_pure t (Branch e to) held v idle going = refl
idle_pure t (Goto to) held v idle going = refl
idle_pure t (Holds m) held v idle going = site_pure (holds t m) held v going
idle_pure t (Ready h) held v idle going = site_pure (can_be_joined (handle_of t h)) held v going
idle_pure t (Assert e) held v idle going = site_pure (is_nonzero (value_in t e)) held v going
idle_pure t (Nonzero e) held v idle going = site_pure (is_nonzero (value_in t e)) held v going
idle_pure t (InRange e) held v idle going = site_pure (is_distance (value_in t e)) held v going
idle_pure t Fence held v idle going = refl
idle_pure t _ held v idle going = absurd (false≢true idle)

-- a compare-and-exchange that read another value than it expects is pure
pub cas_pure : (held : List Bool) (c : ℕ) (expected new took : ℤ) → took ≢ expected → is_pure_step held (Exchange c (update.Cas expected new)) took ≡ true
cas_pure held c expected new took other = by (int_eq took expected) refl
  where
    by : (b : Bool) → int_eq took expected ≡ b → int_eq (replaced took expected new) took ≡ true
    by true same = absurd (other ((Decides-int_eq took expected).0 same))
    by false apart = ap (λ b. int_eq (cond b new took) took) apart ∙ (Decides-int_eq took took).1 refl

-- a branch doesn't lead where the value of a slot rules it out
pub ruled_out : (i : Instr) (t : Local) (r : Request) (v : ℤ) (begin to slot : ℕ) (x : ℤ) → RulesOut i begin to slot x → request t i ≡ r
    → t.instruction ≡ begin → slice_index_or t.slots slot (pos 0) ≡ x → (after_step t i r v).instruction ≡ to → ⊥
ruled_out (Branch e target) t r v begin to slot x shown asks here value leads =
    shown t.slots value
    (ap (λ p. cond (is_nonzero (value_in t e)) (p + 1) target) (sym here)
    ∙ sym (ap (λ (y : Local). y.instruction) (branch_is t (is_nonzero (value_in t e)) target))
    ∙ ap (λ q. (after_step t (Branch e target) q v).instruction) asks
    ∙ leads)
ruled_out _ t r v begin to slot x shown asks here value leads = absurd shown
