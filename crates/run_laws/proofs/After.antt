-- The state of a thread after an instruction.
use Rattle.std.proofs.Common.{◌≡◌, ◌⊎◌, inl, inr, ℕ, ◌+◌, length, ℤ, [], ◌∷◌, ◌++◌, Bool, true, false, cond, Some, refl, sym, subst}
use Rattle.std.proofs.lemmas.List.{length-set}
use Rattle.tc_code.specs.tc_base.States.{Local}
use Rattle.tc_code.specs.Expr.{Expr}
use Rattle.tc_code.specs.declared.instr.Instr.{Instr}
use Rattle.tc_code.specs.declared.instr.Instr.TheVariants.{Set, Load, Branch, Goto, Lock, Unlock, Sleep, Wake, Create, Join, Modify}
use Rattle.tc_code.specs.Lawful.{target}
use Rattle.tc_code.specs.Step.{step_by_branch, local_after}

-- a branch changes the place, the outcomes and the count of steps, and nothing else
pub branch_is : (t : Local) (b : Bool) (to : ℕ) → step_by_branch t b to ≡ record t
    { instruction = cond b (t.instruction + 1) to; outcomes = t.outcomes ++ b ∷ []; steps = t.steps + 1 }
branch_is t true to = refl
branch_is t false to = refl

-- an instruction at a place leads to another place: the next one or its target
abbrev pub Leads : Instr → ℕ → ℕ → Type 0
Leads i p k = (k ≡ p + 1) ⊎ (target i ≡ Some k)

-- a branch leads to the next place or to its target
branch_leads : (t : Local) (e : Expr) (b : Bool) (to : ℕ) → Leads (Branch e to) t.instruction (step_by_branch t b to).instruction
branch_leads t e true to = inl refl
branch_leads t e false to = inr refl

-- a thread goes to a place to which its instruction leads
pub place_after : (t : Local) (i : Instr) (v : ℤ) → Leads i t.instruction (local_after t i v).instruction
place_after t (Branch e to) v = branch_leads t e _ to
place_after t (Goto to) v = inr refl
place_after t _ v = inl refl

-- a thread has as many slots, handles and flags as another
pub record HasAsMuch (old new : Local) : Type 0 where
  pub function : new.function ≡ old.function
  pub slots : length new.slots ≡ length old.slots
  pub handles : length new.handles ≡ length old.handles
  pub held : length new.held ≡ length old.held

-- an instruction keeps the numbers of slots, handles and flags
pub after_has : (t : Local) (i : Instr) (v : ℤ) → HasAsMuch t (local_after t i v)
after_has t (Set k e) v = record { function = refl; slots = length-set t.slots k _; handles = refl; held = refl }
after_has t (Load k c) v = record { function = refl; slots = length-set t.slots k v; handles = refl; held = refl }
after_has t (Modify k c u) v = record { function = refl; slots = length-set t.slots k v; handles = refl; held = refl }
after_has t (Branch e to) v = subst (HasAsMuch t) (sym (branch_is t _ to)) (record { function = refl; slots = refl; handles = refl; held = refl })
after_has t (Lock m) v = record { function = refl; slots = refl; handles = refl; held = length-set t.held m true }
after_has t (Unlock m) v = record { function = refl; slots = refl; handles = refl; held = length-set t.held m false }
after_has t (Sleep c m) v = record { function = refl; slots = refl; handles = refl; held = length-set t.held m false }
after_has t (Wake c m) v = record { function = refl; slots = refl; handles = refl; held = length-set t.held m true }
after_has t (Create h f es) v = record { function = refl; slots = refl; handles = length-set t.handles h _; held = refl }
after_has t (Join h) v = record { function = refl; slots = refl; handles = length-set t.handles h _; held = refl }
after_has t _ v = record { function = refl; slots = refl; handles = refl; held = refl }
