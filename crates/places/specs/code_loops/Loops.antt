-- Loops of a function: intervals of instructions that end with a jump back to their first one.
use Rattle.std.specs.Prelude.{◌≡◌, ◌<◌, ◌≤◌, ℕ, List, Some, slice_get}
use Rattle.tc_code.specs.Lawful.{target}
use Rattle.tc_code.specs.declared.instr.Instr.{Instr}
use Rattle.tc_code.specs.declared.instr.Instr.TheVariants.{Goto}

-- the instructions from `first` to `last` are a loop: the last one jumps back to the first
pub record IsLoop (is : List Instr) (first last : ℕ) : Type 0 where
  pub jump : slice_get is last ≡ Some (Goto first)
  pub back : first ≤ last

-- every jump back ends a loop, and loops are entered at their first instruction alone
pub record LoopsNest (is : List Instr) : Type 0 where
  -- whatever jumps back is a goto
  pub ends : (from to : ℕ) (i : Instr) → slice_get is from ≡ Some i → target i ≡ Some to → to ≤ from
      → i ≡ Goto to
  -- a jump past a loop's first instruction, up to its last, comes from the loop
  pub entered : (first last from to : ℕ) (i : Instr) → IsLoop is first last
      → slice_get is from ≡ Some i → target i ≡ Some to → first < to → to ≤ last
      → (first ≤ from) × (from ≤ last)
