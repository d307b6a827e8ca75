-- Rounds of a loop that change nothing, as far as a path shows it.
use Rattle.std.specs.Prelude.{◌≡◌, ◌≢◌, ◌⊎◌, ℕ, ◌+◌, ◌<◌, ◌≤◌, ℤ, pos, List, length, Bool, true, false, Some, Ok, IsTrue, slice_index_or, if◌then◌else◌}
use Rattle.tc_code.specs.int_ops.declared.update.Update.TheVariants.{Cas}
use Rattle.tc_code.specs.tc_base.Paths.{Path}
use Rattle.tc_code.specs.Code.{Code}
use Rattle.tc_code.specs.Expr.{Expr, value_of}
use Rattle.tc_code.specs.Expr.{Expr.Number, Expr.Slot}
use Rattle.tc_code.specs.Lawful.{written}
use Rattle.tc_code.specs.Step.{is_nonzero}
use Rattle.tc_code.specs.declared.cell.Cell.{Cell}
use Rattle.tc_code.specs.declared.instr.Instr.{Instr}
use Rattle.tc_code.specs.declared.instr.Instr.TheVariants.{Set, Load, Inside, Branch, Goto, Holds, Ready, Assert, Nonzero, InRange, Modify, Fence}
use Rattle.thread_marks.specs.path_walk.Steps.{step_at, places_from}
use Rattle.slot_liveness.specs.pure_turns.Live.{Liveness}

-- whether an instruction changes nothing that other threads can use, whatever it reads
abbrev pub is_idle : Instr → Bool
is_idle (Set k e) = true
is_idle (Load k c) = true
is_idle (Inside len i) = true
is_idle (Branch e to) = true
is_idle (Goto to) = true
is_idle (Holds m) = true
is_idle (Ready h) = true
is_idle (Assert e) = true
is_idle (Nonzero e) = true
is_idle (InRange e) = true
is_idle Fence = true
is_idle _ = false

-- a branch at one place doesn't lead to another place while a slot has this value
abbrev pub RulesOut : Instr → (from to slot : ℕ) → ℤ → Type 0
RulesOut (Branch e target) from to slot v =
    (slots : List ℤ) → slice_index_or slots slot (pos 0) ≡ v
    → (if is_nonzero (value_of e slots) then from + 1 else target) ≢ to
RulesOut _ from to slot v = ⊥

module _ (code : Code) (f : ℕ) (places : List ℕ) where
  -- the place of a step, and its instruction
  abbrev pub place_of : ℕ → ℕ
  place_of k = slice_index_or places k 0

  abbrev pub instr_of : ℕ → Instr
  instr_of k = (step_at code f (place_of k)).instr

  -- no step from the i-th up to the j-th writes a slot
  abbrev pub Keep : (i j slot : ℕ) → Type 0
  Keep i j slot = (k : ℕ) → i ≤ k → k < j → written (instr_of k) ≢ Some slot

  -- the k-th step is a compare-and-exchange, the next one copies what it read, and a branch before
  -- the j-th step shows that it failed: had it read what it expects, the branch would have led
  -- elsewhere
  pub record HasFailed (j k : ℕ) : Type 0 where
    pub read : ℕ
    pub cell : Cell Expr
    pub expected : ℤ
    pub new : Expr
    pub is : instr_of k ≡ Modify read cell (Cas (Number expected) new)
    pub copy : ℕ
    pub copied : instr_of (k + 1) ≡ Set copy (Slot read)
    pub branch : ℕ
    pub after : k + 1 < branch
    pub before : branch < j
    pub kept : Keep (k + 2) branch copy
    pub shown : RulesOut (instr_of branch) (place_of branch) (place_of (branch + 1)) copy expected

  -- the steps from the i-th up to the j-th are a pure turn: all are idle or failed exchanges, they
  -- lead back to their first place, and they write no slot that is live there
  pub record IsTurn (live : Liveness) (i j : ℕ) : Type 0 where
    pub some : i < j
    pub within : j < length places
    pub back : place_of i ≡ place_of j
    pub pure : (k : ℕ) → i ≤ k → k < j → (is_idle (instr_of k) ≡ true) ⊎ HasFailed j k
    pub kept : (slot : ℕ) → IsTrue (live f (place_of i) slot) → Keep i j slot

-- a path through a function shows a pure turn
pub record HasTurn (code : Code) (live : Liveness) (f : ℕ) (p : Path) : Type 0 where
  pub places : List ℕ
  pub along : places_from code f p.steps 0 p.outcomes ≡ Ok places
  pub first : ℕ
  pub last : ℕ
  pub turn : IsTurn code f places live first last
