-- Whether places end a pure turn, as the code tests it.
use Rattle.std.specs.Prelude.{◌≡◌, ◌≢◌, ◌⊎◌, ℕ, ◌+◌, ◌-◌, ◌<◌, ◌≤◌, ℤ, List, length, true, Some, IsTrue}
use Rattle.tc_code.specs.Code.{Code}
use Rattle.tc_code.specs.Lawful.{written}
use Rattle.slot_liveness.specs.pure_turns.Live.{Liveness}
use Rattle.thread_paths.specs.Turns.{is_idle, place_of, instr_of, Keep, RulesOut, HasFailed, IsTurn}

module _ (code : Code) (f : ℕ) (places : List ℕ) where
  -- the number of steps before the last place
  abbrev pub last : ℕ
  last = length places - 1

  -- a branch from a step on shows that a slot doesn't have this value, and no step before writes it
  pub record IsShown (from slot : ℕ) (value : ℤ) : Type 0 where
    pub branch : ℕ
    pub after : from ≤ branch
    pub before : branch < last
    pub kept : Keep code f places from branch slot
    pub shown : RulesOut (instr_of code f places branch) (place_of code f places branch)
        (place_of code f places (branch + 1)) slot value

  -- a step changes nothing that others can use, and writes no slot that is live at the last place
  pub record IsPure (live : Liveness) (k : ℕ) : Type 0 where
    pub idle : (is_idle (instr_of code f places k) ≡ true) ⊎ HasFailed code f places last k
    pub kept : (slot : ℕ) → IsTrue (live f (place_of code f places last) slot)
        → written (instr_of code f places k) ≢ Some slot

  abbrev pub ArePure : Liveness → ℕ → Type 0
  ArePure live first = (k : ℕ) → first ≤ k → k < last → IsPure live k

  -- the last place ends a pure turn
  abbrev pub EndsTurn : Liveness → Type 0
  EndsTurn live = (first : ℕ) × IsTurn code f places live first last
