-- Which slots are live at each place of a function.
use Rattle.std.specs.Prelude.{◌≡◌, ◌≢◌, ◌⊎◌, ℕ, ◌+◌, pos, Bool, Some, length, slice_index_or, IsTrue}
use Rattle.std.specs.List.{list_any}
use Rattle.run_laws.specs.tc_base.States.{Local}
use Rattle.run_laws.specs.tc_code.Expr.{names_slot}
use Rattle.run_laws.specs.tc_code.declared.instr.Instr.{Instr}
use Rattle.run_laws.specs.tc_code.declared.instr.Instr.TheVariants.{Branch, Goto}
use Rattle.run_laws.specs.tc_code.Code.{Code, instr_at}
use Rattle.run_laws.specs.tc_code.Lawful.{exprs_of, written}

-- for each function, place and slot, whether the slot is live there
abbrev pub Liveness : Type 0
Liveness = (function place slot : ℕ) → Bool

-- whether an instruction reads a slot
abbrev pub reads_slot : ℕ → Instr → Bool
reads_slot k i = list_any (names_slot k) (exprs_of i)

-- an instruction at one place may lead to another
abbrev pub MayLead : Instr → (from to : ℕ) → Type 0
MayLead (Branch e target) from to = (to ≡ from + 1) ⊎ (to ≡ target)
MayLead (Goto target) from to = to ≡ target
MayLead _ from to = to ≡ from + 1

-- each slot is live that an instruction reads, or that is live after it and that it doesn't write
pub record IsClosed (code : Code) (live : Liveness) : Type 0 where
  pub reads : (f place k : ℕ) (i : Instr) → instr_at code f place ≡ Some i → IsTrue (reads_slot k i)
      → IsTrue (live f place k)
  pub passes : (f place to k : ℕ) (i : Instr) → instr_at code f place ≡ Some i → MayLead i place to
      → IsTrue (live f to k) → written i ≢ Some k → IsTrue (live f place k)

-- each slot that is live at the place of t has the same value in both
abbrev pub AgreeWhereLive : Liveness → Local → Local → Type 0
AgreeWhereLive live t u =
    (k : ℕ) → IsTrue (live t.function t.instruction k)
    → slice_index_or t.slots k (pos 0) ≡ slice_index_or u.slots k (pos 0)

-- two threads differ at most in place, values of slots, outcomes and steps
pub record HaveTheSame (t u : Local) : Type 0 where
  pub function : t.function ≡ u.function
  pub slots : length t.slots ≡ length u.slots
  pub handles : t.handles ≡ u.handles
  pub held : t.held ≡ u.held
  pub children : t.children ≡ u.children
  pub has_exited : t.has_exited ≡ u.has_exited

-- two threads are at the same place, and differ at most in slots that aren't live there, outcomes
-- and steps
pub record AreAlike (live : Liveness) (t u : Local) : Type 0 where
  pub place : t.instruction ≡ u.instruction
  pub slots : AgreeWhereLive live t u
  pub rest : HaveTheSame t u
