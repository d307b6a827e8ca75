-- A thread may store each of its slots.
use Rattle.std.proofs.Common.{◌≡◌, ◌∙◌, ℕ, ◌<◌, ◌≤◌, ◌∷◌, [], pos, length, arith, ap, sym}
use Rattle.std.specs.Option.{option_map_or}
use Rattle.std.proofs.lemmas.Bool.{lt-ltb}
use Rattle.tc_base.specs.States.{Local}
use Rattle.tc_code.specs.Code.{Code}
use Rattle.tc_code.specs.Step.{ints_of}
use Rattle.tc_code.specs.declared.code.Func.{Func}
use Rattle.tc_code.specs.Expr.{Slot}
use Rattle.tc_code.specs.declared.cell.Cell.TheVariants.{Fixed}
use Rattle.tc_code.specs.declared.instr.Instr.TheVariants.{Store}
use Rattle.tc_threads.specs.CanDo.{CanAsk}
use Rattle.tc_threads.specs.run_laws.Whole.{IsWholeThread}

-- a code with one cell, so that a store may name one
abbrev pub one_cell : Code → Code
one_cell code = record code { memory = pos 0 ∷ [] }

pub can_store : (code : Code) (t : Local) (k : ℕ) → IsWholeThread code t → k < length t.slots → CanAsk (one_cell code) t (Store (Fixed 0) (Slot k))
can_store code t k whole lt = record {
  function = whole.function;
  names = lt-ltb k (length t.slots) lt;
  held = whole.held;
  cells = omega arith;
  index = tt;
}

-- a thread has as many slots as its function
pub ints_are : (code : Code) (t : Local) → IsWholeThread code t → ints_of code t.function ≡ length t.slots
ints_are code t whole = ap (λ o. option_map_or (λ (g : Func). g.ints) o 0) whole.there ∙ sym whole.slots
