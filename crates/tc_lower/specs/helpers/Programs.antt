-- Helpers: when there is room for the code of a program.
use Rattle.std.specs.Prelude.{ℕ, ◌+◌, ◌<◌, ◌≤◌, ◌^◌, List, [], ◌∷◌, length}
use Rattle.tc_code.specs.tc_limits.declared.limits.TheConstants.{PROGRAM_BYTES}
use Rattle.tc_tree.specs.declared.expression.Name.{Name}
use Rattle.tc_tree.specs.Grammar.{Body, Thread}
use Rattle.tc_lower.specs.declared.things.Named.{Named}
use Rattle.tc_lower.specs.Things.{thing_in_scope, own_things, ints}
use Rattle.tc_lower.specs.Statements.{all_lowered}

-- the slots and the instructions of a body fit
pub record BodyFits (source : List ℕ) (all : List Named) (parameters : List Name)
    (b : Body) : Type 0 where
  pub slots : length parameters + length b.locals ≤ PROGRAM_BYTES
  pub instrs : length
      (all_lowered (thing_in_scope source (own_things parameters b.locals) all) 0
      (length parameters + ints b.locals) b.statements).instrs < 2 ^ 18

abbrev pub ThreadsFit : List ℕ → List Named → List Thread → Type 0
ThreadsFit source all [] = Unit {0}
ThreadsFit source all (t ∷ ts) = BodyFits source all t.parameters t.body × ThreadsFit source all ts
