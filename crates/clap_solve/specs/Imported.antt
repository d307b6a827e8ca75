-- The result of another solver's answer.
use Rattle.std.specs.Prelude.{◌≡◌, ℕ, suc, List, ℤ, IsTrue}
use Rattle.run_log.specs.tc_base.Buffers.{BufferOps}
use Rattle.run_log.specs.Logs.{Log}
use Rattle.run_log.specs.memory_models.declared.model.Model.{Model}
use Rattle.tc_code.specs.Code.{Code}
use Rattle.tc_code.specs.Run.{Reproduces}
use Rattle.store_buffers.specs.Pending.{Binding}
use Rattle.cnf_core.specs.Clauses.{Formula, Valuation, satisfies, value_in}
use Rattle.dimacs_text.specs.Values.{IsFirstFalse, assigned}
use Rattle.clap_solve.specs.Clauses.{clauses_of}
use Rattle.clap_solve.specs.declared.imported.Imported.{Imported}
use Rattle.clap_solve.specs.declared.imported.Imported.TheVariants.{Found, False}

-- the valuation that literals give to the variables of a formula
abbrev pub values_of : Formula → List ℤ → Valuation
values_of f literals = value_in (assigned f.vars literals)

-- the clause of this number, from 1, is the first that the literals make false
abbrev pub IsFalseOf : Formula → List ℤ → ℕ → Type 0
IsFalseOf f literals number =
    (place : ℕ) × (number ≡ suc place) × IsFirstFalse (values_of f literals) f.clauses place

module _ {B : Type 0} (ops : BufferOps B) (model : Model) (bound : Binding) (code : Code)
    (log : Log) (literals : List ℤ) where
  -- the literals satisfy the clauses and a schedule reproduces the log, or they make a clause false
  abbrev pub IsImported : Imported → Type 0
  IsImported (Found schedule) =
      IsTrue (satisfies (values_of (clauses_of ops.buffered bound code log) literals)
      (clauses_of ops.buffered bound code log).clauses)
      × (schedule.model ≡ model) × Reproduces ops code log schedule.moves.items
  IsImported (False number) = IsFalseOf (clauses_of ops.buffered bound code log) literals number
