-- The result of a search of a log's clauses is an answer about the log.
use Rattle.std.proofs.Common.{◌≡◌, ℕ, ℤ, Bool, IsTrue, List, ap, sym, subst, arith}
use Rattle.run_log.specs.tc_base.Buffers.{BufferOps}
use Rattle.run_log.specs.Logs.{Log}
use Rattle.run_log.specs.memory_models.declared.model.Model.{Model}
use Rattle.tc_code.specs.Code.{Code}
use Rattle.store_buffers.specs.Laws.{Laws}
use Rattle.store_buffers.specs.Pending.{Binding}
use Rattle.cnf_core.specs.Clauses.{satisfies, value_in}
use Rattle.dimacs_text.specs.Values.{IsFirstFalse, assigned}
use Rattle.schedule_file.specs.declared.schedule.Schedule.{Schedule}
use Rattle.cdcl_core.specs.Searches.{IsSolution}
use Rattle.cdcl_core.specs.Solving.{IsAnswerOn}
use Rattle.cdcl_core.specs.declared.answer.Answer.{Answer}
use Rattle.cdcl_core.specs.declared.answer.Answer.TheVariants.{Found, Impossible, Spent}
use Rattle.clap_solve.specs.Clauses.{clauses_of}
use Rattle.clap_solve.specs.Imported.{IsFalseOf, IsImported, values_of}
use Rattle.clap_solve.specs.Posed.{IsGiven, Posed, posed_of}
use Rattle.clap_solve.specs.Solved.{IsSolved}
use Rattle.clap_solve.specs.declared.imported.Imported.{Imported}
use Rattle.clap_solve.specs.declared.imported.Imported.TheVariants as imported
use Rattle.clap_solve.specs.helpers.Searched.{IsImportedOn, IsPosed, IsSatisfied, IsScheduled}
use Rattle.clap_solve.proofs.Meaning.{closed_is_impossible}

-- values that a search found satisfy the clauses
pub satisfied : (buffered : Bool) (bound : Binding) (code : Code) (p : Posed) (values : List Bool) → IsPosed buffered bound code p
    → IsSolution p.blasted.clauses values → IsSatisfied buffered bound code p values
satisfied buffered bound code p values posed solution = record { posed = posed; all = omega (arith, solution.all); satisfies = solution.satisfies }

module _ {B : Type 0} (ops : BufferOps B) (model : Model) (bound : Binding) (code : Code) (log : Log) (laws : Laws ops model bound) (given : IsGiven code log)
    (posed : Posed) (by : posed ≡ posed_of ops.buffered bound code log) (budget : ℕ) where
  pub is_solved : (a : Answer Schedule) → IsAnswerOn (clauses_of ops.buffered bound code log) budget (IsScheduled ops code posed model) a
      → IsSolved ops model bound code log budget a
  is_solved (Found schedule) is =
      record { within = given.within; is = (is.0, is.1 log given.is_log given.within.fits (sym (ap (λ (q : Posed). q.paths) by))) }
  is_solved (Impossible lines) closed = record {
    within = given.within;
    is = (closed.0, closed_is_impossible ops model bound code log laws given.lawful given.is_log given.within lines closed.0);
  }
  is_solved (Spent lines) spent = record { within = given.within; is = spent }

-- the result for imported values is an answer too
pub is_imported : {B : Type 0} (ops : BufferOps B) (model : Model) (bound : Binding) (code : Code) (log : Log) → IsGiven code log → (posed : Posed)
    → posed ≡ posed_of ops.buffered bound code log → (literals : List ℤ) (values : List Bool) → values ≡ assigned posed.blasted.clauses.vars literals
    → (i : Imported) → IsImportedOn ops code posed model values i → IsImported ops model bound code log literals i
is_imported ops model bound code log given posed by literals values are (imported.Found schedule) on = (
  subst (λ (q : Posed). IsTrue (satisfies (values_of q.blasted.clauses literals) q.blasted.clauses.clauses)) by
      (subst (λ (vs : List Bool). IsTrue (satisfies (value_in vs) posed.blasted.clauses.clauses)) are on.0),
  on.1.0,
  on.1.1 log given.is_log given.within.fits (sym (ap (λ (q : Posed). q.paths) by)),
)
is_imported ops model bound code log given posed by literals values are (imported.False number) on =
    subst (λ (q : Posed). IsFalseOf q.blasted.clauses literals number) by
    (on.0, on.1, subst (λ (vs : List Bool). IsFirstFalse (value_in vs) posed.blasted.clauses.clauses on.0) are on.2)
