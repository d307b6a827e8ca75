use Rattle.std.proofs.Common.{◌≡◌, Bool, refl, subst}
use Rattle.dimacs_text.specs.Values.{assigned}
use Rattle.clap_solve.specs.Posed.{posed_of}
use Rattle.clap_solve.proofs.Answered.{is_imported}
use Rattle.clap_solve.proofs.importing.take_answer.Goals as goal

pub taken-imported-requires : goal.taken-imported-requires
taken-imported-requires g c = record {
  log = c.args.log.now.log;
  given = c.in_ok-posed.ensures.given;
  posed = c.in_ok-posed.ensures.posed;
  variables = c.in_ok-posed.ensures.variables;
}

pub returns-clause-ok : goal.returns-clause-ok
returns-clause-ok g c =
    let bound = g.M.MemoryModel.bound in
    let code = c.args.code.now in
    let log = c.args.log.now.log in
    let posed = c.in_ok-posed.posed in
    is_imported g.M.MemoryModel.ops g.M.MemoryModel.MODEL bound code log c.in_ok-posed.ensures.given posed
    (subst (λ (b : Bool). posed ≡ posed_of b bound code log) g.met.M.MemoryModel.buffered c.in_ok-posed.ensures.posed) c.args.literals.now
    (assigned posed.blasted.clauses.vars c.args.literals.now) refl
    c.in_ok-imported.field-0 c.in_ok-imported.ensures
