use Rattle.std.proofs.Common.{◌≡◌, Bool, ap, subst}
use Rattle.cnf_core.specs.Clauses.{Formula}
use Rattle.cdcl_core.specs.Solving.{IsAnswerOn}
use Rattle.clap_solve.specs.Posed.{Posed, posed_of}
use Rattle.clap_solve.specs.helpers.Searched.{IsScheduled}
use Rattle.clap_solve.proofs.Answered.{is_solved}
use Rattle.clap_solve.proofs.solving.solve.Goals as goal

pub searched-answer-requires-clause-posed : goal.searched-answer-requires-clause-posed
searched-answer-requires-clause-posed g c = record {
  log = c.args.log.now.log;
  given = c.in_ok-posed.ensures.given;
  posed = c.in_ok-posed.ensures.posed;
  variables = c.in_ok-posed.ensures.variables;
}

pub returns-clause-ok : goal.returns-clause-ok
returns-clause-ok g c =
    let ops = g.M.MemoryModel.ops in
    let model = g.M.MemoryModel.MODEL in
    let bound = g.M.MemoryModel.bound in
    let code = c.args.code.now in
    let log = c.args.log.now.log in
    let posed = c.in_ok-posed.posed in
    let answer = c.in_ok-answer.field-0 in
    let by = subst (λ (b : Bool). posed ≡ posed_of b bound code log) g.met.M.MemoryModel.buffered c.in_ok-posed.ensures.posed in
    is_solved ops model bound code log g.met.M.MemoryModel.laws c.in_ok-posed.ensures.given posed by c.args.budget answer
    (subst (λ (f : Formula). IsAnswerOn f c.args.budget (IsScheduled ops code posed model) answer) (ap (λ (q : Posed). q.blasted.clauses) by)
    c.in_ok-answer.ensures)
