use Rattle.std.proofs.Common.{◌≡◌, ◌∙◌, Bool, ap, subst, sym}
use Rattle.std.proofs.lemmas.Result.{err_from_is_err_and}
use Rattle.refute_check.specs.cnf_core.Clauses.{Formula}
use Rattle.refute_check.specs.Refutations.{check}
use Rattle.refute_check.specs.declared.verdict.CheckFault.{CheckFault}
use Rattle.clap_solve.specs.Posed.{Posed, posed_of}
use Rattle.clap_solve.proofs.Posing.{check_cause, own_clauses}
use Rattle.why_impossible.proofs.Rests.{conjuncts_are, formula_there, is_explained}
use Rattle.why_impossible.proofs.explained.checked.Goals as goal

pub explain-requires-clause-checked : goal.explain-requires-clause-checked
explain-requires-clause-checked g c =
    ap (λ (f : Formula). check f c.args.derivation.now) (sym c.clauses.ensures) ∙ sym (c.in_ok-checked.ensures.verdict (λ e. cc))

pub explain-requires-clause-paths : goal.explain-requires-clause-paths
explain-requires-clause-paths g c = ap (λ (p : Posed). p.paths) c.requires.posed

pub explain-requires-clause-conjuncts : goal.explain-requires-clause-conjuncts
explain-requires-clause-conjuncts g c =
    conjuncts_are g.M.MemoryModel.BUFFERED g.M.MemoryModel.bound c.args.code.now c.args.log.now.log c.args.posed.now c.requires.posed

pub explain-requires-clause-there : goal.explain-requires-clause-there
explain-requires-clause-there g c =
    formula_there g.M.MemoryModel.BUFFERED g.M.MemoryModel.bound c.args.code.now c.args.log.now.log c.requires.given c.args.posed.now c.requires.posed

pub returns-clause-ok : goal.returns-clause-ok
returns-clause-ok g c =
    let bound = g.M.MemoryModel.bound in
    let code = c.args.code.now in
    let log = c.args.log.now.log in
    let posed = c.args.posed.now in
    is_explained g.M.MemoryModel.ops g.M.MemoryModel.MODEL bound code log g.met.M.MemoryModel.laws c.requires.given c.args.derivation.now posed
    c.in_ok-explain.field-0 (subst (λ (b : Bool). posed ≡ posed_of b bound code log) g.met.M.MemoryModel.buffered c.requires.posed)
    c.in_ok-explain.ensures

pub returns-in_err-checked-clause-err : goal.returns-in_err-checked-clause-err
returns-in_err-checked-clause-err g c =
    let code = c.args.code.now in
    let log = c.args.log.now.log in
    let lines = c.args.derivation.now in
    let fault : CheckFault = c.in_err-checked.field-0.0 in
    let own = own_clauses g.M.MemoryModel.BUFFERED g.M.MemoryModel.bound code log c.args.posed.now c.clauses.result.now c.clauses.ensures
    c.requires.posed in
    let p = err_from_is_err_and c.from_residual.result c.from_residual.ensures.1 in
    rw (p.1, p.2) (check_cause g.M.MemoryModel.BUFFERED g.M.MemoryModel.bound code log lines c.clauses.result.now own fault c.requires.given.within
    c.in_err-checked.ensures.verdict)

pub returns-in_err-explain-clause-err : goal.returns-in_err-explain-clause-err
returns-in_err-explain-clause-err g c =
    let p = err_from_is_err_and c.from_residual-in_err-explain.result c.from_residual-in_err-explain.ensures.1 in rw (p.1, p.2) tt
