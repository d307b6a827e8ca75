use Rattle.std.proofs.Common.{◌≡◌, ◌∙◌, subst, arith}
use Rattle.cnf_core.specs.Clauses.{Formula}
use Rattle.cdcl_core.specs.Searches.{Answers, count_of_added, IsSolution}
use Rattle.cdcl_core.specs.declared.progress.Progress.{Progress}
use Rattle.cdcl_core.specs.declared.progress.Progress.TheVariants as answers
use Rattle.cdcl_core.proofs.Searching.{open-searched, not-empty-searched}
use Rattle.cdcl_core.proofs.solve.solve_cnf.Goals as goal

pub returns-in-Sat : goal.returns-in-Sat
returns-in-Sat c =
    let s = c.run.new.self in
    let a : Answers c.in_ok-search.search s c.args.budget (answers.Sat c.in-Sat.assignment) =
    subst (λ (p : Progress). Answers c.in_ok-search.search s c.args.budget p) c.in-Sat.is c.in_ok-assignment.ensures.answers in
    let e : s.formula ≡ c.args.cnf.now = c.run.ensures.goes_on.formula ∙ c.in_ok-search.ensures.formula in
    subst (λ (f : Formula). IsSolution f c.in-Sat.assignment) e (c.run.ensures.lawful.satisfied c.in-Sat.assignment a.0)

pub returns-in-Closed : goal.returns-in-Closed
returns-in-Closed c =
    let s = c.run.new.self in
    let a : Answers c.in_ok-search.search s c.args.budget answers.Closed =
    subst (λ (p : Progress). Answers c.in_ok-search.search s c.args.budget p) c.in-Closed.is c.in_ok-assignment.ensures.answers in
    let e : s.formula ≡ c.args.cnf.now = c.run.ensures.goes_on.formula ∙ c.in_ok-search.ensures.formula in
    rw (c.into_derivation.ensures.lines, ← e) (c.run.ensures.lawful.closed.1 a.0, c.run.ensures.lawful.fresh, c.run.ensures.lawful.few)

pub returns-in-Paused : goal.returns-in-Paused
returns-in-Paused c =
    let s = c.run.new.self in
    let a : Answers c.in_ok-search.search s c.args.budget answers.Paused =
    subst (λ (p : Progress). Answers c.in_ok-search.search s c.args.budget p) c.in-Paused.is c.in_ok-assignment.ensures.answers in
    let e : s.formula ≡ c.args.cnf.now = c.run.ensures.goes_on.formula ∙ c.in_ok-search.ensures.formula in
    let n : count_of_added s.lines ≡ c.args.budget = omega (arith, a.1, c.in_ok-search.ensures.none) in
    rw (c.into_derivation-in-Paused.ensures.lines, ← e) (
      open-searched s c.run.ensures.lawful a.0,
      c.run.ensures.lawful.fresh,
      c.run.ensures.lawful.few,
      n,
      not-empty-searched s c.run.ensures.lawful a.0 ∙ n,
    )
