use Rattle.std.proofs.Common.{◌≡◌, ◌∙◌, ◌*◌, [], ℕ, ◌<◌, ap, refl, subst, replicate}
use Rattle.cnf_core.specs.declared.cnf.TheConstants.{LIMIT}
use Rattle.cdcl_trail.specs.Trail.{empty}
use Rattle.cdcl_core.proofs.Starting.{start-loaded}
use Rattle.cdcl_core.proofs.state.State.before_clauses.Goals as goal

pub returns-clause-loaded : goal.returns-clause-loaded
returns-clause-loaded c =
    let e : c.vars-variables.result ≡ c.args.formula.vars = c.vars-variables.ensures.vars in
    start-loaded _ c.args.formula c.in_ok-trail.ensures.lawful (c.in_ok-trail.ensures.empty ∙ ap empty e) c.new-4.ensures
    (c.in_ok-watches.ensures ∙ ap (λ (n : ℕ). replicate (2 * n) []) e) (c.in_ok-activity.ensures ∙ e) refl
    (subst (λ (n : ℕ). n < LIMIT) e c.vars-variables.ensures.limit)
    (subst (λ (n : ℕ). n < LIMIT) c.len-len.ensures.len c.len-len.ensures.limit) c.new-5.ensures refl refl
