use Rattle.std.proofs.Common.{◌≡◌, ℕ, List, Bool, true, false, get_or, inl, inr, sym, subst, arith}
use Rattle.std.proofs.lemmas.Bool.{cases_lt}
use Rattle.cdcl_clauses.specs.Clauses.{at}
use Rattle.cdcl_core.proofs.Dropping.{marked-by}
use Rattle.cdcl_core.proofs.state.State.first_to_go.Goals as goal

pub loop-number-preserved : goal.loop-number-preserved
loop-number-preserved c = λ k g kl e.
    let s = c.args.self.now in
    let marks : List Bool = c.args.reasons.now.items in
    let x : ℕ = c.new-clause.result in
    elim (cases_lt k c.loop-number.number) [
      | inl d ↦ c.loop-number.invariant k g d e
      | inr d ↦
          let z : k ≡ x = omega (arith, c.new-clause.ensures) in
          subst (λ (j : ℕ). get_or marks j false ≡ true) (sym z)
          (marked-by s marks x c.may_go.result c.may_go.ensures.exactly c.if-may_go.false (subst (λ (j : ℕ). (at s.clauses j).kept ≡ true) z e))
    ]
