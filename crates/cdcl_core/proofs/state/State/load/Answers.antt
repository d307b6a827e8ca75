use Rattle.std.proofs.Common.{◌≡◌, ◌≢◌, ◌∙◌, ◌*◌, ◌<◌, [], ℕ, List, ℤ, ap, sym, refl, subst}
use Rattle.std.specs.Prelude.{All}
use Rattle.std.proofs.lemmas.Result.{on_ok_weaker}
use Rattle.cdcl_lines.specs.Literals.{clause_of, Rise}
use Rattle.cdcl_core.proofs.Starting.{loaded-more, load-one, may-be-loaded}
use Rattle.cdcl_core.proofs.state.State.load.Goals as goal

pub load_clause-requires-clause-literals : goal.load_clause-requires-clause-literals
load_clause-requires-clause-literals c =
    let s = c.args.self.now in
    let z : List ℤ = c.clause.result.now in
    let v = c.as_slice.ensures.value in
    let some : z ≢ [] = rw c.clause.ensures.clause at (c.requires.literals c.args.place) in
    let ls : List ℕ = c.in_ok-literals.literals.items in
    let w : All (λ l. l < 2 * s.formula.vars) ls = c.in_ok-literals.ensures.within s.formula.vars c.clause.ensures.within in
    let r : Rise ls = c.in_ok-literals.ensures.rise c.clause.ensures.rises in
    rw v (may-be-loaded s.trail.variables s.formula.vars ls z c.requires.loaded.variables c.in_ok-literals.ensures.clause some r w)

pub returns-clause-loaded : goal.returns-clause-loaded
returns-clause-loaded c =
    let s = c.args.self.now in
    let v = c.as_slice.ensures.value in
    let ls : List ℕ = c.in_ok-literals.literals.items in
    let e : clause_of c.as_slice.result.now ≡ c.clause.result.now = ap clause_of v ∙ c.in_ok-literals.ensures.clause in
    let r : Rise c.as_slice.result.now = subst (λ (xs : List ℕ). Rise xs) (sym v) (c.in_ok-literals.ensures.rise c.clause.ensures.rises) in
    on_ok_weaker c.load_clause.result
    (λ w. loaded-more s _ c.args.place c.as_slice.result.now c.clause.result.now c.requires.loaded c.requires.place c.clause.ensures.clause e r refl refl
    refl refl refl c.load_clause.ensures.variables c.load_clause.ensures.sound c.load_clause.ensures.start w)
    c.load_clause.ensures.clauses

pub returns-clause-one : goal.returns-clause-one
returns-clause-one c =
    load-one c.args.self.now _ c.load_clause.result c.args.place c.as_slice.result.now (sym c.requires.loaded.count) c.load_clause.ensures.clauses
    c.load_clause.ensures.longer c.load_clause.ensures.loads
