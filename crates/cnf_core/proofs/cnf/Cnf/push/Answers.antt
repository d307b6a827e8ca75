use Rattle.std.proofs.Common.{arith, ◌≡◌, ◌++◌, ◌∷◌, [], ◌+◌, length}
use Rattle.std.proofs.lemmas.Grind.{common_steps}
use Rattle.cnf_core.proofs.Pieces.{IsLaidOut-push}
use Rattle.cnf_core.proofs.cnf.Cnf.push.Goals as goal

pub invariant_of-self-2 : goal.invariant_of-self-2
invariant_of-self-2 c =
    let e : c.push.new.self.items ≡ c.self.inside.ends.items ++ (length c.self.inside.literals.items + length c.args.clause.now) ∷ [] =
    grind (arith, common_steps) in
    let x : c.extend_from_slice.new.self.items ≡ c.self.inside.literals.items ++ c.args.clause.now = grind (arith, common_steps) in
    let p = IsLaidOut-push c.self.inside _ _ _ _ c.self.view_is c.self.invariant e x c.requires.rises c.requires.within c.requires.room in
    record { ends = p.0; clauses = p.1; few_vars = c.self.invariant.few_vars; few_clauses = p.2 }

pub returns-clause-ok : goal.returns-clause-ok
returns-clause-ok c =
    let e : c.push.new.self.items ≡ c.self.inside.ends.items ++ (length c.self.inside.literals.items + length c.args.clause.now) ∷ [] =
    grind (arith, common_steps) in
    let x : c.extend_from_slice.new.self.items ≡ c.self.inside.literals.items ++ c.args.clause.now = grind (arith, common_steps) in
    let p = IsLaidOut-push c.self.inside _ _ _ _ c.self.view_is c.self.invariant e x c.requires.rises c.requires.within c.requires.room in
    p.3
