use Rattle.std.proofs.Common.{arith, ap, sym, ◌≡◌, ◌∙◌, ◌-◌, length, take}
use Rattle.cnf_core.proofs.Pieces.{clauses-kept}
use Rattle.cnf_core.proofs.cnf.Cnf.define.Goals as goal

pub take_back-requires-clause-clauses : goal.take_back-requires-clause-clauses
take_back-requires-clause-clauses c =
    let vars : c.push_all.new.self.vars - 1 ≡ c.args.self.now.vars = omega (arith, c.push_all.ensures.vars, c.add_variable-lit.ensures.vars) in
    let kept : take (length c.args.self.now.clauses) c.push_all.new.self.clauses ≡ c.args.self.now.clauses =
    ap (λ cs. take (length cs) c.push_all.new.self.clauses) (sym c.add_variable-lit.ensures.clauses) ∙ c.push_all.ensures.kept
    ∙ c.add_variable-lit.ensures.clauses
    in
    clauses-kept c.args.self.now.vars _ _ c.args.self.now.clauses _ c.len-len.ensures.clauses kept vars c.len-len.ensures.len
