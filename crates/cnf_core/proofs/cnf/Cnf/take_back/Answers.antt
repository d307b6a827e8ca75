use Rattle.std.proofs.Common.{arith, ap, ◌≡◌, ◌∙◌, take, get_or, ◌∷◌, ◌-◌, length}
use Rattle.std.proofs.lemmas.Grind.{common_steps}
use Rattle.cnf_core.specs.Clauses.{Formula}
use Rattle.cnf_core.proofs.Pieces.{IsLaidOut-take, length-pieces}
use Rattle.cnf_core.proofs.cnf.Cnf.take_back.Goals as goal

pub start-requires : goal.start-requires
start-requires c = omega (
  arith,
  c.requires.len,
  ap length c.deref.ensures.value,
  length-pieces 0 c.self.inside.ends.items c.self.inside.literals.items,
  ap (λ (f : Formula). length f.clauses) c.self.view_is,
)

pub invariant_of-self : goal.invariant_of-self
invariant_of-self c =
    let cut : c.start.result ≡ get_or (0 ∷ c.self.inside.ends.items) c.args.len 0 = grind (arith, common_steps) in
    let p = IsLaidOut-take c.self.inside _ c.args.len (c.self.inside.vars - 1) _ _ c.self.view_is c.self.invariant c.requires.len
    c.truncate-2.ensures.items (c.truncate.ensures.items ∙ ap (λ n. take n c.self.inside.literals.items) cut)
    (grind (arith, c.requires.clauses, ap (λ (f : Formula). f.vars) c.self.view_is)) in
    record { ends = p.0; clauses = p.1; few_vars = omega (arith, c.self.invariant.few_vars); few_clauses = p.2 }

pub returns-clause-clauses : goal.returns-clause-clauses
returns-clause-clauses c =
    let cut : c.start.result ≡ get_or (0 ∷ c.self.inside.ends.items) c.args.len 0 = grind (arith, common_steps) in
    let p = IsLaidOut-take c.self.inside _ c.args.len (c.self.inside.vars - 1) _ _ c.self.view_is c.self.invariant c.requires.len
    c.truncate-2.ensures.items (c.truncate.ensures.items ∙ ap (λ n. take n c.self.inside.literals.items) cut)
    (grind (arith, c.requires.clauses, ap (λ (f : Formula). f.vars) c.self.view_is)) in
    p.3
