use Rattle.std.proofs.Common.{arith}
use Rattle.std.proofs.lemmas.Grind.{common_steps}
use Rattle.cnf_core.proofs.Pieces.{lies_at}
use Rattle.cnf_core.proofs.cnf.Cnf.clause.Goals as goal

pub start-requires : goal.start-requires
start-requires c = let p = lies_at c.self.inside _ c.args.place c.self.view_is c.self.invariant c.requires in grind (arith, common_steps, p.there)

pub index-requires : goal.index-requires
index-requires c = let p = lies_at c.self.inside _ c.args.place c.self.view_is c.self.invariant c.requires in grind (arith, common_steps, p.there)

pub piece-requires-clause-ordered : goal.piece-requires-clause-ordered
piece-requires-clause-ordered c = let p = lies_at c.self.inside _ c.args.place c.self.view_is c.self.invariant c.requires
    in grind (arith, common_steps, p.ordered)

pub piece-requires-clause-there : goal.piece-requires-clause-there
piece-requires-clause-there c = let p = lies_at c.self.inside _ c.args.place c.self.view_is c.self.invariant c.requires in grind (arith, common_steps, p.ends)

pub returns-clause-clause : goal.returns-clause-clause
returns-clause-clause c = let p = lies_at c.self.inside _ c.args.place c.self.view_is c.self.invariant c.requires in grind (arith, common_steps, p.clause)

pub returns-clause-rises : goal.returns-clause-rises
returns-clause-rises c = let p = lies_at c.self.inside _ c.args.place c.self.view_is c.self.invariant c.requires in grind (arith, common_steps, p.rises)

pub returns-clause-within : goal.returns-clause-within
returns-clause-within c = let p = lies_at c.self.inside _ c.args.place c.self.view_is c.self.invariant c.requires in grind (arith, common_steps, p.within)
