use Rattle.std.proofs.Common.{◌∙◌}
use Rattle.cdcl_trail.proofs.Trails.{known_at}
use Rattle.cdcl_trail.proofs.trail.Trail.place.Goals as goal

pub returns-clause-within : goal.returns-clause-within
returns-clause-within c = (known_at c.self.inside c.self.invariant c.args.self.now c.self.view_is c.args.literal c.index.result c.index-2.result.now
    (c.index.ensures.index ∙ c.variable.ensures) c.requires.within c.requires.there c.index-2.ensures).0

pub returns-clause-there : goal.returns-clause-there
returns-clause-there c = (known_at c.self.inside c.self.invariant c.args.self.now c.self.view_is c.args.literal c.index.result c.index-2.result.now
    (c.index.ensures.index ∙ c.variable.ensures) c.requires.within c.requires.there c.index-2.ensures).1
