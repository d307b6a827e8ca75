use Rattle.std.proofs.Common.{◌≡◌, None, ◌∙◌, length, length-take-le, arith}
use Rattle.cdcl_trail.specs.Trail.{pushed}
use Rattle.cdcl_trail.specs.helpers.Layout.{trail_of}
use Rattle.cdcl_trail.proofs.Cuts.{sound_begun, begun_view}
use Rattle.cdcl_trail.proofs.Trails.{lawful}
use Rattle.cdcl_trail.proofs.trail.Trail.decide.Goals as goal

pub invariant_of-self : goal.invariant_of-self
invariant_of-self c =
    let v : trail_of c.self-2.inside ≡ pushed (trail_of c.self.inside) c.args.literal None =
    rw (← c.self.view_is) at (c.self-2.view_is ∙ c.push.ensures.after) in
    let p : c.self.inside.propagated ≡ length (trail_of c.self.inside).literals = rw (← c.self.view_is) at c.requires.propagated in
    let e : c.self.inside.propagated ≡ c.self.inside.len = p
    ∙ length-take-le c.self.inside.len c.self.inside.literals.items (omega (arith, c.self.invariant.len_fits, c.self.invariant.literals_fit)) in
    sound_begun c.self.inside c.self-2.inside c.self.invariant c.self-2.invariant c.args.literal None v e

pub returns-clause-after : goal.returns-clause-after
returns-clause-after c =
    let v : trail_of c.self-2.inside ≡ pushed (trail_of c.self.inside) c.args.literal None =
    rw (← c.self.view_is) at (c.self-2.view_is ∙ c.push.ensures.after) in
    let w = begun_view c.self.inside c.self-2.inside c.self.invariant c.self-2.invariant c.args.literal v in
    cc (w, c.self.view_is)

pub returns-clause-lawful : goal.returns-clause-lawful
returns-clause-lawful c = lawful _ (invariant_of-self c)
