use Rattle.std.proofs.Common.{◌<◌, ◌*◌, length, arith}
use Rattle.cdcl_trail.specs.Trail.{IsOpen}
use Rattle.cdcl_trail.specs.helpers.Layout.{trail_of}
use Rattle.cdcl_trail.proofs.Trails.{room, sound_pushed, pushed_view}
use Rattle.cdcl_trail.proofs.Trails.{lawful}
use Rattle.cdcl_trail.proofs.trail.Trail.push.Goals as goal

pub index_mut-requires-4 : goal.index_mut-requires-4
index_mut-requires-4 c =
    let w : c.args.literal < 2 * length c.self.inside.places.items = rw (← c.self.view_is) at c.requires.within in
    let o : IsOpen (trail_of c.self.inside) c.args.literal = rw (← c.self.view_is) at c.requires.open in
    omega (arith, room c.self.inside c.self.invariant c.args.literal w o)

pub index_mut-requires-5 : goal.index_mut-requires-5
index_mut-requires-5 c =
    let w : c.args.literal < 2 * length c.self.inside.places.items = rw (← c.self.view_is) at c.requires.within in
    let o : IsOpen (trail_of c.self.inside) c.args.literal = rw (← c.self.view_is) at c.requires.open in
    omega (arith, room c.self.inside c.self.invariant c.args.literal w o)

pub invariant_of-self : goal.invariant_of-self
invariant_of-self c =
    let w : c.args.literal < 2 * length c.self.inside.places.items = rw (← c.self.view_is) at c.requires.within in
    let o : IsOpen (trail_of c.self.inside) c.args.literal = rw (← c.self.view_is) at c.requires.open in
    rw (c.index.ensures.index, c.index-2.ensures.index, c.index-3.ensures.index)
    (sound_pushed c.self.inside c.self.invariant c.args.literal c.opposite.result c.variable.result c.args.reason c.opposite.ensures c.variable.ensures w o)

pub returns-clause-after : goal.returns-clause-after
returns-clause-after c =
    let w : c.args.literal < 2 * length c.self.inside.places.items = rw (← c.self.view_is) at c.requires.within in
    let o : IsOpen (trail_of c.self.inside) c.args.literal = rw (← c.self.view_is) at c.requires.open in
    let v = pushed_view c.self.inside c.self.invariant c.args.literal c.opposite.result c.variable.result c.args.reason w o in
    cc (v, c.self.view_is)

pub returns-clause-lawful : goal.returns-clause-lawful
returns-clause-lawful c = lawful _ (invariant_of-self c)
