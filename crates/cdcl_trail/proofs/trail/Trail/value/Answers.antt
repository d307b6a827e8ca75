use Rattle.std.proofs.Common.{◌≡◌, sym, ◌<◌, ◌*◌, length, get_or, arith}
use Rattle.std.proofs.lemmas.List.{get_or_read}
use Rattle.cdcl_trail.specs.declared.trail.Value.TheVariants.{Open}
use Rattle.cdcl_trail.proofs.Trails.{tells}
use Rattle.cdcl_trail.proofs.trail.Trail.value.Goals as goal

pub returns : goal.returns
returns c =
    rw (← c.self.view_is) (
    let w : c.args.literal < 2 * length c.self.inside.places.items = rw (← c.self.view_is) at c.requires in
    let read : c.index-2.result.now ≡ get_or c.self.inside.values.items c.args.literal c.index-2.result.now = rw c.index.ensures.index at c.index-2.ensures in
    tells c.self.inside c.self.invariant c.args.literal w c.index-2.result.now
    (sym (get_or_read c.self.inside.values.items c.args.literal c.index-2.result.now (omega arith) read Open)))
