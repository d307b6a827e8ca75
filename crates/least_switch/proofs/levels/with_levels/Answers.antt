use Rattle.std.proofs.Common.{ap, arith, length}
use Rattle.cnf_core.specs.Clauses.{Formula}
use Rattle.bit_order.specs.Layouts.{Layout}
use Rattle.least_switch.proofs.Parts.{levels_few}
use Rattle.least_switch.proofs.levels.with_levels.Goals as goal

pub add_levels-requires-clause-room : goal.add_levels-requires-clause-room
add_levels-requires-clause-room c =
    let parts = c.into_parts-layout.ensures in
    let events = ap (λ (y : Layout). y.order.events) parts.layout in
    let few = levels_few c.into_parts-layout.result.0.order.events c.args.most (omega (arith, events, parts.few)) c.requires.most in
    let vars = ap (λ (f : Formula). f.vars) parts.clauses in
    let clauses = ap (λ (f : Formula). length f.clauses) parts.clauses in
    (omega (arith, few, vars, c.requires.room.0), omega (arith, few, clauses, c.requires.room.1))
