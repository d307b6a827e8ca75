use Rattle.std.proofs.Common.{arith}
use Rattle.slot_liveness.specs.Tables.{liveness}
use Rattle.certified_logs.proofs.Places.{few_ends, past}
use Rattle.certified_logs.proofs.place.Place.rule_out.Goals as goal

pub overflow_add-next : goal.overflow_add-next
overflow_add-next c =
    let r = c.requires in
    let few = few_ends r.0 (liveness c.args.self.now.live) r.1 c.args.self.now r.3.reached r.2 r.4 in omega (arith, few)

pub returns : goal.returns
returns c = λ code header log at of none. record {
  closed = at.closed;
  reached = past code (liveness c.args.self.now.live) header c.args.self.now at.reached log of none;
}
