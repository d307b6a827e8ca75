use Rattle.std.proofs.Common.{ap, arith, length}
use Rattle.test_circuits.proofs.Sizes.{unary_most, binary_most}
use Rattle.test_circuits.proofs.Op.circuit.Goals as goal

pub unary-requires-clause-room : goal.unary-requires-clause-room
unary-requires-clause-room c =
    let few = unary_most c.in-Unary.op in
    (omega (arith, few, c.in_ok-circuit.ensures.vars), omega (arith, few, ap length c.in_ok-circuit.ensures.clauses))

pub binary-requires-clause-room : goal.binary-requires-clause-room
binary-requires-clause-room c =
    let few = binary_most c.in-Binary.op in
    (omega (arith, few, c.in_ok-circuit.ensures.vars), omega (arith, few, ap length c.in_ok-circuit.ensures.clauses))
