use Rattle.memory_order.proofs.Exact.{of_formula, own_group}
use Rattle.memory_order.proofs.laws.own_conjuncts_have_their_group.Goals as goal

pub returns : goal.returns
returns c buffered bound paths symbolic nodes x there =
    own_group buffered bound paths symbolic nodes x (of_formula buffered bound paths symbolic nodes x there)
