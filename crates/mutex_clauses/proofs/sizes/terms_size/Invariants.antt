use Rattle.std.proofs.Common.{◌≡◌, sum_by, take}
use Rattle.bit_terms.specs.Sizes.{node_size}
use Rattle.mutex_clauses.specs.helpers.Counted.{counted}
use Rattle.mutex_clauses.proofs.sizes.terms_size.Given as goal

abbrev pub invariant-loop-node : goal.invariant-loop-node
invariant-loop-node l = l.size ≡ counted (sum_by node_size (take l.node-index l.node-items))
