use Rattle.std.proofs.Common.{◌+◌, ◌*◌, length}
use Rattle.mutex_states.specs.Sizes.{last_size, order_size, rank_size, ranks_size, turn_size}
use Rattle.mutex_clauses.proofs.sizes.Counts.states_size.Goals as goal

pub returns : goal.returns
returns c =
    let x = c.args.self in
    let steps = c.args.steps.now in
    let n = length steps in
    let order = order_size x.conjuncts n x.used in
    let turn = turn_size x.cells steps in
    let last = last_size n x.cells x.accesses in
    let ranks = c.sum-ranks.ensures.sum order (ranks_size n) c.order_size.ensures c.ranks_size.ensures in
    let each = c.sum-turn.ensures.sum (rank_size n) turn c.rank_size.ensures c.turn_size.ensures in
    let turns = c.product.ensures.product n (rank_size n + turn) c.product.ensures.first each in
    c.sum-2.ensures.sum (order + ranks_size n) (n * (rank_size n + turn) + last) ranks
    (c.sum.ensures.sum (n * (rank_size n + turn)) last turns c.last_size.ensures)
