use Rattle.std.proofs.Common.{◌==◌, sym, subst}
use Rattle.std.specs.List.{IsDistinct}
use Rattle.bit_ranks.proofs.RankLaws.{ranks-differ}
use Rattle.test_orders.proofs.worlds.world_of.Goals as goal

pub new-requires : goal.new-requires
new-requires c = subst (IsDistinct (λ p q. p == q)) (sym c.in_ok-ranks.ensures) (ranks-differ c.args.places.now)
