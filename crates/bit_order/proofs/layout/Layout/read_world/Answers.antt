use Rattle.std.proofs.Common.{◌==◌, ap, sym, subst, arith, length}
use Rattle.std.specs.List.{IsDistinct}
use Rattle.std.proofs.lemmas.List.FromFn.{length-map-range_with_len}
use Rattle.cnf_core.specs.Clauses.{value_in}
use Rattle.bit_words.specs.Laws.{value}
use Rattle.bit_ranks.proofs.RankLaws.{ranks-differ}
use Rattle.bit_order.specs.Layouts.{position_word}
use Rattle.bit_order.proofs.layout.Layout.read_world.Goals as goal

pub ranks-requires : goal.ranks-requires
ranks-requires c =
    omega (
      arith,
      ap length c.deref.ensures.value,
      ap length c.in_ok-bits.ensures,
      c.requires.few,
      length-map-range_with_len (λ event. value (value_in c.args.assignment.now) (position_word event)) 0 c.args.self.now.order.events,
    )

pub new-requires : goal.new-requires
new-requires c = subst (IsDistinct (λ p q. p == q)) (sym c.in_ok-ranks.ensures) (ranks-differ c.deref.result.now)
