use Rattle.std.proofs.Common.{◌==◌, ap, sym, subst, arith, length}
use Rattle.std.specs.List.{IsDistinct}
use Rattle.std.proofs.lemmas.List.FromFn.{length-map-range_with_len}
use Rattle.bit_ranks.specs.Ranks.{rank, bits_of}
use Rattle.bit_ranks.proofs.RankLaws.{ranks-differ}
use Rattle.first_run.proofs.world.world_of.Goals as goal

pub new-requires : goal.new-requires
new-requires c = subst (IsDistinct (λ p q. p == q)) (sym c.in_ok-ranks.ensures) (ranks-differ c.deref.result.now)

pub returns-clause-positions : goal.returns-clause-positions
returns-clause-positions c =
    let bits = c.deref.result.now in
    omega (
      arith,
      ap (λ w. length w.positions) c.new.ensures,
      ap length c.in_ok-ranks.ensures,
      length-map-range_with_len (rank (bits_of bits) (length bits)) 0 (length bits),
      ap length c.deref.ensures.value,
      c.in_ok-times.ensures,
    )
