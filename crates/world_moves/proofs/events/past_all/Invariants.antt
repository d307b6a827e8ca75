use Rattle.std.proofs.Common.{◌≡◌, ◌+◌, fold, take}
use Rattle.std.specs.Prelude.{max}
use Rattle.world_moves.proofs.events.past_all.Given as goal

abbrev pub invariant-loop-position : goal.invariant-loop-position
invariant-loop-position l = record {
  past : l.past ≡ fold (λ n p. max n (p + 1)) 0 (take l.position-index l.world.positions);
}
