use Rattle.std.proofs.Common.{◌≡◌, false, take}
use Rattle.std.specs.List.{enumerate_from, list_any}
use Rattle.order_formula.specs.Worlds.{is_ended}
use Rattle.world_moves.proofs.events.sleeper_of.Given as goal

abbrev pub invariant-loop-number : goal.invariant-loop-number
invariant-loop-number l = record {
  none : list_any (λ s. is_ended l.world s.0 l.event) (take l.number (enumerate_from 0 l.sleeps)) ≡ false;
}
