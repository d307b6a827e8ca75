use Rattle.std.proofs.Common.{◌<◌, ◌≤◌, length}
use Rattle.std.specs.Prelude.{All}
use Rattle.cdcl_core.specs.helpers.States.{MayAllGo}
use Rattle.cdcl_core.proofs.state.State.choose_half.Given as goal

abbrev pub invariant-loop-number : goal.invariant-loop-number
invariant-loop-number l = record {
  may : MayAllGo l.self l.chosen.items;
  below : All (λ k. k < l.number) l.chosen.items;
  few : length l.chosen.items ≤ l.most;
}
