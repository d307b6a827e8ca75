use Rattle.std.proofs.Common.{◌≡◌, ◌-◌, drop, length}
use Rattle.path_walk.specs.Steps.{places_from, end_from}
use Rattle.path_walk.specs.helpers.Accounts.{prefixed}
use Rattle.path_walk.proofs.follow.steps.Given as goal

abbrev pub invariant-loop-step : goal.invariant-loop-step
invariant-loop-step l = record {
  told : prefixed l.places.items (places_from l.code l.function (l.path.path.steps - l.step) l.at.place (drop l.at.used l.outcomes))
      ≡ places_from l.code l.function l.path.path.steps 0 l.path.path.outcomes;
  end : end_from l.code l.function (l.path.path.steps - l.step) l.at.place (drop l.at.used l.outcomes)
      ≡ end_from l.code l.function l.path.path.steps 0 l.path.path.outcomes;
  count : length l.places.items ≡ l.step;
}
