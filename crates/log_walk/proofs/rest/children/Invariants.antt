use Rattle.std.proofs.Common.{◌≡◌, ◌++◌, drop, option_map}
use Rattle.log_walk.specs.Rest.{children_from}
use Rattle.log_walk.proofs.rest.children.Given as goal

abbrev pub invariant-loop-place : goal.invariant-loop-place
invariant-loop-place l =
    l.children.items ++ children_from l.kind l.name (option_map (λ i. i.now) l.at) l.told l.place (drop l.place l.told.created) ≡ children_from l.kind l.name (option_map (λ i. i.now) l.at) l.told 0 l.told.created
