use Rattle.std.proofs.Common.{◌≡◌, [], map, take}
use Rattle.std.specs.Prelude.{filter, fold}
use Rattle.indexmap.specs.IndexSet.{insert_key}
use Rattle.mutex_states.specs.Steps.{same_shape}
use Rattle.mutex_clauses.proofs.shapes.shapes.shapes_of.Given as goal

abbrev pub invariant-loop-step : goal.invariant-loop-step
invariant-loop-step l =
    l.shapes.items ≡ fold (insert_key same_shape) [] (map (λ s. s.shape) (filter (λ s. s.is_closed) (take l.step-index l.steps)))
