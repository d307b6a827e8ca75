use Rattle.std.proofs.Common.{◌≡◌, [], ◌∷◌, map, take}
use Rattle.order_events.proofs.formula.one_of.Given as goal

abbrev pub invariant-loop-literal : goal.invariant-loop-literal
invariant-loop-literal l = l.cases.items ≡ map (λ x. x ∷ []) (take l.literal-index l.literals)
