use Rattle.std.proofs.Common.{◌≡◌, take, map, [], ◌∷◌}
use Rattle.order_formula.specs.declared.literal.Atom.TheVariants.{Ends}
use Rattle.condition_order.specs.Conditions.{holds}
use Rattle.condition_order.proofs.wait.Wait.ended.Given as goal

abbrev pub invariant-loop-ender : goal.invariant-loop-ender
invariant-loop-ender l = l.cases.items ≡ map (λ g. holds (Ends l.self.sleep g.event) ∷ []) (take l.ender-index l.enders)
