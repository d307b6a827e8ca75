use Rattle.std.proofs.Common.{◌≡◌, ◌++◌, map, take}
use Rattle.std.specs.List.{filter}
use Rattle.tc_base.specs.declared.moves.Move.TheVariants.{Wake}
use Rattle.tc_machine.specs.Moves.{move_of, is_enabled}
use Rattle.tc_machine.proofs.listed.push_wakes.Given as goal

abbrev pub invariant-loop-waiter : goal.invariant-loop-waiter
invariant-loop-waiter g l =
    map move_of l.found.items ≡ map move_of l.initial.found.items ++ filter (is_enabled g.M.MemoryModel.ops l.code l.state)
    (map (λ u. Wake l.name u) (take l.waiter-index l.waiter-items))
