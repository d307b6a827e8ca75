use Rattle.std.proofs.Common.{◌≡◌, ◌++◌, map, take}
use Rattle.std.specs.List.{filter}
use Rattle.tc_base.specs.declared.moves.Move.TheVariants.{Drain}
use Rattle.tc_machine.specs.Moves.{move_of, is_enabled}
use Rattle.tc_machine.proofs.listed.push_drains.Given as goal

abbrev pub invariant-loop-form : goal.invariant-loop-form
invariant-loop-form g l =
    map move_of l.found.items
    ≡ map move_of l.initial.found.items ++ filter (is_enabled g.M.MemoryModel.ops l.code l.state) (map (λ f. Drain l.name f) (take l.form-index l.form-items))
