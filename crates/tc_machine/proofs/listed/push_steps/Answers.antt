use Rattle.std.proofs.Common.{◌++◌, map, ap, ◌∙◌}
use Rattle.std.specs.FinMap as fin
use Rattle.tc_base.specs.declared.moves.Move.TheVariants.{Run, Wake}
use Rattle.tc_machine.specs.Moves.{move_of, is_enabled}
use Rattle.tc_machine.proofs.Listing.{first_only}
use Rattle.tc_machine.proofs.listed.push_steps.Goals as goal

pub returns-else-signals : goal.returns-else-signals
returns-else-signals g c =
    c.in_ok-push_enabled.ensures
    ∙ ap (λ moves. map move_of c.args.found.now.items ++ moves)
    (first_only (is_enabled g.M.MemoryModel.ops c.args.code.now c.args.state.now) (λ u. Wake c.args.name.now u) (fin.keys c.args.state.now.threads)
    (Run c.args.name.now) c.if-signals.ensures)
