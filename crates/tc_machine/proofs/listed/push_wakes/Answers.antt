use Rattle.std.proofs.Common.{◌++◌, map, ap, ◌∙◌}
use Rattle.std.specs.List.{filter}
use Rattle.std.proofs.lemmas.List.{take_all}
use Rattle.tc_base.specs.declared.moves.Move.TheVariants.{Wake}
use Rattle.tc_machine.specs.Moves.{move_of, is_enabled}
use Rattle.tc_machine.proofs.Listing.{listed_more}
use Rattle.tc_machine.proofs.listed.push_wakes.Goals as goal

pub loop-waiter-preserved : goal.loop-waiter-preserved
loop-waiter-preserved g c =
    listed_more (is_enabled g.M.MemoryModel.ops c.args.code.now c.args.state.now)
    (λ u. Wake c.args.name.now u) c.as_slice-waiter-items.result.now c.loop-waiter.waiter-index c.waiter-item.result
    (map move_of c.args.found.now.items) (map move_of c.loop-waiter.found.items) (map move_of c.push_enabled.new.found.items)
    c.loop-waiter-test.true c.waiter-item.is c.loop-waiter.invariant c.in_ok-push_enabled.ensures

pub returns : goal.returns
returns g c =
    c.loop-waiter.invariant
    ∙ ap (λ names. map move_of c.args.found.now.items ++ filter (is_enabled g.M.MemoryModel.ops c.args.code.now c.args.state.now)
    (map (λ u. Wake c.args.name.now u) names))
    (take_all c.loop-waiter.waiter-index c.as_slice-waiter-items.result.now c.loop-waiter-test.false ∙ c.as_slice-waiter-items.ensures ∙ c.threads.ensures)
