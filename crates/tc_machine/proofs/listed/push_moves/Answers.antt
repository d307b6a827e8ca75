use Rattle.std.proofs.Common.{◌++◌, map, sym, ap, ◌∙◌, append_assoc}
use Rattle.std.specs.List.{filter}
use Rattle.std.proofs.lemmas.List.Elements.{filter-append}
use Rattle.std.proofs.lemmas.Result.{on_ok_weaker}
use Rattle.tc_machine.specs.Moves.{move_of, is_enabled, steps_of, drains_of}
use Rattle.tc_machine.proofs.listed.push_moves.Goals as goal

pub returns : goal.returns
returns g c =
    let p = is_enabled g.M.MemoryModel.ops c.args.code.now c.args.state.now in
    let steps = steps_of g.M.MemoryModel.ops c.args.code.now c.args.state.now c.args.name.now in
    let drains = drains_of g.M.MemoryModel.ops c.args.code.now c.args.state.now c.args.name.now in
    on_ok_weaker c.push_drains.result
    (λ e. e ∙ ap (λ ms. ms ++ filter p drains) c.in_ok-push_steps.ensures
    ∙ append_assoc (map move_of c.args.found.now.items) (filter p steps) (filter p drains)
    ∙ ap (λ ms. map move_of c.args.found.now.items ++ ms) (sym (filter-append p steps drains))) c.push_drains.ensures
