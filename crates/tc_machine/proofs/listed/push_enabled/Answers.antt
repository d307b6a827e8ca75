use Rattle.std.proofs.Common.{◌++◌, ◌∷◌, [], cond, map, sym, ap, ◌∙◌}
use Rattle.std.proofs.lemmas.List.{append-nil, map-append}
use Rattle.tc_machine.specs.Moves.{move_of}
use Rattle.tc_machine.proofs.Reasons.{enabled_without_reason, disabled_with_reason}
use Rattle.tc_machine.proofs.listed.push_enabled.Goals as goal

pub returns-in_ok-push-in-Ok : goal.returns-in_ok-push-in-Ok
returns-in_ok-push-in-Ok g c =
    let found = map move_of c.args.found.now.items in
    ap (map move_of) c.in_ok-push-in-Ok.ensures.items
    ∙ map-append move_of c.args.found.now.items (c.args.choice ∷ [])
    ∙ sym (ap (λ b. found ++ cond b (move_of c.args.choice ∷ []) [])
    (enabled_without_reason g.M.MemoryModel.ops c.args.code.now c.args.state.now (move_of c.args.choice) c.in-Ok.ensures))

pub returns-in-Err : goal.returns-in-Err
returns-in-Err g c =
    let found = map move_of c.args.found.now.items in
    sym (ap (λ b. found ++ cond b (move_of c.args.choice ∷ []) [])
    (disabled_with_reason g.M.MemoryModel.ops c.args.code.now c.args.state.now (move_of c.args.choice) c.in-Err.field-0 c.in-Err.ensures) ∙ append-nil found)
