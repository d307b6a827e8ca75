use Rattle.std.proofs.Common.{◌++◌, map, None, ap, ◌∙◌}
use Rattle.std.specs.List.{filter}
use Rattle.std.proofs.lemmas.List.{take_all}
use Rattle.tc_base.specs.declared.moves.Move.TheVariants.{Drain}
use Rattle.tc_machine.specs.Moves.{move_of, is_enabled}
use Rattle.tc_machine.proofs.Listing.{listed_next, enabled_drains}
use Rattle.tc_machine.proofs.listed.push_drains.Goals as goal

pub loop-form-preserved : goal.loop-form-preserved
loop-form-preserved g c =
    listed_next (is_enabled g.M.MemoryModel.ops c.args.code.now c.args.state.now) (λ f. Drain c.args.name.now f) c.as_slice-form-items.result.now
    c.loop-form.form-index None (map move_of c.args.found.now.items) (map move_of c.loop-form.found.items) (map move_of c.push_enabled.new.found.items)
    c.loop-form-test.true c.loop-form.invariant c.in_ok-push_enabled.ensures

pub returns : goal.returns
returns g c =
    let p = is_enabled g.M.MemoryModel.ops c.args.code.now c.args.state.now in
    let found = map move_of c.args.found.now.items in
    c.loop-form.invariant
    ∙ ap (λ fs. found ++ filter p (map (λ f. Drain c.args.name.now f) fs))
    (take_all c.loop-form.form-index c.as_slice-form-items.result.now c.loop-form-test.false ∙ c.as_slice-form-items.ensures.value)
    ∙ ap (λ ms. found ++ ms)
    (enabled_drains g.M.MemoryModel.ops _ _ g.met.M.MemoryModel.laws c.args.code.now c.recall_lawful.ensures c.args.state.now c.requires.reached
    c.args.name.now c.args.thread.now c.in_ok-forms.forms.items c.requires.there c.in_ok-forms.ensures)
