use Rattle.std.proofs.Common.{◌≡◌, ◌∙◌, inr, length, rules, sym}
use Rattle.std.specs.Prelude.{◌==◌}
use Rattle.tc_machine.proofs.Exits.{none_is_left}
use Rattle.schedule_replay.proofs.Stuck.{stuck_or_goes_on}
use Rattle.schedule_replay.proofs.replaying.is_stuck.Goals as goal

pub returns-then-all_have_exited : goal.returns-then-all_have_exited
returns-then-all_have_exited g c = inr (none_is_left c.args.state.now (sym c.all_have_exited.ensures ∙ c.if-all_have_exited.true))

pub returns : goal.returns
returns g c =
    let empty : c.is_empty.result ≡ (length c.in_ok-choices.field-0.items == 0) = search rules in
    stuck_or_goes_on g.M.MemoryModel.ops c.args.code.now c.args.state.now c.in_ok-choices.field-0.items c.in_ok-choices.ensures.listed
    c.in_ok-choices.ensures.all c.requires.unfailed (sym c.all_have_exited.ensures ∙ c.if-all_have_exited.false) c.is_empty.result empty
