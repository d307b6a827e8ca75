use Rattle.std.proofs.Common.{◌∙◌, ap, sym}
use Rattle.std.proofs.lemmas.Bool.{false≢true}
use Rattle.tc_machine.specs.Why.{reason_of}
use Rattle.tc_machine.proofs.Reasons.{disabled_with_reason}
use Rattle.tc_machine.proofs.machine.step.Goals as goal

pub unreachable-requires : goal.unreachable-requires
unreachable-requires g c =
    let why = c.in-Err-NotEnabled.ensures.why ∙ ap reason_of c.in-Err-NotEnabled.field-0-is in
    false≢true (sym (disabled_with_reason g.M.MemoryModel.ops c.args.code.now c.args.state.now c.args.m.now c.in-Err-NotEnabled.field-0-0 why)
    ∙ c.requires.enabled)
