use Rattle.std.proofs.Common.{◌∙◌, [], subst, sym}
use Rattle.command_inputs.specs.path_log.Texts.{IsLog}
use Rattle.command_inputs.specs.tc_compile.Programs.{IsCodeOf}
use Rattle.refutation_input.specs.helpers.Incoming.{IsRead}
use Rattle.check_command.proofs.command.CheckWorkInPieces.begin.Goals as goal

pub returns-in-Ok : goal.returns-in-Ok
returns-in-Ok c =
    let log = c.args.bytes.now.1.items in
    let programs = subst (λ p. IsCodeOf p c.in-Ok.code) (c.deref.ensures.value ∙ sym c.deref-in-Ok.ensures.value) c.in-Ok.ensures.code in
    let logs = subst (λ l. IsLog l c.in-Ok.log) c.deref-2.ensures.value c.in-Ok.ensures.log in
    subst (λ p. IsRead p log c.new.result []) c.deref-in-Ok.ensures.value (c.new.ensures log programs logs)
