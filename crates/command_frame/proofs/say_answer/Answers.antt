use Rattle.std.proofs.Common.{subst, sym}
use Rattle.command_frame.specs.Answers.{Says}
use Rattle.command_frame.specs.helpers.Failures.{answer_of}
use Rattle.command_frame.proofs.AllRuns.{failure_said}
use Rattle.command_frame.proofs.say_answer.Goals as goal

pub returns-in-Err : goal.returns-in-Err
returns-in-Err g c =
    let meaning = g.C.Command.meaning c.args.command.now in
    let before = g.K.Sink.tells c.args.sink.now in
    let after = g.K.Sink.tells c.say_failure.new.sink in
    subst (λ e. Says meaning (answer_of e) c.say_failure.result before after) (sym c.in-Err.is)
    (failure_said meaning c.in-Err.failure c.say_failure.result before after c.say_failure.ensures)
