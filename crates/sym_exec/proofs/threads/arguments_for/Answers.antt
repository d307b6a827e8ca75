use Rattle.std.proofs.Common.{◌∙◌, ap, sym}
use Rattle.sym_exec.specs.Executed.{arguments_for}
use Rattle.sym_exec.proofs.Courses.{takes_from_parent}
use Rattle.sym_exec.proofs.threads.arguments_for.Goals as goal

pub returns-in-Some : goal.returns-in-Some
returns-in-Some c =
    c.handed_to.ensures ∙ sym (takes_from_parent c.args.courses.now c.in-Some.parent.now c.in-Some.number.now)
    ∙ ap (arguments_for c.args.courses.now) (sym c.in-Some.ensures.cases.0)
