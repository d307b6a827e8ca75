use Rattle.std.proofs.Common.{◌≡◌, drop}
use Rattle.sym_exec.specs.Executed.{handed_to}
use Rattle.sym_exec.proofs.threads.handed_to.Given as goal

-- the first course with the parent's name is among those left
abbrev pub invariant-loop-course : goal.invariant-loop-course
invariant-loop-course l = handed_to (drop l.course-index l.courses) l.parent l.number ≡ handed_to l.courses l.parent l.number
