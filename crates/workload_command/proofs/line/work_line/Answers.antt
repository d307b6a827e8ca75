use Rattle.workload_command.proofs.line.work_line.Goals as goal

pub returns : goal.returns
returns c = rw (c.in_ok-tso.ensures, c.in_ok-sc.ensures) at c.format.ensures.ok
