use Rattle.cnf_command.proofs.command.clauses_line.Goals as goal

pub returns : goal.returns
returns c = rw (c.vars.ensures.vars, c.len.ensures.len) at c.count_line.ensures
