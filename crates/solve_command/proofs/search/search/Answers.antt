use Rattle.solve_command.proofs.search.search.Goals as goal

pub returns-in-Err-clause-refused : goal.returns-in-Err-clause-refused
returns-in-Err-clause-refused c = c.refuse_built.ensures c.args.code.now c.args.log.now.log c.in-Err.ensures.fault

pub returns-clause-found : goal.returns-clause-found
returns-clause-found c = record { answer = c.in-Ok.ensures.found.is; text = c.in_ok-text.ensures }
