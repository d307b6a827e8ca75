use Rattle.import_command.proofs.imported.import_under.Goals as goal

pub returns-in-Err-clause-refused : goal.returns-in-Err-clause-refused
returns-in-Err-clause-refused c = c.refuse_built.ensures c.args.code.now c.args.log.now.log c.in-Err.ensures.fault
