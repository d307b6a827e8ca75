use Rattle.certificate_input.proofs.checks.Checks.new.Goals as goal

pub returns-clause-checking : goal.returns-clause-checking
returns-clause-checking c = record { at = c.first.ensures c.args.code.now c.args.header c.in_ok-live.ensures; follows = tt }
