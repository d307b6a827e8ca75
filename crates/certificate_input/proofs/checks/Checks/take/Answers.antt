use Rattle.certificate_input.proofs.checks.Checks.take.Goals as goal

pub take_line-requires : goal.take_line-requires
take_line-requires c = (c.args.code.now, c.requires)
