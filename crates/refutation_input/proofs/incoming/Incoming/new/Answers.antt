use Rattle.refutation_input.proofs.Stages.{first_read}
use Rattle.refutation_input.proofs.incoming.Incoming.new.Goals as goal

pub returns : goal.returns
returns c = λ bytes programs logs.
    first_read c.args.program.now bytes c.args.code c.args.log c.new.result c.new-stage.result c.new.ensures programs logs c.new-stage.ensures
