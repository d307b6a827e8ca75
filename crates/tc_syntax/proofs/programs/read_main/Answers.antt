use Rattle.tc_syntax.proofs.Chains.{no_main}
use Rattle.tc_syntax.proofs.programs.read_main.Goals as goal

pub returns-in-None : goal.returns-in-None
returns-in-None c = λ s. no_main c.args.words.now c.requires c.in-None.ensures s
