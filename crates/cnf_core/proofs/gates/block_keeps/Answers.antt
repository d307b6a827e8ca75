use Rattle.cnf_core.proofs.GateLaws.{block-keeps}
use Rattle.cnf_core.proofs.gates.block_keeps.Goals as goal

pub returns : goal.returns
returns c = block-keeps
