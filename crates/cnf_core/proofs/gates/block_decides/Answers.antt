use Rattle.cnf_core.proofs.GateLaws.{block-decides}
use Rattle.cnf_core.proofs.gates.block_decides.Goals as goal

pub returns : goal.returns
returns c = block-decides
