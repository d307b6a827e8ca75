use Rattle.tc_lower.proofs.Ints.{program_ints}
use Rattle.tc_lower.proofs.Programs.{program_is_lawful}
use Rattle.tc_lower.proofs.law.code_is_lawful.Goals as goal

pub returns : goal.returns
returns c source p few ints = program_is_lawful source p few (program_ints p ints)
