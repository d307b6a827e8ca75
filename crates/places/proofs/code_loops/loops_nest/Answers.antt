use Rattle.places.proofs.code_loops.Nesting.{inside_or_apart}
use Rattle.places.proofs.code_loops.Programs.{program_nests}
use Rattle.places.proofs.code_loops.loops_nest.Goals as goal

pub returns-clause-entered : goal.returns-clause-entered
returns-clause-entered c = program_nests

pub returns-clause-nested : goal.returns-clause-nested
returns-clause-nested c = inside_or_apart
