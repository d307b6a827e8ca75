use Rattle.store_buffers.specs.Buffers.{buffer_of}
use Rattle.least_switch.specs.clap_solve.Clauses.{bound_of}
use Rattle.least_command.proofs.Below.{has_byte_below}
use Rattle.least_command.proofs.search.search.Goals as goal

pub returns-in-Err-clause-refused : goal.returns-in-Err-clause-refused
returns-in-Err-clause-refused c = c.refuse_built.ensures c.args.code.now c.args.log.now.log c.in-Err.ensures.fault

pub second_text-requires : goal.second_text-requires
second_text-requires c =
    let m = c.args.model in
    has_byte_below (buffer_of m) m (bound_of m) c.args.code.now c.args.log.now.log c.args.budget.conflicts c.in-Ok.least c.in-Ok.ensures.found.is

pub returns-clause-found : goal.returns-clause-found
returns-clause-found c = record { least = c.in-Ok.ensures.found.is; first = c.in_ok-out.ensures; second = c.in_ok-refutation.ensures }
