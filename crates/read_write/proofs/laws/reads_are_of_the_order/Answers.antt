use Rattle.read_write.proofs.Differ.{reads_differ}
use Rattle.read_write.proofs.Terms.{formula_is_in}
use Rattle.read_write.proofs.laws.reads_are_of_the_order.Goals as goal

pub returns-clause-within : goal.returns-clause-within
returns-clause-within c = formula_is_in

pub returns-clause-differ : goal.returns-clause-differ
returns-clause-differ c code paths symbolic nodes x r executed i is = reads_differ code paths symbolic nodes executed x r i is
