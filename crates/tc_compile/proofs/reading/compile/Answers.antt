use Rattle.std.proofs.Common.{◌≤◌, length, arith}
use Rattle.tc_parser.specs.tc_tree.Grammar.{program_words}
use Rattle.tc_parser.specs.tc_tree.Seen.{program_of}
use Rattle.tc_parser.proofs.Programs.{few_words}
use Rattle.tc_parser.proofs.Words.{has_ints}
use Rattle.tc_compile.specs.Programs.{language}
use Rattle.tc_compile.proofs.reading.compile.Goals as goal

pub lower-requires-clause-few : goal.lower-requires-clause-few
lower-requires-clause-few c =
    let is = c.in_ok-tree.ensures.found.1 in
    let few : length (program_words (program_of c.in_ok-tree.tree.program)) ≤ length c.args.text.now =
    few_words language c.args.text.now is.tokens (program_of c.in_ok-tree.tree.program) is.read is.are_of.spelled in
    omega (arith, few, c.requires)

pub lower-requires-clause-ints : goal.lower-requires-clause-ints
lower-requires-clause-ints c = has_ints language c.args.text.now (program_of c.in_ok-tree.tree.program) c.in_ok-tree.ensures.found.1
