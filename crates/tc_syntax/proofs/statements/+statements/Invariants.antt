use Rattle.std.proofs.Common.{◌+◌, ◌*◌, length, map}
use Rattle.tc_tree.specs.Grammar.{statements_then, AreWell}
use Rattle.tc_tree.specs.Seen.{branch_of}
use Rattle.tc_syntax.specs.helpers.Reading.{Statements, Alternative}
use Rattle.tc_tree.specs.helpers.Parts.{statements_seen}
use Rattle.tc_syntax.specs.helpers.Read.{IsPassed}
use Rattle.tc_syntax.proofs.Chains.{chain_then, AreWellBranches}
use Rattle.tc_syntax.proofs.statements.+statements.Given as goal

abbrev pub decreases-read_statements : goal.decreases-read_statements
decreases-read_statements l = 4 * length l.words.now + 1

abbrev pub decreases-read_statement : goal.decreases-read_statement
decreases-read_statement l = 4 * length l.words.now

abbrev pub decreases-read_while : goal.decreases-read_while
decreases-read_while l = 4 * length l.words.now + 3

abbrev pub decreases-read_if : goal.decreases-read_if
decreases-read_if l = 4 * length l.words.now + 3

abbrev pub decreases-read_otherwise : goal.decreases-read_otherwise
decreases-read_otherwise l = 4 * length l.words.now + 2

abbrev pub decreases-read_branch : goal.decreases-read_branch
decreases-read_branch l = 4 * length l.words.now + 2

abbrev pub decreases-read_block : goal.decreases-read_block
decreases-read_block l = 4 * length l.words.now + 2

-- the statements read so far and the remaining words
abbrev pub invariant-read_statements-loop-alloc : goal.invariant-read_statements-loop-alloc
invariant-read_statements-loop-alloc l = IsPassed statements_then AreWell Statements Statements l.words (statements_seen l.found.items) l.rest

abbrev pub decreases-read_statements-loop-alloc : goal.decreases-read_statements-loop-alloc
decreases-read_statements-loop-alloc l = length l.rest

-- the branches read so far and the remaining words
abbrev pub invariant-read_otherwise-loop-after : goal.invariant-read_otherwise-loop-after
invariant-read_otherwise-loop-after l = IsPassed chain_then AreWellBranches Alternative Alternative l.words (map branch_of l.others.items) l.rest

abbrev pub decreases-read_otherwise-loop-after : goal.decreases-read_otherwise-loop-after
decreases-read_otherwise-loop-after l = length l.rest
