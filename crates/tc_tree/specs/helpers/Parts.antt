-- Parts of programs as the grammar has them.
use Rattle.std.specs.Prelude.{List, map, Option, option_map}
use Rattle.tc_tree.specs.declared.statement.Statement.{Statement}
use Rattle.tc_tree.specs.declared.statement.Block.{Block}
use Rattle.tc_tree.specs.declared.statement.Branch.{Branch}
use Rattle.tc_tree.specs.Grammar as grammar
use Rattle.tc_tree.specs.Grammar.{Statements, Otherwise}
use Rattle.tc_tree.specs.Seen.{SeenBranch, statement_of, statements_of, block_of, branch_of, otherwise_of}

abbrev pub statements_seen : List Statement → Statements
statements_seen ss = statements_of (map statement_of ss)

abbrev pub otherwise_seen : List Branch → Option Block → Otherwise
otherwise_seen others last = otherwise_of (map branch_of others) (option_map block_of last)

-- an `if` of this test and body, and what follows it
abbrev pub if_of : SeenBranch → Otherwise → grammar.Statement
if_of b o = grammar.If b.place b.condition b.body.statements b.body.end o
