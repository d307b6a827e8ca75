-- Trees as plain data, apart from memory.
use Rattle.std.specs.Prelude.{List, [], ◌∷◌, map, Option, Some, None}
use Rattle.tc_lexer.specs.declared.place.Place.{Place}
use Rattle.tc_tree.specs.declared.statement.Statement.{Statement as TreeStatement, fold-Statement}
use Rattle.tc_tree.specs.declared.statement.Statement.TheOpen.{Statement-F, Block-F, Branch-F}
use Rattle.tc_tree.specs.declared.statement.Block.{Block, fold-Block}
use Rattle.tc_tree.specs.declared.statement.Branch.{Branch, fold-Branch}
use Rattle.tc_tree.specs.declared.program.Body.{Body as TreeBody}
use Rattle.tc_tree.specs.declared.program.Thread.{Thread as TreeThread}
use Rattle.tc_tree.specs.declared.program.Program.{Program as TreeProgram}
use Rattle.tc_tree.specs.Grammar as grammar
use Rattle.tc_tree.specs.Grammar.{Statement, Statements, Otherwise, Body, Thread, Program}

abbrev pub statements_of : List Statement → Statements
statements_of [] = grammar.Nil
statements_of (s ∷ ss) = grammar.Cons s (statements_of ss)

-- statements, and the place of their closing brace
pub record SeenBlock : Type 0 where
  pub statements : Statements
  pub end : Place

pub record SeenBranch : Type 0 where
  pub place : Place
  pub condition : grammar.Expression
  pub body : SeenBlock

-- the `else if` branches of a chain, and the `else` at its end
abbrev pub otherwise_of : List SeenBranch → Option SeenBlock → Otherwise
otherwise_of [] None = grammar.Nothing
otherwise_of [] (Some b) = grammar.Else b.statements b.end
otherwise_of (b ∷ bs) last =
    grammar.ElseIf b.place b.condition b.body.statements b.body.end (otherwise_of bs last)

abbrev pub view_statement : Statement-F Statement SeenBlock SeenBranch → Statement
view_statement (Statement-F.Assign x e) = grammar.Assign x e
view_statement (Statement-F.Store a i e) = grammar.Store a i e
view_statement (Statement-F.Create h f es) = grammar.Create h f es.items
view_statement (Statement-F.Modify r x i u) = grammar.Modify r x i u
view_statement (Statement-F.Act p a x) = grammar.Act p a x
view_statement (Statement-F.Wait p c m) = grammar.Wait p c m
view_statement (Statement-F.Order p b) = grammar.Order p b
view_statement (Statement-F.Assert p e) = grammar.Assert p e
view_statement (Statement-F.While b) =
    grammar.While b.place b.condition b.body.statements b.body.end
view_statement (Statement-F.If b others last) =
    grammar.If b.place b.condition b.body.statements b.body.end (otherwise_of others.items last)

abbrev pub view_block : Block-F Statement SeenBlock SeenBranch → SeenBlock
view_block b = record { statements = statements_of b.statements.items; end = b.end }

abbrev pub view_branch : Branch-F Statement SeenBlock SeenBranch → SeenBranch
view_branch b = record { place = b.place; condition = b.condition; body = b.body }

abbrev pub statement_of : TreeStatement → Statement
statement_of s =
    fold-Statement Statement SeenBlock SeenBranch view_statement view_block view_branch s

abbrev pub block_of : Block → SeenBlock
block_of b = fold-Block Statement SeenBlock SeenBranch view_statement view_block view_branch b

abbrev pub branch_of : Branch → SeenBranch
branch_of b = fold-Branch Statement SeenBlock SeenBranch view_statement view_block view_branch b

abbrev pub body_of : TreeBody → Body
body_of b =
    let seen = block_of b.block in
    record { locals = b.locals.items; statements = seen.statements; end = seen.end }

abbrev pub thread_of : TreeThread → Thread
thread_of t = record { name = t.name; parameters = t.parameters.items; body = body_of t.body }

abbrev pub program_of : TreeProgram → Program
program_of t = record {
  globals = t.globals.items;
  threads = map thread_of t.threads.items;
  main = body_of t.main;
}
