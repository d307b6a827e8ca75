-- Statements of the tree as statements of the grammar.
use Rattle.std.proofs.Common.{◌≡◌, Vec, Global, map, option_map, Option, Some, None, sym, ap, ◌∙◌}
use Rattle.int_ops.specs.declared.update.Update.{Update}
use Rattle.tc_lexer.specs.declared.place.Place.{Place}
use Rattle.tc_tree.specs.Grammar.{Expression}
use Rattle.tc_tree.specs.declared.expression.Name.{Name}
use Rattle.tc_tree.specs.declared.statement.Action.{Action}
use Rattle.tc_tree.specs.declared.statement.Barrier.{Barrier}
use Rattle.tc_tree.specs.declared.statement.Block.{Block, fold_out-Block}
use Rattle.tc_tree.specs.declared.statement.Branch.{Branch as TreeBranch, fold_out-Branch}
use Rattle.tc_tree.specs.declared.statement.Statement.{Assign, Store, Create, Modify, Act, Wait, Order, Assert, If, fold-roll-Statement}
use Rattle.tc_tree.specs.declared.statement.Statement.TheVariants.{
  rolls-Assign,
  rolls-Store,
  rolls-Create,
  rolls-Modify,
  rolls-Act,
  rolls-Wait,
  rolls-Order,
  rolls-Assert,
  rolls-If,
}
use Rattle.tc_tree.specs.declared.statement.Statement.TheOpen.{Statement-F}
use Rattle.tc_tree.specs.Grammar as grammar
use Rattle.tc_tree.specs.Seen.{SeenBlock, SeenBranch, statement_of, branch_of, block_of, otherwise_of, view_statement, view_block, view_branch}
use Rattle.tc_tree.specs.helpers.Parts.{statements_seen, if_of}

-- ---- statements without statements inside, in the grammar

pub assign_seen : (x : Name) (e : Expression) → statement_of (Assign x e) ≡ grammar.Assign x e
assign_seen x e =
    ap statement_of (sym (rolls-Assign x e))
    ∙ fold-roll-Statement grammar.Statement SeenBlock SeenBranch view_statement view_block view_branch (Statement-F.Assign x e)

pub store_seen : (a : Name) (i e : Expression) → statement_of (Store a i e) ≡ grammar.Store a i e
store_seen a i e =
    ap statement_of (sym (rolls-Store a i e))
    ∙ fold-roll-Statement grammar.Statement SeenBlock SeenBranch view_statement view_block view_branch (Statement-F.Store a i e)

pub create_seen : (h f : Name) (es : Vec Expression Global) → statement_of (Create h f es) ≡ grammar.Create h f es.items
create_seen h f es =
    ap statement_of (sym (rolls-Create h f es))
    ∙ fold-roll-Statement grammar.Statement SeenBlock SeenBranch view_statement view_block view_branch (Statement-F.Create h f es)

pub modify_seen : (r x : Name) (i : Option Expression) (u : Update Expression) → statement_of (Modify r x i u) ≡ grammar.Modify r x i u
modify_seen r x i u =
    ap statement_of (sym (rolls-Modify r x i u))
    ∙ fold-roll-Statement grammar.Statement SeenBlock SeenBranch view_statement view_block view_branch (Statement-F.Modify r x i u)

pub act_seen : (p : Place) (a : Action) (x : Name) → statement_of (Act p a x) ≡ grammar.Act p a x
act_seen p a x =
    ap statement_of (sym (rolls-Act p a x))
    ∙ fold-roll-Statement grammar.Statement SeenBlock SeenBranch view_statement view_block view_branch (Statement-F.Act p a x)

pub wait_seen : (p : Place) (c m : Name) → statement_of (Wait p c m) ≡ grammar.Wait p c m
wait_seen p c m =
    ap statement_of (sym (rolls-Wait p c m))
    ∙ fold-roll-Statement grammar.Statement SeenBlock SeenBranch view_statement view_block view_branch (Statement-F.Wait p c m)

pub order_seen : (p : Place) (b : Barrier) → statement_of (Order p b) ≡ grammar.Order p b
order_seen p b =
    ap statement_of (sym (rolls-Order p b))
    ∙ fold-roll-Statement grammar.Statement SeenBlock SeenBranch view_statement view_block view_branch (Statement-F.Order p b)

pub assert_seen : (p : Place) (e : Expression) → statement_of (Assert p e) ≡ grammar.Assert p e
assert_seen p e =
    ap statement_of (sym (rolls-Assert p e))
    ∙ fold-roll-Statement grammar.Statement SeenBlock SeenBranch view_statement view_block view_branch (Statement-F.Assert p e)

-- ---- an `if`

pub if_seen : (b : TreeBranch) (others : Vec TreeBranch Global) (last : Option Block) → statement_of (If b others last)
    ≡ if_of (branch_of b) (otherwise_of (map branch_of others.items) (option_map block_of last))
if_seen b others None =
    ap statement_of (sym (rolls-If b others None))
    ∙ fold-roll-Statement grammar.Statement SeenBlock SeenBranch view_statement view_block view_branch (Statement-F.If b others None)
if_seen b others (Some l) =
    ap statement_of (sym (rolls-If b others (Some l)))
    ∙ fold-roll-Statement grammar.Statement SeenBlock SeenBranch view_statement view_block view_branch (Statement-F.If b others (Some l))

-- ---- a branch

pub block_seen : (b : Block) → (block_of b).statements ≡ statements_seen b.statements.items
block_seen b = ap (λ (x : SeenBlock). x.statements) (fold_out-Block grammar.Statement SeenBlock SeenBranch view_statement view_block view_branch b)

pub branch_body : (b : TreeBranch) → (branch_of b).body.statements ≡ statements_seen b.body.statements.items
branch_body b =
    ap (λ (x : SeenBranch). x.body.statements) (fold_out-Branch grammar.Statement SeenBlock SeenBranch view_statement view_block view_branch b)
    ∙ block_seen b.body

pub branch_place : (b : TreeBranch) → (branch_of b).place ≡ b.place
branch_place b = ap (λ (x : SeenBranch). x.place) (fold_out-Branch grammar.Statement SeenBlock SeenBranch view_statement view_block view_branch b)
