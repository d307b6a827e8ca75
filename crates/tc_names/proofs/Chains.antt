-- Faults of the parts of a statement, and the fault of the statement.
use Rattle.std.proofs.Common.{◌≡◌, List, [], ◌∷◌, length, map, Option, Some, None, option_map, Vec, Global, refl, sym, ap, ◌∙◌}
use Rattle.tc_tree.specs.declared.expression.Name.{Name}
use Rattle.tc_tree.specs.Grammar.{Expression}
use Rattle.tc_tree.specs.declared.statement.Statement.{If, Create}
use Rattle.tc_tree.specs.declared.statement.Block.{Block}
use Rattle.tc_tree.specs.declared.statement.Branch.{Branch}
use Rattle.tc_tree.specs.Seen.{SeenBlock, SeenBranch, statement_of, branch_of, block_of, otherwise_of}
use Rattle.tc_names.specs.declared.fault.NameFault.{NameFault}
use Rattle.tc_names.specs.declared.scope.Meaning.{Meaning}
use Rattle.tc_names.specs.declared.scope.Meaning.TheVariants as meaning
use Rattle.tc_names.specs.Names.{
  ◌then◌,
  is_meaning,
  name_fault,
  thread_fault,
  expression_fault,
  expressions_fault,
  statement_fault,
  statements_fault,
  otherwise_fault,
}
use Rattle.tc_names.specs.helpers.Answers.{branch_fault, branches_fault}
use Rattle.tc_tree.proofs.Views.{if_seen, create_seen}
use Rattle.tc_names.proofs.Walks.{then-assoc}

-- ---- an `if`, its chain and what ends the chain

abbrev pub last_fault : (Name → Option Meaning) → Option SeenBlock → Option NameFault
last_fault scope None = None
last_fault scope (Some b) = statements_fault scope b.statements

chain_fault : (scope : Name → Option Meaning) (bs : List SeenBranch) (last : Option SeenBlock)
    → otherwise_fault scope (otherwise_of bs last) ≡ (branches_fault scope bs then last_fault scope last)
chain_fault scope [] None = refl
chain_fault scope [] (Some b) = refl
chain_fault scope (b ∷ bs) last =
    let e = expression_fault scope b.condition in
    let s = statements_fault scope b.body.statements in
    let others = branches_fault scope bs in
    ap (λ f. e then (s then f)) (chain_fault scope bs last)
    ∙ sym (then-assoc e s (others then last_fault scope last))
    ∙ sym (then-assoc (e then s) others (last_fault scope last))

pub if_fault : (scope : Name → Option Meaning) (b : Branch) (others : Vec Branch Global) (last : Option Block)
    → statement_fault scope (statement_of (If b others last))
    ≡ (branch_fault scope (branch_of b) then (branches_fault scope (map branch_of others.items) then last_fault scope (option_map block_of last)))
if_fault scope b others last =
    let e = expression_fault scope (branch_of b).condition in
    let s = statements_fault scope (branch_of b).body.statements in
    let seen = map branch_of others.items in
    let end = option_map block_of last in
    ap (statement_fault scope) (if_seen b others last)
    ∙ ap (λ f. e then (s then f)) (chain_fault scope seen end)
    ∙ sym (then-assoc e s (branches_fault scope seen then last_fault scope end))

pub if_first : (scope : Name → Option Meaning) (b : Branch) (others : Vec Branch Global) (last : Option Block) (f : NameFault)
    → branch_fault scope (branch_of b) ≡ Some f → statement_fault scope (statement_of (If b others last)) ≡ Some f
if_first scope b others last f bad =
    let end = last_fault scope (option_map block_of last) in
    if_fault scope b others last ∙ ap (λ (g : Option NameFault). g then (branches_fault scope (map branch_of others.items) then end)) bad

pub if_others : (scope : Name → Option Meaning) (b : Branch) (others : Vec Branch Global) (last : Option Block) (f : NameFault)
    → branch_fault scope (branch_of b) ≡ None → branches_fault scope (map branch_of others.items) ≡ Some f
    → statement_fault scope (statement_of (If b others last)) ≡ Some f
if_others scope b others last f clear bad =
    let end = last_fault scope (option_map block_of last) in
    if_fault scope b others last ∙ ap (λ (g : Option NameFault). g then (branches_fault scope (map branch_of others.items) then end)) clear
    ∙ ap (λ (g : Option NameFault). g then end) bad

pub if_last : (scope : Name → Option Meaning) (b : Branch) (others : Vec Branch Global) (last : Option Block)
    → branch_fault scope (branch_of b) ≡ None → branches_fault scope (map branch_of others.items) ≡ None
    → statement_fault scope (statement_of (If b others last)) ≡ last_fault scope (option_map block_of last)
if_last scope b others last clear good =
    let end = last_fault scope (option_map block_of last) in
    if_fault scope b others last ∙ ap (λ (g : Option NameFault). g then (branches_fault scope (map branch_of others.items) then end)) clear
    ∙ ap (λ (g : Option NameFault). g then end) good

-- ---- a `create`, whose arguments the tree counts

pub create_arguments : (scope : Name → Option Meaning) (h f : Name) (es : Vec Expression Global)
    → name_fault (is_meaning meaning.Handle) scope h ≡ None → thread_fault scope f (length es.items) ≡ None
    → statement_fault scope (statement_of (Create h f es)) ≡ expressions_fault scope es.items
create_arguments scope h f es clear good =
    let arguments = expressions_fault scope es.items in
    ap (statement_fault scope) (create_seen h f es)
    ∙ ap (λ (g : Option NameFault). g then (thread_fault scope f (length es.items) then arguments)) clear
    ∙ ap (λ (g : Option NameFault). g then arguments) good
