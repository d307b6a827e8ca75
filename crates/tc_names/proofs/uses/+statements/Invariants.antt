use Rattle.std.proofs.Common.{◌≡◌, drop, map}
use Rattle.tc_tree.specs.Seen.{branch_of}
use Rattle.tc_names.specs.Names.{statements_fault}
use Rattle.tc_tree.specs.helpers.Parts.{statements_seen}
use Rattle.tc_names.specs.helpers.Answers.{plain_scope, branches_fault}
use Rattle.tc_names.proofs.uses.+statements.Given as goal

-- the fault is that of the remaining branches
abbrev pub invariant-check_branches-loop-branch : goal.invariant-check_branches-loop-branch
invariant-check_branches-loop-branch l =
    branches_fault (plain_scope l.scope) (map branch_of l.branches) ≡ branches_fault (plain_scope l.scope) (map branch_of (drop l.branch-index l.branches))

-- the fault is that of the remaining statements
abbrev pub invariant-check_statements-loop-statement : goal.invariant-check_statements-loop-statement
invariant-check_statements-loop-statement l =
    statements_fault (plain_scope l.scope) (statements_seen l.statements)
    ≡ statements_fault (plain_scope l.scope) (statements_seen (drop l.statement-index l.statements))
