use Rattle.std.proofs.Common.{[], drop, length, map, option_map}
use Rattle.tc_tree.specs.Seen.{statement_of, branch_of, block_of, otherwise_of}
use Rattle.tc_lower.specs.Statements.{all_lowered, lowered_otherwise, lowered}
use Rattle.tc_tree.specs.helpers.Parts.{statements_seen}
use Rattle.tc_lower.specs.helpers.Seen.{plain_scope}
use Rattle.tc_lower.proofs.Chains.{SoFar}
use Rattle.tc_lower.proofs.statement.Body.+statements.Given as goal

-- what was written, with the remaining statements, is everything
abbrev pub invariant-write_all-loop-statement : goal.invariant-write_all-loop-statement
invariant-write_all-loop-statement l =
    let scope = plain_scope l.scope in
    SoFar l.fn.self l.self [] (all_lowered scope (length l.fn.self.code.draft) l.fn.self.code.free (statements_seen l.statements))
    (all_lowered scope (length l.self.code.draft) l.self.code.free (statements_seen (drop l.statement-index l.statements)))

-- the same in a chain, except the jumps to its end
abbrev pub invariant-write-loop-i : goal.invariant-write-loop-i
invariant-write-loop-i l =
    let scope = plain_scope l.scope in
    SoFar l.fn.self l.self l.jumps.items (lowered scope (length l.fn.self.code.draft) l.fn.self.code.free (statement_of l.fn.statement))
    (lowered_otherwise scope (length l.self.code.draft) l.self.code.free
    (otherwise_of (map branch_of (drop l.i l.others.items)) (option_map block_of l.last)))
