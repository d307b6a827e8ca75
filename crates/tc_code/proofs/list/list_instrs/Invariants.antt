use Rattle.std.proofs.Common.{◌≡◌, ◌++◌, take}
use Rattle.tc_code.proofs.Texts.{rows}
use Rattle.tc_code.proofs.list.list_instrs.Given as goal

abbrev pub invariant-loop-number : goal.invariant-loop-number
invariant-loop-number l = l.out.items ≡ l.initial.out.items ++ rows 0 l.lines (take l.number l.instr-items)
