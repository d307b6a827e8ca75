use Rattle.std.proofs.Common.{take}
use Rattle.why_impossible.specs.refute_core.helpers.Marks.{AreMarked}
use Rattle.why_impossible.proofs.refute_core.mark.Given as goal

abbrev pub invariant-loop-number : goal.invariant-loop-number
invariant-loop-number l = AreMarked l.initial.marks (take l.number-index l.numbers) l.marks
