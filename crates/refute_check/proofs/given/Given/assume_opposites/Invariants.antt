use Rattle.std.proofs.Common.{◌≡◌, take, map, neg_ℤ}
use Rattle.refute_check.proofs.given.Given.assume_opposites.Given as goal

abbrev pub invariant-loop-lit : goal.invariant-loop-lit
invariant-loop-lit l = record { vars : l.self.vars ≡ l.initial.self.vars; literals : l.self.literals ≡ map neg_ℤ (take l.lit-index l.literals) }
