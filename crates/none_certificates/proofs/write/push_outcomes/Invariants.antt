use Rattle.std.proofs.Common.{◌≡◌, ◌++◌, take, map}
use Rattle.std.specs.String.{string_bytes}
use Rattle.none_certificates.specs.Texts.{outcome_digit}
use Rattle.none_certificates.proofs.write.push_outcomes.Given as goal

abbrev pub invariant-loop-outcome : goal.invariant-loop-outcome
invariant-loop-outcome l = string_bytes l.text ≡ string_bytes l.initial.text ++ map outcome_digit (take l.outcome-index l.outcomes)
