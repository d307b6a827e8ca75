use Rattle.std.proofs.Common.{◌≡◌, length, take}
use Rattle.std.specs.Prelude.{filter}
use Rattle.std.specs.List.{reduce}
use Rattle.std.specs.Option.{IfSome}
use Rattle.order_formula.specs.Formulas.{CandidateIsOf}
use Rattle.order_formula.specs.Truth.{Serves, is_read, later_of}
use Rattle.order_formula.proofs.truth.source_of.Given as goal

abbrev pub invariant-loop-candidate : goal.invariant-loop-candidate
invariant-loop-candidate l = record {
  source : l.source ≡ reduce (later_of l.world) (filter (is_read l.terms l.world l.read) (take l.candidate-index l.candidate-items));
  terms : IfSome l.source (CandidateIsOf (length l.terms));
  table : Serves l.terms l.world l.values;
}
