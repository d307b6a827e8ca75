use Rattle.std.proofs.Common.{◌≡◌, ◌<◌, ◌^◌}
use Rattle.cnf_core.specs.Clauses.{value_in}
use Rattle.bit_words.specs.Laws.{value}
use Rattle.bit_order.specs.Layouts.{word_from}
use Rattle.bit_order.proofs.reading.number.Given as goal

abbrev pub invariant-loop-place : goal.invariant-loop-place
invariant-loop-place l = record {
  number : l.number ≡ value (value_in l.assignment) (word_from l.first l.place);
  below : l.number < 2 ^ l.place;
}
