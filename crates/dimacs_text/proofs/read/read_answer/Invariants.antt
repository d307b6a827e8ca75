use Rattle.std.proofs.Common.{◌≡◌, ◌≤◌, ◌<◌, ◌+◌, length}
use Rattle.dimacs_text.specs.Answers.{is_line_feed, pieces}
use Rattle.dimacs_text.specs.helpers.Reading.{answer, reading}
use Rattle.dimacs_text.proofs.read.read_answer.Given as goal

abbrev pub invariant-loop-rest : goal.invariant-loop-rest
invariant-loop-rest l = record {
  same : answer l.text ≡ reading l.number l.said (pieces is_line_feed l.rest);
  few : l.number + length l.rest ≤ length l.text + 1;
}

abbrev pub decreases-loop-rest : goal.decreases-loop-rest
decreases-loop-rest l = length l.rest
