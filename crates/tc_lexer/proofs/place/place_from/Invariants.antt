use Rattle.std.proofs.Common.{◌≡◌, ◌+◌, ◌≤◌, drop}
use Rattle.tc_lexer.specs.helpers.Reading.{place_from}
use Rattle.tc_lexer.proofs.place.place_from.Given as goal

abbrev pub invariant-loop-b : goal.invariant-loop-b
invariant-loop-b l =
    record {
      rest : place_from l.fn.place l.bytes ≡ place_from l.place (drop l.b-index l.bytes);
      line : l.place.line ≤ l.fn.place.line + l.b-index;
      col : l.place.col ≤ l.fn.place.col + l.b-index;
    }
