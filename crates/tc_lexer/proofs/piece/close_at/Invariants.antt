use Rattle.std.proofs.Common.{◌≡◌, ◌+◌, length}
use Rattle.std.specs.Prelude.{option_map}
use Rattle.tc_lexer.specs.helpers.Reading.{before_close}
use Rattle.tc_lexer.proofs.piece.close_at.Given as goal

abbrev pub invariant-loop-rest : goal.invariant-loop-rest
invariant-loop-rest l =
    record {
      close : option_map length (before_close l.text) ≡ option_map (λ body. l.len + length body) (before_close l.rest);
      all : l.len + length l.rest ≡ length l.text;
    }

abbrev pub decreases-loop-rest : goal.decreases-loop-rest
decreases-loop-rest l = length l.rest
