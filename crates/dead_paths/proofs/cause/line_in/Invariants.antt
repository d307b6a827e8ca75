use Rattle.dead_paths.proofs.Finding.{IsFollowed}
use Rattle.dead_paths.proofs.cause.line_in.Given as goal

abbrev pub invariant-loop-step : goal.invariant-loop-step
invariant-loop-step l = IsFollowed l.code l.fn.function l.fn.fails l.places l.step l.own
