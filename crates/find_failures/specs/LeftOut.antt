-- What searches for logs left out.
use Rattle.std.specs.Prelude.{Bool, ◌||◌}
use Rattle.log_walk.specs.declared.bounds.LeftOut.{LeftOut}

-- what at least one of two searches left out
abbrev pub both : LeftOut → LeftOut → LeftOut
both one other = record {
  outcomes = one.outcomes || other.outcomes;
  steps = one.steps || other.steps;
  depth = one.depth || other.depth;
  threads = one.threads || other.threads;
}

-- whether logs were left out for their steps, their names or their number of threads
abbrev pub is_over : LeftOut → Bool
is_over out = out.steps || out.depth || out.threads
