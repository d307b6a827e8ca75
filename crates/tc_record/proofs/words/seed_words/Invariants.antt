use Rattle.std.proofs.Common.{◌≡◌, ◌-◌, ◌++◌}
use Rattle.rand_core.specs.Steps.{stream_of}
use Rattle.rand_xoshiro.specs.SplitMix64.{splitmix_steps}
use Rattle.tc_record.specs.Seeded.{seed_words}
use Rattle.tc_record.proofs.Runs.{words}
use Rattle.tc_record.proofs.words.seed_words.Given as goal

abbrev pub invariant-loop : goal.invariant-loop
invariant-loop l = l.words.items ++ words (l.count - l.counter) (stream_of splitmix_steps l.rng) ≡ seed_words l.seed l.count
