use Rattle.std.proofs.Common.{◌≡◌, ◌≤◌, ◌-◌, length, Some}
use Rattle.rand_core.specs.Steps.{stream_of}
use Rattle.rand_xoshiro.specs.SplitMix64.{splitmix_steps}
use Rattle.tc_code.specs.Run.{run}
use Rattle.tc_record.specs.Seeded.{with_moves_before, seeded_from, seeded_run}
use Rattle.tc_record.proofs.Runs.{words}
use Rattle.tc_record.proofs.recording.run_seeded.Given as goal

abbrev pub invariant-loop : goal.invariant-loop
invariant-loop g l = record {
  leads : run g.M.MemoryModel.ops l.code l.made.items ≡ Some l.state;
  few : length l.made.items ≤ l.counter;
  so_far : with_moves_before l.made.items (seeded_from g.M.MemoryModel.ops l.code l.state (words (l.steps - l.counter) (stream_of splitmix_steps l.rng)))
      ≡ seeded_run g.M.MemoryModel.ops l.code l.seed l.steps;
}
