use Rattle.std.proofs.Common.{◌≡◌, ◌≤◌, length, take}
use Rattle.std.specs.List.{All}
use Rattle.tc_code.specs.tc_limits.declared.limits.TheConstants.{STEPS}
use Rattle.path_walk.specs.helpers.Drafts.{IsDraft}
use Rattle.path_walk.proofs.whole.walk.Given as goal

abbrev pub invariant-loop-thread : goal.invariant-loop-thread
invariant-loop-thread l = record {
  draft : IsDraft l.code l.log.log l.draft;
  count : length l.draft.threads ≡ l.thread-index;
  steps : All (λ t. t.path.steps ≤ STEPS) (take l.thread-index l.log.log.threads);
}
