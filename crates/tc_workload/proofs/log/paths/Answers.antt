use Rattle.std.proofs.Common.{◌≡◌, ◌∙◌, ◌+◌, ◌-◌, ◌++◌, List, [], ◌∷◌, ap}
use Rattle.tc_base.specs.Paths.{ThreadPath}
use Rattle.tc_workload.specs.Workload.{straight, worker_paths}
use Rattle.tc_workload.proofs.Lists.{paths_next}
use Rattle.tc_workload.proofs.log.paths.Goals as goal

pub loop-index-preserved : goal.loop-index-preserved
loop-index-preserved c =
    let i = c.loop-index.index in
    let front = c.loop-index.paths.items in
    let more : c.push-in-loop-index.new.self.items ≡ front ++ straight ((i + 1) ∷ []) 7 ∷ [] =
    c.in_ok-push-2.ensures.items ∙ ap (λ (t : ThreadPath). front ++ t ∷ []) c.in_ok-worker_path.ensures in
    ap (λ (ts : List ThreadPath). ts ++ worker_paths ((i + 1) + 1) (c.args.workers - (i + 1))) more
    ∙ paths_next c.args.workers i front c.loop-index-test.true ∙ c.loop-index.invariant
