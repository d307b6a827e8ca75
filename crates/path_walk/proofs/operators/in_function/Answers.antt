use Rattle.std.proofs.Common.{◌∙◌, ℕ, List, map, ap}
use Rattle.std.specs.Prelude.{unwrap_or, slice_index_or}
use Rattle.std.proofs.lemmas.List.{take_all}
use Rattle.tc_code.specs.declared.instr.Instr.TheVariants.{Exit}
use Rattle.path_walk.specs.Events.{operators_of}
use Rattle.path_walk.specs.Paths.{saturated_count}
use Rattle.path_walk.proofs.Counts.{count_at}
use Rattle.path_walk.proofs.operators.in_function.Goals as goal

pub returns : goal.returns
returns c k =
    let instrs = c.instrs_of-instr-items.result.now in
    ap (λ (counts : List ℕ). slice_index_or counts k 0) (c.loop-instr.invariant
    ∙ ap (λ is. map (λ i. saturated_count (operators_of i)) is) (take_all c.loop-instr.instr-index instrs c.loop-instr-test.false))
    ∙ count_at instrs k
    ∙ ap (λ o. saturated_count (operators_of (unwrap_or o Exit))) (c.instrs_of-instr-items.ensures k)
