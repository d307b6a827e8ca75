use Rattle.std.proofs.Common.{◌≡◌, ◌∙◌, ◌+◌, ◌-◌, ◌++◌, List, ℕ, ap}
use Rattle.std.specs.Prelude.{string_bytes}
use Rattle.tc_workload.specs.Workload.{each}
use Rattle.tc_workload.specs.helpers.Pieces.{written}
use Rattle.tc_workload.proofs.Lists.{each_next}
use Rattle.tc_workload.proofs.program.each.Goals as goal

pub loop-index-preserved : goal.loop-index-preserved
loop-index-preserved c =
    let text = written c.args.piece in
    let i = c.loop-index.index in
    let more : string_bytes c.push_str.new.self ≡ string_bytes c.loop-index.text ++ text (c.args.first + i) =
    c.in_ok-push_str.ensures.bytes ∙ ap (λ xs. string_bytes c.loop-index.text ++ xs) (c.as_str.ensures.value ∙ c.in_ok-part.ensures) in
    ap (λ (xs : List ℕ). xs ++ each text (c.args.first + (i + 1)) (c.args.count - (i + 1))) more
    ∙ each_next text c.args.first c.args.count i (string_bytes c.loop-index.text) c.loop-index-test.true ∙ c.loop-index.invariant
