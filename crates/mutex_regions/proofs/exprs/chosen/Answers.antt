use Rattle.std.proofs.Common.{◌∙◌, List, ap, take}
use Rattle.std.specs.Prelude.{filter}
use Rattle.std.proofs.lemmas.List.{take_all}
use Rattle.mutex_regions.specs.Functions.{chosen}
use Rattle.mutex_regions.specs.Variables.{same_variable}
use Rattle.mutex_regions.specs.declared.functions.Holding.{Holding}
use Rattle.mutex_regions.proofs.Choices.{so_far}
use Rattle.mutex_regions.proofs.exprs.chosen.Goals as goal

pub returns : goal.returns
returns c =
    let all = c.args.cells.now in
    let k = c.loop-cell.cell-index in
    let own = λ (xs : List Holding). filter (λ x. same_variable x.spot.variable c.args.variable.now) xs in
    so_far c.args.index.now (own (take k all)) c.loop-cell.is_first c.loop-cell.value c.loop-cell.invariant
    ∙ ap (λ xs. chosen c.args.index.now (own xs)) (take_all k all c.loop-cell-test.false)
