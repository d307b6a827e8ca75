use Rattle.std.proofs.Common.{ap, sym, ◌∙◌}
use Rattle.std.specs.Prelude.{List}
use Rattle.cdcl_clauses.specs.Clauses.{without_place}
use Rattle.cdcl_clauses.specs.declared.watches.Watch.{Watch}
use Rattle.cdcl_clauses.proofs.Lists.{list_at, list_set, list_within, swap_remove-without}
use Rattle.cdcl_clauses.proofs.watches.Watches.remove.Goals as goal

pub returns : goal.returns
returns c =
    let within = list_within c.self.inside.lists.items c.args.self.now c.self.view_is c.args.literal c.requires.literal in
    let at = list_at c.self.inside.lists.items c.args.self.now c.self.view_is c.args.literal c.index_mut.result.now within (rw c.index.ensures.index at c.index_mut.ensures.value) in
    let there = rw at at c.requires.place in
    rw c.index.ensures.index (list_set c.self.inside.lists.items c.args.self.now c.self.view_is c.args.literal c.swap_remove.new.self _
    (c.swap_remove.ensures.items ∙ swap_remove-without c.index_mut.result.now.items c.args.place c.swap_remove.result there
    ∙ ap (λ (us : List Watch). without_place us c.args.place) (sym at)))
