use Rattle.std.proofs.Common.{ap, sym, ◌∙◌, take, length, ◌-◌, ℕ}
use Rattle.cdcl_clauses.proofs.Lists.{list_at, list_set, list_within}
use Rattle.cdcl_clauses.specs.declared.watches.Watch.{Watch}
use Rattle.std.specs.Prelude.{List}
use Rattle.cdcl_clauses.proofs.watches.Watches.pop.Goals as goal

pub returns : goal.returns
returns c =
    let within = list_within c.self.inside.lists.items c.args.self.now c.self.view_is c.args.literal c.requires in
    let at = list_at c.self.inside.lists.items c.args.self.now c.self.view_is c.args.literal c.index_mut.result.now within (rw c.index.ensures.index at c.index_mut.ensures.value) in
    rw c.index.ensures.index (list_set c.self.inside.lists.items c.args.self.now c.self.view_is c.args.literal c.pop.new.self _
    (c.pop.ensures.rest ∙ ap (λ (n : ℕ). take (n - 1) c.index_mut.result.now.items) c.index_mut.result.now.ok.0
    ∙ ap (λ (us : List Watch). take (length us - 1) us) (sym at)))
