use Rattle.std.proofs.Common.{ap, sym, ◌∙◌, ◌++◌, ◌∷◌, [], List}
use Rattle.cdcl_clauses.specs.declared.watches.Watch.{Watch}
use Rattle.cdcl_clauses.proofs.Laid.{on_err}
use Rattle.cdcl_clauses.proofs.Lists.{list_at, list_set, list_kept, list_within}
use Rattle.cdcl_clauses.proofs.watches.Watches.push.Goals as goal

pub returns-in_err-push-clause-err : goal.returns-in_err-push-clause-err
returns-in_err-push-clause-err c =
    let within = list_within c.self.inside.lists.items c.args.self.now c.self.view_is c.args.literal c.requires in
    on_err c.from_residual.result (rw c.index.ensures.index (list_kept c.self.inside.lists.items c.args.self.now c.self.view_is c.args.literal c.index_mut.result.now
    c.push.new.self within (rw c.index.ensures.index at c.index_mut.ensures.value) c.in_err-push.ensures.items))

pub returns-clause-ok : goal.returns-clause-ok
returns-clause-ok c =
    let within = list_within c.self.inside.lists.items c.args.self.now c.self.view_is c.args.literal c.requires in
    let at = list_at c.self.inside.lists.items c.args.self.now c.self.view_is c.args.literal c.index_mut.result.now within (rw c.index.ensures.index at c.index_mut.ensures.value) in
    rw c.index.ensures.index (list_set c.self.inside.lists.items c.args.self.now c.self.view_is c.args.literal c.push.new.self _ (c.in_ok-push.ensures.items
    ∙ ap (λ (us : List Watch). us ++ c.args.watch ∷ []) (sym at)))
