use Rattle.std.proofs.Common.{[], ◌∷◌, ◌++◌, List, ap, ◌∙◌}
use Rattle.std.proofs.lemmas.List.{replicate_more}
use Rattle.cdcl_clauses.specs.declared.watches.Watch.{Watch}
use Rattle.cdcl_clauses.proofs.Lists.{lists_of, lists_of-push}
use Rattle.cdcl_clauses.proofs.watches.Watches.new.Goals as goal

pub loop-preserved : goal.loop-preserved
loop-preserved c =
    rw c.in_ok-push.ensures.items (
    lists_of-push c.loop.lists.items c.new.result
    ∙ ap (λ (us : List Watch). lists_of c.loop.lists.items ++ us ∷ []) c.new.ensures.items
    ∙ ap (λ (ws : List (List Watch)). ws ++ [] ∷ []) c.loop.invariant
    ∙ replicate_more c.loop.counter [])
