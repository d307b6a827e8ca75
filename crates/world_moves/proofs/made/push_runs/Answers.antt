use Rattle.std.proofs.Common.{◌∙◌, [], ◌∷◌, ◌++◌, List, replicate, ap, append_assoc}
use Rattle.std.proofs.lemmas.List.{replicate_more}
use Rattle.tc_base.specs.declared.moves.Move.{Move}
use Rattle.tc_base.specs.declared.moves.Move.TheVariants.{Run}
use Rattle.world_moves.proofs.made.push_runs.Goals as goal

pub loop-preserved : goal.loop-preserved
loop-preserved c =
    let old = c.args.moves.now.items in
    let run = Run c.args.name.now in
    rw c.in_ok-push.ensures.items (
    ap (λ n. c.loop.moves.items ++ Run n ∷ []) c.in_ok-clone.ensures.cases
    ∙ ap (λ (ms : List Move). ms ++ run ∷ []) c.loop.invariant
    ∙ append_assoc old (replicate c.loop.counter run) (run ∷ [])
    ∙ ap (λ (ms : List Move). old ++ ms) (replicate_more c.loop.counter run))
