use Rattle.std.proofs.Common.{◌+◌, ◌<◌, ℕ, List, arith}
use Rattle.std.proofs.lemmas.List.{length_push}
use Rattle.std.proofs.lemmas.List.Elements.{All-push}
use Rattle.cdcl_core.proofs.Dropping.{may-all-push}
use Rattle.cdcl_core.proofs.state.State.choose_half.Goals as goal
use Rattle.cdcl_core.proofs.state.State.choose_half.Goals.{then-len-most+then-may_go+then-worth-threshold+in_ok-push, else-len-most}

pub loop-number-preserved : goal.loop-number-preserved
loop-number-preserved c =
    let inv = c.loop-number.invariant in
    let ks : List ℕ = c.loop-number.chosen.items in
    let x : ℕ = c.new-clause.result in
    elim c.if-len-most.branch [
      | then-len-most+then-may_go+then-worth-threshold+in_ok-push w ↦ rw (w.chosen-is, w.in_ok-push.ensures.items) (record {
        may = may-all-push c.args.self.now ks x inv.may (λ k d h. omega (arith, inv.below k d h, c.new-clause.ensures)) (w.may_go.ensures.may w.if-may_go.true);
        below = All-push (λ k. k < c.loop-number.number + 1) ks x (λ k d h. omega (arith, inv.below k d h)) (omega (arith, c.new-clause.ensures));
        few = omega (arith, length_push ks x, w.if-len-most.true, c.len.ensures);
      })
      | else-len-most w ↦ rw w.chosen-is (record { may = inv.may; below = λ k d h. omega (arith, inv.below k d h); few = inv.few })
    ]
