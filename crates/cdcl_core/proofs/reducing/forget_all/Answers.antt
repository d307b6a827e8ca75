use Rattle.std.proofs.Common.{◌≡◌, ◌∙◌, ℕ, List, false, length, get_or, ap, sym, subst, arith, length-set}
use Rattle.std.proofs.lemmas.List.{get_or_read}
use Rattle.cdcl_trail.specs.Trail.{IsNoReason}
use Rattle.cdcl_clauses.specs.Clauses.{Clause, at}
use Rattle.cdcl_clauses.specs.Clauses.{dropped}
use Rattle.cdcl_core.proofs.Dropping.{fold-step}
use Rattle.cdcl_core.proofs.reducing.forget_all.Goals as goal

pub forget-requires : goal.forget-requires
forget-requires c =
    let i : ℕ = c.loop-clause.clause-index in
    let ks : List ℕ = c.args.chosen.now in
    let e : c.clause-item.result ≡ get_or ks i 0 = get_or_read ks i c.clause-item.result c.loop-clause-test.true c.clause-item.is 0 in
    omega (arith, e, c.requires i 0 c.loop-clause-test.true, c.loop-clause.invariant.count)

pub loop-clause-preserved : goal.loop-clause-preserved
loop-clause-preserved c =
    let i : ℕ = c.loop-clause.clause-index in
    let ks : List ℕ = c.args.chosen.now in
    let x : ℕ = get_or ks i 0 in
    let e : c.clause-item.result ≡ x = get_or_read ks i c.clause-item.result c.loop-clause-test.true c.clause-item.is 0 in
    let cs : List Clause = c.loop-clause.clauses in
    let after : c.forget.new.clauses ≡ dropped cs x = rw e at c.forget.ensures.after in
    let inv = c.loop-clause.invariant in
    record {
      after = after ∙ ap (λ (ds : List Clause). dropped ds x) inv.after ∙ sym (fold-step ks c.args.clauses.now i c.loop-clause-test.true);
      count = ap length after ∙ length-set cs x (record (at cs x) { kept = false }) ∙ inv.count;
      sound = λ t ws n s.
          c.forget.ensures.sound t ws (subst (λ (k : ℕ). IsNoReason t k) (sym e) (n i 0 c.loop-clause-test.true)) (inv.sound t ws n s);
      rooted = λ t r. c.forget.ensures.rooted t (inv.rooted t r);
    }
