use Rattle.std.proofs.Common.{◌<◌, ◌∙◌, ◌++◌, ◌∷◌, [], ℕ, List, ℤ, length, take, ap, sym, subst, arith}
use Rattle.std.specs.Prelude.{IsTrue}
use Rattle.std.proofs.lemmas.List.{length-take, take_more}
use Rattle.cnf_core.specs.Clauses.{is_within}
use Rattle.cdcl_core.proofs.Starting.{at-get}
use Rattle.cdcl_core.proofs.loading.copy.Goals as goal

pub push-requires-clause-within : goal.push-requires-clause-within
push-requires-clause-within c =
    subst (λ (n : ℕ). IsTrue (is_within n c.clause.result.now)) (sym c.loop-place.invariant.vars) c.clause.ensures.within

pub push-requires-clause-room : goal.push-requires-clause-room
push-requires-clause-room c =
    omega (
      arith,
      ap length c.loop-place.invariant.clauses,
      length-take c.loop-place.place c.args.cnf.now.clauses,
      c.len-place-end.ensures.len,
      c.len-place-end.ensures.limit,
    )

pub loop-place-preserved : goal.loop-place-preserved
loop-place-preserved c =
    let zs : List (List ℤ) = c.args.cnf.now.clauses in
    let k : ℕ = c.loop-place.place in
    let h : k < length zs = omega (arith, c.len-place-end.ensures.len) in
    record {
      vars = c.in_ok-push.ensures.vars ∙ c.loop-place.invariant.vars;
      clauses = c.in_ok-push.ensures.ok ∙ ap (λ (xs : List (List ℤ)). xs ++ c.clause.result.now ∷ []) c.loop-place.invariant.clauses
          ∙ ap (λ (x : List ℤ). take k zs ++ x ∷ []) (sym (at-get zs k c.clause.result.now h c.clause.ensures.clause)) ∙ sym (take_more zs k [] h);
    }
