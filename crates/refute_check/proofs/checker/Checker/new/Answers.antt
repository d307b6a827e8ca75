use Rattle.std.proofs.lemmas.List.{length-take-le}
use Rattle.std.proofs.Common.{sym, subst, ap, arith, ◌∙◌, ◌≡◌, take, IsTrue}
use Rattle.std.specs.List.{fold}
use Rattle.cnf_core.specs.Clauses.{is_within}
use Rattle.refute_check.specs.Refutations.{Checking, keep, opening}
use Rattle.refute_check.specs.helpers.Checkers.{AreWithin}
use Rattle.refute_check.proofs.Checkings.{AreWithin-empty, keep-vars, keep-next, fold-keep-more}
use Rattle.refute_check.proofs.checker.Checker.new.Goals as goal

pub invariant_of-checker : goal.invariant_of-checker
invariant_of-checker c =
    record {
      few = omega (arith, c.vars.ensures.limit);
      within = subst (AreWithin c.vars.result) (sym c.new.ensures) (AreWithin-empty c.vars.result);
      room = omega arith;
      begun = omega arith;
      lines = omega arith;
      fault = λ e. cc;
      vars = omega (arith, c.in_ok-new.ensures.vars, c.vars.ensures.vars, c.vars-2.ensures.vars);
      given = c.in_ok-new.ensures.literals;
    }

pub keep-requires-clause-within : goal.keep-requires-clause-within
keep-requires-clause-within c =
    let vars : c.loop-place.checker.vars ≡ c.args.cnf.now.vars = ap (λ (s : Checking). s.vars) c.loop-place.invariant
    ∙ keep-vars (opening c.args.cnf.now.vars) (take c.loop-place.place c.args.cnf.now.clauses) in
    subst (λ n. IsTrue (is_within n c.clause.result.now)) (sym vars) c.clause.ensures.within

pub keep-requires-clause-room : goal.keep-requires-clause-room
keep-requires-clause-room c =
    let next : c.loop-place.checker.next ≡ (fold keep (opening c.args.cnf.now.vars) (take c.loop-place.place c.args.cnf.now.clauses)).next =
    ap (λ (s : Checking). s.next) c.loop-place.invariant in
    omega (
      arith,
      next,
      keep-next (opening c.args.cnf.now.vars) (take c.loop-place.place c.args.cnf.now.clauses),
      length-take-le c.loop-place.place c.args.cnf.now.clauses (omega (arith, c.len-place-end.ensures.len)),
      c.len-place-end.ensures.len,
      c.len-place-end.ensures.limit,
    )

pub loop-place-preserved : goal.loop-place-preserved
loop-place-preserved c =
    c.in_ok-keep.ensures.ok
    ∙ ap (λ s. keep s c.clause.result.now) c.loop-place.invariant
    ∙ sym (fold-keep-more (opening c.args.cnf.now.vars) c.args.cnf.now.clauses c.loop-place.place c.clause.result.now c.clause.ensures.clause)
