use Rattle.std.proofs.Common.{◌≡◌, ◌∙◌, length, ap, sym, subst, arith}
use Rattle.cnf_core.specs.Clauses.{Formula}
use Rattle.cdcl_steps.specs.declared.loading.Loaded.{Loaded}
use Rattle.cdcl_core.specs.helpers.States.{HaveLiterals, LoadsOne}
use Rattle.cdcl_core.proofs.Starting.{found-taken}
use Rattle.cdcl_core.proofs.state.State.load_all.Goals as goal
use Rattle.cdcl_core.proofs.state.State.load_all.Goals.{in-Taken, in-Refuted}

pub load-requires-clause-loaded : goal.load-requires-clause-loaded
load-requires-clause-loaded c = c.loop-place.invariant.loaded

pub load-requires-clause-place : goal.load-requires-clause-place
load-requires-clause-place c =
    let e : length c.loop-place.self.formula.clauses ≡ length c.args.self.now.formula.clauses =
    ap (λ (f : Formula). length f.clauses) c.loop-place.invariant.formula in
    omega (arith, e, c.len-place-end.ensures.len)

pub load-requires-clause-literals : goal.load-requires-clause-literals
load-requires-clause-literals c = subst (λ (f : Formula). HaveLiterals f.clauses) (sym c.loop-place.invariant.formula) c.requires.literals

pub loop-place-preserved : goal.loop-place-preserved
loop-place-preserved c =
    let s = c.loop-place.self in
    let t = c.load.new.self in
    let one : LoadsOne s t c.loop-place.place c.in_ok-load.field-0 = c.in_ok-load.ensures.one in
    record {
      loaded = c.in_ok-load.ensures.loaded;
      formula = c.load.ensures.formula ∙ c.loop-place.invariant.formula;
      conflict = elim c.match-branch-2.branch [
        | in-Taken w ↦ rw w.conflict-is (found-taken s t c.loop-place.conflict c.loop-place.place
            (subst (λ (l : Loaded). LoadsOne s t c.loop-place.place l) w.in-Taken.is one) c.loop-place.invariant.conflict)
        | in-Refuted w ↦ rw (w.conflict-is, w.new.ensures) ((subst (λ (l : Loaded). LoadsOne s t c.loop-place.place l) w.in-Refuted.is one).1)
      ];
    }
