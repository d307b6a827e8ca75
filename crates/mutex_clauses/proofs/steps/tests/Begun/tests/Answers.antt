use Rattle.std.proofs.Common.{◌∙◌, ℕ, ◌<◌, ◌≤◌, ◌++◌, ap, length, arith}
use Rattle.std.specs.Prelude.{nat_lt}
use Rattle.std.specs.Option.{option_to_list}
use Rattle.sym_exec.specs.declared.symbolic.Test.{Test}
use Rattle.mutex_clauses.specs.steps.helpers.Over as spec
use Rattle.mutex_clauses.proofs.steps.Kept.{goes_on, is_full}
use Rattle.mutex_clauses.proofs.steps.tests.Begun.tests.Goals as goal
use Rattle.mutex_clauses.proofs.steps.tests.Begun.tests.Goals.{then-len-lt-MOST_TESTS+in_ok-tested+in_ok-push_some, else-len-lt-MOST_TESTS}

pub loop-number-preserved : goal.loop-number-preserved
loop-number-preserved c =
    let s = c.args.self.now in
    let tested = spec.tested s.terms.now s.loads.now s.first s.begin in
    let is_after = λ (x : ℕ × Test). nat_lt s.begin x.1.step in
    let xs = c.args.tests.now in
    let i = c.loop-number.number in
    let x = c.index-tests-number.result in
    let mid = c.loop-number.kept in
    let new = c.if-len-lt-MOST_TESTS.kept in
    elim c.if-len-lt-MOST_TESTS.branch [
      | then-len-lt-MOST_TESTS+in_ok-tested+in_ok-push_some w ↦
          let few : length mid.items < 16 = omega (arith, w.if-len-lt-MOST_TESTS.true, c.len.ensures, mid.ok) in
          goes_on tested is_after xs i x c.loop-number-test.true c.index-tests-number.is 16 mid.items new.items c.loop-number.invariant few
          (ap (λ v. v.items) w.kept-is ∙ w.in_ok-push_some.ensures ∙ ap (λ o. mid.items ++ option_to_list o) w.in_ok-tested.ensures)
      | else-len-lt-MOST_TESTS w ↦
          let full : 16 ≤ length mid.items = omega (arith, w.if-len-lt-MOST_TESTS.false, c.len.ensures, mid.ok) in
          is_full tested is_after xs i x c.loop-number-test.true c.index-tests-number.is 16 mid.items new.items c.loop-number.invariant full
          (ap (λ v. v.items) w.kept-is)
    ]
