use Rattle.std.proofs.Common.{◌∙◌, length, refl, sym}
use Rattle.std.proofs.lemmas.Bool.{ltb-true}
use Rattle.std.proofs.lemmas.Option.{slice_get_read}
use Rattle.std.proofs.lemmas.Result.{IfOk-weaker}
use Rattle.mutex_clauses.proofs.steps.Over.{tests_found}
use Rattle.mutex_clauses.proofs.steps.steps.Log.tests.Goals as goal

pub returns : goal.returns
returns c =
    let s = c.args.self.now in
    let r = c.args.region.now in
    let threads = c.threads-threads.result.now in
    let course = c.in-Some.course.now in
    let found = c.in-Some.ensures.lookup in
    let there = slice_get_read threads (length threads) r.thread course refl (ltb-true _ _ (sym found.0)) found.1 in
    let first = c.in_ok-first_test.field-0 in
    let same = tests_found s.symbolic.now s.terms.now s.conjuncts r c.args.loads.now threads course first c.tests.result.now
    c.threads-threads.ensures there c.in_ok-first_test.ensures c.tests.ensures in
    IfOk-weaker c.tests-2.result _ _ (λ _ so. so ∙ same) c.tests-2.ensures
