use Rattle.std.proofs.Common.{◌≡◌, ◌++◌, map, take}
use Rattle.clap_system.specs.Tests.{test_conjunct}
use Rattle.clap_system.proofs.conjuncts.push_tests.Given as goal

abbrev pub invariant-loop-test : goal.invariant-loop-test
invariant-loop-test l = l.conjuncts.items ≡ l.fn.conjuncts.items ++ map (test_conjunct l.thread) (take l.test-index l.tests)
