use Rattle.std.proofs.Common.{◌≡◌, map, take}
use Rattle.order_events.specs.Parts.{of_each}
use Rattle.clap_system.specs.Tests.{test_conjunct}
use Rattle.clap_system.proofs.conjuncts.test_conjuncts.Given as goal

abbrev pub invariant-loop-thread : goal.invariant-loop-thread
invariant-loop-thread l = l.conjuncts.items ≡ of_each (λ t c. map (test_conjunct t) c.tests) (take l.thread l.symbolic.threads)
