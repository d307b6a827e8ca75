use Rattle.std.proofs.Common.{◌≡◌, ◌++◌, List, take}
use Rattle.std.specs.Prelude.{fold}
use Rattle.sym_terms.specs.Terms.{with_node}
use Rattle.sym_terms.specs.declared.node.Node.{Node}
use Rattle.sym_exec.specs.Making.{Grows}
use Rattle.order_cells.specs.Terms.{HaveTerms}
use Rattle.order_events.specs.Parts.{of_each}
use Rattle.memory_order.specs.Own.{thread_tests, thread_formula}
use Rattle.memory_order.proofs.own.push_threads.Given as goal

abbrev pub invariant-loop-number : goal.invariant-loop-number
invariant-loop-number g l =
    let formula = thread_formula g.M.MemoryModel.BUFFERED g.M.MemoryModel.bound l.events l.symbolic in
    let tests = thread_tests g.M.MemoryModel.BUFFERED g.M.MemoryModel.bound l.symbolic in
    record {
      pushed : (later : List Node) → Grows l.terms later
          → l.conjuncts.items ≡ l.initial.conjuncts.items ++ of_each (formula later) (take l.number l.threads);
      added : (before : List Node) → HaveTerms before l.symbolic → Grows before l.initial.terms
          → l.terms ≡ fold with_node l.initial.terms (of_each (tests before) (take l.number l.threads));
      grown : Grows l.initial.terms l.terms;
    }
