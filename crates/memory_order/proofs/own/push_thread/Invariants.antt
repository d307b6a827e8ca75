use Rattle.std.proofs.Common.{◌≡◌, ◌++◌, List, length}
use Rattle.std.specs.Prelude.{fold}
use Rattle.std.specs.List.{flat_map}
use Rattle.sym_terms.specs.Terms.{with_node}
use Rattle.sym_terms.specs.declared.node.Node.{Node}
use Rattle.sym_exec.specs.Making.{Grows}
use Rattle.order_cells.specs.Terms.{HaveTerms}
use Rattle.memory_order.specs.Own.{two_tests, two_formula}
use Rattle.memory_order.specs.Twos.{twos}
use Rattle.memory_order.proofs.own.push_thread.Given as goal

-- the results so far together with those of the rest are all results
abbrev pub invariant-loop-rest : goal.invariant-loop-rest
invariant-loop-rest g l =
    let formula = two_formula g.M.MemoryModel.BUFFERED g.M.MemoryModel.bound l.events l.thread.symbolic.now in
    let tests = two_tests g.M.MemoryModel.BUFFERED g.M.MemoryModel.bound l.thread.symbolic.now in
    record {
      pushed : (later : List Node) → Grows l.terms later → l.conjuncts.items ++ flat_map (formula later l.thread.number) (twos l.rest)
          ≡ l.initial.conjuncts.items ++ flat_map (formula later l.thread.number) (twos l.walk.events);
      added : (before : List Node) → HaveTerms before l.thread.symbolic.now → Grows before l.initial.terms
          → fold with_node l.terms (flat_map (tests before l.thread.number) (twos l.rest))
          ≡ fold with_node l.initial.terms (flat_map (tests before l.thread.number) (twos l.walk.events));
      grown : Grows l.initial.terms l.terms;
    }

abbrev pub decreases-loop-rest : goal.decreases-loop-rest
decreases-loop-rest g l = length l.rest
