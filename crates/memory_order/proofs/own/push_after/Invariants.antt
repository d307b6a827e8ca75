use Rattle.std.proofs.Common.{◌≡◌, ◌++◌, List, [], take, drop}
use Rattle.std.specs.Prelude.{fold}
use Rattle.std.specs.List.{flat_map}
use Rattle.sym_terms.specs.Terms.{with_node}
use Rattle.sym_terms.specs.declared.node.Node.{Node}
use Rattle.sym_exec.specs.Making.{Grows}
use Rattle.order_cells.specs.Terms.{HaveTerms}
use Rattle.memory_order.specs.Own.{two_tests, two_formula}
use Rattle.memory_order.specs.Twos.{twos_with}
use Rattle.memory_order.proofs.own.push_after.Given as goal

-- the results so far together with those from the place on are all results
abbrev pub invariant-loop-place : goal.invariant-loop-place
invariant-loop-place g l =
    let formula = two_formula g.M.MemoryModel.BUFFERED g.M.MemoryModel.bound l.events l.thread.symbolic.now in
    let tests = two_tests g.M.MemoryModel.BUFFERED g.M.MemoryModel.bound l.thread.symbolic.now in
    let rest = twos_with l.first (take l.place l.after) (drop l.place l.after) in
    let all = twos_with l.first [] l.after in
    record {
      pushed : (later : List Node) → Grows l.terms later → l.conjuncts.items ++ flat_map (formula later l.thread.number) rest
          ≡ l.initial.conjuncts.items ++ flat_map (formula later l.thread.number) all;
      added : (before : List Node) → HaveTerms before l.thread.symbolic.now → Grows before l.initial.terms
          → fold with_node l.terms (flat_map (tests before l.thread.number) rest)
          ≡ fold with_node l.initial.terms (flat_map (tests before l.thread.number) all);
      grown : Grows l.initial.terms l.terms;
    }
