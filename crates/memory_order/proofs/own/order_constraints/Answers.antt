use Rattle.std.proofs.Common.{◌≡◌, ◌++◌, ◌∙◌, ap, sym, subst}
use Rattle.std.specs.List.{All}
use Rattle.sym_exec.proofs.Grown.{grows_none}
use Rattle.order_formula.specs.Orders.{ConjunctIsIn}
use Rattle.order_events.specs.Parts.{of_each}
use Rattle.memory_order.specs.Own.{failing_formula, own_formula, thread_formula}
use Rattle.memory_order.proofs.Within.{formula_in}
use Rattle.memory_order.proofs.own.order_constraints.Goals as goal

pub formula_of-requires : goal.formula_of-requires
formula_of-requires g c =
    let paths = c.args.paths.now in
    let nodes = c.push_threads.new.terms in
    let formula = own_formula g.M.MemoryModel.BUFFERED g.M.MemoryModel.bound paths c.args.symbolic.now nodes in
    let events = c.in_ok-events.events in
    let own = thread_formula g.M.MemoryModel.BUFFERED g.M.MemoryModel.bound events c.args.symbolic.now nodes in
    let threads : c.push_threads.new.conjuncts.items ≡ of_each own paths.threads =
    c.in_ok-push_threads.ensures.pushed nodes (grows_none nodes) ∙ ap (λ ks. ks ++ of_each own c.threads.result.now) c.new-conjuncts.ensures.items
    ∙ ap (of_each own) c.threads.ensures in
    let all : c.push_failing.new.conjuncts.items ≡ of_each own paths.threads ++ failing_formula g.M.MemoryModel.BUFFERED events =
    c.in_ok-push_failing.ensures ∙ ap (λ ks. ks ++ failing_formula g.M.MemoryModel.BUFFERED events) threads in
    let is : c.push_failing.new.conjuncts.items ≡ formula =
    all ∙ ap (λ es. of_each (thread_formula g.M.MemoryModel.BUFFERED g.M.MemoryModel.bound es c.args.symbolic.now nodes) paths.threads
    ++ failing_formula g.M.MemoryModel.BUFFERED es) c.in_ok-events.ensures in
    subst (All (ConjunctIsIn c.args.order.now)) (sym is)
    (formula_in g.M.MemoryModel.BUFFERED g.M.MemoryModel.bound paths c.args.symbolic.now nodes c.args.order.now c.requires.events)
