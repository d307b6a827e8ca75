use Rattle.std.proofs.Common.{subst, sym, IfOk}
use Rattle.store_buffers.specs.Buffers.{buffer_of}
use Rattle.find_failures.specs.Found.{IsSearched}
use Rattle.find_failures.specs.clap_solve.Clauses.{bound_of}
use Rattle.find_command.proofs.searching.search_under.Goals as goal

pub returns-in-Sc : goal.returns-in-Sc
returns-in-Sc c =
    subst (λ m. IfOk c.find.result (IsSearched (buffer_of m) (bound_of m) c.args.code.now m c.args.call.now.asked)) (sym c.in-Sc.is) c.find.ensures

pub returns-in-Tso : goal.returns-in-Tso
returns-in-Tso c =
    subst (λ m. IfOk c.find-in-Tso.result (IsSearched (buffer_of m) (bound_of m) c.args.code.now m c.args.call.now.asked)) (sym c.in-Tso.is)
    c.find-in-Tso.ensures

pub returns-in-Pso : goal.returns-in-Pso
returns-in-Pso c =
    subst (λ m. IfOk c.find-in-Pso.result (IsSearched (buffer_of m) (bound_of m) c.args.code.now m c.args.call.now.asked)) (sym c.in-Pso.is)
    c.find-in-Pso.ensures
