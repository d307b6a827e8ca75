use Rattle.std.proofs.Common.{ℕ, List, sym, subst, take, nat_lt}
use Rattle.std.specs.Prelude.{IsTrue}
use Rattle.std.specs.List.{list_all}
use Rattle.cdcl_lines.proofs.Numbers.{numbers-positive}
use Rattle.cdcl_lines.proofs.lines.numbers.Goals as goal

pub new-requires : goal.new-requires
new-requires c = subst (λ (xs : List ℕ). IsTrue (list_all (λ n. nat_lt 0 n) xs)) (sym c.loop-clause.invariant)
    (numbers-positive (take c.loop-clause.clause-index c.args.clauses.now))
