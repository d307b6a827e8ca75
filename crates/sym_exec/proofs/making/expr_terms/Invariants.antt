use Rattle.std.proofs.Common.{◌≡◌, length, drop, fold}
use Rattle.std.specs.Bool.{IsTrue}
use Rattle.std.specs.List.{list_all}
use Rattle.tc_code.specs.Expr.{names_slots}
use Rattle.sym_exec.specs.Making.{Grows, with_expr, expr_terms}
use Rattle.sym_exec.proofs.making.expr_terms.Given as goal

-- the terms so far and those of the expressions left are all terms
abbrev pub invariant-loop-e : goal.invariant-loop-e
invariant-loop-e l = record {
  all : fold (with_expr l.slots) (record { terms = l.made.items; nodes = l.terms }) ((drop l.e-index l.es))
      ≡ expr_terms l.fn.terms l.slots l.es;
  named : IsTrue (list_all (names_slots (length l.slots)) ((drop l.e-index l.es)));
  grown : Grows l.fn.terms l.terms;
}
