use Rattle.std.proofs.Common.{sym, subst}
use Rattle.std.specs.List.{IsDistinct}
use Rattle.sym_terms.proofs.Same.{eq_is_same}
use Rattle.sym_terms.proofs.Growth.{Earlier, earlier_none}
use Rattle.sym_terms.proofs.terms.Terms.new.Goals as goal

pub invariant_of-result : goal.invariant_of-result
invariant_of-result c = record {
  distinct = subst (λ e. IsDistinct e c.new.result.keys) eq_is_same c.new.ensures.unique;
  earlier = subst Earlier (sym c.new.ensures.empty) earlier_none;
}
