use Rattle.mutex_regions.proofs.exprs.+term_expr.Given as goal

abbrev pub decreases-term_expr : goal.decreases-term_expr
decreases-term_expr l = l.levels
