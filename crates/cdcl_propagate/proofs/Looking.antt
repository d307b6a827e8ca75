-- The meaning of a look at a clause.
use Rattle.std.proofs.Common.{ℕ, List, inl, inr, sym, subst}
use Rattle.std.specs.Prelude.{Contains}
use Rattle.std.proofs.lemmas.Bool.{cases_eq}
use Rattle.cdcl_literals.specs.Literals.{opposite_of}
use Rattle.cdcl_trail.specs.Trail.{Trail}
use Rattle.cdcl_propagate.specs.helpers.Looks.{AllFalseBut}

-- if all literals except one are false, and that one is too, all are
pub all_false : (t : Trail) (ls : List ℕ) (other : ℕ) → AllFalseBut t ls other → Contains t.literals (opposite_of other) → (x : ℕ) → Contains ls x
    → Contains t.literals (opposite_of x)
all_false t ls other h f x c = elim (cases_eq x other) [ inl e ↦ subst (λ (y : ℕ). Contains t.literals (opposite_of y)) (sym e) f | inr e ↦ h x c e ]
