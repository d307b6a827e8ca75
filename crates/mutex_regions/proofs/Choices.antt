-- A choice among cells, one cell after another.
use Rattle.std.proofs.Common.{◌≡◌, Bool, true, false, List, [], ◌∷◌, ◌++◌, Option, None, refl, ap, sym, ◌∙◌}
use Rattle.std.specs.Prelude.{fold}
use Rattle.std.proofs.lemmas.List.Sums.{fold_push}
use Rattle.tc_code.specs.Expr.{Expr}
use Rattle.mutex_regions.specs.Functions.{chosen, here_or}
use Rattle.mutex_regions.specs.declared.functions.Holding.{Holding}

pub chosen_push : (index : Option Expr) (xs : List Holding) (x : Holding) → (xs ≡ [] → ⊥) → chosen index (xs ++ x ∷ []) ≡ here_or index (chosen index xs) x
chosen_push index [] x some = absurd (some refl)
chosen_push index (y ∷ ys) x some = fold_push (here_or index) y.value ys x

-- the choice among the cells so far, unless there is none yet
pub record IsSoFar (index : Option Expr) (cells : List Holding) (is_first : Bool) (value : Option Expr) : Type 0 where
  pub none : is_first ≡ true → (cells ≡ []) × (value ≡ None)
  pub some : is_first ≡ false → (cells ≡ [] → ⊥) × (value ≡ chosen index cells)

pub so_far : (index : Option Expr) (cells : List Holding) (is_first : Bool) (value : Option Expr) → IsSoFar index cells is_first value
    → value ≡ chosen index cells
so_far index cells true value s = (s.none refl).1 ∙ sym (ap (chosen index) (s.none refl).0)
so_far index cells false value s = (s.some refl).1
