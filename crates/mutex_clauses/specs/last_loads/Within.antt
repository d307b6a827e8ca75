-- Bounds on the variables of the last state of a mutex's cells, and of the loads that take it.
use Rattle.std.specs.Prelude.{ℕ, ◌<◌, ◌≤◌, List, ℤ}
use Rattle.std.specs.List.{All}
use Rattle.cnf_core.specs.Clauses.{var_of}
use Rattle.bit_ops.specs.bit_words.Words.{AreWithin}
use Rattle.bit_order.specs.Comparators.{before_literal}
use Rattle.bit_order.specs.Layouts.{Layout}
use Rattle.bit_blast.specs.Whole.{load_words}

-- all literals of the order, the loads, the conjuncts and the state are over the first `n`
-- variables
pub record IsStateWithin (n : ℕ) (y : Layout) (roots : List ℤ) (ordered : ℤ)
    (words : List (List ℤ)) : Type 0 where
  pub one : 0 < n
  pub before : (first second : ℕ) → var_of (before_literal y first second) ≤ n
  pub loads : All (AreWithin n) (load_words y)
  pub roots_in : AreWithin n roots
  pub ordered_in : var_of ordered ≤ n
  pub words_in : All (AreWithin n) words
