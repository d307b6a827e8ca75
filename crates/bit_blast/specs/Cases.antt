-- The circuits of conjuncts that have cases: gates, from left to right.
use Rattle.std.specs.Prelude.{ℕ, true, false, if◌then◌else◌, List, ℤ, fold}
use Rattle.order_formula.specs.declared.literal.Atom.{Atom}
use Rattle.order_formula.specs.declared.literal.Atom.TheVariants.{Before, Ends, Test}
use Rattle.order_formula.specs.declared.literal.Literal.{Literal}
use Rattle.cnf_core.specs.Clauses.{Formula}
use Rattle.bit_gates.specs.Folded.{Made, constant, kept, opposite, conjunction, disjunction}
use Rattle.bit_ops.specs.Ops.{some_of}
use Rattle.bit_terms.specs.Terms.{word_at}

-- the parts of literals: the literals of "before" and of "ends", and the word of each term
pub record Parts : Type 0 where
  pub before : ℕ → ℕ → ℤ
  pub ends : ℕ → ℕ → ℤ
  pub words : List (List ℤ)

module _ (parts : Parts) where
  abbrev pub atom_made : Formula → Atom → Made
  atom_made f (Before first second) = kept f (parts.before first second)
  atom_made f (Ends sleep by) = kept f (parts.ends sleep by)
  atom_made f (Test term) = some_of f (word_at parts.words term)

  abbrev pub literal_made : Formula → Literal → Made
  literal_made f l = let m : Made = atom_made f l.atom in if l.wanted then m else opposite m

  -- a case: the conjunction of its literals
  abbrev pub with_literal : Made → Literal → Made
  with_literal m l =
      let x : Made = literal_made m.formula l in conjunction x.formula m.literal x.literal

  abbrev pub case_made : Formula → List Literal → Made
  case_made f literals = fold with_literal (kept f (constant true)) literals

  -- a conjunct: the disjunction of its cases
  abbrev pub with_case : Made → List Literal → Made
  with_case m literals =
      let x : Made = case_made m.formula literals in disjunction x.formula m.literal x.literal

  abbrev pub cases_made : Formula → List (List Literal) → Made
  cases_made f cases = fold with_case (kept f (constant false)) cases
