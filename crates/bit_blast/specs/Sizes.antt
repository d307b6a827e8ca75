-- Upper bounds on the variables, and on the clauses, of a formula.
use Rattle.std.specs.Prelude.{ℕ, ◌+◌, ◌*◌, ◌≤◌, List, length, sum_by}
use Rattle.order_formula.specs.declared.formula.Body.{Body}
use Rattle.order_formula.specs.declared.formula.Body.TheVariants as body
use Rattle.order_formula.specs.declared.formula.Conjunct.{Conjunct}
use Rattle.order_formula.specs.declared.literal.Atom.{Atom}
use Rattle.order_formula.specs.declared.literal.Atom.TheVariants.{Before, Ends, Test}
use Rattle.order_formula.specs.declared.literal.Literal.{Literal}
use Rattle.sym_terms.specs.declared.node.Node.{Node}
use Rattle.cnf_core.specs.Clauses.{Formula}
use Rattle.bit_order.specs.Comparators as order
use Rattle.bit_order.specs.Layouts.{Layout}
use Rattle.bit_terms.specs.Sizes.{terms_size}

-- testing that a word isn't 0 takes gates; the literals of an order exist already
abbrev pub atom_size : Atom → ℕ
atom_size (Before _ _) = 0
atom_size (Ends _ _) = 0
atom_size (Test _) = 96

-- one more gate for each literal of a case, and for each case
abbrev pub literal_size : Literal → ℕ
literal_size l = atom_size l.atom + 3

abbrev pub case_size : List Literal → ℕ
case_size literals = sum_by literal_size literals + 3

-- a read: a clause for every two candidates, and 64 for the value of each
abbrev pub read_size : ℕ → ℕ
read_size candidates = (candidates + 1) * (candidates + 170)

abbrev pub body_size : Body → ℕ
body_size (body.Any cases) = sum_by case_size cases
body_size (body.Read r) = read_size (length r.candidates)

abbrev pub bodies_size : List Conjunct → ℕ
bodies_size formula = sum_by (λ c. body_size c.body) formula

-- including the clause of each root
abbrev pub size_of : List Conjunct → ℕ
size_of formula = sum_by (λ c. body_size c.body + 1) formula

-- the sum for an order, terms and the literals of a formula; completing the order doesn't change it
abbrev pub draft_size : Layout → List Node → List Conjunct → ℕ
draft_size y nodes formula = order.size_of y + terms_size nodes + bodies_size formula

-- the same, with the clause of each root
abbrev pub whole_size : Layout → List Node → List Conjunct → ℕ
whole_size y nodes formula = order.size_of y + terms_size nodes + size_of formula

-- a formula has at most `most` variables and at most `most` clauses
abbrev pub IsUpTo : ℕ → Formula → Type 0
IsUpTo most f = (f.vars ≤ most) × (length f.clauses ≤ most)
