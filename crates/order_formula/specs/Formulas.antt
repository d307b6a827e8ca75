-- Formulas: lists of conjuncts, each of which has cases or describes the value of a load.
use Rattle.std.specs.Prelude.{ℕ, ◌+◌, ◌<◌, List, length, map, sum, IfSome}
use Rattle.std.specs.List.{All}
use Rattle.order_formula.specs.declared.literal.Atom.{Atom}
use Rattle.order_formula.specs.declared.literal.Atom.TheVariants.{Before, Ends, Test}
use Rattle.order_formula.specs.declared.literal.Literal.{Literal}
use Rattle.order_formula.specs.declared.read.Candidate.{Candidate}
use Rattle.order_formula.specs.declared.formula.Body.{Body}
use Rattle.order_formula.specs.declared.formula.Body.TheVariants as body
use Rattle.order_formula.specs.declared.formula.Conjunct.{Conjunct}
use Rattle.order_formula.specs.Reads.{Read}

-- all terms that a part of a formula names are less than `terms`
module _ (terms : ℕ) where
  abbrev pub AtomIsOf : Atom → Type 0
  AtomIsOf (Before _ _) = Unit {0}
  AtomIsOf (Ends _ _) = Unit {0}
  AtomIsOf (Test term) = term < terms

  abbrev pub LiteralIsOf : Literal → Type 0
  LiteralIsOf l = AtomIsOf l.atom

  pub record CandidateIsOf (c : Candidate) : Type 0 where
    pub same_cell : IfSome c.same_cell (λ test. test < terms)
    pub value : c.value < terms

  pub record ReadIsOf (r : Read) : Type 0 where
    pub takes : r.takes < terms
    pub start : r.start < terms
    pub candidates : All CandidateIsOf r.candidates

  abbrev pub BodyIsOf : Body → Type 0
  BodyIsOf (body.Any cases) = All (All LiteralIsOf) cases
  BodyIsOf (body.Read r) = ReadIsOf r

  abbrev pub ConjunctIsOf : Conjunct → Type 0
  ConjunctIsOf c = BodyIsOf c.body

  abbrev pub IsOf : List Conjunct → Type 0
  IsOf formula = All ConjunctIsOf formula

-- the size of a formula: the number of its conjuncts, cases, literals and candidates
abbrev pub case_nodes : List Literal → ℕ
case_nodes literals = length literals + 1

abbrev pub body_nodes : Body → ℕ
body_nodes (body.Any cases) = sum (map case_nodes cases)
body_nodes (body.Read r) = length r.candidates

abbrev pub conjunct_nodes : Conjunct → ℕ
conjunct_nodes c = body_nodes c.body + 1

abbrev pub nodes_of : List Conjunct → ℕ
nodes_of formula = sum (map conjunct_nodes formula)
