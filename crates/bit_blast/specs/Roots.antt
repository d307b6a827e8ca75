-- The roots of a formula: for each conjunct a literal, which a clause asserts.
use Rattle.std.specs.Prelude.{List, [], ◌∷◌, ◌++◌, fold, map}
use Rattle.order_formula.specs.declared.formula.Body.{Body}
use Rattle.order_formula.specs.declared.formula.Body.TheVariants as body
use Rattle.order_formula.specs.declared.formula.Conjunct.{Conjunct}
use Rattle.cnf_core.specs.Clauses.{Formula}
use Rattle.bit_gates.specs.Folded.{Made}
use Rattle.bit_ops.specs.bit_words.Words.{Walked}
use Rattle.bit_blast.specs.Cases.{Parts, cases_made}
use Rattle.bit_blast.specs.Reads.{read_made}

module _ (parts : Parts) where
  abbrev pub body_made : Formula → Body → Made
  body_made f (body.Any cases) = cases_made parts f cases
  body_made f (body.Read r) = read_made parts f r

  -- appends the root of the next conjunct
  abbrev pub with_root : Walked Formula → Conjunct → Walked Formula
  with_root m c =
      let here : Made = body_made m.state c.body in
      record { state = here.formula; word = m.word ++ here.literal ∷ [] }

  -- the roots of all conjuncts, in order
  abbrev pub roots : Formula → List Conjunct → Walked Formula
  roots f formula = fold with_root (record { state = f; word = [] }) formula

  -- adds a clause for each root at the end, in order
  abbrev pub with_root_clauses : Formula → List Conjunct → Formula
  with_root_clauses f formula =
      let m : Walked Formula = roots f formula in
      record { vars = m.state.vars; clauses = m.state.clauses ++ map (λ l. l ∷ []) m.word }
