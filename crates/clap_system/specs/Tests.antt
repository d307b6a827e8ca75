-- Conjuncts for the outcomes of branches and sites.
use Rattle.std.specs.Prelude.{ℕ, List, [], ◌∷◌, map}
use Rattle.sym_exec.specs.Executed.{Symbolic}
use Rattle.sym_exec.specs.declared.symbolic.Test.{Test}
use Rattle.order_formula.specs.declared.formula.Conjunct.{Conjunct}
use Rattle.order_formula.specs.declared.group.Group.TheVariants as group
use Rattle.order_formula.specs.declared.literal.Atom.TheVariants as atom
use Rattle.order_events.specs.Parts.{of_each, one_of}

-- a test of a thread has its wanted outcome
abbrev pub test_conjunct : ℕ → Test → Conjunct
test_conjunct t x =
    one_of (group.Test t x.line) (record { atom = atom.Test x.term; wanted = x.wanted } ∷ [])

-- the conjuncts of all tests of all threads
abbrev pub test_formula : Symbolic → List Conjunct
test_formula symbolic = of_each (λ t c. map (test_conjunct t) c.tests) symbolic.threads
