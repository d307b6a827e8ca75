-- Circuits of terms that are as small as the sizes of their operators say.
use Rattle.std.specs.Prelude.{◌≤◌, List, ℤ, length}
use Rattle.std.specs.List.{All}
use Rattle.sym_terms.specs.declared.node.Node.{Node}
use Rattle.cnf_core.specs.Clauses.{Formula}
use Rattle.bit_gates.specs.Folded.{IsLarger}
use Rattle.bit_terms.specs.Sizes.{terms_size}
use Rattle.bit_terms.specs.Terms.{term_words}

-- a word of at most 32 literals
abbrev pub IsShort : List ℤ → Type 0
IsShort word = length word ≤ 32

pub record TermsAreSmall (nodes : List Node) (symbols : List (List ℤ)) (f : Formula) : Type 0 where
  pub larger : IsLarger (terms_size nodes) f (term_words nodes symbols f).formula
  pub short : All IsShort (term_words nodes symbols f).words
