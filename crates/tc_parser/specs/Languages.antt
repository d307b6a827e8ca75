-- Where the faults of language 4 aren't those of language 3.
use Rattle.std.specs.Prelude.{◌≡◌, ℕ, List, take}
use Rattle.tc_lexer.specs.declared.token.Token.{Token}
use Rattle.tc_lexer.specs.Text.{AreTokens}
use Rattle.tc_tree.specs.Grammar.{AreOf, IsSyntaxFault}
use Rattle.tc_tree.specs.Words.{words_of}
use Rattle.tc_parser.specs.declared.fault.ParseFault.TheVariants.{Syntax}
use Rattle.tc_parser.specs.declared.fault.TextFault.{TextFault}
use Rattle.tc_parser.specs.declared.fault.TextFault.TheVariants.{Parse}
use Rattle.tc_parser.specs.Programs.{place_at}

-- a syntax fault of language 3 behind a word that it hasn't: an `add`, or an element's update
pub record IsPastUpdate (text : List ℕ) (fault : TextFault) : Type 0 where
  pub tokens : List Token
  pub read : AreTokens 4 text tokens
  pub at : ℕ
  pub is : IsSyntaxFault 3 (words_of 3 text tokens) at
  pub fault_is : fault ≡ Parse (Syntax (place_at text tokens at))
  pub past : AreOf 3 (take at (words_of 4 text tokens)) → ⊥
