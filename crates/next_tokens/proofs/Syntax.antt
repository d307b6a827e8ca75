-- The result of a search of a text with a syntax fault.
use Rattle.std.proofs.Common.{◌≡◌, ◌∙◌, ap, sym, subst, ℕ, List, Option, Some, None, Result, Ok, Err, IfOk, MatchOption}
use Rattle.tc_lexer.specs.declared.place.Place.{Place}
use Rattle.tc_lexer.specs.declared.token.Token.{Token}
use Rattle.tc_lexer.specs.Text.{AreTokens}
use Rattle.tc_lexer.proofs.OneReading.{one_tokens}
use Rattle.tc_tree.specs.Grammar.{IsSpelled, IsSyntaxFault}
use Rattle.tc_tree.specs.Words.{words_of}
use Rattle.tc_parser.proofs.tc_grammar.Faults.{one_syntax_fault}
use Rattle.tc_parser.specs.Programs.{IsTextFault, place_at}
use Rattle.tc_parser.specs.declared.fault.ParseFault.TheVariants.{Syntax}
use Rattle.tc_parser.specs.declared.fault.TextFault.TheVariants.{Parse}
use Rattle.next_tokens.specs.Next.{AreProgram, IsStuck}
use Rattle.next_tokens.specs.Texts.{Tells}
use Rattle.next_tokens.specs.helpers.Searched.{IsSearched}
use Rattle.next_tokens.specs.declared.stuck.Stuck.{Stuck}

module _ (text : List ℕ) (place : Place) (fault : IsTextFault 4 text (Parse (Syntax place))) where
  -- the text has only these tokens, and the fault is in them
  its_fault : (tokens : List Token) → tokens ≡ fault.tokens → IsSyntaxFault 4 (words_of 4 text tokens) fault.is.2.0
  its_fault tokens same = subst (λ (ts : List Token). IsSyntaxFault 4 (words_of 4 text ts) fault.is.2.0) (sym same) fault.is.2.1

  its_place : (tokens : List Token) (k : ℕ) → tokens ≡ fault.tokens → fault.is.2.0 ≡ k → place ≡ place_at text tokens k
  its_place tokens k same at =
      fault.is.2.2 ∙ ap (λ (ts : List Token). place_at text ts fault.is.2.0) (sym same) ∙ ap (place_at text tokens) at

  pub syntax_tells : (found : Option Stuck) → IsSearched text found → Tells text (Parse (Syntax place)) found
  syntax_tells None s =
      let same = one_tokens 4 text s.0 fault.tokens s.1 fault.read in
      (its_fault s.0 same).none s.2.0 s.2.1
  syntax_tells (Some stuck) s =
      let same = one_tokens 4 text s.0 fault.tokens s.1 fault.read in
      let at = one_syntax_fault 4 (words_of 4 text s.0) fault.is.2.0 stuck.place (its_fault s.0 same) s.2.fault in
      (s.0, s.1, s.2, its_place s.0 stuck.place same at)

-- a result for the tokens of a text is one for the text
pub searched : {E : Type 0} (text : List ℕ) (tokens : List Token) (found : Result (Option Stuck) E) → AreTokens 4 text tokens
    → IfOk found (λ stuck. MatchOption stuck (AreProgram text tokens) (IsStuck text tokens)) → IfOk found (IsSearched text)
searched text tokens (Err e) read h = tt
searched text tokens (Ok None) read h = (tokens, read, h)
searched text tokens (Ok (Some stuck)) read h = (tokens, read, h)

pub tells : {E : Type 0} (text : List ℕ) (place : Place) → IsTextFault 4 text (Parse (Syntax place)) → (found : Result (Option Stuck) E)
    → IfOk found (IsSearched text) → IfOk found (Tells text (Parse (Syntax place)))
tells text place fault (Err e) h = tt
tells text place fault (Ok found) h = syntax_tells text place fault found h
