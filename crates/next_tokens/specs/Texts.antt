-- The tokens that are possible where a text stops being a program.
use Rattle.std.specs.Prelude.{◌≡◌, ℕ, List, Option, Some, None}
use Rattle.tc_lexer.specs.declared.token.Token.{Token}
use Rattle.tc_lexer.specs.Text.{AreTokens}
use Rattle.tc_parser.specs.Programs.{place_at}
use Rattle.tc_parser.specs.declared.fault.ParseFault.TheVariants.{Syntax}
use Rattle.tc_parser.specs.declared.fault.TextFault.{TextFault}
use Rattle.tc_parser.specs.declared.fault.TextFault.TheVariants.{Parse}
use Rattle.next_tokens.specs.Next.{IsStuck}
use Rattle.next_tokens.specs.declared.stuck.Stuck.{Stuck}

-- a syntax fault has the tokens that are possible there; other faults have none
abbrev pub Tells : (text : List ℕ) → TextFault → Option Stuck → Type 0
Tells text (Parse (Syntax place)) None = ⊥
Tells text (Parse (Syntax place)) (Some stuck) =
    (tokens : List Token) × AreTokens 4 text tokens × IsStuck text tokens stuck
    × (place ≡ place_at text tokens stuck.place)
Tells text fault stuck = stuck ≡ None
