-- Helpers: the results of the parts of the parser.
use Rattle.std.specs.Prelude.{◌≡◌, ℕ, ◌<◌, ◌≤◌, List}
use Rattle.tc_lexer.specs.declared.token.Token.{Token}
use Rattle.tc_tree.specs.declared.program.Global.{Global}
use Rattle.tc_tree.specs.Counts as count
use Rattle.tc_tree.specs.Grammar.{IsSyntaxFault}
use Rattle.tc_tree.specs.Words.{words_of}
use Rattle.tc_names.specs.declared.fault.NameFault.{NameFault}
use Rattle.tc_names.specs.declared.fault.NameFault.TheVariants as name
use Rattle.tc_parser.specs.declared.fault.What.TheVariants.{Cells, Mutexes, Conditions}
use Rattle.tc_parser.specs.declared.fault.ParseFault.{ParseFault}
use Rattle.tc_parser.specs.declared.fault.ParseFault.TheVariants.{Count, Syntax, Unknown, Twice, Kind, Arguments, Memory}
use Rattle.tc_parser.specs.Faults.{limit_of}
use Rattle.tc_parser.specs.Programs.{place_at}

-- the declarations keep the limits
pub record HaveRoom (globals : List Global) : Type 0 where
  pub cells : count.cells globals ≤ limit_of Cells
  pub mutexes : count.mutexes globals ≤ limit_of Mutexes
  pub conditions : count.conditions globals ≤ limit_of Conditions

-- the first of the three counts that exceeds its limit
abbrev pub IsCountFault : List Global → ParseFault → Type 0
IsCountFault globals (Count Cells n) = (limit_of Cells < n) × (n ≡ count.cells globals)
IsCountFault globals (Count Mutexes n) =
    (count.cells globals ≤ limit_of Cells) × (limit_of Mutexes < n) × (n ≡ count.mutexes globals)
IsCountFault globals (Count Conditions n) =
    (count.cells globals ≤ limit_of Cells) × (count.mutexes globals ≤ limit_of Mutexes)
    × (limit_of Conditions < n) × (n ≡ count.conditions globals)
IsCountFault globals _ = ⊥

-- memory ran out, or no program continues at one of the tokens or at the end
abbrev pub IsReadFault : List ℕ → List Token → ParseFault → Type 0
IsReadFault text tokens (Syntax place) =
    (k : ℕ) × IsSyntaxFault 4 (words_of 4 text tokens) k × (place ≡ place_at text tokens k)
IsReadFault text tokens Memory = Unit {0}
IsReadFault text tokens _ = ⊥

-- a fault of a name as a fault of the program
abbrev pub fault_of : NameFault → ParseFault
fault_of (name.Unknown place) = Unknown place
fault_of (name.Twice place) = Twice place
fault_of (name.Kind place) = Kind place
fault_of (name.Arguments place) = Arguments place
fault_of name.Memory = Memory
