-- Texts of programs, and the one fault of any other text. A language is given by its number.
use Rattle.std.specs.Prelude.{◌≡◌, ℕ, zero, suc, ◌+◌, ◌-◌, ◌<◌, ◌≤◌, Bool, true, false, nat_lt, List, [], ◌∷◌, length, map, take, fold, Option, Some, None}
use Rattle.std.specs.List.{slice_split, find}
use Rattle.tc_lexer.specs.declared.place.Place.{Place}
use Rattle.tc_lexer.specs.declared.token.Sign.{Sign}
use Rattle.tc_lexer.specs.declared.token.Sign.TheVariants.{OpenParen, CloseParen, OpenBracket, CloseBracket, OpenBrace, CloseBrace, Semicolon}
use Rattle.tc_lexer.specs.declared.token.Token.{Token}
use Rattle.tc_lexer.specs.declared.token.TokenKind.{TokenKind}
use Rattle.tc_lexer.specs.declared.token.TokenKind.TheVariants as kind
use Rattle.tc_lexer.specs.Places.{place_after}
use Rattle.tc_lexer.specs.Text.{AreTokens, IsFault}
use Rattle.tc_tree.specs.Counts as count
use Rattle.tc_tree.specs.Grammar.{Program, IsSpelled, IsSyntaxFault}
use Rattle.tc_tree.specs.Words.{words_of}
use Rattle.tc_names.specs.declared.fault.NameFault.{NameFault}
use Rattle.tc_names.specs.declared.fault.NameFault.TheVariants as name
use Rattle.tc_names.specs.Names.{names_fault}
use Rattle.tc_parser.specs.declared.fault.What.TheVariants.{Brackets, Stretch, Cells, Mutexes, Conditions}
use Rattle.tc_parser.specs.declared.fault.ParseFault.{ParseFault}
use Rattle.tc_parser.specs.declared.fault.ParseFault.TheVariants.{Count, Syntax, Unknown, Twice, Kind, Arguments, Memory}
use Rattle.tc_parser.specs.declared.fault.TextFault.{TextFault}
use Rattle.tc_parser.specs.declared.fault.TextFault.TheVariants.{Lex, Parse}
use Rattle.tc_parser.specs.Faults.{limit_of}

-- ---- counts of tokens

-- the number of open brackets after a sign; a closing one of any shape closes the last, if any
abbrev pub open_after_sign : ℕ → Sign → ℕ
open_after_sign n OpenParen = n + 1
open_after_sign n OpenBracket = n + 1
open_after_sign n OpenBrace = n + 1
open_after_sign n CloseParen = n - 1
open_after_sign n CloseBracket = n - 1
open_after_sign n CloseBrace = n - 1
open_after_sign n _ = n

abbrev pub open_after_kind : ℕ → TokenKind → ℕ
open_after_kind n (kind.Sign s) = open_after_sign n s
open_after_kind n _ = n

-- the number of open brackets after these tokens
abbrev pub open_after : List Token → ℕ
open_after tokens = fold (λ n t. open_after_kind n t.kind) 0 tokens

-- the brackets never nest deeper than the limit
abbrev pub IsNested : List Token → Type 0
IsNested tokens = (k : ℕ) → open_after (take k tokens) ≤ limit_of Brackets

-- at some token, the brackets nest deeper than the limit
abbrev pub IsTooDeep : List Token → Type 0
IsTooDeep tokens = (k : ℕ) × (limit_of Brackets < open_after (take k tokens))

abbrev pub ends_stretch : TokenKind → Bool
ends_stretch (kind.Sign Semicolon) = true
ends_stretch (kind.Sign OpenBrace) = true
ends_stretch (kind.Sign CloseBrace) = true
ends_stretch _ = false

-- the length of the first stretch between `;`, `{` and `}` that is too long, if there is one
abbrev pub long_stretch : List Token → Option ℕ
long_stretch tokens =
    find (λ n. nat_lt (limit_of Stretch) n)
    (map length (slice_split (λ t. ends_stretch t.kind) tokens))

-- ---- programs

-- the tokens spell the program, and keep the limits of nesting and of stretches
pub record AreOfProgram (language : ℕ) (text : List ℕ) (tokens : List Token)
    (p : Program) : Type 0 where
  pub nested : IsNested tokens
  pub parted : long_stretch tokens ≡ None
  pub spelled : IsSpelled language (words_of language text tokens) p

-- the text is this program: its tokens spell it, and it keeps the rules for names and the limits
pub record IsProgram (language : ℕ) (text : List ℕ) (p : Program) : Type 0 where
  pub tokens : List Token
  pub read : AreTokens language text tokens
  pub are_of : AreOfProgram language text tokens p
  pub names : names_fault text p ≡ None
  pub cells : count.cells p.globals ≤ limit_of Cells
  pub mutexes : count.mutexes p.globals ≤ limit_of Mutexes
  pub conditions : count.conditions p.globals ≤ limit_of Conditions

-- ---- faults

-- the place of the k-th token, or of the end of the text
abbrev pub place_at : List ℕ → List Token → ℕ → Place
place_at text [] k = place_after text
place_at text (t ∷ ts) zero = t.place
place_at text (t ∷ ts) (suc k) = place_at text ts k

-- the tokens spell a program, and this is its first fault of a name
pub record HasNameFault (language : ℕ) (text : List ℕ) (tokens : List Token)
    (fault : NameFault) : Type 0 where
  pub program : Program
  pub are_of : AreOfProgram language text tokens program
  pub is : names_fault text program ≡ Some fault

-- the tokens spell the program, and no name has a fault
pub record AreNamed (language : ℕ) (text : List ℕ) (tokens : List Token)
    (p : Program) : Type 0 where
  pub are_of : AreOfProgram language text tokens p
  pub names : names_fault text p ≡ None

-- the fault of the tokens of this text; each kind occurs only if none before it does
abbrev pub IsTokensFault : ℕ → List ℕ → List Token → ParseFault → Type 0
IsTokensFault language text tokens (Count Brackets n) =
    IsTooDeep tokens × (n ≡ limit_of Brackets + 1)
IsTokensFault language text tokens (Count Stretch n) =
    IsNested tokens × (long_stretch tokens ≡ Some n)
IsTokensFault language text tokens (Syntax place) = IsNested tokens × (long_stretch tokens ≡ None)
    × ((k : ℕ) × IsSyntaxFault language (words_of language text tokens) k × (place ≡ place_at text tokens k))
IsTokensFault language text tokens (Unknown place) =
    HasNameFault language text tokens (name.Unknown place)
IsTokensFault language text tokens (Twice place) =
    HasNameFault language text tokens (name.Twice place)
IsTokensFault language text tokens (Kind place) =
    HasNameFault language text tokens (name.Kind place)
IsTokensFault language text tokens (Arguments place) =
    HasNameFault language text tokens (name.Arguments place)
IsTokensFault language text tokens (Count Cells n) =
    (p : Program) × AreNamed language text tokens p × (limit_of Cells < n)
    × (n ≡ count.cells p.globals)
IsTokensFault language text tokens (Count Mutexes n) =
    (p : Program) × AreNamed language text tokens p × (count.cells p.globals ≤ limit_of Cells)
    × (limit_of Mutexes < n) × (n ≡ count.mutexes p.globals)
IsTokensFault language text tokens (Count Conditions n) =
    (p : Program) × AreNamed language text tokens p × (count.cells p.globals ≤ limit_of Cells)
    × (count.mutexes p.globals ≤ limit_of Mutexes) × (limit_of Conditions < n)
    × (n ≡ count.conditions p.globals)
IsTokensFault language text tokens Memory = ⊥

-- the text has tokens, and they have the fault
pub record IsProgramFault (language : ℕ) (text : List ℕ) (fault : ParseFault) : Type 0 where
  pub tokens : List Token
  pub read : AreTokens language text tokens
  pub is : IsTokensFault language text tokens fault

-- the fault of a text: it has no tokens, or they have a fault
abbrev pub IsTextFault : ℕ → List ℕ → TextFault → Type 0
IsTextFault language text (Lex fault) = IsFault language text fault
IsTextFault language text (Parse fault) = IsProgramFault language text fault
