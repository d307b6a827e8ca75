-- The composition of the parts' results.
use Rattle.std.proofs.Common.{◌≡◌, ◌≢◌, ℕ, zero, suc, ◌-◌, ◌<◌, ◌≤◌, List, [], ◌∷◌, ◌++◌, length, refl, sym, ap, ◌∙◌, subst, arith, get_or}
use Rattle.std.proofs.Common.{Err}
use Rattle.tc_lexer.specs.declared.token.Token.{Token}
use Rattle.tc_lexer.specs.Tokens.{spelling}
use Rattle.tc_lexer.specs.Pieces.{Piece, Space, LineComment, BlockComment, written, ArePieces}
use Rattle.tc_lexer.specs.Pieces as pieces
use Rattle.tc_lexer.specs.Places.{place_after}
use Rattle.tc_lexer.specs.Text.{AreTokens, tokens_after}
use Rattle.tc_lexer.proofs.Readings.{begins_shorter}
use Rattle.tc_tree.specs.declared.program.Global.{Global}
use Rattle.tc_tree.specs.declared.program.Global.TheVariants.{Int, Array, Mutex, Condition}
use Rattle.tc_tree.specs.declared.program.Initial.TheVariants.{Zero, Plain, Negated}
use Rattle.tc_tree.specs.declared.word.Word.{Word}
use Rattle.tc_lexer.specs.declared.token.Keyword.TheVariants as keyword
use Rattle.tc_tree.specs.declared.word.Word.TheVariants.{Keyword as AKeyword}
use Rattle.tc_tree.specs.Grammar.{Program, global_then, globals_then, threads_then, body_then, program_words, IsSpelled, IsSyntaxFault}
use Rattle.tc_tree.specs.Words.{words_of}
use Rattle.tc_parser.proofs.Words.{length-words}
use Rattle.tc_syntax.specs.Faults.{IsStop}
use Rattle.tc_syntax.specs.declared.reader.Stop.TheVariants.{Left}
use Rattle.tc_lexer.specs.declared.place.Place.{Place}
use Rattle.tc_names.specs.declared.fault.NameFault.{NameFault}
use Rattle.tc_names.specs.declared.fault.NameFault.TheVariants as name
use Rattle.tc_names.specs.Names.{names_fault}
use Rattle.tc_names.specs.Answers.{TellsUnlessMemory}
use Rattle.tc_parser.specs.declared.fault.ParseFault.{ParseFault}
use Rattle.tc_parser.specs.declared.fault.ParseFault.TheVariants.{Memory}
use Rattle.tc_parser.specs.Programs.{AreOfProgram, IsTokensFault, IsProgramFault, place_at}
use Rattle.tc_parser.specs.helpers.Parts.{fault_of}

-- ---- a text has no more declarations than bytes

tokens_within : (language : ℕ) (before bytes : List ℕ) (ps : List Piece) → ArePieces language bytes ps [] → length (tokens_after before ps) ≤ length bytes
tokens_within language before bytes [] x = omega arith
tokens_within language before bytes (Space b ∷ ps) x =
    let here = begins_shorter language bytes (Space b) x.0 x.1 in
    omega (arith, here, tokens_within language (before ++ written (Space b)) x.0 ps x.2)
tokens_within language before bytes (LineComment body ∷ ps) x =
    let here = begins_shorter language bytes (LineComment body) x.0 x.1 in
    omega (arith, here, tokens_within language (before ++ written (LineComment body)) x.0 ps x.2)
tokens_within language before bytes (BlockComment body ∷ ps) x =
    let here = begins_shorter language bytes (BlockComment body) x.0 x.1 in
    omega (arith, here, tokens_within language (before ++ written (BlockComment body)) x.0 ps x.2)
tokens_within language before bytes (pieces.Token t ∷ ps) x =
    let here = begins_shorter language bytes (pieces.Token t) x.0 x.1 in
    omega (arith, here, tokens_within language (before ++ spelling t) x.0 ps x.2)

some_words : (g : Global) (rest : List Word) → length rest < length (global_then g rest)
some_words (Int x Zero) rest = omega arith
some_words (Int x (Plain n)) rest = omega arith
some_words (Int x (Negated n)) rest = omega arith
some_words (Array a n) rest = omega arith
some_words (Mutex m) rest = omega arith
some_words (Condition c) rest = omega arith

globals_within : (gs : List Global) (rest : List Word) → length gs ≤ length (globals_then gs rest)
globals_within [] rest = omega arith
globals_within (g ∷ gs) rest = omega (arith, some_words g (globals_then gs rest), globals_within gs rest)

-- a program has at most as many words as its text has bytes
pub few_words : (language : ℕ) (text : List ℕ) (tokens : List Token) (p : Program) → AreTokens language text tokens
    → IsSpelled language (words_of language text tokens) p → length (program_words p) ≤ length text
few_words language text tokens p read spelled =
    let words : length tokens ≡ length (program_words p) = sym (length-words language text tokens) ∙ ap length spelled.spelled in
    let within : length tokens ≤ length text = subst (λ (ts : List Token). length ts ≤ length text) (sym read.tokens_are)
    (tokens_within language [] text read.pieces read.whole) in
    omega (arith, words, within)

pub few_globals : (language : ℕ) (text : List ℕ) (tokens : List Token) (p : Program) → AreTokens language text tokens
    → IsSpelled language (words_of language text tokens) p → length p.globals ≤ length text
few_globals language text tokens p read spelled = omega (
  arith,
  few_words language text tokens p read spelled,
  globals_within p.globals (threads_then p.threads (AKeyword keyword.Main ∷ body_then p.main [])),
)

-- ---- faults of the parts

pub name_fault : (text : List ℕ) (tokens : List Token) (p : Program) (fault : NameFault) → AreTokens 4 text tokens → AreOfProgram 4 text tokens p
    → TellsUnlessMemory {A = Unit {0}} (Err fault) (names_fault text p) → fault_of fault ≢ Memory → IsProgramFault 4 text (fault_of fault)
name_fault text tokens p (name.Unknown place) read are is h = record { tokens = tokens; read = read; is = record { program = p; are_of = are; is = is } }
name_fault text tokens p (name.Twice place) read are is h = record { tokens = tokens; read = read; is = record { program = p; are_of = are; is = is } }
name_fault text tokens p (name.Kind place) read are is h = record { tokens = tokens; read = read; is = record { program = p; are_of = are; is = is } }
name_fault text tokens p (name.Arguments place) read are is h = record { tokens = tokens; read = read; is = record { program = p; are_of = are; is = is } }
name_fault text tokens p name.Memory read are is h = absurd (h refl)

-- ---- places

pub place_there : (text : List ℕ) (tokens : List Token) (k : ℕ) (t : Token) → k < length tokens → t ≡ get_or tokens k t → t.place ≡ place_at text tokens k
place_there text [] k t h is = absurd (omega arith)
place_there text (u ∷ us) zero t h is = ap (λ (v : Token). v.place) is
place_there text (u ∷ us) (suc k) t h is = place_there text us k t (omega arith) is

pub place_past : (text : List ℕ) (tokens : List Token) (k : ℕ) → length tokens ≤ k → place_after text ≡ place_at text tokens k
place_past text [] k h = refl
place_past text (u ∷ us) zero h = absurd (omega arith)
place_past text (u ∷ us) (suc k) h = place_past text us k (omega arith)

-- the token at which the reader stopped
pub stop_place : (text : List ℕ) (tokens : List Token) (ws : List Word) (left : ℕ) (place : Place) → ws ≡ words_of 4 text tokens → IsStop 4 ws (Left left)
    → place ≡ place_at text tokens (length tokens - left)
    → (k : ℕ) × IsSyntaxFault 4 (words_of 4 text tokens) k × (place ≡ place_at text tokens k)
stop_place text tokens ws left place words stop is =
    let len : length ws ≡ length tokens = ap length words ∙ length-words 4 text tokens in (
      length tokens - left,
      subst (λ (n : ℕ). IsSyntaxFault 4 (words_of 4 text tokens) (n - left)) len (subst (λ (us : List Word). IsSyntaxFault 4 us (length ws - left)) words stop.1),
      is,
    )

-- a fault of the tokens
pub text_fault : (text : List ℕ) (tokens : List Token) (fault : ParseFault) → AreTokens 4 text tokens → IsTokensFault 4 text tokens fault
    → IsProgramFault 4 text fault
text_fault text tokens fault read is = record { tokens = tokens; read = read; is = is }
