-- A program of one language is one of the next.
use Rattle.std.proofs.Common.{◌≡◌, ◌≤◌, ◌⊎◌, ℕ, zero, suc, Bool, true, false, List, [], ◌∷◌, map, length, take, None, refl, sym, ap, ap₂, ◌∙◌, subst, arith, inl, inr}
use Rattle.std.specs.Prelude.{not, ◌&&◌, if◌then◌else◌}
use Rattle.std.proofs.lemmas.Bool.{cases_Bool, cases_lt, and_from}
use Rattle.tc_lexer.specs.declared.place.Place.{Place}
use Rattle.tc_lexer.specs.declared.token.Sign.{Sign as AnySign}
use Rattle.tc_lexer.specs.declared.token.Sign.TheVariants.{CloseBrace, Less, LessEqual, Greater, GreaterEqual}
use Rattle.tc_lexer.specs.declared.token.Token.{Token}
use Rattle.tc_lexer.specs.declared.token.TokenKind.{TokenKind}
use Rattle.tc_lexer.specs.declared.token.TokenKind.TheVariants as kind
use Rattle.tc_lexer.specs.Tokens.{PlainToken, Sign, plain_kind, plain_token, plain_tokens}
use Rattle.tc_lexer.specs.Text.{AreTokens}
use Rattle.tc_lexer.specs.Languages.{makes_shift, have_no_shift, HaveNoKeywordOf}
use Rattle.tc_lexer.specs.declared.token.Keyword.{Keyword}
use Rattle.tc_lexer.specs.declared.token.Keyword.TheVariants as keyword
use Rattle.tc_lexer.proofs.NextLanguage.{from_1_to_2, from_2_to_3}
use Rattle.tc_lexer.proofs.LaterLanguages.{tokens_in, fault_in}
use Rattle.tc_lexer.proofs.OneReading.{one_tokens}
use Rattle.tc_tree.specs.declared.word.Word.{Word}
use Rattle.tc_tree.specs.declared.expression.Name.{Name}
use Rattle.tc_tree.specs.declared.statement.Target.{Target}
use Rattle.tc_tree.specs.declared.statement.Target.TheVariants.{Cell, Element}
use Rattle.tc_tree.specs.declared.statement.UpdateKind.{UpdateKind}
use Rattle.tc_tree.specs.declared.statement.UpdateKind.TheVariants.{Swap, Cas, Add}
use Rattle.tc_tree.specs.declared.word.Word.TheVariants.{Name as AName, Update as AnUpdate}
use Rattle.tc_tree.specs.Grammar.{Program, program_words, AreOf, IsSpelled, IsSyntaxFault}
use Rattle.tc_tree.specs.Words.{
  keyword_word,
  kind_word,
  sign_word,
  word_of,
  words_of,
  is_name,
  is_assign,
  is_add,
  begin_call,
  target_of,
  called_word,
  words_after,
  update_since,
  word_since,
}
use Rattle.tc_names.specs.declared.fault.NameFault.{NameFault}
use Rattle.tc_names.specs.declared.fault.NameFault.TheVariants as name
use Rattle.tc_grammar.proofs.Apart.{compares, AreApart, program_apart}
use Rattle.tc_grammar.proofs.Faults.{BeginAlike, AreAlike, same_fault}
use Rattle.tc_grammar.proofs.Steps.{after_fits}
use Rattle.tc_grammar.proofs.Kept.{program_kept}
use Rattle.tc_parser.specs.declared.fault.ParseFault.{ParseFault}
use Rattle.tc_parser.specs.declared.fault.ParseFault.TheVariants.{Count, Syntax, Unknown, Twice, Kind, Arguments, Memory}
use Rattle.tc_parser.specs.declared.fault.TextFault.{TextFault}
use Rattle.tc_parser.specs.declared.fault.TextFault.TheVariants.{Lex, Parse}
use Rattle.tc_parser.specs.declared.fault.What.TheVariants.{Brackets, Stretch, Cells, Mutexes, Conditions}
use Rattle.tc_parser.specs.Languages.{IsPastUpdate}
use Rattle.tc_parser.specs.Programs.{IsNested, long_stretch, place_at, AreOfProgram, IsProgram, HasNameFault, AreNamed, IsTokensFault, IsTextFault}
use Rattle.tc_parser.proofs.Words.{length-words, are_of_language}

sign_first : (s : AnySign) (p : Place) (t : PlainToken) → compares (sign_word s p) ≡ false → makes_shift (Sign s) t ≡ false
sign_first Less p t h = absurd cc
sign_first Greater p t h = absurd cc
sign_first _ p t h = refl

less_second : (s : AnySign) (p : Place) → compares (sign_word s p) ≡ false → makes_shift (Sign Less) (Sign s) ≡ false
less_second Less p h = absurd cc
less_second LessEqual p h = absurd cc
less_second _ p h = refl

greater_second : (s : AnySign) (p : Place) → compares (sign_word s p) ≡ false → makes_shift (Sign Greater) (Sign s) ≡ false
greater_second Greater p h = absurd cc
greater_second GreaterEqual p h = absurd cc
greater_second _ p h = refl

first : (bytes : List ℕ) (k : TokenKind) (start end : ℕ) (p : Place) (t : PlainToken) → compares (kind_word k start end p) ≡ false
    → makes_shift (plain_kind bytes k) t ≡ false
first bytes kind.Name start end p t h = refl
first bytes (kind.Number n) start end p t h = refl
first bytes (kind.Keyword k) start end p t h = refl
first bytes (kind.Sign s) start end p t h = sign_first s p t h

second : (bytes : List ℕ) (k : TokenKind) (start end : ℕ) (p : Place) (t : PlainToken) → compares (kind_word k start end p) ≡ false
    → makes_shift t (plain_kind bytes k) ≡ false
second bytes (kind.Sign s) start end p (Sign Less) h = less_second s p h
second bytes (kind.Sign s) start end p (Sign Greater) h = greater_second s p h
second bytes _ start end p (Sign Less) h = refl
second bytes _ start end p (Sign Greater) h = refl
second bytes _ start end p _ h = refl

no_shift_there : (text : List ℕ) (t u : Token) → (compares (word_of t) ≡ true → compares (word_of u) ≡ false)
    → makes_shift (plain_token text t) (plain_token text u) ≡ false
no_shift_there text t u h = elim (cases_Bool (compares (word_of t))) [
  | inl is_so ↦ second _ u.kind u.start u.end u.place (plain_token text t) (h is_so)
  | inr is_not ↦ first _ t.kind t.start t.end t.place (plain_token text u) is_not
]

no_shift : (text : List ℕ) (ts : List Token) → AreApart (map word_of ts) → have_no_shift (plain_tokens text ts) ≡ true
no_shift text [] h = refl
no_shift text (t ∷ []) h = refl
no_shift text (t ∷ u ∷ ts) h = and_from _ _ (ap not (no_shift_there text t u h.0)) (no_shift text (u ∷ ts) h.1)

grown : (m n : ℕ) → m ≤ n → (ws : List Word) → AreOf m ws → AreOf n ws
grown m n h [] x = tt
grown m n h (w ∷ ws) x = (omega (arith, h, x.0), grown m n h ws x.1)

spelled_next : (m n : ℕ) (ws : List Word) (p : Program) → m ≤ n → IsSpelled m ws p → IsSpelled n ws p
spelled_next m n ws p h x = record { spelled = x.spelled; grouped = x.grouped; language_has = grown m n h ws x.language_has }

-- the same words in the next language
program_next : (m n : ℕ) (text : List ℕ) (p : Program) → m ≤ n → (x : IsProgram m text p) → AreTokens n text x.tokens
    → words_of n text x.tokens ≡ words_of m text x.tokens → IsProgram n text p
program_next m n text p h x read same = record {
  tokens = x.tokens;
  read = read;
  are_of = record {
    nested = x.are_of.nested;
    parted = x.are_of.parted;
    spelled = subst (λ (ws : List Word). IsSpelled n ws p) (sym same)
        (spelled_next m n (words_of m text x.tokens) p h x.are_of.spelled);
  };
  names = x.names;
  cells = x.cells;
  mutexes = x.mutexes;
  conditions = x.conditions;
}

pub programs_1_to_2 : (text : List ℕ) (p : Program) → IsProgram 1 text p → IsProgram 2 text p
programs_1_to_2 text p x =
    let apart = subst AreApart (sym x.are_of.spelled.spelled) (program_apart p) in
    program_next 1 2 text p (omega arith) x (from_1_to_2 text x.tokens x.read (no_shift text x.tokens apart)) refl

pub programs_2_to_3 : (text : List ℕ) (tokens : List Token) (p : Program) → AreTokens 2 text tokens → HaveNoKeywordOf 3 (plain_tokens text tokens)
    → IsProgram 2 text p → IsProgram 3 text p
programs_2_to_3 text tokens p read free x =
    let same = one_tokens 2 text tokens x.tokens read x.read in
    program_next 2 3 text p (omega arith) x (subst (AreTokens 3 text) same (from_2_to_3 text tokens read free)) refl

-- ---- from 3 to 4

-- the words of a program are words of language 4 already
pub programs_3_to_4 : (text : List ℕ) (p : Program) → IsProgram 3 text p → IsProgram 4 text p
programs_3_to_4 text p x =
    let is : map word_of x.tokens ≡ program_words p = x.are_of.spelled.spelled in
    program_next 3 4 text p (omega arith) x (tokens_in 3 4 (omega arith) (omega arith) refl text x.tokens x.read)
    (ap (words_after text false false) is ∙ program_kept text p ∙ sym is)

-- a word of a token names no element
abbrev HasCell : Word → Type 0
HasCell (AnUpdate k Element) = ⊥
HasCell _ = Unit {0}

keyword_cell : (k : Keyword) (p : Place) → HasCell (keyword_word k p)
keyword_cell keyword.If p = tt
keyword_cell keyword.While p = tt
keyword_cell keyword.Join p = tt
keyword_cell keyword.Lock p = tt
keyword_cell keyword.Unlock p = tt
keyword_cell keyword.Signal p = tt
keyword_cell keyword.Broadcast p = tt
keyword_cell keyword.Wait p = tt
keyword_cell keyword.Fence p = tt
keyword_cell keyword.Stbar p = tt
keyword_cell keyword.Assert p = tt
keyword_cell keyword.Swap p = tt
keyword_cell keyword.Cas p = tt
keyword_cell _ p = tt

sign_cell : (s : AnySign) (p : Place) → HasCell (sign_word s p)
sign_cell CloseBrace p = tt
sign_cell _ p = tt

kind_cell : (k : TokenKind) (start end : ℕ) (p : Place) → HasCell (kind_word k start end p)
kind_cell kind.Name start end p = tt
kind_cell (kind.Number n) start end p = tt
kind_cell (kind.Keyword k) start end p = keyword_cell k p
kind_cell (kind.Sign s) start end p = sign_cell s p

-- a word of language 4 that language 3 has is the token's own
target_cell : (k : UpdateKind) (t : Target) → update_since k t ≤ 3 → t ≡ Cell
target_cell Swap Cell h = refl
target_cell Cas Cell h = refl
target_cell Add Cell h = refl
target_cell Swap Element h = absurd (omega (arith, h))
target_cell Cas Element h = absurd (omega (arith, h))
target_cell Add Element h = absurd (omega (arith, h))

called_name : (b : Bool) (x : Name) (t : Target) → word_since (if b then AnUpdate Add t else AName x) ≤ 3 → (if b then AnUpdate Add t else AName x) ≡ AName x
called_name true x t h = absurd (omega (arith, h))
called_name false x t h = refl

called_same : (text : List ℕ) (w : Word) (ws : List Word) → HasCell w → word_since (called_word text w ws) ≤ 3 → called_word text w ws ≡ w
called_same text (AName x) ws c h = called_name (is_add text x) x (target_of ws) h
called_same text (AnUpdate k Cell) ws c h = ap (AnUpdate k) (target_cell k (target_of ws) h)
called_same text (AnUpdate k Element) ws c h = absurd c
called_same text _ ws c h = refl

word_same : (b : Bool) (text : List ℕ) (w : Word) (ws : List Word) → HasCell w → word_since (if b then called_word text w ws else w) ≤ 3
    → (if b then called_word text w ws else w) ≡ w
word_same true text w ws c h = called_same text w ws c h
word_same false text w ws c h = refl

after_same : (text : List ℕ) (named assigned : Bool) (ts : List Token) → AreOf 3 (words_after text named assigned (map word_of ts))
    → words_after text named assigned (map word_of ts) ≡ map word_of ts
after_same text named assigned [] h = refl
after_same text named assigned (t ∷ ts) h = ap₂ (λ (w : Word) (ws : List Word). w ∷ ws)
    (word_same (assigned && begin_call (map word_of ts)) text (word_of t) (map word_of ts) (kind_cell t.kind t.start t.end t.place) h.0)
    (after_same text (is_name (word_of t)) (is_assign (word_of t) && named) ts h.1)

-- the words of a program that has only words of language 3
pub programs_4_to_3 : (text : List ℕ) (p : Program) → IsProgram 4 text p → AreOf 3 (program_words p) → IsProgram 3 text p
programs_4_to_3 text p x old =
    let is : words_of 4 text x.tokens ≡ program_words p = x.are_of.spelled.spelled in
    let same : words_of 4 text x.tokens ≡ map word_of x.tokens = after_same text false false x.tokens (subst (λ (ws : List Word). AreOf 3 ws) (sym is) old) in
    let plain : map word_of x.tokens ≡ program_words p = sym same ∙ is in
    record {
      tokens = x.tokens;
      read = tokens_in 4 3 (omega arith) (omega arith) refl text x.tokens x.read;
      are_of = record {
        nested = x.are_of.nested;
        parted = x.are_of.parted;
        spelled = record { spelled = plain; grouped = x.are_of.spelled.grouped; language_has = subst (λ (ws : List Word). AreOf 3 ws) (sym plain) old };
      };
      names = x.names;
      cells = x.cells;
      mutexes = x.mutexes;
      conditions = x.conditions;
    }

pub old_words : (text : List ℕ) (p : Program) → IsProgram 3 text p → AreOf 3 (program_words p)
old_words text p x = subst (λ (ws : List Word). AreOf 3 ws) x.are_of.spelled.spelled x.are_of.spelled.language_has

-- ---- faults from 3 to 4

begin_alike : (text : List ℕ) (named assigned : Bool) (ts : List Token) → BeginAlike (map word_of ts) (words_after text named assigned (map word_of ts))
begin_alike text named assigned [] = tt
begin_alike text named assigned (t ∷ ts) = after_fits text assigned (word_of t) (map word_of ts)

-- the words of language 4 are those of language 3 up to the first that language 3 hasn't
alike : (text : List ℕ) (named assigned : Bool) (ts : List Token) (k : ℕ) → k ≤ length ts
    → AreOf 3 (take k (words_after text named assigned (map word_of ts))) → AreAlike k (map word_of ts) (words_after text named assigned (map word_of ts))
alike text named assigned ts zero h old = record {
  front = [];
  rest = map word_of ts;
  other = words_after text named assigned (map word_of ts);
  size = refl;
  first_is = refl;
  second_is = refl;
  alike = begin_alike text named assigned ts;
}
alike text named assigned [] (suc k) h old = absurd (omega (arith, h))
alike text named assigned (t ∷ ts) (suc k) h old =
    let r = alike text (is_name (word_of t)) (is_assign (word_of t) && named) ts k (omega (arith, h)) old.1 in
    record {
      front = word_of t ∷ r.front;
      rest = r.rest;
      other = r.other;
      size = ap suc r.size;
      first_is = ap (λ (ws : List Word). word_of t ∷ ws) r.first_is;
      second_is = ap₂ (λ (w : Word) (ws : List Word). w ∷ ws)
          (word_same (assigned && begin_call (map word_of ts)) text (word_of t) (map word_of ts) (kind_cell t.kind t.start t.end t.place) old.0)
          r.second_is;
      alike = r.alike;
    }

are_of_or_not : (language : ℕ) (ws : List Word) → AreOf language ws ⊎ (AreOf language ws → ⊥)
are_of_or_not language [] = inl tt
are_of_or_not language (w ∷ ws) = elim (cases_lt language (word_since w)) [
  | inl late ↦ inr (λ h. omega (arith, late, h.0))
  | inr here ↦ elim (are_of_or_not language ws) [ inl all ↦ inl (here, all) | inr other ↦ inr (λ h. other h.1) ]
]

module _ (text : List ℕ) (ts : List Token) (read : AreTokens 3 text ts) where
  program_later : (p : Program) → AreOfProgram 3 text ts p → AreOfProgram 4 text ts p
  program_later p x =
      let is : map word_of ts ≡ program_words p = x.spelled.spelled in
      let same : words_of 4 text ts ≡ words_of 3 text ts = ap (words_after text false false) is ∙ program_kept text p ∙ sym is in
      record {
        nested = x.nested;
        parted = x.parted;
        spelled = subst (λ (ws : List Word). IsSpelled 4 ws p) (sym same) (spelled_next 3 4 (words_of 3 text ts) p (omega arith) x.spelled);
      }

  named_later : (p : Program) → AreNamed 3 text ts p → AreNamed 4 text ts p
  named_later p x = record { are_of = program_later p x.are_of; names = x.names }

  name_later : (f : NameFault) → HasNameFault 3 text ts f → HasNameFault 4 text ts f
  name_later f x = record { program = x.program; are_of = program_later x.program x.are_of; is = x.is }

  now : AreTokens 4 text ts
  now = tokens_in 3 4 (omega arith) (omega arith) refl text ts read

  syntax_later : (k : ℕ) → AreOf 3 (take k (words_of 4 text ts)) → IsSyntaxFault 3 (words_of 3 text ts) k → IsSyntaxFault 4 (words_of 4 text ts) k
  syntax_later k old x =
      let within : k ≤ length ts = subst (λ (n : ℕ). k ≤ n) (length-words 3 text ts) x.within in
      same_fault 3 4 (omega arith) (omega arith) (words_of 3 text ts) (words_of 4 text ts) (are_of_language 3 text ts (omega arith) read)
      (are_of_language 4 text ts (omega arith) now) k (alike text false false ts k within old) x

  by_words : (place : Place) (k : ℕ) → IsNested ts → long_stretch ts ≡ None → IsSyntaxFault 3 (words_of 3 text ts) k → place ≡ place_at text ts k
      → IsTokensFault 4 text ts (Syntax place) ⊎ IsPastUpdate text (Parse (Syntax place))
  by_words place k nested parted x at = elim (are_of_or_not 3 (take k (words_of 4 text ts))) [
    | inl old ↦ inl (nested, parted, (k, syntax_later k old x, at))
    | inr past ↦ inr (record { tokens = ts; read = now; at = k; is = x; fault_is = ap (λ (p : Place). Parse (Syntax p)) at; past = past })
  ]

  tokens_later : (f : ParseFault) → IsTokensFault 3 text ts f → IsTokensFault 4 text ts f ⊎ IsPastUpdate text (Parse f)
  tokens_later (Count Brackets n) x = inl x
  tokens_later (Count Stretch n) x = inl x
  tokens_later (Syntax place) x = by_words place x.2.0 x.0 x.1 x.2.1 x.2.2
  tokens_later (Unknown place) x = inl (name_later (name.Unknown place) x)
  tokens_later (Twice place) x = inl (name_later (name.Twice place) x)
  tokens_later (Kind place) x = inl (name_later (name.Kind place) x)
  tokens_later (Arguments place) x = inl (name_later (name.Arguments place) x)
  tokens_later (Count Cells n) (p, named, many, is) = inl (p, named_later p named, many, is)
  tokens_later (Count Mutexes n) (p, named, cells, many, is) = inl (p, named_later p named, cells, many, is)
  tokens_later (Count Conditions n) (p, named, cells, mutexes, many, is) = inl (p, named_later p named, cells, mutexes, many, is)
  tokens_later Memory x = absurd x

pub faults_3_to_4 : (text : List ℕ) (f : TextFault) → IsTextFault 3 text f → IsTextFault 4 text f ⊎ IsPastUpdate text f
faults_3_to_4 text (Lex f) x = inl (fault_in 3 4 (omega arith) (omega arith) refl text f x)
faults_3_to_4 text (Parse f) x = elim (tokens_later text x.tokens x.read f x.is) [
  | inl is ↦ inl (record { tokens = x.tokens; read = now text x.tokens x.read; is = is })
  | inr past ↦ inr past
]
