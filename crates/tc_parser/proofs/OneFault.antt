-- A text is one program or has exactly one fault.
use Rattle.std.proofs.Common.{
  ◌≡◌,
  ℕ,
  suc,
  ◌+◌,
  ◌<◌,
  ◌≤◌,
  if◌then◌else◌,
  List,
  [],
  ◌∷◌,
  length,
  drop,
  Option,
  Some,
  None,
  refl,
  sym,
  ap,
  ◌∙◌,
  subst,
  arith,
  ◌⊎◌,
  inl,
  inr,
  get_or,
  length-drop,
}
use Rattle.std.specs.Prelude.{nat_lt}
use Rattle.std.proofs.lemmas.Bool.{cases_lt, cond-true, cond-false, lt-ltb, le-ltb}
use Rattle.std.proofs.lemmas.List.{drop_more}
use Rattle.std.proofs.lemmas.Option.{none-some, same_Some}
use Rattle.tc_limits.specs.declared.limits.TheConstants.{BRACKETS, CELLS, MUTEXES, CONDITIONS}
use Rattle.tc_lexer.specs.declared.token.Token.{Token}
use Rattle.tc_lexer.specs.Places.{place_after}
use Rattle.tc_lexer.specs.Text.{AreTokens, tokens_after, fault_at}
use Rattle.tc_lexer.proofs.Readings.{reads, BeginsNone, all_written, pieces_split}
use Rattle.tc_lexer.proofs.OneReading.{one_tokens, one_fault, tokens_or_fault}
use Rattle.tc_lexer.specs.Pieces.{Piece, ArePieces}
use Rattle.tc_tree.specs.declared.program.Global.{Global}
use Rattle.tc_tree.specs.Counts as count
use Rattle.tc_tree.specs.Grammar.{Program, IsSpelled, IsSyntaxFault}
use Rattle.tc_tree.specs.Words.{words_of}
use Rattle.tc_names.specs.declared.fault.NameFault.{NameFault}
use Rattle.tc_names.specs.declared.fault.NameFault.TheVariants as name
use Rattle.tc_names.specs.Names.{names_fault}
use Rattle.tc_grammar.proofs.Programs.{one_program}
use Rattle.tc_grammar.proofs.Faults.{one_syntax_fault, program_or_fault}
use Rattle.tc_parser.specs.declared.fault.ParseFault.{ParseFault}
use Rattle.tc_parser.specs.declared.fault.ParseFault.TheVariants.{Count, Syntax, Unknown, Twice, Kind, Arguments, Memory}
use Rattle.tc_parser.specs.declared.fault.What.TheVariants.{Brackets, Stretch, Cells, Mutexes, Conditions}
use Rattle.tc_parser.specs.declared.fault.TextFault.{TextFault}
use Rattle.tc_parser.specs.declared.fault.TextFault.TheVariants.{Lex, Parse}
use Rattle.tc_parser.specs.Programs.{
  open_after_kind,
  IsNested,
  IsTooDeep,
  long_stretch,
  AreOfProgram,
  IsProgram,
  place_at,
  HasNameFault,
  AreNamed,
  IsTokensFault,
  IsProgramFault,
  IsTextFault,
}
use Rattle.tc_parser.specs.helpers.Parts.{fault_of}
use Rattle.tc_parser.proofs.Words.{are_of_language}
use Rattle.tc_parser.proofs.Tokens.{AreNestedBefore, none_open, nested_more, deep_here, all_nested}
use Rattle.tc_names.proofs.Real.{IsReal, names_real}

-- ---- the first cause of a fault

-- the first kind of declaration of which a program has too many
counts_fault : List Global → Option ParseFault
counts_fault gs =
    if nat_lt CELLS (count.cells gs) then Some (Count Cells (count.cells gs))
    else (if nat_lt MUTEXES (count.mutexes gs) then Some (Count Mutexes (count.mutexes gs))
    else (if nat_lt CONDITIONS (count.conditions gs) then Some (Count Conditions (count.conditions gs)) else None))

after_names : Option NameFault → List Global → Option ParseFault
after_names (Some f) gs = Some (fault_of f)
after_names None gs = counts_fault gs

-- the fault of a tree
tree_fault : List ℕ → Program → Option ParseFault
tree_fault text p = after_names (names_fault text p) p.globals

-- the words aren't a program
record IsBroken (language : ℕ) (text : List ℕ) (tokens : List Token) (fault : ParseFault) : Type 0 where
  nested : IsNested tokens
  parted : long_stretch tokens ≡ None
  place : ℕ
  is : IsSyntaxFault language (words_of language text tokens) place
  fault_is : fault ≡ Syntax (place_at text tokens place)

-- the words are a program, which has a fault
record IsLate (language : ℕ) (text : List ℕ) (tokens : List Token) (fault : ParseFault) : Type 0 where
  program : Program
  are_of : AreOfProgram language text tokens program
  fault_is : tree_fault text program ≡ Some fault

abbrev Cause : ℕ → List ℕ → List Token → ParseFault → Type 0
Cause language text tokens fault =
    (IsTooDeep tokens × (fault ≡ Count Brackets (BRACKETS + 1)))
    ⊎ ((IsNested tokens × ((n : ℕ) × (long_stretch tokens ≡ Some n) × (fault ≡ Count Stretch n)))
    ⊎ (IsBroken language text tokens fault ⊎ IsLate language text tokens fault))

late_name : (language : ℕ) (text : List ℕ) (tokens : List Token) (f : NameFault) → HasNameFault language text tokens f
    → IsLate language text tokens (fault_of f)
unfolding tree_fault after_names
late_name language text tokens f h = record {
  program = h.program;
  are_of = h.are_of;
  fault_is = ap (λ (o : Option NameFault). after_names o h.program.globals) h.is;
}

late_count : (language : ℕ) (text : List ℕ) (tokens : List Token) (p : Program) (fault : ParseFault) → AreNamed language text tokens p
    → counts_fault p.globals ≡ Some fault → IsLate language text tokens fault
unfolding tree_fault after_names
late_count language text tokens p fault h is = record {
  program = p;
  are_of = h.are_of;
  fault_is = ap (λ (o : Option NameFault). after_names o p.globals) h.names ∙ is;
}

many_cells : (gs : List Global) → CELLS < count.cells gs → counts_fault gs ≡ Some (Count Cells (count.cells gs))
unfolding counts_fault
many_cells gs h = cond-true _ _ _ (lt-ltb _ _ h)

many_mutexes : (gs : List Global) → count.cells gs ≤ CELLS → MUTEXES < count.mutexes gs → counts_fault gs ≡ Some (Count Mutexes (count.mutexes gs))
unfolding counts_fault
many_mutexes gs c h = cond-false _ _ _ (le-ltb _ _ c) ∙ cond-true _ _ _ (lt-ltb _ _ h)

many_conditions : (gs : List Global) → count.cells gs ≤ CELLS → count.mutexes gs ≤ MUTEXES → CONDITIONS < count.conditions gs
    → counts_fault gs ≡ Some (Count Conditions (count.conditions gs))
unfolding counts_fault
many_conditions gs c m h = cond-false _ _ _ (le-ltb _ _ c) ∙ cond-false _ _ _ (le-ltb _ _ m) ∙ cond-true _ _ _ (lt-ltb _ _ h)

few : (gs : List Global) → count.cells gs ≤ CELLS → count.mutexes gs ≤ MUTEXES → count.conditions gs ≤ CONDITIONS → counts_fault gs ≡ None
unfolding counts_fault
few gs c m d = cond-false _ _ _ (le-ltb _ _ c) ∙ cond-false _ _ _ (le-ltb _ _ m) ∙ cond-false _ _ _ (le-ltb _ _ d)

cause : (language : ℕ) (text : List ℕ) (tokens : List Token) (fault : ParseFault) → IsTokensFault language text tokens fault
    → Cause language text tokens fault
cause language text tokens (Count Brackets n) h = inl (h.0, ap (Count Brackets) h.1)
cause language text tokens (Count Stretch n) h =
    inr (inl (h.0, (n, h.1, refl)))
cause language text tokens (Syntax place) h =
    inr (inr (inl (record { nested = h.0; parted = h.1; place = h.2.0; is = h.2.1; fault_is = ap Syntax h.2.2 })))
cause language text tokens (Unknown place) h = inr (inr (inr (late_name language text tokens (name.Unknown place) h)))
cause language text tokens (Twice place) h = inr (inr (inr (late_name language text tokens (name.Twice place) h)))
cause language text tokens (Kind place) h = inr (inr (inr (late_name language text tokens (name.Kind place) h)))
cause language text tokens (Arguments place) h = inr (inr (inr (late_name language text tokens (name.Arguments place) h)))
cause language text tokens (Count Cells n) (p, named, much, is) =
    inr (inr (inr (late_count language text tokens p (Count Cells n) named
    (many_cells p.globals (subst (λ (m : ℕ). CELLS < m) is much) ∙ ap (λ (m : ℕ). Some (Count Cells m)) (sym is)))))
cause language text tokens (Count Mutexes n) (p, named, c, much, is) =
    inr (inr (inr (late_count language text tokens p (Count Mutexes n) named
    (many_mutexes p.globals c (subst (λ (m : ℕ). MUTEXES < m) is much) ∙ ap (λ (m : ℕ). Some (Count Mutexes m)) (sym is)))))
cause language text tokens (Count Conditions n) (p, named, c, m, much, is) =
    inr (inr (inr (late_count language text tokens p (Count Conditions n) named
    (many_conditions p.globals c m (subst (λ (k : ℕ). CONDITIONS < k) is much) ∙ ap (λ (k : ℕ). Some (Count Conditions k)) (sym is)))))
cause language text tokens Memory h = absurd h

-- ---- one fault

deep_or_nested : (tokens : List Token) → IsTooDeep tokens → IsNested tokens → ⊥
deep_or_nested tokens d n = omega (arith, d.1, n d.0)

one_late : (language : ℕ) (text : List ℕ) (tokens : List Token) (f g : ParseFault) → IsLate language text tokens f → IsLate language text tokens g → f ≡ g
one_late language text tokens f g x y =
    let same = one_program language (words_of language text tokens) x.program y.program x.are_of.spelled y.are_of.spelled in
    let both : Some f ≡ Some g = sym x.fault_is ∙ ap (tree_fault text) same ∙ y.fault_is in
    cc

one_cause : (language : ℕ) (text : List ℕ) (tokens : List Token) (f g : ParseFault) → Cause language text tokens f → Cause language text tokens g → f ≡ g
one_cause language text tokens f g (inl x) (inl y) = x.1 ∙ sym y.1
one_cause language text tokens f g (inl x) (inr (inl y)) = absurd (deep_or_nested tokens x.0 y.0)
one_cause language text tokens f g (inl x) (inr (inr (inl y))) = absurd (deep_or_nested tokens x.0 y.nested)
one_cause language text tokens f g (inl x) (inr (inr (inr y))) = absurd (deep_or_nested tokens x.0 y.are_of.nested)
one_cause language text tokens f g (inr (inl x)) (inl y) = absurd (deep_or_nested tokens y.0 x.0)
one_cause language text tokens f g (inr (inl x)) (inr (inl y)) =
    x.1.2 ∙ ap (Count Stretch) (same_Some x.1.0 y.1.0 (sym x.1.1 ∙ y.1.1)) ∙ sym y.1.2
one_cause language text tokens f g (inr (inl x)) (inr (inr (inl y))) = absurd (none-some x.1.0 (sym y.parted ∙ x.1.1))
one_cause language text tokens f g (inr (inl x)) (inr (inr (inr y))) = absurd (none-some x.1.0 (sym y.are_of.parted ∙ x.1.1))
one_cause language text tokens f g (inr (inr (inl x))) (inl y) = absurd (deep_or_nested tokens y.0 x.nested)
one_cause language text tokens f g (inr (inr (inl x))) (inr (inl y)) = absurd (none-some y.1.0 (sym x.parted ∙ y.1.1))
one_cause language text tokens f g (inr (inr (inl x))) (inr (inr (inl y))) =
    x.fault_is ∙ ap (λ (k : ℕ). Syntax (place_at text tokens k)) (one_syntax_fault language (words_of language text tokens) x.place y.place x.is y.is) ∙ sym y.fault_is
one_cause language text tokens f g (inr (inr (inl x))) (inr (inr (inr y))) = absurd (x.is.none y.program y.are_of.spelled)
one_cause language text tokens f g (inr (inr (inr x))) (inl y) = absurd (deep_or_nested tokens y.0 x.are_of.nested)
one_cause language text tokens f g (inr (inr (inr x))) (inr (inl y)) = absurd (none-some y.1.0 (sym x.are_of.parted ∙ y.1.1))
one_cause language text tokens f g (inr (inr (inr x))) (inr (inr (inl y))) = absurd (y.is.none x.program x.are_of.spelled)
one_cause language text tokens f g (inr (inr (inr x))) (inr (inr (inr y))) = one_late language text tokens f g x y

one_parse_fault : (language : ℕ) (text : List ℕ) (f g : ParseFault) → IsProgramFault language text f → IsProgramFault language text g → f ≡ g
one_parse_fault language text f g x y =
    let same = one_tokens language text x.tokens y.tokens x.read y.read in
    one_cause language text y.tokens f g (subst (λ (ts : List Token). Cause language text ts f) same (cause language text x.tokens f x.is))
    (cause language text y.tokens g y.is)

pub one_text_fault : (language : ℕ) (text : List ℕ) (f g : TextFault) → IsTextFault language text f → IsTextFault language text g → f ≡ g
one_text_fault language text (Lex f) (Lex g) x y = ap Lex (one_fault language text f g x y)
one_text_fault language text (Lex f) (Parse g) x y = absurd (tokens_or_fault language text y.tokens f y.read x)
one_text_fault language text (Parse f) (Lex g) x y = absurd (tokens_or_fault language text x.tokens g x.read y)
one_text_fault language text (Parse f) (Parse g) x y = ap Parse (one_parse_fault language text f g x y)

-- ---- one program

pub one_text_program : (language : ℕ) (text : List ℕ) (p q : Program) → IsProgram language text p → IsProgram language text q → p ≡ q
one_text_program language text p q x y =
    let same = one_tokens language text x.tokens y.tokens x.read y.read in
    one_program language (words_of language text y.tokens) p q (subst (λ (ts : List Token). IsSpelled language (words_of language text ts) p) same x.are_of.spelled) y.are_of.spelled

-- ---- no program has a fault

no_tree_fault : (language : ℕ) (text : List ℕ) (p : Program) → IsProgram language text p → tree_fault text p ≡ None
unfolding tree_fault after_names
no_tree_fault language text p x =
    ap (λ (o : Option NameFault). after_names o p.globals) x.names ∙ few p.globals x.cells x.mutexes x.conditions

no_cause : (language : ℕ) (text : List ℕ) (tokens : List Token) (p : Program) (f : ParseFault) → AreOfProgram language text tokens p → tree_fault text p ≡ None
    → Cause language text tokens f → ⊥
no_cause language text tokens p f x none (inl y) = deep_or_nested tokens y.0 x.nested
no_cause language text tokens p f x none (inr (inl y)) = none-some y.1.0 (sym x.parted ∙ y.1.1)
no_cause language text tokens p f x none (inr (inr (inl y))) = y.is.none p x.spelled
no_cause language text tokens p f x none (inr (inr (inr y))) =
    let same = one_program language (words_of language text tokens) p y.program x.spelled y.are_of.spelled in
    let both : None ≡ Some f = sym none ∙ ap (tree_fault text) same ∙ y.fault_is in
    cc

pub program_or_no_fault : (language : ℕ) (text : List ℕ) (p : Program) (f : TextFault) → IsProgram language text p → IsTextFault language text f → ⊥
program_or_no_fault language text p (Lex f) x y = tokens_or_fault language text x.tokens f x.read y
program_or_no_fault language text p (Parse f) x y =
    let same = one_tokens language text y.tokens x.tokens y.read x.read in
    no_cause language text x.tokens p f x.are_of (no_tree_fault language text p x)
    (subst (λ (ts : List Token). Cause language text ts f) same (cause language text y.tokens f y.is))

-- ---- a program or a fault

abbrev pub Answer : ℕ → List ℕ → Type 0
Answer language text = ((p : Program) × IsProgram language text p) ⊎ ((f : TextFault) × IsTextFault language text f)

faulty : (language : ℕ) (text : List ℕ) (tokens : List Token) (f : ParseFault) → AreTokens language text tokens → IsTokensFault language text tokens f
    → Answer language text
faulty language text tokens f read is = inr (Parse f, record { tokens = tokens; read = read; is = is })

counted : (language : ℕ) (text : List ℕ) (tokens : List Token) (p : Program) → AreTokens language text tokens → AreNamed language text tokens p
    → Answer language text
counted language text tokens p read named = elim (cases_lt CELLS (count.cells p.globals)) [
  | inl much ↦ faulty language text tokens (Count Cells (count.cells p.globals)) read (p, named, much, refl)
  | inr c ↦ elim (cases_lt MUTEXES (count.mutexes p.globals)) [
    | inl much ↦ faulty language text tokens (Count Mutexes (count.mutexes p.globals)) read (p, named, c, much, refl)
    | inr m ↦ elim (cases_lt CONDITIONS (count.conditions p.globals)) [
      | inl much ↦ faulty language text tokens (Count Conditions (count.conditions p.globals)) read (p, named, c, m, much, refl)
      | inr d ↦ inl (
        p,
        record { tokens = tokens; read = read; are_of = named.are_of; names = named.names; cells = c; mutexes = m; conditions = d },
      )
    ]
  ]
]

by_names : (language : ℕ) (text : List ℕ) (tokens : List Token) (p : Program) (o : Option NameFault) → AreTokens language text tokens
    → AreOfProgram language text tokens p → names_fault text p ≡ o → IsReal o → Answer language text
by_names language text tokens p None read are is real = counted language text tokens p read (record { are_of = are; names = is })
by_names language text tokens p (Some (name.Unknown place)) read are is real =
    faulty language text tokens (Unknown place) read (record { program = p; are_of = are; is = is })
by_names language text tokens p (Some (name.Twice place)) read are is real =
    faulty language text tokens (Twice place) read (record { program = p; are_of = are; is = is })
by_names language text tokens p (Some (name.Kind place)) read are is real =
    faulty language text tokens (Kind place) read (record { program = p; are_of = are; is = is })
by_names language text tokens p (Some (name.Arguments place)) read are is real =
    faulty language text tokens (Arguments place) read (record { program = p; are_of = are; is = is })
by_names language text tokens p (Some name.Memory) read are is real = absurd real

nothing_left : (tokens : List Token) (i : ℕ) → drop i tokens ≡ [] → length tokens ≤ i
nothing_left tokens i is = let none : length (drop i tokens) ≡ 0 = ap length is in omega (arith, length-drop i tokens, none)

next_is : (tokens : List Token) (i : ℕ) (t : Token) (ts : List Token) → drop i tokens ≡ t ∷ ts
    → (i < length tokens) × (get_or tokens i t ≡ t) × (drop (i + 1) tokens ≡ ts)
next_is tokens i t ts is =
    let some : length (drop i tokens) ≡ suc (length ts) = ap length is in
    let there : i < length tokens = omega (arith, length-drop i tokens, some) in
    let both = sym (drop_more tokens i t there) ∙ is in
    (there, cc, cc)

nested_or_deep : (tokens rest : List Token) (i m : ℕ) → AreNestedBefore tokens i m → drop i tokens ≡ rest → IsNested tokens ⊎ IsTooDeep tokens
nested_or_deep tokens [] i m n is = inl (all_nested tokens i m n (nothing_left tokens i is))
nested_or_deep tokens (t ∷ ts) i m n is =
    let there = next_is tokens i t ts is in
    let kind_is : open_after_kind m t.kind ≡ open_after_kind m (get_or tokens i t).kind =
    ap (λ (u : Token). open_after_kind m u.kind) (sym there.1) in
    elim (cases_lt BRACKETS (open_after_kind m t.kind)) [
      | inl deep ↦ inr (deep_here tokens i m (open_after_kind m t.kind) t n there.0 kind_is deep)
      | inr small ↦ nested_or_deep tokens ts (i + 1) (open_after_kind m t.kind)
          (nested_more tokens i m (open_after_kind m t.kind) t n there.0 kind_is small) there.2
    ]

module _ (language : ℕ) (least : 1 ≤ language) where
  by_words : (text : List ℕ) (tokens : List Token) → AreTokens language text tokens → IsNested tokens → long_stretch tokens ≡ None → Answer language text
  by_words text tokens read nested parted = elim (program_or_fault language least (words_of language text tokens) (are_of_language language text tokens least read)) [
    | inl tree ↦ by_names language text tokens tree.0 (names_fault text tree.0) read (record { nested = nested; parted = parted; spelled = tree.1 }) refl
        (names_real text tree.0)
    | inr fault ↦ faulty language text tokens (Syntax (place_at text tokens fault.0)) read (nested, parted, (fault.0, fault.1, refl))
  ]

  by_stretch : (text : List ℕ) (tokens : List Token) (o : Option ℕ) → AreTokens language text tokens → IsNested tokens → long_stretch tokens ≡ o
      → Answer language text
  by_stretch text tokens None read nested is = by_words text tokens read nested is
  by_stretch text tokens (Some n) read nested is = faulty language text tokens (Count Stretch n) read (nested, is)

  by_tokens : (text : List ℕ) (tokens : List Token) → AreTokens language text tokens → Answer language text
  by_tokens text tokens read = elim (nested_or_deep tokens tokens 0 0 (none_open tokens) refl) [
    | inr deep ↦ faulty language text tokens (Count Brackets (BRACKETS + 1)) read (deep, refl)
    | inl nested ↦ by_stretch text tokens (long_stretch tokens) read nested refl
  ]

  by_pieces : (text : List ℕ) (ps : List Piece) (rest : List ℕ) → ArePieces language text ps rest → BeginsNone language rest → Answer language text
  by_pieces text ps [] x none = by_tokens text (tokens_after [] ps) (record { pieces = ps; whole = x; tokens_are = refl })
  by_pieces text ps (b ∷ bs) x none = inr (
    Lex (fault_at (place_after (all_written ps)) (b ∷ bs)),
    record {
      before = all_written ps;
      rest = b ∷ bs;
      split = pieces_split language text ps (b ∷ bs) x;
      pieces = ps;
      read = x;
      more = omega arith;
      none = none;
      fault_is = refl;
    },
  )

  pub program_or_text_fault : (text : List ℕ) → Answer language text
  program_or_text_fault text = let r = reads language text in by_pieces text r.pieces r.rest r.read r.none
