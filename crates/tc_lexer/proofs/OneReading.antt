-- A text has one list of tokens or one fault, and tokens are spans of their text.
use Rattle.std.proofs.Common.{◌≡◌, ◌+◌, ◌-◌, ◌<◌, ℕ, List, [], ◌∷◌, ◌++◌, length, take, drop, refl, sym, ap, ◌∙◌, subst, arith, append_assoc, length-append}
use Rattle.std.specs.Prelude.{All, slice_range}
use Rattle.std.proofs.lemmas.List.{append_cancel_right, take_at, drop_at}
use Rattle.std.proofs.lemmas.List.Elements.{All-cons}
use Rattle.tc_lexer.specs.declared.token.Token.{Token as SpannedToken}
use Rattle.tc_lexer.specs.declared.fault.LexFault.{LexFault}
use Rattle.tc_lexer.specs.Tokens.{PlainToken, Name, Number, Keyword, Sign, spelling, IsToken, plain_kind, plain_token, plain_tokens}
use Rattle.tc_lexer.specs.Pieces.{Piece, Space, LineComment, BlockComment, Token, written, ArePieces}
use Rattle.tc_lexer.specs.Places.{place_after}
use Rattle.tc_lexer.specs.Text.{kind_of, token_after, tokens_after, AreTokens, fault_at, IsFault, IsSpan}
use Rattle.tc_lexer.proofs.Readings.{BeginsNone, none_in_nothing, same_pieces, reads, begins_shorter, all_written, pieces_split}

pub one_tokens : (language : ℕ) (text : List ℕ) (ts us : List SpannedToken) → AreTokens language text ts → AreTokens language text us → ts ≡ us
one_tokens language text ts us x y =
    let same = same_pieces language text x.pieces y.pieces [] [] x.whole y.whole (none_in_nothing language) (none_in_nothing language) in
    x.tokens_are ∙ (ap (tokens_after []) same.0 ∙ sym y.tokens_are)

nothing_more : (rest : List ℕ) → [] ≡ rest → 0 < length rest → ⊥
nothing_more rest e h = let len = ap length e in omega arith

pub tokens_or_fault : (language : ℕ) (text : List ℕ) (ts : List SpannedToken) (fault : LexFault) → AreTokens language text ts → IsFault language text fault → ⊥
tokens_or_fault language text ts fault x y =
    let same = same_pieces language text x.pieces y.pieces [] y.rest x.whole y.read (none_in_nothing language) y.none in
    nothing_more y.rest same.1 y.more

pub one_fault : (language : ℕ) (text : List ℕ) (f g : LexFault) → IsFault language text f → IsFault language text g → f ≡ g
one_fault language text f g x y =
    let same = same_pieces language text x.pieces y.pieces x.rest y.rest x.read y.read x.none y.none in
    let before = append_cancel_right x.before y.before x.rest (sym x.split ∙ (y.split ∙ ap (λ (s : List ℕ). y.before ++ s) (sym same.1))) in
    x.fault_is ∙ (ap (λ (s : List ℕ). fault_at (place_after s) x.rest) before ∙ (ap (fault_at (place_after y.before)) same.1 ∙ sym y.fault_is))

fault_there : (language : ℕ) (text : List ℕ) (ps : List Piece) (rest : List ℕ) → ArePieces language text ps rest → BeginsNone language rest
    → ((ts : List SpannedToken) → AreTokens language text ts → ⊥) → (fault : LexFault) × IsFault language text fault
fault_there language text ps [] x none no_tokens = absurd (no_tokens (tokens_after [] ps) (record { pieces = ps; whole = x; tokens_are = refl }))
fault_there language text ps (b ∷ bs) x none no_tokens =
    let split = pieces_split language text ps (b ∷ bs) x in (
      fault_at (place_after (all_written ps)) (b ∷ bs),
      record {
        before = all_written ps;
        rest = b ∷ bs;
        split = split;
        pieces = ps;
        read = x;
        more =
            omega arith;
        none = none;
        fault_is = refl;
      },
    )

pub some_fault : (language : ℕ) (text : List ℕ) → ((ts : List SpannedToken) → AreTokens language text ts → ⊥) → (fault : LexFault) × IsFault language text fault
some_fault language text no_tokens = let r = reads language text in fault_there language text r.pieces r.rest r.read r.none no_tokens

-- Tokens as spans.

plain_is : (t : PlainToken) → plain_kind (spelling t) (kind_of t) ≡ t
plain_is (Name word) = refl
plain_is (Number n) = refl
plain_is (Keyword k) = refl
plain_is (Sign s) = refl

span_bytes : (text before : List ℕ) (t : PlainToken) (after : List ℕ) → text ≡ before ++ (spelling t ++ after)
    → slice_range text (length before) (length before + length (spelling t)) ≡ spelling t
span_bytes text before t after e =
    let rest : drop (length before) text ≡ spelling t ++ after = ap (drop (length before)) e ∙ drop_at before (spelling t ++ after) (length before) refl in
    let len : length (spelling t) ≡ length before + length (spelling t) - length before = omega arith in
    ap (take (length before + length (spelling t) - length before)) rest ∙ take_at (spelling t) after _ len

pub plain_at : (text before : List ℕ) (t : PlainToken) (after : List ℕ) → text ≡ before ++ (spelling t ++ after) → plain_token text (token_after before t) ≡ t
plain_at text before t after e = ap (λ (s : List ℕ). plain_kind s (kind_of t)) (span_bytes text before t after e) ∙ plain_is t

span_at : (language : ℕ) (text before : List ℕ) (t : PlainToken) (after : List ℕ) → text ≡ before ++ (spelling t ++ after) → IsToken language t
    → 0 < length (spelling t) → IsSpan language text (token_after before t)
span_at language text before t after e h some =
    let plain = plain_at text before t after e in
    let front : take (length before) text ≡ before = ap (take (length before)) e ∙ take_at before (spelling t ++ after) (length before) refl in
    let len : length text ≡ length before + (length (spelling t) + length after) = ap length e
    ∙ (omega (arith, length-append before (spelling t ++ after), length-append (spelling t) after)) in
    record {
      some = omega arith;
      within = omega arith;
      token = subst (IsToken language) (sym plain) h;
      spelled = span_bytes text before t after e ∙ ap spelling (sym plain);
      place_is = ap place_after (sym front);
    }

-- the tokens among some pieces
abbrev pub plain_among : List Piece → List PlainToken
plain_among [] = []
plain_among (Token t ∷ ps) = t ∷ plain_among ps
plain_among (_ ∷ ps) = plain_among ps

-- facts on the tokens among the pieces after these bytes
record AreSpans (language : ℕ) (text before : List ℕ) (ps : List Piece) : Type 0 where
  spans : All (IsSpan language text) (tokens_after before ps)
  plain : plain_tokens text (tokens_after before ps) ≡ plain_among ps

no_spans : (language : ℕ) (text : List ℕ) → All (IsSpan language text) []
no_spans language text k d h = absurd (omega arith)

pieces_spans : (language : ℕ) (text before bytes : List ℕ) (ps : List Piece) → text ≡ before ++ bytes → ArePieces language bytes ps []
    → AreSpans language text before ps
pieces_spans language text before bytes [] e x = record { spans = no_spans language text; plain = refl }
pieces_spans language text before bytes (Space b ∷ ps) e x =
    let r = pieces_spans language text (before ++ written (Space b)) x.0 ps (e
    ∙ (ap (λ (s : List ℕ). before ++ s) x.1.split ∙ sym (append_assoc before (written (Space b)) x.0))) x.2 in
    record { spans = r.spans; plain = r.plain }
pieces_spans language text before bytes (LineComment body ∷ ps) e x =
    let r = pieces_spans language text (before ++ written (LineComment body)) x.0 ps (e
    ∙ (ap (λ (s : List ℕ). before ++ s) x.1.split ∙ sym (append_assoc before (written (LineComment body)) x.0))) x.2 in
    record { spans = r.spans; plain = r.plain }
pieces_spans language text before bytes (BlockComment body ∷ ps) e x =
    let r = pieces_spans language text (before ++ written (BlockComment body)) x.0 ps (e
    ∙ (ap (λ (s : List ℕ). before ++ s) x.1.split ∙ sym (append_assoc before (written (BlockComment body)) x.0))) x.2 in
    record { spans = r.spans; plain = r.plain }
pieces_spans language text before bytes (Token t ∷ ps) e x =
    let split : text ≡ before ++ (spelling t ++ x.0) = e ∙ ap (λ (s : List ℕ). before ++ s) x.1.split in
    let r = pieces_spans language text (before ++ spelling t) x.0 ps (split ∙ sym (append_assoc before (spelling t) x.0)) x.2 in
    let some = (begins_shorter language bytes (Token t) x.0 x.1).0 in
    record {
      spans = All-cons (IsSpan language text) (token_after before t) (tokens_after (before
          ++ spelling t) ps) (span_at language text before t x.0 split x.1.piece some) r.spans;
      plain = ap (λ (u : PlainToken). u ∷ plain_tokens text (tokens_after (before ++ spelling t) ps)) (plain_at text before t x.0 split)
          ∙ ap (λ (us : List PlainToken). t ∷ us) r.plain;
    }

pub are_spans : (language : ℕ) (text : List ℕ) (ts : List SpannedToken) → AreTokens language text ts → All (IsSpan language text) ts
are_spans language text ts x = subst (All (IsSpan language text)) (sym x.tokens_are) (pieces_spans language text [] text x.pieces refl x.whole).spans

pub plain_are : (language : ℕ) (text : List ℕ) (ps : List Piece) → ArePieces language text ps [] → plain_tokens text (tokens_after [] ps) ≡ plain_among ps
plain_are language text ps x = (pieces_spans language text [] text ps refl x).plain
