-- A text's pieces, one after the other.
use Rattle.std.proofs.Common.{◌≡◌, ◌+◌, ◌<◌, ◌≤◌, ℕ, zero, suc, List, [], ◌∷◌, ◌++◌, length, take, drop, refl, sym, ap, ◌∙◌, subst, arith, Option, Some, None}
use Rattle.std.proofs.Common.{append_assoc, length-append, length-take, length-drop}
use Rattle.std.specs.Prelude.{option_map, ◌-◌}
use Rattle.std.proofs.lemmas.List.{append-nil, take_all, take_at, drop_at, take-append-drop, append_cancel_right, nil_from_length}
use Rattle.tc_lexer.specs.declared.place.Place.{Place}
use Rattle.tc_lexer.specs.declared.token.TokenKind.{TokenKind}
use Rattle.tc_lexer.specs.declared.token.Token.{Token as SpannedToken}
use Rattle.tc_lexer.specs.Tokens.{spelling}
use Rattle.tc_lexer.specs.Pieces.{Piece, Space, LineComment, BlockComment, Token, written, IsPiece, Begins, ArePieces}
use Rattle.tc_lexer.specs.Places.{place_after}
use Rattle.tc_lexer.specs.Text.{kind_of, token_after, tokens_after, AreTokens, fault_at, IsFault}
use Rattle.tc_lexer.specs.declared.piece.Piece.{Piece as Shape}
use Rattle.tc_lexer.specs.helpers.Reading.{front, place_from, shape_of}
use Rattle.tc_lexer.proofs.Comments.{mapped, unmapped}
use Rattle.tc_lexer.proofs.Front.{found, is_found}
use Rattle.tc_lexer.proofs.Places.{place_after-append}

-- no piece is at the front
abbrev pub BeginsNone : ℕ → List ℕ → Type 0
BeginsNone language bytes = (p : Piece) (after : List ℕ) → Begins language bytes p after → ⊥

pub none_found : (language : ℕ) (bytes : List ℕ) → front language bytes ≡ None → BeginsNone language bytes
none_found language bytes e p after x =
    let some = found language bytes p after x in
    cc

pub none_in_nothing : (language : ℕ) → BeginsNone language []
none_in_nothing language = none_found language [] refl

-- One piece is at the front, of at least one byte.

pub begins_rest : (language : ℕ) (bytes : List ℕ) (p : Piece) (rest : List ℕ) → Begins language bytes p rest → rest ≡ drop (length (written p)) bytes
begins_rest language bytes p rest x = sym (drop_at (written p) rest (length (written p)) refl) ∙ ap (drop (length (written p))) (sym x.split)

pub one_piece : (language : ℕ) (bytes : List ℕ) (p q : Piece) (a b : List ℕ) → Begins language bytes p a → Begins language bytes q b → (p ≡ q) × (a ≡ b)
one_piece language bytes p q a b x y =
    let first = found language bytes p a x in
    let second = found language bytes q b y in
    let same : p ≡ q = cc in
    (same, begins_rest language bytes p a x ∙ ap (λ (r : Piece). drop (length (written r)) bytes) same ∙ sym (begins_rest language bytes q b y))

written_some : (language : ℕ) (p : Piece) (bytes : List ℕ) → written p ≡ bytes → IsPiece language p → 0 < length bytes
written_some language p [] e h =
    let alone : Begins language [] p [] = record { split = sym (append-nil (written p) ∙ e); piece = h; ends = tt } in
    absurd (none_in_nothing language p [] alone)
written_some language p (b ∷ bs) e h = omega arith

pub begins_shorter : (language : ℕ) (bytes : List ℕ) (p : Piece) (rest : List ℕ) → Begins language bytes p rest
    → (0 < length (written p)) × (length (written p) + length rest ≡ length bytes)
begins_shorter language bytes p rest x = (written_some language p (written p) refl x.piece, sym (ap length x.split ∙ length-append (written p) rest))

-- At most one list of pieces ends where no piece begins.

pub same_pieces : (language : ℕ) (bytes : List ℕ) (ps qs : List Piece) (r s : List ℕ) → ArePieces language bytes ps r → ArePieces language bytes qs s
    → BeginsNone language r → BeginsNone language s → (ps ≡ qs) × (r ≡ s)
same_pieces language bytes [] [] r s x y no_r no_s = (refl, sym x ∙ y)
same_pieces language bytes [] (q ∷ qs) r s x y no_r no_s = absurd (no_r q y.0 (subst (λ (t : List ℕ). Begins language t q y.0) x y.1))
same_pieces language bytes (p ∷ ps) [] r s x y no_r no_s = absurd (no_s p x.0 (subst (λ (t : List ℕ). Begins language t p x.0) y x.1))
same_pieces language bytes (p ∷ ps) (q ∷ qs) r s x y no_r no_s =
    let one = one_piece language bytes p q x.0 y.0 x.1 y.1 in
    let rest = same_pieces language x.0 ps qs r s x.2 (subst (λ (t : List ℕ). ArePieces language t qs s) (sym one.1) y.2) no_r no_s in
    (ap (λ (t : Piece). t ∷ ps) one.0 ∙ ap (λ (ts : List Piece). q ∷ ts) rest.0, rest.1)

-- some bytes, divided into pieces up to where no piece begins
pub record ReadsTo (language : ℕ) (bytes : List ℕ) : Type 0 where
  pub pieces : List Piece
  pub rest : List ℕ
  pub read : ArePieces language bytes pieces rest
  pub none : BeginsNone language rest

reads_one : (language n : ℕ) (bytes : List ℕ) → length bytes ≤ suc n → ((rest : List ℕ) → length rest ≤ n → ReadsTo language rest) → (o : Option Piece)
    → front language bytes ≡ o → ReadsTo language bytes
reads_one language n bytes h on None e = record { pieces = []; rest = bytes; read = refl; none = none_found language bytes e }
reads_one language n bytes h on (Some p) e =
    let x = is_found language bytes p e in
    let short = begins_shorter language bytes p x.0 x.1 in
    let r = on x.0 (omega arith) in
    record { pieces = p ∷ r.pieces; rest = r.rest; read = (x.0, x.1, r.read); none = r.none }

reads_on : (language n : ℕ) (bytes : List ℕ) → length bytes ≤ n → ReadsTo language bytes
reads_on language zero bytes h =
    let nothing : bytes ≡ [] = nil_from_length bytes (omega arith) in
    record { pieces = []; rest = []; read = nothing; none = none_in_nothing language }
reads_on language (suc n) bytes h = reads_one language n bytes h (λ rest k. reads_on language n rest k) (front language bytes) refl

pub reads : (language : ℕ) (bytes : List ℕ) → ReadsTo language bytes
reads language bytes = reads_on language (length bytes) bytes (omega arith)

-- One piece more.

abbrev pub all_written : List Piece → List ℕ
all_written [] = []
all_written (p ∷ ps) = written p ++ all_written ps

pub pieces_split : (language : ℕ) (bytes : List ℕ) (ps : List Piece) (rest : List ℕ) → ArePieces language bytes ps rest → bytes ≡ all_written ps ++ rest
pieces_split language bytes [] rest x = x
pieces_split language bytes (p ∷ ps) rest x =
    x.1.split ∙ (ap (λ (s : List ℕ). written p ++ s) (pieces_split language x.0 ps rest x.2) ∙ sym (append_assoc (written p) (all_written ps) rest))

pub pieces_more : (language : ℕ) (bytes : List ℕ) (ps : List Piece) (rest : List ℕ) (p : Piece) (after : List ℕ) → ArePieces language bytes ps rest
    → Begins language rest p after → ArePieces language bytes (ps ++ p ∷ []) after
pieces_more language bytes [] rest p after x y = (after, subst (λ (s : List ℕ). Begins language s p after) (sym x) y, refl)
pieces_more language bytes (q ∷ ps) rest p after x y = (x.0, x.1, pieces_more language x.0 ps rest p after x.2 y)

-- the token of a piece, if it has one, with these bytes before it
abbrev pub token_among : List ℕ → Piece → List SpannedToken
token_among before (Token t) = token_after before t ∷ []
token_among before _ = []

tokens_one : (before : List ℕ) (p : Piece) (ps : List Piece) → tokens_after before (p ∷ ps) ≡ token_among before p ++ tokens_after (before ++ written p) ps
tokens_one before (Space b) ps = refl
tokens_one before (LineComment body) ps = refl
tokens_one before (BlockComment body) ps = refl
tokens_one before (Token t) ps = refl

pub tokens_more : (before : List ℕ) (ps : List Piece) (p : Piece)
    → tokens_after before (ps ++ p ∷ []) ≡ tokens_after before ps ++ token_among (before ++ all_written ps) p
tokens_more before [] p = tokens_one before p [] ∙ append-nil (token_among before p) ∙ ap (λ (s : List ℕ). token_among s p) (sym (append-nil before))
tokens_more before (q ∷ ps) p =
    tokens_one before q (ps ++ p ∷ [])
    ∙ (ap (λ (ts : List SpannedToken). token_among before q ++ ts) (tokens_more (before ++ written q) ps p)
    ∙ (sym (append_assoc (token_among before q) _ _)
    ∙ (ap (λ (ts : List SpannedToken). ts ++ token_among ((before ++ written q) ++ all_written ps) p) (sym (tokens_one before q ps))
    ∙ ap (λ (s : List ℕ). tokens_after before (q ∷ ps) ++ token_among s p) (append_assoc before (written q) (all_written ps)))))

-- the text up to a byte is divided into pieces with these tokens
pub record IsRead (language : ℕ) (text : List ℕ) (tokens : List SpannedToken) (start : ℕ) (place : Place) : Type 0 where
  pub pieces : List Piece
  pub read : ArePieces language text pieces (drop start text)
  pub tokens_are : tokens ≡ tokens_after [] pieces
  pub within : start ≤ length text
  pub place_is : place ≡ place_after (take start text)

read_before : (language : ℕ) (text : List ℕ) (ps : List Piece) (start : ℕ) → start ≤ length text → ArePieces language text ps (drop start text)
    → all_written ps ≡ take start text
read_before language text ps start h x =
    append_cancel_right (all_written ps) (take start text) (drop start text) (sym (pieces_split language text ps (drop start text) x)
    ∙ sym (take-append-drop start text))

pub read_more : (language : ℕ) (text : List ℕ) (tokens : List SpannedToken) (start : ℕ) (place : Place) (p : Piece) (after : List ℕ)
    → IsRead language text tokens start place → Begins language (drop start text) p after
    → IsRead language text (tokens ++ token_among (take start text) p) (start + length (written p)) (place_from place (written p))
read_more language text tokens start place p after r x =
    let n = length (written p) in
    let before = read_before language text r.pieces start r.within r.read in
    let short = begins_shorter language (drop start text) p after x in
    let whole : text ≡ (take start text ++ written p) ++ after = sym (take-append-drop start text)
    ∙ (ap (λ (s : List ℕ). take start text ++ s) x.split ∙ sym (append_assoc (take start text) (written p) after)) in
    let long : length (take start text ++ written p) ≡ start + n =
    omega (arith, length-append (take start text) (written p), length-take start text, r.within) in
    let front_is : take (start + n) text ≡ take start text ++ written p = ap (take (start + n)) whole
    ∙ take_at (take start text ++ written p) after (start + n) long in
    let after_is : drop (start + n) text ≡ after = ap (drop (start + n)) whole ∙ drop_at (take start text ++ written p) after (start + n) long in
    record {
      pieces = r.pieces ++ p ∷ [];
      read = subst (λ (s : List ℕ). ArePieces language text (r.pieces
          ++ p ∷ []) s) (sym after_is) (pieces_more language text r.pieces (drop start text) p after r.read x);
      tokens_are = ap (λ (ts : List SpannedToken). ts ++ token_among (take start text) p) r.tokens_are
          ∙ (ap (λ (s : List ℕ). tokens_after [] r.pieces ++ token_among s p) (sym before) ∙ sym (tokens_more [] r.pieces p));
      within = omega (arith, length-drop start text, r.within);
      place_is = ap (λ (q : Place). place_from q (written p)) r.place_is
          ∙ (sym (place_after-append (written p) (take start text)) ∙ ap place_after (sym front_is));
    }

-- if everything is read, the tokens are the text's
pub read_all : (language : ℕ) (text : List ℕ) (tokens : List SpannedToken) (start : ℕ) (place : Place) → IsRead language text tokens start place
    → length text ≤ start → AreTokens language text tokens
read_all language text tokens start place r h =
    let nothing : drop start text ≡ [] = nil_from_length (drop start text) (omega (arith, length-drop start text)) in
    record { pieces = r.pieces; whole = subst (λ (s : List ℕ). ArePieces language text r.pieces s) nothing r.read; tokens_are = r.tokens_are }

-- if no piece begins before the end, the fault is there
pub read_fault : (language : ℕ) (text : List ℕ) (tokens : List SpannedToken) (start : ℕ) (place : Place) → IsRead language text tokens start place
    → start < length text → BeginsNone language (drop start text) → IsFault language text (fault_at place (drop start text))
read_fault language text tokens start place r h none =
    record {
      before = take start text;
      rest = drop start text;
      split = sym (take-append-drop start text);
      pieces = r.pieces;
      read = r.read;
      more = omega (arith, length-drop start text);
      none = none;
      fault_is = ap (λ (q : Place). fault_at q (drop start text)) r.place_is;
    }

-- Results of the reader's calls.

pub rest_is : (text : List ℕ) (start : ℕ) → take (length text - start) (drop start text) ≡ drop start text
rest_is text start = take_all (length text - start) (drop start text) (omega (arith, length-drop start text))

-- the piece that was found at a byte
pub record IsFoundAt (text : List ℕ) (start : ℕ) (s : Shape) : Type 0 where
  pub piece : Piece
  pub after : List ℕ
  pub begins : Begins 4 (drop start text) piece after
  pub shape : shape_of piece ≡ s

pub found_at : (text : List ℕ) (start : ℕ) (o : Option Shape) (s : Shape) → o ≡ option_map shape_of (front 4 (take (length text - start) (drop start text)))
    → o ≡ Some s → IsFoundAt text start s
found_at text start o s e f =
    let m = mapped shape_of (front 4 (drop start text)) s (ap (λ (b : List ℕ). option_map shape_of (front 4 b)) (sym (rest_is text start)) ∙ (sym e ∙ f)) in
    let x = is_found 4 (drop start text) m.0 m.1 in
    record { piece = m.0; after = x.0; begins = x.1; shape = m.2 }

pub none_at : (text : List ℕ) (start : ℕ) (o : Option Shape) → o ≡ option_map shape_of (front 4 (take (length text - start) (drop start text))) → o ≡ None
    → BeginsNone 4 (drop start text)
none_at text start o e f =
    none_found 4 (drop start text)
    (unmapped shape_of (front 4 (drop start text)) (ap (λ (b : List ℕ). option_map shape_of (front 4 b)) (sym (rest_is text start)) ∙ (sym e ∙ f)))

pub found_fits : (text : List ℕ) (start : ℕ) (s : Shape) → start < length text → IsFoundAt text start s → (0 < s.len) × (start + s.len ≤ length text)
found_fits text start s h x =
    let b = begins_shorter 4 (drop start text) x.piece x.after x.begins in
    let len = ap (λ (t : Shape). t.len) x.shape in
    (omega arith, omega (arith, length-drop start text))

pub length_found : (text : List ℕ) (start len : ℕ) → start + len ≤ length text → length (take len (take (length text - start) (drop start text))) ≡ len
length_found text start len h = ap (λ (b : List ℕ). length (take len b)) (rest_is text start)
    ∙ (omega (arith, length-take len (drop start text), length-drop start text))

pushed : (before : List ℕ) (start : ℕ) (place : Place) (s : Shape) (kind : TokenKind) (p : Piece) → length before ≡ start → place ≡ place_after before
    → shape_of p ≡ s → s.kind ≡ Some kind
    → ◌≡◌ {A = List SpannedToken} (record { kind = kind; start = start; end = start + s.len; place = place } ∷ []) (token_among before p)
pushed before start place s kind (Space b) h e f k = absurd cc
pushed before start place s kind (LineComment body) h e f k = absurd cc
pushed before start place s kind (BlockComment body) h e f k = absurd cc
pushed before start place s kind (Token t) h e f k =
    let len : length (spelling t) ≡ s.len = ap (λ (u : Shape). u.len) f in
    let kinds : ◌≡◌ {A = Option TokenKind} (Some (kind_of t)) (Some kind) = ap (λ (u : Shape). u.kind) f ∙ k in
    let same : kind_of t ≡ kind = cc in
    cc

none_among : (before : List ℕ) (s : Shape) (p : Piece) → shape_of p ≡ s → s.kind ≡ None → token_among before p ≡ []
none_among before s (Space b) f k = refl
none_among before s (LineComment body) f k = refl
none_among before s (BlockComment body) f k = refl
none_among before s (Token t) f k =
    let kinds : ◌≡◌ {A = Option TokenKind} (Some (kind_of t)) None = ap (λ (u : Shape). u.kind) f ∙ k in
    absurd cc

-- the token that was pushed, or none, is the piece's
pub pushed_is : (text : List ℕ) (start : ℕ) (place : Place) (s : Shape) (kind : TokenKind) → start ≤ length text → place ≡ place_after (take start text)
    → (x : IsFoundAt text start s) → s.kind ≡ Some kind
    → ◌≡◌ {A = List SpannedToken} (record { kind = kind; start = start; end = start + s.len; place = place } ∷ []) (token_among (take start text) x.piece)
pushed_is text start place s kind h e x k = pushed (take start text) start place s kind x.piece (omega (arith, length-take start text)) e x.shape k

pub none_is : (text : List ℕ) (start : ℕ) (s : Shape) → (x : IsFoundAt text start s) → s.kind ≡ None → token_among (take start text) x.piece ≡ []
none_is text start s x k = none_among (take start text) s x.piece x.shape k

-- the invariant of the reader's loop, one piece further on
pub kept : (text : List ℕ) (tokens next : List SpannedToken) (start : ℕ) (place place' : Place) (s : Shape) → start < length text
    → IsRead 4 text tokens start place → (x : IsFoundAt text start s) → next ≡ tokens ++ token_among (take start text) x.piece
    → place' ≡ place_from place (take s.len (take (length text - start) (drop start text))) → IsRead 4 text next (start + s.len) place'
kept text tokens next start place place' s h r x e f =
    let len : length (written x.piece) ≡ s.len = ap (λ (t : Shape). t.len) x.shape in
    let bytes : take s.len (take (length text - start) (drop start text)) ≡ written x.piece = ap (take s.len) (rest_is text start ∙ x.begins.split)
    ∙ take_at (written x.piece) x.after s.len len in
    let more = read_more 4 text tokens start place x.piece x.after r x.begins in
    let place_is : place_from place (written x.piece) ≡ place' = ap (place_from place) (sym bytes) ∙ sym f in
    subst (λ (q : Place). IsRead 4 text next (start + s.len) q) place_is
    (subst (λ (n : ℕ). IsRead 4 text next (start + n) (place_from place (written x.piece))) len
    (subst (λ (ts : List SpannedToken). IsRead 4 text ts (start + length (written x.piece)) (place_from place (written x.piece))) (sym e) more))
