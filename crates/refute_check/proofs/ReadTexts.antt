-- Bytes without a breach of the form are a text.
use Rattle.std.proofs.lemmas.Bool.{and_from}
use Rattle.std.proofs.Common.{
  ◌≡◌,
  ◌≢◌,
  ◌<◌,
  ◌≤◌,
  ◌+◌,
  ◌++◌,
  ◌∷◌,
  [],
  ℕ,
  List,
  Option,
  None,
  Some,
  Bool,
  true,
  false,
  refl,
  ap,
  sym,
  ◌∙◌,
  subst,
  arith,
  length,
  append-nil,
  append_assoc,
}
use Rattle.std.specs.Prelude.{nat_eq, not, ◌||◌, map, is_some, if◌then◌else◌}
use Rattle.std.specs.List.{list_all, flat_map}
use Rattle.std.specs.Option.{option_map_or}
use borrow.Author.Tests.{eqb-true}
use Rattle.refute_check.specs.Texts.{head_text, line_text, is_readable, ended, refutation_text}
use Rattle.refute_check.specs.Reading.{Reading, Reads, IsTakenAs, after_taken, beginning}
use Rattle.refute_check.specs.helpers.Pieces.{pushed}
use Rattle.list_laws.specs.Lists.{is_nil}
use Rattle.refute_check.specs.declared.line.TheConstants.{LINES}
use Rattle.refute_check.specs.Laws.{whole_lines, IsWhole, ReadIsText}
use Rattle.refute_check.proofs.Cuts.{Step, stuck}
use Rattle.refute_check.specs.declared.head.Head.{Head}
use Rattle.refute_check.specs.declared.line.Line.{Line}
use Rattle.refute_check.specs.declared.text.Taken.{Taken}
use Rattle.refute_check.specs.declared.text.Taken.TheVariants.{More, Header, Line as Body, Form}

-- the lines of a derivation, each with its end
abbrev lines_text : List Line → List ℕ
lines_text ls = flat_map (λ l. ended (line_text l)) ls

-- the lines that end in some bytes after the first line
record AreBodies (s : Reading) (bytes : List ℕ) (ts : List Taken) (t : Reading) : Type 0 where
  lines : List Line
  are : ts ≡ map (λ l. Body l) lines
  readable : list_all is_readable lines ≡ true
  count : t.line ≡ length lines + s.line
  few : s.line ≤ LINES + 2 → t.line ≤ LINES + 2
  text : s.unfinished ++ bytes ≡ lines_text lines ++ t.unfinished

-- a fact about some bytes after all states
abbrev ForAll : List ℕ → Type 0
ForAll bytes = (s : Reading) (ts : List Taken) (t : Reading) → 1 < s.line → Reads s bytes ts t → t.fault ≡ None → AreBodies s bytes ts t

pub fault-stays : (bytes : List ℕ) (s : Reading) (ts : List Taken) (t : Reading) → is_some s.fault ≡ true → Reads s bytes ts t → t.fault ≡ None → ⊥
fault-stays bytes s ts t f a e =
    let same : t.fault ≡ s.fault = ap (λ (r : Reading). r.fault) ((stuck bytes s ts t f a).1) in
    let no : is_some s.fault ≡ false = ap is_some (sym same ∙ e) in
    let both : true ≡ false = sym f ∙ no in
    absurd (cc)

line-ends : (l : Line) (bs u rest : List ℕ) → bs ≡ rest ++ u → line_text l ++ 10 ∷ bs ≡ (ended (line_text l) ++ rest) ++ u
line-ends l bs u rest e =
    ap (λ z. line_text l ++ 10 ∷ z) e ∙ sym (append_assoc (line_text l) (10 ∷ []) (rest ++ u)) ∙ sym (append_assoc (ended (line_text l)) rest u)

ended-body : (x : Taken) (bs : List ℕ) (s : Reading) (ts xs : List Taken) (t : Reading) → ForAll bs → 1 < s.line → ts ≡ x ∷ xs
    → IsTakenAs s.line s.unfinished x → Reads (after_taken s x) bs xs t → t.fault ≡ None → AreBodies s (10 ∷ bs) ts t
ended-body More bs s ts xs t ih h i a r e = absurd a
ended-body (Header k) bs s ts xs t ih h i a r e = absurd (omega (arith, h, a.0))
ended-body (Form k) bs s ts xs t ih h i a r e = absurd (fault-stays bs (after_taken s (Form k)) xs t refl r e)
ended-body (Body l) bs s ts xs t ih h i a r e =
    let q = ih (after_taken s (Body l)) xs t (omega (arith, h)) r e in
    record {
      lines = l ∷ q.lines;
      are = i ∙ ap (λ zs. Body l ∷ zs) q.are;
      readable = and_from _ _ a.2 q.readable;
      count = omega (arith, q.count);
      few = λ b. q.few (omega (arith, a.1));
      text = ap (λ z. z ++ 10 ∷ bs) (sym a.3) ∙ line-ends l bs t.unfinished (lines_text q.lines) q.text;
    }

body-step : (f d : Bool) (b : ℕ) (bs : List ℕ) (s : Reading) (ts : List Taken) (t : Reading) → is_some s.fault ≡ f → nat_eq b 10 ≡ d → ForAll bs
    → 1 < s.line → Step f d s b bs ts t → t.fault ≡ None → AreBodies s (b ∷ bs) ts t
body-step true d b bs s ts t f i ih h a e = absurd (fault-stays [] s ts t f a e)
body-step false true b bs s ts t f i ih h a e =
    let ten : b ≡ 10 = eqb-true b 10 i in
    subst (λ z. AreBodies s (z ∷ bs) ts t) (sym ten) (ended-body a.0 bs s ts a.1 t ih h a.2 a.3 a.4 e)
body-step false false b bs s ts t f i ih h a e =
    let q = ih (pushed s (b ∷ [])) ts t h a e in
    record {
      lines = q.lines;
      are = q.are;
      readable = q.readable;
      count = q.count;
      few = q.few;
      text = sym (append_assoc s.unfinished (b ∷ []) bs) ∙ q.text;
    }

bodies : (bytes : List ℕ) → ForAll bytes
bodies [] s ts t h a e =
    let line : t.line ≡ s.line = ap (λ (r : Reading). r.line) a.1 in
    record {
      lines = [];
      are = a.0;
      readable = refl;
      count = omega (arith, line);
      few = λ b. omega (arith, line, b);
      text = append-nil s.unfinished ∙ sym (ap (λ (r : Reading). r.unfinished) a.1);
    }
bodies (b ∷ bytes) s ts t h a e = body-step _ _ b bytes s ts t refl refl (bodies bytes) h a e

-- the lines that end in some bytes from the first line on
record AreWhole (s : Reading) (bytes : List ℕ) (ts : List Taken) (t : Reading) : Type 0 where
  head : Head
  lines : List Line
  are : ts ≡ whole_lines head lines
  whole : IsWhole head lines
  text : s.unfinished ++ bytes ≡ refutation_text head lines ++ t.unfinished

abbrev ForFirst : List ℕ → Type 0
ForFirst bytes = (s : Reading) (ts : List Taken) (t : Reading) → s.line ≡ 1 → Reads s bytes ts t → t.fault ≡ None → t.line ≢ 1 → AreWhole s bytes ts t

head-ends : (h : Head) (bs u rest : List ℕ) → bs ≡ rest ++ u → head_text h ++ 10 ∷ bs ≡ (ended (head_text h) ++ rest) ++ u
head-ends h bs u rest e =
    ap (λ z. head_text h ++ 10 ∷ z) e ∙ sym (append_assoc (head_text h) (10 ∷ []) (rest ++ u)) ∙ sym (append_assoc (ended (head_text h)) rest u)

ended-head : (x : Taken) (bs : List ℕ) (s : Reading) (ts xs : List Taken) (t : Reading) → s.line ≡ 1 → ts ≡ x ∷ xs
    → IsTakenAs s.line s.unfinished x → Reads (after_taken s x) bs xs t → t.fault ≡ None → AreWhole s (10 ∷ bs) ts t
ended-head More bs s ts xs t h i a r e = absurd a
ended-head (Body l) bs s ts xs t h i a r e = absurd (omega (arith, h, a.0))
ended-head (Form k) bs s ts xs t h i a r e = absurd (fault-stays bs (after_taken s (Form k)) xs t refl r e)
ended-head (Header k) bs s ts xs t h i a r e =
    let q = bodies bs (after_taken s (Header k)) xs t (omega (arith, h)) r e in
    let few : t.line ≤ LINES + 2 = q.few (omega (arith, h)) in
    record {
      head = k;
      lines = q.lines;
      are = i ∙ ap (λ zs. Header k ∷ zs) q.are;
      whole = (a.1, q.readable, omega (arith, q.count, few, h));
      text = ap (λ z. z ++ 10 ∷ bs) (sym a.2) ∙ head-ends k bs t.unfinished (lines_text q.lines) q.text;
    }

head-step : (f d : Bool) (b : ℕ) (bs : List ℕ) (s : Reading) (ts : List Taken) (t : Reading) → is_some s.fault ≡ f → nat_eq b 10 ≡ d → ForFirst bs
    → s.line ≡ 1 → Step f d s b bs ts t → t.fault ≡ None → t.line ≢ 1 → AreWhole s (b ∷ bs) ts t
head-step true d b bs s ts t f i ih h a e n = absurd (fault-stays [] s ts t f a e)
head-step false true b bs s ts t f i ih h a e n =
    let ten : b ≡ 10 = eqb-true b 10 i in
    subst (λ z. AreWhole s (z ∷ bs) ts t) (sym ten) (ended-head a.0 bs s ts a.1 t h a.2 a.3 a.4 e)
head-step false false b bs s ts t f i ih h a e n =
    let q = ih (pushed s (b ∷ [])) ts t h a e n in
    record {
      head = q.head;
      lines = q.lines;
      are = q.are;
      whole = q.whole;
      text = sym (append_assoc s.unfinished (b ∷ []) bs) ∙ q.text;
    }

firsts : (bytes : List ℕ) → ForFirst bytes
firsts [] s ts t h a e n = absurd (n (ap (λ (r : Reading). r.line) a.1 ∙ h))
firsts (b ∷ bytes) s ts t h a e n = head-step _ _ b bytes s ts t refl refl (firsts bytes) h a e n

-- nothing breaks the form
no-breach : (o : Option ℕ) (one : Bool) (u : List ℕ) (n : ℕ)
    → option_map_or (λ k. Some k) o (if one || not (is_nil u) then Some n else None) ≡ None → (o ≡ None) × (one ≡ false) × (u ≡ [])
no-breach (Some k) one u n h = absurd (cc)
no-breach None true u n h = absurd (cc)
no-breach None false [] n h = (refl, refl, refl)
no-breach None false (x ∷ u) n h = absurd (cc)

pub read-is-text : ReadIsText
read-is-text bytes ts t a n =
    let q = no-breach t.fault (nat_eq t.line 1) t.unfinished t.line n in
    let later : t.line ≢ 1 = λ i. let both : true ≡ false = sym (ap (λ z. nat_eq z 1) i) ∙ q.1 in absurd (cc) in
    let w = firsts bytes beginning ts t refl a q.0 later in (
      w.head,
      w.lines,
      w.are,
      w.whole,
      sym (w.text ∙ ap (λ z. refutation_text w.head w.lines ++ z) q.2 ∙ append-nil (refutation_text w.head w.lines)),
    )
