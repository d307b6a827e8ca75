-- A whole text is read in only one way.
use Rattle.std.proofs.lemmas.Bool.{and_parts, and_from, not-true}
use Rattle.std.proofs.Common.{
  ◌≡◌,
  ◌<◌,
  ◌≤◌,
  ◌+◌,
  ◌%◌,
  ◌++◌,
  ◌∷◌,
  [],
  ℕ,
  suc,
  ℤ,
  pos,
  negsuc,
  List,
  Option,
  None,
  Some,
  Bool,
  true,
  false,
  refl,
  ap,
  sym,
  ◌∙◌,
  subst,
  arith,
  length,
  append-nil,
  append_assoc,
}
use Rattle.std.specs.Prelude.{nat_eq, nat_lt, not, map, codes}
use Rattle.std.specs.List.{list_all, flat_map}
use Rattle.std.specs.Option.{option_map_or}
use Rattle.std.specs.Fmt.{decimal, signed_decimal}
use Rattle.std.proofs.lemmas.Fmt.{decimal_by_steps}
use Rattle.std.proofs.lemmas.List.Folds.{list_all-append}
use borrow.Author.Tests.{ne_eqb, ltb-true}
use Rattle.memory_models.specs.Models.{model_name}
use Rattle.memory_models.specs.declared.model.Model.{Model}
use Rattle.memory_models.specs.declared.model.Model.TheVariants.{Sc, Tso, Pso}
use Rattle.refute_check.specs.Texts.{
  switches_text,
  head_text,
  line_text,
  numbers_text,
  is_head,
  is_readable,
  ended,
  refutation_text,
}
use Rattle.refute_check.specs.Reading.{Reading, Reads, IsTakenAs, after_taken, beginning}
use Rattle.refute_check.specs.helpers.Pieces.{pushed}
use Rattle.refute_check.specs.declared.line.TheConstants.{LINES}
use Rattle.refute_check.specs.helpers.Guess.{head_guess, line_guess}
use Rattle.refute_check.specs.Laws.{whole_lines, ReadsAgree, TextIsRead, TextHasOneValue}
use Rattle.refute_check.proofs.Heads.{head_guess-head_text}
use Rattle.refute_check.proofs.Guesses.{line_guess-line_text, is_small, numbers_after, letter_of, text-of-numbers, small-of-line}
use Rattle.refute_check.proofs.Cuts.{Step, step-push, step-end, pushed-nil, pushed-cons}
use Rattle.refute_check.specs.declared.head.Head.{Head}
use Rattle.refute_check.specs.declared.line.Line.{Line}
use Rattle.refute_check.specs.declared.line.Line.TheVariants.{Add, Delete}
use Rattle.refute_check.specs.declared.text.Taken.{Taken}
use Rattle.refute_check.specs.declared.text.Taken.TheVariants.{More, Header, Line as Body, Form}

head-one : (h k : Head) → is_head h ≡ true → is_head k ≡ true → head_text h ≡ head_text k → h ≡ k
head-one h k r q e = let g : ◌≡◌ {A = Option Head} (Some h) (Some k) = sym (head_guess-head_text h r) ∙ ap head_guess e ∙ head_guess-head_text k q in cc

line-one : (l m : Line) → is_readable l ≡ true → is_readable m ≡ true → line_text l ≡ line_text m → l ≡ m
line-one l m r q e = let g : ◌≡◌ {A = Option Line} (Some l) (Some m) = sym (line_guess-line_text l r) ∙ ap line_guess e ∙ line_guess-line_text m q in cc

-- a line is read in only one way
taken-one : (n : ℕ) (bytes : List ℕ) (x y : Taken) → IsTakenAs n bytes x → IsTakenAs n bytes y → x ≡ y
taken-one n bytes More y a b = absurd a
taken-one n bytes (Header h) More a b = absurd b
taken-one n bytes (Header h) (Header k) a b = ap (λ z. Header z) (head-one h k a.1 b.1 (a.2 ∙ sym b.2))
taken-one n bytes (Header h) (Body l) a b = absurd (omega (arith, a.0, b.0))
taken-one n bytes (Header h) (Form k) a b = absurd (b.1 a.0 h a.1 a.2)
taken-one n bytes (Body l) More a b = absurd b
taken-one n bytes (Body l) (Header h) a b = absurd (omega (arith, a.0, b.0))
taken-one n bytes (Body l) (Body m) a b = ap (λ z. Body z) (line-one l m a.2 b.2 (a.3 ∙ sym b.3))
taken-one n bytes (Body l) (Form k) a b = absurd (b.2 a.0 a.1 l a.2 a.3)
taken-one n bytes (Form k) More a b = absurd b
taken-one n bytes (Form k) (Header h) a b = absurd (a.1 b.0 h b.1 b.2)
taken-one n bytes (Form k) (Body l) a b = absurd (a.2 b.0 b.1 l b.2 b.3)
taken-one n bytes (Form k) (Form j) a b = ap (λ z. Form z) (a.0 ∙ sym b.0)

agree-step : (f d : Bool) (s t u : Reading) (b : ℕ) (bs : List ℕ) (xs ys : List Taken)
    → ((s t u : Reading) (xs ys : List Taken) → Reads s bs xs t → Reads s bs ys u → (xs ≡ ys) × (t ≡ u))
    → Step f d s b bs xs t → Step f d s b bs ys u → (xs ≡ ys) × (t ≡ u)
agree-step true d s t u b bs xs ys ih a c = (a.0 ∙ sym c.0, a.1 ∙ sym c.1)
agree-step false true s t u b bs xs ys ih a c =
    let x : a.0 ≡ c.0 = taken-one s.line s.unfinished a.0 c.0 a.3 c.3 in
    let r = ih (after_taken s c.0) t u a.1 c.1 (subst (λ z. Reads (after_taken s z) bs a.1 t) x a.4) c.4 in
    (a.2 ∙ ap (λ z. z ∷ a.1) x ∙ ap (λ zs. c.0 ∷ zs) r.0 ∙ sym c.2, r.1)
agree-step false false s t u b bs xs ys ih a c = ih (pushed s (b ∷ [])) t u xs ys a c

pub reads-agree : ReadsAgree
reads-agree [] s t u xs ys a c = (a.0 ∙ sym c.0, a.1 ∙ sym c.1)
reads-agree (b ∷ bs) s t u xs ys a c =
    agree-step _ (nat_eq b 10) s t u b bs xs ys (λ s t u xs ys a c. reads-agree bs s t u xs ys a c) a c

-- no byte ends a line
abbrev is_plain : List ℕ → Bool
is_plain bytes = list_all (λ b. not (nat_eq b 10)) bytes

not-end : (b : ℕ) → 10 < b → not (nat_eq b 10) ≡ true
not-end b h = ap not (ne_eqb b 10 (λ i. omega arith))

plain-both : (xs ys : List ℕ) → is_plain xs ≡ true → is_plain ys ≡ true → is_plain (xs ++ ys) ≡ true
plain-both xs ys p q = list_all-append (λ b. not (nat_eq b 10)) xs ys ∙ and_from _ _ p q

abbrev IsPlain : ℕ → List ℕ → Type 0
IsPlain n ds = is_plain ds ≡ true

plain-decimal : (n : ℕ) → n < 4294967296 → is_plain (decimal n) ≡ true
plain-decimal n b = decimal_by_steps IsPlain (λ n h. and_from _ true (not-end (48 + n) (omega arith)) refl)
    (λ n ds h p. plain-both ds ((48 + n % 10) ∷ []) p (and_from _ true (not-end (48 + n % 10) (omega arith)) refl)) n (omega (arith, b))

plain-signed : (z : ℤ) → is_small z ≡ true → is_plain (signed_decimal z) ≡ true
plain-signed (pos n) h = plain-decimal n (ltb-true n 4294967296 h)
plain-signed (negsuc n) h = plain-decimal (suc n) (ltb-true (suc n) 4294967296 h)

plain-numbers : (zs : List ℤ) → list_all is_small zs ≡ true → is_plain (numbers_text zs) ≡ true
plain-numbers [] h = refl
plain-numbers (z ∷ zs) h = plain-both (signed_decimal z) (numbers_text zs) (plain-signed z (and_parts (is_small z) _ h).0)
    (plain-numbers zs (and_parts (is_small z) _ h).1)

plain-letter : (l : Line) → not (nat_eq (letter_of l) 10) ≡ true
plain-letter (Add lits hints) = refl
plain-letter (Delete ns) = refl

plain-line : (l : Line) → is_readable l ≡ true → is_plain (line_text l) ≡ true
plain-line l h =
    ap is_plain (text-of-numbers l) ∙ and_from _ _ (plain-letter l) (plain-numbers (numbers_after l) (small-of-line l h))

plain-parts : (m : Model) (s : Option ℕ) → option_map_or (λ k. nat_lt k 256) s true ≡ true
    → is_plain (codes "clap-refutation 2 " ++ model_name m ++ switches_text s) ≡ true
plain-parts Sc None h = refl
plain-parts Tso None h = refl
plain-parts Pso None h = refl
plain-parts Sc (Some k) h = plain-decimal k (omega (arith, ltb-true k 256 h))
plain-parts Tso (Some k) h = plain-decimal k (omega (arith, ltb-true k 256 h))
plain-parts Pso (Some k) h = plain-decimal k (omega (arith, ltb-true k 256 h))

-- a line, its end and the rest
reads-line : (bytes : List ℕ) (s : Reading) (rest : List ℕ) (x : Taken) (xs : List Taken) (t : Reading) → s.fault ≡ None → is_plain bytes ≡ true
    → IsTakenAs s.line (s.unfinished ++ bytes) x → Reads (after_taken (pushed s bytes) x) rest xs t → Reads s (bytes ++ 10 ∷ rest) (x ∷ xs) t
reads-line [] s rest x xs t e p h r =
    step-end s 10 rest (x ∷ xs) t e refl
    (x, xs, refl, subst (λ z. IsTakenAs s.line z x) (append-nil s.unfinished) h, subst (λ z. Reads (after_taken z x) rest xs t) (pushed-nil s) r)
reads-line (b ∷ bytes) s rest x xs t e p h r =
    let n : nat_eq b 10 ≡ false = not-true (nat_eq b 10) (and_parts (not (nat_eq b 10)) _ p).0 in
    step-push s b (bytes ++ 10 ∷ rest) (x ∷ xs) t e n
    (reads-line bytes (pushed s (b ∷ [])) rest x xs t e (and_parts (not (nat_eq b 10)) _ p).1
    (subst (λ z. IsTakenAs s.line z x) (sym (append_assoc s.unfinished (b ∷ []) bytes)) h)
    (subst (λ z. Reads (after_taken z x) rest xs t) (sym (pushed-cons s b bytes)) r))

-- the state between two lines, before the line with this number
abbrev pub between : ℕ → Reading
between n = record { unfinished = []; line = n; fault = None }

-- the lines of a derivation
reads-lines : (ls : List Line) (n k : ℕ) → 1 < n → k ≡ length ls + n → k ≤ LINES + 2 → list_all is_readable ls ≡ true
    → Reads (between n) (flat_map (λ l. ended (line_text l)) ls) (map (λ l. Body l) ls) (between k)
reads-lines [] n k h e b r = (refl, ap between (let same : k ≡ n = omega (arith, e) in same))
reads-lines (l ∷ ls) n k h e b r =
    let here : is_readable l ≡ true = (and_parts (is_readable l) _ r).0 in
    subst (λ bs. Reads (between n) bs (map (λ l. Body l) (l ∷ ls)) (between k))
    (sym (append_assoc (line_text l) (10 ∷ []) (flat_map (λ l. ended (line_text l)) ls)))
    (reads-line (line_text l) (between n) (flat_map (λ l. ended (line_text l)) ls) (Body l) (map (λ l. Body l) ls) (between k) refl
    (plain-line l here) (h, omega (arith, e, b), here, refl)
    (reads-lines ls (n + 1) k (omega (arith, h)) (omega (arith, e)) b (and_parts (is_readable l) _ r).1))

pub text-is-read : TextIsRead
text-is-read h ls w =
    subst (λ bs. Reads beginning bs (whole_lines h ls) (between (length ls + 2)))
    (sym (append_assoc (head_text h) (10 ∷ []) (flat_map (λ l. ended (line_text l)) ls)))
    (reads-line (head_text h) beginning (flat_map (λ l. ended (line_text l)) ls) (Header h) (map (λ l. Body l) ls) (between (length ls + 2)) refl
    (plain-parts h.model h.switches w.0) (refl, w.0, refl)
    (reads-lines ls 2 (length ls + 2) (omega arith) refl (omega (arith, w.2)) w.1))

lines-one : (ls ms : List Line) → map (λ l. Body l) ls ≡ map (λ l. Body l) ms → ls ≡ ms
lines-one [] [] e = refl
lines-one [] (m ∷ ms) e = absurd (cc)
lines-one (l ∷ ls) [] e = absurd (cc)
lines-one (l ∷ ls) (m ∷ ms) e =
    let a : ◌≡◌ {A = Taken} (Body l) (Body m) = cc in
    let x : l ≡ m = cc in
    let b : map (λ l. Body l) ls ≡ map (λ l. Body l) ms = cc in
    ap (λ z. z ∷ ls) x ∙ ap (λ zs. m ∷ zs) (lines-one ls ms b)

pub whole-one : (h k : Head) (ls ms : List Line) → whole_lines h ls ≡ whole_lines k ms → (h ≡ k) × (ls ≡ ms)
whole-one h k ls ms all =
    let a : ◌≡◌ {A = Taken} (Header h) (Header k) = cc in
    let x : h ≡ k = cc in
    let b : map (λ l. Body l) ls ≡ map (λ l. Body l) ms = cc in
    (x, lines-one ls ms b)

pub text-has-one-value : TextHasOneValue
text-has-one-value h k ls ms w v e =
    let r = reads-agree (refutation_text k ms) beginning (between (length ls + 2)) (between (length ms + 2)) (whole_lines h ls) (whole_lines k ms)
    (subst (λ bs. Reads beginning bs (whole_lines h ls) (between (length ls + 2))) e (text-is-read h ls w)) (text-is-read k ms v) in
    whole-one h k ls ms r.0
