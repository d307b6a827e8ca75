-- A refutation read piece by piece.
use Rattle.std.proofs.lemmas.List.{take_all}
use Rattle.std.proofs.lemmas.Bool.{and_parts}
use Rattle.std.proofs.Common.{
  ◌≡◌,
  ◌≢◌,
  ◌<◌,
  ◌≤◌,
  ◌+◌,
  ◌++◌,
  ◌∷◌,
  [],
  ℕ,
  List,
  Option,
  None,
  Some,
  Bool,
  true,
  false,
  refl,
  ap,
  sym,
  ◌∙◌,
  subst,
  arith,
  length,
  take,
  drop,
  append-nil,
  inl,
  inr,
}
use Rattle.std.specs.Prelude.{nat_eq, is_some, if◌then◌else◌, not, ◌||◌, ◌⊎◌}
use Rattle.std.specs.Option.{option_map_or}
use Rattle.std.proofs.lemmas.List.{take-append-drop}
use Rattle.std.proofs.Math.Seq.{take-add}
use borrow.Author.Tests.{ne_eqb}
use Rattle.refute_check.specs.Texts.{is_readable, refutation_text}
use Rattle.refute_check.specs.Reading.{Reading, Reads, ReadsTo, IsTakenAs, after_taken, beginning, first_breach, lines_of, fault_of, bodies}
use Rattle.refute_check.specs.helpers.Pieces.{ReadsMore}
use Rattle.refute_check.specs.helpers.Pieces.{pushed}
use Rattle.refute_check.specs.Refutations.{is_line}
use Rattle.list_laws.specs.Lists.{is_nil}
use Rattle.refute_check.specs.declared.line.TheConstants.{LINES}
use Rattle.refute_check.specs.Laws.{whole_lines, IsWhole, BrokenIsNoText}
use Rattle.refute_check.specs.Broken.{BreaksFrom, BreaksAt, IsFaultFrom}
use Rattle.refute_check.proofs.Cuts.{Step, cuts-agree}
use Rattle.refute_check.proofs.ReadTexts.{fault-stays, read-is-text}
use Rattle.refute_check.proofs.Wholes.{reads-agree, text-is-read, whole-one, between}
use Rattle.refute_check.specs.declared.head.Head.{Head}
use Rattle.refute_check.specs.declared.line.Line.{Line}
use Rattle.refute_check.specs.declared.line.Line.TheVariants.{Add, Delete}
use Rattle.refute_check.specs.declared.text.Taken.{Taken}
use Rattle.refute_check.specs.declared.text.Taken.TheVariants.{More, Header, Line as Body, Form}
use Rattle.refute_check.specs.declared.fault.RefutationFault.{RefutationFault}
use Rattle.refute_check.specs.declared.fault.RefutationFault.TheVariants.{Form as Broken, Memory}

-- the first line that ends in some bytes is read as it is, by the number of lines before
abbrev FirstIs : List ℕ → Type 0
FirstIs bytes = (s t : Reading) (x : Taken) (xs : List Taken) → Reads s bytes (x ∷ xs) t → (u : List ℕ) × IsTakenAs s.line u x

first-step : (f d : Bool) (s : Reading) (b : ℕ) (bs : List ℕ) (x : Taken) (xs : List Taken) (t : Reading) → FirstIs bs → Step f d s b bs (x ∷ xs) t
    → (u : List ℕ) × IsTakenAs s.line u x
first-step true d s b bs x xs t ih r = absurd (let e : x ∷ xs ≡ [] = r.0 in cc)
first-step false true s b bs x xs t ih r =
    let all : x ∷ xs ≡ r.0 ∷ r.1 = r.2 in
    let e : r.0 ≡ x = cc in
    (s.unfinished, subst (λ z. IsTakenAs s.line s.unfinished z) e r.3)
first-step false false s b bs x xs t ih r = ih (pushed s (b ∷ [])) t x xs r

pub first-taken : (bytes : List ℕ) → FirstIs bytes
first-taken [] s t x xs r = absurd (let e : x ∷ xs ≡ [] = r.0 in cc)
first-taken (b ∷ bs) s t x xs r = first-step (is_some s.fault) (nat_eq b 10) s b bs x xs t (first-taken bs) r

-- the lines are counted
abbrev AreCounted : List ℕ → Type 0
AreCounted bytes = (s : Reading) (ts : List Taken) (t : Reading) → Reads s bytes ts t → t.fault ≡ None → t.line ≡ s.line + length ts

taken-count : (x : Taken) (bs : List ℕ) (s : Reading) (ts xs : List Taken) (t : Reading) → AreCounted bs → ts ≡ x ∷ xs → IsTakenAs s.line s.unfinished x
    → Reads (after_taken s x) bs xs t → t.fault ≡ None → t.line ≡ s.line + length ts
taken-count More bs s ts xs t ih i a r e = absurd a
taken-count (Form k) bs s ts xs t ih i a r e = absurd (fault-stays bs (after_taken s (Form k)) xs t refl r e)
taken-count (Header h) bs s ts xs t ih i a r e = omega (arith, ih (after_taken s (Header h)) xs t r e, ap length i)
taken-count (Body l) bs s ts xs t ih i a r e = omega (arith, ih (after_taken s (Body l)) xs t r e, ap length i)

count-step : (f d : Bool) (b : ℕ) (bs : List ℕ) (s : Reading) (ts : List Taken) (t : Reading) → is_some s.fault ≡ f → AreCounted bs
    → Step f d s b bs ts t → t.fault ≡ None → t.line ≡ s.line + length ts
count-step true d b bs s ts t f ih a e = absurd (fault-stays [] s ts t f a e)
count-step false true b bs s ts t f ih a e = taken-count a.0 bs s ts a.1 t ih a.2 a.3 a.4 e
count-step false false b bs s ts t f ih a e = ih (pushed s (b ∷ [])) ts t a e

pub read-count : (bytes : List ℕ) → AreCounted bytes
read-count [] s ts t a e = omega (arith, ap (λ (r : Reading). r.line) a.1, ap length a.0)
read-count (b ∷ bytes) s ts t a e = count-step _ (nat_eq b 10) b bytes s ts t refl (read-count bytes) a e

-- bytes read in two parts
joined : (n : ℕ) (bytes : List ℕ) (s t u : Reading) (xs ys : List Taken) → Reads s (take n bytes) xs t → Reads t (drop n bytes) ys u
    → Reads s bytes (xs ++ ys) u
joined n bytes s t u xs ys a b = subst (λ bs. Reads s bs (xs ++ ys) u) (take-append-drop n bytes) (cuts-agree (take n bytes) (drop n bytes) s t u xs ys a b)

-- after a fault the rest isn't read
stays : (bytes : List ℕ) (s : Reading) → is_some s.fault ≡ true → Reads s bytes [] s
stays [] s e = (refl, refl)
stays (b ∷ bs) s e = subst (λ f. Step f (nat_eq b 10) s b bs [] s) (sym e) (refl, refl)

breach-of : (t : Reading) (k : ℕ) → t.fault ≡ Some k → first_breach t ≡ Some k
breach-of t k e = ap (λ o. option_map_or (λ j. Some j) o (if nat_eq t.line 1 || not (is_nil t.unfinished) then Some t.line else None)) e

-- a line breaks the form
broken-by : (n : ℕ) (bytes : List ℕ) (s t : Reading) (k : ℕ) → Reads s (take n bytes) (Form k ∷ []) t → t.fault ≡ Some k → BreaksFrom s bytes k
broken-by n bytes s t k r e = (Form k ∷ [], (t, joined n bytes s t t (Form k ∷ []) [] r (stays (drop n bytes) t (ap is_some e)), breach-of t k e))

-- if bytes were taken, the ended lines are those of the answer
pub reads-taken : (n : ℕ) (bytes : List ℕ) (s t : Reading) (x y : Taken) → x ≡ y → 0 < n
    → Reads s (take n bytes) (if nat_eq n 0 then [] else lines_of x) t → Reads s (take n bytes) (lines_of y) t
reads-taken n bytes s t x y e h r =
    subst (λ ts. Reads s (take n bytes) ts t) (ap (λ b. if b then [] else lines_of x) (ne_eqb n 0 (λ i. omega arith)) ∙ ap lines_of e) r

pub fault-taken : (n : ℕ) (bytes : List ℕ) (s t : Reading) (x : Taken) (k : ℕ) → x ≡ Form k → 0 < n
    → Reads s (take n bytes) (if nat_eq n 0 then [] else lines_of x) t → t.fault ≡ fault_of x → BreaksFrom s bytes k
fault-taken n bytes s t x k i h r e = broken-by n bytes s t k (reads-taken n bytes s t x (Form k) i h r) (e ∙ ap fault_of i)

-- a line that ends takes a byte
abbrev pub Moves : Taken → ℕ → Type 0
Moves x n = x ≢ More → 0 < n

pub moved : (x : Taken) (n : ℕ) (bytes : List ℕ) → (x ≡ More → n ≡ length bytes) → Moves x n → 0 < length bytes → 0 < n
moved More n bytes all m h = omega (arith, all refl)
moved (Header k) n bytes all m h = m (λ e. cc)
moved (Body l) n bytes all m h = m (λ e. cc)
moved (Form k) n bytes all m h = m (λ e. cc)

-- a line that was read is a line that may be added
readable-line : (l : Line) → is_readable l ≡ true → is_line l ≡ true
readable-line (Add lits hints) h = refl
readable-line (Delete ns) h = (and_parts (not (is_nil ns)) _ h).0

pub line-fits : (bytes : List ℕ) (s t : Reading) (l : Line) → Reads s bytes (Body l ∷ []) t → (is_line l ≡ true) × (s.line ≤ LINES + 1)
line-fits bytes s t l r = let q = first-taken bytes s t (Body l) [] r in (readable-line l q.1.2, q.1.1)

-- no line has ended, and this isn't the first line
pub more-bytes : (x : Taken) (bytes : List ℕ) (s t : Reading) (ls : List Line) → s.line ≡ length ls + 2
    → (x ≡ More) ⊎ ((h : Head) × (x ≡ Header h)) → t.fault ≡ fault_of x → Reads s bytes (lines_of x) t → ReadsMore s bytes ls ls t
more-bytes x bytes s t ls p (inl i) e r =
    ([], subst (λ y. Reads s bytes (lines_of y) t) i r, sym (append-nil (bodies ls)), e ∙ ap fault_of i)
more-bytes x bytes s t ls p (inr i) e r =
    absurd (let q = first-taken bytes s t (Header i.0) [] (subst (λ y. Reads s bytes (lines_of y) t) i.1 r) in omega (arith, p, q.1.0))

-- the lines read so far
pub record AreRead (s : Reading) (bytes : List ℕ) (n : ℕ) (ls : List Line) (t : Reading) : Type 0 where
  pub within : n ≤ length bytes
  pub reads : Reads s (take n bytes) (bodies ls) t
  pub free : t.fault ≡ None

bodies-count : (ls : List Line) → length (bodies ls) ≡ length ls
bodies-count [] = refl
bodies-count (l ∷ ls) = omega (arith, bodies-count ls)

pub place-of : (s : Reading) (bytes : List ℕ) (n : ℕ) (ls : List Line) (t : Reading) → s.line ≡ 2 → AreRead s bytes n ls t → t.line ≡ length ls + 2
place-of s bytes n ls t h a = omega (arith, h, read-count (take n bytes) s (bodies ls) t a.reads a.free, bodies-count ls)

pub read-on : (s : Reading) (bytes : List ℕ) (n m : ℕ) (ls ms : List Line) (t u : Reading) → AreRead s bytes n ls t → n + m ≤ length bytes
    → ReadsMore t (take m (drop n bytes)) ls ms u → AreRead s bytes (n + m) ms u
read-on s bytes n m ls ms t u a h r =
    record {
      within = h;
      reads = subst (λ bs. Reads s bs (bodies ms) u) (sym (take-add n m bytes)) (subst (λ ts. Reads s (take n bytes ++ take m (drop n bytes)) ts u) (sym r.2)
          (cuts-agree (take n bytes) (take m (drop n bytes)) s t u (bodies ls) r.0 a.reads r.1));
      free = r.3;
    }

-- a reading of the first n bytes and one of the rest make up a reading of the whole
joined-to : (n : ℕ) (bytes : List ℕ) (s t : Reading) (xs ys : List Taken) (o : Option ℕ) → Reads s (take n bytes) xs t → ReadsTo t (drop n bytes) ys o
    → ReadsTo s bytes (xs ++ ys) o
joined-to n bytes s t xs ys o a r = (r.0, joined n bytes s t r.0 xs ys a r.1, r.2)

pub fault-on : (n : ℕ) (bytes : List ℕ) (s t : Reading) (xs : List Taken) (f : RefutationFault) → Reads s (take n bytes) xs t
    → IsFaultFrom t (drop n bytes) f → IsFaultFrom s bytes f
fault-on n bytes s t xs (Broken k) a r = (xs ++ r.0, joined-to n bytes s t xs r.0 (Some k) a r.1)
fault-on n bytes s t xs Memory a r = tt

take-whole : (n : ℕ) (bytes : List ℕ) → n ≤ length bytes → length bytes ≤ n → take n bytes ≡ bytes
take-whole n bytes h k = take_all n bytes (omega arith)

-- a whole text
pub text-read : (n : ℕ) (bytes : List ℕ) (t : Reading) (h : Head) (ls : List Line) → Reads beginning (take n bytes) (Header h ∷ []) t
    → ReadsTo t (drop n bytes) (bodies ls) None → IsWhole h ls × (refutation_text h ls ≡ bytes)
text-read n bytes t h ls a r =
    let all = joined-to n bytes beginning t (Header h ∷ []) (bodies ls) None a r in
    let w = read-is-text bytes (whole_lines h ls) all.0 all.1 all.2 in
    let same = whole-one h w.0 ls w.1 w.2 in (
      subst (λ z. IsWhole z ls) (sym same.0) (subst (λ zs. IsWhole w.0 zs) (sym same.1) w.3),
      ap (λ z. refutation_text z ls) same.0 ∙ ap (λ zs. refutation_text w.0 zs) same.1 ∙ w.4,
    )

pub second-line : (t : Reading) (n : ℕ) (bytes : List ℕ) (h : Head) → Reads beginning (take n bytes) (Header h ∷ []) t → t.fault ≡ None → t.line ≡ 2
second-line t n bytes h r e = read-count (take n bytes) beginning (Header h ∷ []) t r e

-- without a header the first line breaks the form
unheaded : (x : Taken) (n : ℕ) (bytes : List ℕ) (t : Reading) → ((h : Head) → x ≢ Header h) → (x ≡ More → n ≡ length bytes) → t.fault ≡ fault_of x
    → Reads beginning (take n bytes) (lines_of x) t → BreaksAt bytes 1
unheaded More n bytes t other all e r =
    let line : t.line ≡ 1 = read-count (take n bytes) beginning [] t r e in
    let whole : take n bytes ≡ bytes = take-whole n bytes (omega (arith, all refl)) (omega (arith, all refl)) in
    let breach : first_breach t ≡ Some 1 = ap (λ o. option_map_or (λ k. Some k) o (if nat_eq t.line 1 || not (is_nil t.unfinished) then Some t.line else
    None)) e
    ∙ ap (λ k. if nat_eq k 1 || not (is_nil t.unfinished) then Some k else None) line in
    ([], (t, subst (λ bs. Reads beginning bs [] t) whole r, breach))
unheaded (Header h) n bytes t other all e r = absurd (other h refl)
unheaded (Body l) n bytes t other all e r = absurd (let q = first-taken (take n bytes) beginning t (Body l) [] r in omega (arith, q.1.0))
unheaded (Form k) n bytes t other all e r =
    let q = first-taken (take n bytes) beginning t (Form k) [] r in
    subst (λ j. BreaksAt bytes j) q.1.0 (broken-by n bytes beginning t k r e)

begun-no-header : (bytes : List ℕ) (x : Taken) (n : ℕ) (t : Reading) → ((h : Head) → x ≢ Header h) → Moves x n → (x ≡ More → n ≡ length bytes)
    → t.fault ≡ fault_of x → Reads beginning (take n bytes) (if nat_eq n 0 then [] else lines_of x) t → BreaksAt bytes 1
begun-no-header [] x n t other m all e r = ([], (beginning, (refl, refl), refl))
begun-no-header (b ∷ bytes) x n t other m all e r =
    unheaded x n (b ∷ bytes) t other all e (reads-taken n (b ∷ bytes) beginning t x x refl (moved x n (b ∷ bytes) all m (omega arith)) r)

pub no-header : (bytes : List ℕ) (x : Taken) (n : ℕ) (t s : Reading) → s ≡ beginning → ((h : Head) → x ≢ Header h) → Moves x n
    → (x ≡ More → n ≡ length bytes) → t.fault ≡ fault_of x → Reads s (take n bytes) (if nat_eq n 0 then [] else lines_of x) t → BreaksAt bytes 1
no-header bytes x n t s i other m all e r =
    begun-no-header bytes x n t other m all e (subst (λ z. Reads z (take n bytes) (if nat_eq n 0 then [] else lines_of x) t) i r)

pub header-reads : (bytes : List ℕ) (x : Taken) (n : ℕ) (t s : Reading) (h : Head) → s ≡ beginning → x ≡ Header h → Moves x n
    → Reads s (take n bytes) (if nat_eq n 0 then [] else lines_of x) t → Reads beginning (take n bytes) (Header h ∷ []) t
header-reads bytes x n t s h i e m r =
    reads-taken n bytes beginning t x (Header h) e (m (λ j. let k : Header h ≡ More = sym e ∙ j in absurd (cc)))
    (subst (λ z. Reads z (take n bytes) (if nat_eq n 0 then [] else lines_of x) t) i r)

-- bytes with a breach aren't a text
pub broken-is-no-text : BrokenIsNoText
broken-is-no-text bytes n b h ls w e =
    let read : Reads beginning bytes (whole_lines h ls) (between (length ls + 2)) =
    subst (λ bs. Reads beginning bs (whole_lines h ls) (between (length ls + 2))) e (text-is-read h ls w) in
    let one = reads-agree bytes beginning b.1.0 (between (length ls + 2)) b.0 (whole_lines h ls) b.1.1 read in
    let line : nat_eq (length ls + 2) 1 ≡ false = ne_eqb (length ls + 2) 1 (λ i. omega arith) in
    let none : first_breach b.1.0 ≡ None = ap first_breach one.1 ∙ ap (λ z. if z || false then Some (length ls + 2) else None) line in
    let both : ◌≡◌ {A = Option ℕ} (Some n) None = sym b.1.2 ∙ none in
    absurd (cc)
