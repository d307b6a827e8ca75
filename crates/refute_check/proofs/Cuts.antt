-- Reading a text in pieces.
use Rattle.std.proofs.lemmas.List.{take_all}
use Rattle.std.proofs.Common.{
  ◌≡◌,
  ◌<◌,
  ◌+◌,
  ◌++◌,
  ◌∷◌,
  [],
  ℕ,
  zero,
  suc,
  List,
  None,
  Bool,
  true,
  false,
  refl,
  ap,
  sym,
  ◌∙◌,
  subst,
  arith,
  length,
  take,
  add-one,
  append-nil,
  append_assoc,
}
use Rattle.std.specs.Prelude.{nat_eq, is_some, if◌then◌else◌}
use Rattle.std.specs.Bool.{MatchBool}
use borrow.Author.Tests.{ne_eqb}
use Rattle.std.specs.List.{position_or_len}
use Rattle.std.specs.Io.BufRead.{take_through}
use Rattle.refute_check.specs.Reading.{Reading, Reads, IsTakenAs, after_taken, CutsAgree, lines_of}
use Rattle.refute_check.specs.helpers.Pieces.{pushed}
use Rattle.refute_check.specs.declared.text.Taken.{Taken}
use Rattle.refute_check.specs.declared.text.Taken.TheVariants.{More, Header, Line as Body, Form}

-- a line ends here
abbrev pub Ends : Reading → List ℕ → List Taken → Reading → Type 0
Ends s bs ts t = (x : Taken) × (xs : List Taken) × (ts ≡ x ∷ xs) × IsTakenAs s.line s.unfinished x × Reads (after_taken s x) bs xs t

-- a byte is read, by whether there was a fault before and whether it ends a line
abbrev pub Step : Bool → Bool → Reading → ℕ → List ℕ → List Taken → Reading → Type 0
Step f d s b bs ts t = MatchBool f ((ts ≡ []) × (t ≡ s)) (MatchBool d (Ends s bs ts t) (Reads (pushed s (b ∷ [])) bs ts t))

stuck-step : (f d : Bool) (s : Reading) (b : ℕ) (bs : List ℕ) (ts : List Taken) (t : Reading) → f ≡ true → Step f d s b bs ts t → (ts ≡ []) × (t ≡ s)
stuck-step true d s b bs ts t e r = r
stuck-step false d s b bs ts t e r = absurd (cc)

-- after a fault nothing is read
pub stuck : (bytes : List ℕ) (s : Reading) (ts : List Taken) (t : Reading) → is_some s.fault ≡ true → Reads s bytes ts t → (ts ≡ []) × (t ≡ s)
stuck [] s ts t e r = r
stuck (b ∷ bytes) s ts t e r = stuck-step (is_some s.fault) (nat_eq b 10) s b bytes ts t e r

cut-step : (f d : Bool) (c : ℕ) (front back : List ℕ) (s t u : Reading) (xs ys : List Taken) → is_some s.fault ≡ f
    → ((s t u : Reading) (xs ys : List Taken) → Reads s front xs t → Reads t back ys u → Reads s (front ++ back) (xs ++ ys) u)
    → Step f d s c front xs t → Reads t back ys u → Step f d s c (front ++ back) (xs ++ ys) u
cut-step true d c front back s t u xs ys e ih a b =
    let r = stuck back s ys u e (subst (λ z. Reads z back ys u) a.1 b) in
    (ap (λ zs. zs ++ ys) a.0 ∙ r.0, r.1)
cut-step false true c front back s t u xs ys e ih a b = (a.0, a.1 ++ ys, ap (λ zs. zs ++ ys) a.2, a.3, ih (after_taken s a.0) t u a.1 ys a.4 b)
cut-step false false c front back s t u xs ys e ih a b = ih (pushed s (c ∷ [])) t u xs ys a b

pub cuts-agree : CutsAgree
cuts-agree [] back s t u xs ys a b = subst (λ zs. Reads s back (zs ++ ys) u) (sym a.0) (subst (λ z. Reads z back ys u) a.1 b)
cuts-agree (c ∷ front) back s t u xs ys a b = cut-step (is_some s.fault) (nat_eq c 10) c front back s t u xs ys refl
    (λ s t u xs ys a b. cuts-agree front back s t u xs ys a b) a b

fault-free : (s : Reading) → s.fault ≡ None → is_some s.fault ≡ false
fault-free s e = ap is_some e

pub step-push : (s : Reading) (b : ℕ) (bs : List ℕ) (ts : List Taken) (t : Reading) → s.fault ≡ None → nat_eq b 10 ≡ false
    → Reads (pushed s (b ∷ [])) bs ts t → Reads s (b ∷ bs) ts t
step-push s b bs ts t e n r = subst (λ f. Step f (nat_eq b 10) s b bs ts t) (sym (fault-free s e)) (subst (λ d. Step false d s b bs ts t) (sym n) r)

pub step-end : (s : Reading) (b : ℕ) (bs : List ℕ) (ts : List Taken) (t : Reading) → s.fault ≡ None → nat_eq b 10 ≡ true → Ends s bs ts t
    → Reads s (b ∷ bs) ts t
step-end s b bs ts t e n r = subst (λ f. Step f (nat_eq b 10) s b bs ts t) (sym (fault-free s e)) (subst (λ d. Step false d s b bs ts t) (sym n) r)

pub pushed-nil : (s : Reading) → pushed s [] ≡ s
pushed-nil s = ap (λ u. record s { unfinished = u }) (append-nil s.unfinished)

pub pushed-cons : (s : Reading) (b : ℕ) (bs : List ℕ) → pushed (pushed s (b ∷ [])) bs ≡ pushed s (b ∷ bs)
pushed-cons s b bs = ap (λ u. record s { unfinished = u }) (append_assoc s.unfinished (b ∷ []) bs)

-- bytes without a line end
no-end : (bytes : List ℕ) (s : Reading) → s.fault ≡ None → position_or_len (λ b. nat_eq b 10) bytes ≡ length bytes → Reads s bytes [] (pushed s bytes)
no-end [] s e p = (refl, pushed-nil s)
no-end (b ∷ bytes) s e p =
    let n : nat_eq b 10 ≡ false = grind arith in
    let q : position_or_len (λ b. nat_eq b 10) bytes ≡ length bytes = grind arith in
    step-push s b bytes [] (pushed s (b ∷ bytes)) e n (subst (λ t. Reads (pushed s (b ∷ [])) bytes [] t) (pushed-cons s b bytes)
    (no-end bytes (pushed s (b ∷ [])) e q))

-- bytes up to a line end
one-line : (bytes : List ℕ) (s : Reading) (k : ℕ) (x : Taken) → s.fault ≡ None → k ≡ position_or_len (λ b. nat_eq b 10) bytes → k < length bytes
    → IsTakenAs s.line (s.unfinished ++ take k bytes) x → Reads s (take (suc k) bytes) (x ∷ []) (after_taken (pushed s (take k bytes)) x)
one-line [] s k x e p l h = absurd (omega arith)
one-line (b ∷ bytes) s zero x e p l h =
    let n : nat_eq b 10 ≡ true = grind arith in
    let same : pushed s [] ≡ s = pushed-nil s in
    subst (λ z. Reads s (b ∷ []) (x ∷ []) (after_taken z x)) (sym same)
    (step-end s b [] (x ∷ []) (after_taken s x) e n (x, [], refl, subst (λ z. IsTakenAs s.line z x) (append-nil s.unfinished) h, (refl, refl)))
one-line (b ∷ bytes) s (suc k) x e p l h =
    let n : nat_eq b 10 ≡ false = grind arith in
    let q : k ≡ position_or_len (λ b. nat_eq b 10) bytes = grind arith in
    step-push s b (take (suc k) bytes) (x ∷ []) (after_taken (pushed s (b ∷ take k bytes)) x) e n
    (subst (λ z. Reads (pushed s (b ∷ [])) (take (suc k) bytes) (x ∷ []) (after_taken z x)) (pushed-cons s b (take k bytes))
    (one-line bytes (pushed s (b ∷ [])) k x e q (omega arith) (subst (λ z. IsTakenAs s.line z x) (sym (append_assoc s.unfinished (b ∷ []) (take k bytes))) h)))

lines-one : (n : ℕ) (bytes : List ℕ) (x : Taken) → IsTakenAs n bytes x → lines_of x ≡ x ∷ []
lines-one n bytes More h = absurd h
lines-one n bytes (Header y) h = refl
lines-one n bytes (Body y) h = refl
lines-one n bytes (Form y) h = refl

-- the bytes up to the first line end, or all of them
pub through-all : (bytes : List ℕ) (e : ℕ) → e ≡ position_or_len (λ b. nat_eq b 10) bytes → e ≡ length bytes → e ≡ length (take_through 10 bytes)
through-all [] e p l = l
through-all (b ∷ bytes) e p l = grind (arith, through-all bytes (position_or_len (λ b. nat_eq b 10) bytes) refl)

pub through-line : (bytes : List ℕ) (e : ℕ) → e ≡ position_or_len (λ b. nat_eq b 10) bytes → e < length bytes → e + 1 ≡ length (take_through 10 bytes)
through-line [] e p l = absurd (omega arith)
through-line (b ∷ bytes) e p l = grind (arith, through-line bytes (position_or_len (λ b. nat_eq b 10) bytes) refl)

either-nil : (b : Bool) → ◌≡◌ {A = List Taken} (if b then [] else []) []
either-nil true = refl
either-nil false = refl

pub take-more : (bytes : List ℕ) (s t : Reading) (e : ℕ) → s.fault ≡ None → e ≡ position_or_len (λ b. nat_eq b 10) bytes → e ≡ length bytes
    → t ≡ pushed s bytes → Reads s (take e bytes) (if nat_eq e 0 then [] else []) t
take-more bytes s t e f p l h =
    subst (λ ts. Reads s (take e bytes) ts t) (sym (either-nil (nat_eq e 0)))
    (subst (λ bs. Reads s bs [] t) (sym (take_all e bytes (omega (arith, l)))) (subst (λ z. Reads s bytes [] z) (sym h) (no-end bytes s f (sym p ∙ l))))

pub take-line : (bytes : List ℕ) (s t : Reading) (e : ℕ) (x : Taken) → s.fault ≡ None → e ≡ position_or_len (λ b. nat_eq b 10) bytes
    → e < length bytes → IsTakenAs s.line (s.unfinished ++ take e bytes) x → t ≡ after_taken (pushed s (take e bytes)) x
    → Reads s (take (e + 1) bytes) (if nat_eq (e + 1) 0 then [] else lines_of x) t
take-line bytes s t e x f p l h k =
    let z : nat_eq (e + 1) 0 ≡ false = ne_eqb (e + 1) 0 (λ i. omega arith) in
    let ts : (if nat_eq (e + 1) 0 then [] else lines_of x) ≡ x ∷ [] = ap (λ b. if b then [] else lines_of x) z
    ∙ lines-one s.line (s.unfinished ++ take e bytes) x h in
    subst (λ ys. Reads s (take (e + 1) bytes) ys t) (sym ts)
    (subst (λ n. Reads s (take n bytes) (x ∷ []) t) (sym (add-one e))
    (subst (λ z. Reads s (take (suc e) bytes) (x ∷ []) z) (sym k) (one-line bytes s e x f p l h)))
