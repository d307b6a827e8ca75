-- Values that satisfy the clauses of a gate, and of a block of gates.
use Rattle.std.proofs.Common.{
  ◌≡◌,
  ℕ,
  suc,
  zero,
  ◌<◌,
  ◌≤◌,
  List,
  [],
  ◌∷◌,
  ◌++◌,
  ℤ,
  pos,
  negsuc,
  neg_ℤ,
  refl,
  ap,
  sym,
  ◌∙◌,
  arith,
  Bool,
  true,
  false,
  not,
  inl,
  inr,
  ◌⊎◌,
}
use Rattle.std.proofs.lemmas.Bool.{and_parts, and_from}
use Rattle.std.proofs.Math.Bool.{and_self, not-and_self, and_comm, not-not}
use Rattle.std.proofs.Math.Nat.{eq-or-lt_of_le}
use borrow.Author.Tests.{ltb-true, ltb-false, leb-true, lt-ltb, le-leb, ne_eqb, eq-eqb}
use Rattle.cnf_core.specs.Clauses.{are_clauses}
use Rattle.cnf_core.proofs.Pieces.{is_within-upto}
use Rattle.std.specs.Prelude.{◌&&◌, ◌||◌, if◌then◌else◌, nat_lt, nat_le, nat_eq}
use Rattle.std.specs.List.{list_all}
use Rattle.std.specs.Ordering.{int_eq}
use Rattle.std.specs.Cmp.{signed_Decides}
use Rattle.std.proofs.lemmas.List.Folds.{list_all-append}
use Rattle.cnf_core.specs.Clauses.{var_of, Formula, Valuation, literal_true, clause_true, satisfies, is_clause, is_within}
use Rattle.cnf_core.specs.Gates.{
  gate_value,
  are_equal,
  is_both,
  is_one,
  by_pair,
  and_clauses,
  xor_clauses,
  Wired,
  clauses_for,
  gate_clauses,
  value_of,
  is_over,
  is_block,
  after_gate,
  after_gates,
  with_value,
  extended,
  IsOver,
  Agree,
  BlockKeeps,
  BlockDecides,
}
use Rattle.cnf_core.specs.declared.gates.Gate.{Gate}
use Rattle.cnf_core.specs.declared.gates.Gate.TheVariants.{And, Or, Xor}

-- two values are equal, as a value
abbrev same : Bool → Bool → Bool
same true b = b
same false b = not b

same-true : (a b : Bool) → same a b ≡ true → a ≡ b
same-true true b h = sym h
same-true false true h = h
same-true false false h = refl

pub literal_true-neg : (v : Valuation) (l : ℤ) → 0 < var_of l → literal_true v (neg_ℤ l) ≡ not (literal_true v l)
literal_true-neg v (pos zero) h = absurd (omega arith)
literal_true-neg v (pos (suc n)) h = refl
literal_true-neg v (negsuc n) h = sym (not-not (v (suc n)))

-- the clauses over three values
equal-values : (p x : Bool) → ((not p || (x || false)) && ((p || (not x || false)) && true)) ≡ same x p
equal-values p x = grind arith

both-values : (p q x : Bool) → ((not p || (not q || (x || false))) && ((p || (not x || false)) && ((q || (not x || false)) && true))) ≡ same x (p && q)
both-values p q x = grind arith

one-values : (p q x : Bool) → ((not p || (not q || (not x || false)))
    && ((p || (q || (not x || false))) && ((p || (not q || (x || false))) && ((not p || (q || (x || false))) && true)))) ≡ same x (if p then not q else q)
one-values p q x = grind arith

are_equal-means : (v : Valuation) (a out : ℤ) → 0 < var_of a → 0 < var_of out → satisfies v (are_equal a out) ≡ same (literal_true v out) (literal_true v a)
are_equal-means v a out ha ho =
    let e : literal_true v (neg_ℤ a) ≡ not (literal_true v a) = literal_true-neg v a ha in
    let f : literal_true v (neg_ℤ out) ≡ not (literal_true v out) = literal_true-neg v out ho in
    ap (λ p. (p || (literal_true v out || false)) && ((literal_true v a || (literal_true v (neg_ℤ out) || false)) && true)) e
    ∙ ap (λ p. (not (literal_true v a) || (literal_true v out || false)) && ((literal_true v a || (p || false)) && true)) f
    ∙ equal-values (literal_true v a) (literal_true v out)

is_both-means : (v : Valuation) (a b out : ℤ) → 0 < var_of a → 0 < var_of b → 0 < var_of out
    → satisfies v (is_both a b out) ≡ same (literal_true v out) (literal_true v a && literal_true v b)
is_both-means v a b out ha hb ho = rw (literal_true-neg v a ha, literal_true-neg v b hb, literal_true-neg v out ho)
    (both-values (literal_true v a) (literal_true v b) (literal_true v out))

is_one-means : (v : Valuation) (a b out : ℤ) → 0 < var_of a → 0 < var_of b → 0 < var_of out
    → satisfies v (is_one a b out) ≡ same (literal_true v out) (gate_value Xor (literal_true v a) (literal_true v b))
is_one-means v a b out ha hb ho = rw (literal_true-neg v a ha, literal_true-neg v b hb, literal_true-neg v out ho)
    (one-values (literal_true v a) (literal_true v b) (literal_true v out))

choose : {A : Type 0} (P : A → Type 0) (c : Bool) (s t : A) → (c ≡ true → P s) → (c ≡ false → P t) → P (if c then s else t)
choose P true s t f g = f refl
choose P false s t f g = g refl

one-var : (a b : ℤ) → 0 < var_of a → var_of a ≡ var_of b → (a ≡ b) ⊎ (a ≡ neg_ℤ b)
one-var (pos n) (pos m) h e = inl (ap pos e)
one-var (pos n) (negsuc m) h e = inr (ap pos e)
one-var (negsuc n) (pos m) h e = inr (ap neg_ℤ (ap pos e))
one-var (negsuc n) (negsuc m) h e = inl (ap neg_ℤ (ap pos e))

not-equal : (a b : ℤ) → int_eq a b ≡ false → a ≡ b → ⊥
not-equal a b f e = let t : int_eq a b ≡ true = (signed_Decides a b).1 e in cc

pub above : (a b : ℤ) → 0 < var_of a → int_eq a b ≡ false → int_eq a (neg_ℤ b) ≡ false → nat_lt (var_of a) (var_of b) ≡ false → var_of b < var_of a
above a b h p q r =
    let n : var_of b ≤ var_of a = omega (arith, ltb-false) in
    elim (eq-or-lt_of_le n) [
      | inr lt ↦ lt
      | inl e ↦ elim (one-var a b h (sym e)) [ inl s ↦ absurd (not-equal a b p s) | inr o ↦ absurd (not-equal a (neg_ℤ b) q o) ]
    ]

by_pair-cases : {A : Type 0} (P : A → Type 0) (a b : ℤ) (s o r f : A) → 0 < var_of a → (a ≡ b → P s) → (a ≡ neg_ℤ b → P o)
    → (var_of a < var_of b → P r) → (var_of b < var_of a → P f) → P (by_pair a b s o r f)
by_pair-cases P a b s o r f h hs ho hr hf =
    choose P (int_eq a b) s _ (λ e. hs ((signed_Decides a b).0 e))
    (λ p. choose P (int_eq a (neg_ℤ b)) o _ (λ e. ho ((signed_Decides a (neg_ℤ b)).0 e))
    (λ q. choose P (nat_lt (var_of a) (var_of b)) r f (λ e. hr (ltb-true (var_of a) (var_of b) e)) (λ e. hf (above a b h p q e))))

unit-values : (x : Bool) → ((not x || false) && true) ≡ same x false
unit-values x = grind arith

unit-true : (x : Bool) → ((x || false) && true) ≡ same x true
unit-true x = grind arith

and_clauses-mean : (v : Valuation) (a b out : ℤ) → 0 < var_of a → 0 < var_of b → 0 < var_of out
    → satisfies v (and_clauses a b out) ≡ same (literal_true v out) (literal_true v a && literal_true v b)
and_clauses-mean v a b out ha hb ho =
    let P : List (List ℤ) → Type 0 = λ cs. satisfies v cs ≡ same (literal_true v out) (literal_true v a && literal_true v b) in
    let x : Bool = literal_true v out in
    by_pair-cases P a b _ _ _ _ ha
    (λ e. are_equal-means v a out ha ho ∙ ap (same x) (sym (and_self (literal_true v a)) ∙ ap (λ l. literal_true v a && literal_true v l) e))
    (λ e. ap (λ p. (p || false) && true) (literal_true-neg v out ho) ∙ unit-values x
    ∙ ap (same x) (sym (not-and_self (literal_true v b)) ∙ ap (λ p. p && literal_true v b) (sym (literal_true-neg v b hb) ∙ ap (literal_true v) (sym e))))
    (λ _. is_both-means v a b out ha hb ho)
    (λ _. is_both-means v b a out hb ha ho ∙ ap (same x) (and_comm (literal_true v b) (literal_true v a)))

xor-itself : (p : Bool) → (if p then not p else p) ≡ false
xor-itself p = grind arith

xor-opposite : (p : Bool) → (if not p then not p else p) ≡ true
xor-opposite p = grind arith

xor-swap : (p q : Bool) → (if q then not p else p) ≡ (if p then not q else q)
xor-swap p q = grind arith

xor_clauses-mean : (v : Valuation) (a b out : ℤ) → 0 < var_of a → 0 < var_of b → 0 < var_of out
    → satisfies v (xor_clauses a b out) ≡ same (literal_true v out) (gate_value Xor (literal_true v a) (literal_true v b))
xor_clauses-mean v a b out ha hb ho =
    let P : List (List ℤ) → Type 0 = λ cs. satisfies v cs ≡ same (literal_true v out) (gate_value Xor (literal_true v a) (literal_true v b)) in
    let x : Bool = literal_true v out in
    by_pair-cases P a b _ _ _ _ ha
    (λ e. ap (λ p. (p || false) && true) (literal_true-neg v out ho) ∙ unit-values x
    ∙ ap (same x) (sym (xor-itself (literal_true v a)) ∙ ap (λ l. gate_value Xor (literal_true v a) (literal_true v l)) e))
    (λ e. unit-true x ∙ ap (same x) (sym (xor-opposite (literal_true v b))
    ∙ ap (λ p. gate_value Xor p (literal_true v b)) (sym (literal_true-neg v b hb) ∙ ap (literal_true v) (sym e))))
    (λ _. is_one-means v a b out ha hb ho)
    (λ _. is_one-means v b a out hb ha ho ∙ ap (same x) (xor-swap (literal_true v a) (literal_true v b)))

var_of-neg : (l : ℤ) → var_of (neg_ℤ l) ≡ var_of l
var_of-neg (pos zero) = refl
var_of-neg (pos (suc n)) = refl
var_of-neg (negsuc n) = refl

or-values : (p q x : Bool) → same (not x) (not p && not q) ≡ same x (p || q)
or-values p q x = grind arith

-- the clauses of a gate are satisfied exactly if its variable has the gate's value
clauses_for-mean : (v : Valuation) (n : ℕ) (g : Gate) (a b : ℤ) → 0 < var_of a → 0 < var_of b
    → satisfies v (clauses_for n g a b) ≡ same (v (suc n)) (gate_value g (literal_true v a) (literal_true v b))
clauses_for-mean v n And a b ha hb = and_clauses-mean v a b (pos (suc n)) ha hb (omega arith)
clauses_for-mean v n Or a b ha hb =
    and_clauses-mean v (neg_ℤ a) (neg_ℤ b) (negsuc n) (omega (arith, var_of-neg a)) (omega (arith, var_of-neg b)) (omega arith)
    ∙ ap (λ p. same (not (v (suc n))) (p && literal_true v (neg_ℤ b))) (literal_true-neg v a ha)
    ∙ ap (λ p. same (not (v (suc n))) (not (literal_true v a) && p)) (literal_true-neg v b hb)
    ∙ or-values (literal_true v a) (literal_true v b) (v (suc n))
clauses_for-mean v n Xor a b ha hb = xor_clauses-mean v a b (pos (suc n)) ha hb (omega arith)

-- values that agree on the first variables agree on literals, clauses and lists over these
pub literal_true-agree : (n : ℕ) (v w : Valuation) (l : ℤ) → Agree n v w → var_of l ≤ n → literal_true v l ≡ literal_true w l
literal_true-agree n v w (pos zero) h b = refl
literal_true-agree n v w (pos (suc k)) h b = h (suc k) b
literal_true-agree n v w (negsuc k) h b = ap not (h (suc k) b)

pub clause_true-agree : (n : ℕ) (v w : Valuation) (c : List ℤ) → Agree n v w → is_within n c ≡ true → clause_true v c ≡ clause_true w c
clause_true-agree n v w [] h b = refl
clause_true-agree n v w (l ∷ c) h b =
    let e : literal_true v l ≡ literal_true w l = literal_true-agree n v w l h (leb-true (var_of l) n (and_parts (nat_le (var_of l) n) _ b).0) in
    let f : clause_true v c ≡ clause_true w c = clause_true-agree n v w c h (and_parts (nat_le (var_of l) n) _ b).1 in
    cc

pub satisfies-agree : (n : ℕ) (v w : Valuation) (cs : List (List ℤ)) → Agree n v w → list_all (is_within n) cs ≡ true → satisfies v cs ≡ satisfies w cs
satisfies-agree n v w [] h b = refl
satisfies-agree n v w (c ∷ cs) h b =
    let e : clause_true v c ≡ clause_true w c = clause_true-agree n v w c h (and_parts (is_within n c) _ b).0 in
    let f : satisfies v cs ≡ satisfies w cs = satisfies-agree n v w cs h (and_parts (is_within n c) _ b).1 in
    cc

-- a clause over the first `n` variables
abbrev is_good : ℕ → List ℤ → Bool
is_good n c = is_clause c && is_within n c

-- clauses of one, two and three literals
good-one : (n : ℕ) (a : ℤ) → 0 < var_of a → var_of a ≤ n → is_good n (a ∷ []) ≡ true
good-one n a p q = let x : nat_lt 0 (var_of a) ≡ true = lt-ltb 0 (var_of a) p in let y : nat_le (var_of a) n ≡ true = le-leb (var_of a) n q in rw (x, y) refl

good-two : (n : ℕ) (a b : ℤ) → 0 < var_of a → var_of a < var_of b → var_of b ≤ n → is_good n (a ∷ b ∷ []) ≡ true
good-two n a b p q r =
    let x : nat_lt 0 (var_of a) ≡ true = lt-ltb 0 (var_of a) p in
    let y : nat_lt (var_of a) (var_of b) ≡ true = lt-ltb (var_of a) (var_of b) q in
    let z : nat_le (var_of a) n ≡ true = le-leb (var_of a) n (omega arith) in
    let u : nat_le (var_of b) n ≡ true = le-leb (var_of b) n r in
    rw (x, y, z, u) refl

good-three : (n : ℕ) (a b c : ℤ) → 0 < var_of a → var_of a < var_of b → var_of b < var_of c → var_of c ≤ n → is_good n (a ∷ b ∷ c ∷ []) ≡ true
good-three n a b c p q s r =
    let x : nat_lt 0 (var_of a) ≡ true = lt-ltb 0 (var_of a) p in
    let y : nat_lt (var_of a) (var_of b) ≡ true = lt-ltb (var_of a) (var_of b) q in
    let t : nat_lt (var_of b) (var_of c) ≡ true = lt-ltb (var_of b) (var_of c) s in
    let z : nat_le (var_of a) n ≡ true = le-leb (var_of a) n (omega arith) in
    let u : nat_le (var_of b) n ≡ true = le-leb (var_of b) n (omega arith) in
    let w : nat_le (var_of c) n ≡ true = le-leb (var_of c) n r in
    rw (x, y, t, z, u, w) refl

pub are_clauses-are_equal : (n : ℕ) (a out : ℤ) → 0 < var_of a → var_of a < var_of out → var_of out ≤ n → are_clauses n (are_equal a out) ≡ true
are_clauses-are_equal n a out p q r =
    and_from _ _ (good-two n (neg_ℤ a) out (omega (arith, var_of-neg a)) (omega (arith, var_of-neg a)) r)
    (and_from _ true (good-two n a (neg_ℤ out) p (omega (arith, var_of-neg out)) (omega (arith, var_of-neg out))) refl)

pub are_clauses-is_both : (n : ℕ) (a b out : ℤ) → 0 < var_of a → var_of a < var_of b → var_of b < var_of out → var_of out ≤ n
    → are_clauses n (is_both a b out) ≡ true
are_clauses-is_both n a b out p q s r =
    and_from _ _ (good-three n (neg_ℤ a) (neg_ℤ b) out (omega (arith, var_of-neg a)) (omega (arith, var_of-neg a, var_of-neg b))
    (omega (arith, var_of-neg b)) r)
    (and_from _ _ (good-two n a (neg_ℤ out) p (omega (arith, var_of-neg out)) (omega (arith, var_of-neg out)))
    (and_from _ true (good-two n b (neg_ℤ out) (omega arith) (omega (arith, var_of-neg out)) (omega (arith, var_of-neg out))) refl))

pub are_clauses-is_one : (n : ℕ) (a b out : ℤ) → 0 < var_of a → var_of a < var_of b → var_of b < var_of out → var_of out ≤ n
    → are_clauses n (is_one a b out) ≡ true
are_clauses-is_one n a b out p q s r =
    and_from _ _ (good-three n (neg_ℤ a) (neg_ℤ b) (neg_ℤ out) (omega (arith, var_of-neg a)) (omega (arith, var_of-neg a, var_of-neg b))
    (omega (arith, var_of-neg b, var_of-neg out)) (omega (arith, var_of-neg out)))
    (and_from _ _ (good-three n a b (neg_ℤ out) p q (omega (arith, var_of-neg out)) (omega (arith, var_of-neg out)))
    (and_from _ _ (good-three n a (neg_ℤ b) out p (omega (arith, var_of-neg b)) (omega (arith, var_of-neg b)) r)
    (and_from _ true (good-three n (neg_ℤ a) b out (omega (arith, var_of-neg a)) (omega (arith, var_of-neg a)) s r) refl)))

pub are_clauses-and : (n : ℕ) (a b out : ℤ) → 0 < var_of a → 0 < var_of b → var_of a < var_of out → var_of b < var_of out → var_of out ≤ n
    → are_clauses n (and_clauses a b out) ≡ true
are_clauses-and n a b out p q s t r =
    let P : List (List ℤ) → Type 0 = λ cs. are_clauses n cs ≡ true in
    by_pair-cases P a b _ _ _ _ p
    (λ _. are_clauses-are_equal n a out p s r)
    (λ _. and_from _ true (good-one n (neg_ℤ out) (omega (arith, var_of-neg out)) (omega (arith, var_of-neg out))) refl)
    (λ l. are_clauses-is_both n a b out p l t r)
    (λ l. are_clauses-is_both n b a out q l s r)

pub are_clauses-xor : (n : ℕ) (a b out : ℤ) → 0 < var_of a → 0 < var_of b → var_of a < var_of out → var_of b < var_of out → var_of out ≤ n
    → are_clauses n (xor_clauses a b out) ≡ true
are_clauses-xor n a b out p q s t r =
    let P : List (List ℤ) → Type 0 = λ cs. are_clauses n cs ≡ true in
    by_pair-cases P a b _ _ _ _ p
    (λ _. and_from _ true (good-one n (neg_ℤ out) (omega (arith, var_of-neg out)) (omega (arith, var_of-neg out))) refl)
    (λ _. and_from _ true (good-one n out (omega arith) r) refl)
    (λ l. are_clauses-is_one n a b out p l t r)
    (λ l. are_clauses-is_one n b a out q l s r)

are_clauses-for : (n : ℕ) (g : Gate) (a b : ℤ) → 0 < var_of a → 0 < var_of b → var_of a ≤ n → var_of b ≤ n → are_clauses (suc n) (clauses_for n g a b) ≡ true
are_clauses-for n And a b p q s t = are_clauses-and (suc n) a b (pos (suc n)) p q (omega arith) (omega arith) (omega arith)
are_clauses-for n Or a b p q s t =
    are_clauses-and (suc n) (neg_ℤ a) (neg_ℤ b) (negsuc n) (omega (arith, var_of-neg a)) (omega (arith, var_of-neg b)) (omega (arith, var_of-neg a))
    (omega (arith, var_of-neg b)) (omega arith)
are_clauses-for n Xor a b p q s t = are_clauses-xor (suc n) a b (pos (suc n)) p q (omega arith) (omega arith) (omega arith)

within-clauses : (n : ℕ) (cs : List (List ℤ)) → are_clauses n cs ≡ true → list_all (is_within n) cs ≡ true
within-clauses n [] h = refl
within-clauses n (c ∷ cs) h = and_from _ _ (and_parts (is_clause c) _ (and_parts (is_good n c) _ h).0).1 (within-clauses n cs (and_parts (is_good n c) _ h).1)

within-more : (n : ℕ) (cs : List (List ℤ)) → list_all (is_within n) cs ≡ true → list_all (is_within (suc n)) cs ≡ true
within-more n [] h = refl
within-more n (c ∷ cs) h = and_from _ _ (is_within-upto n (suc n) c (omega arith) (and_parts (is_within n c) _ h).0)
    (within-more n cs (and_parts (is_within n c) _ h).1)

-- the literals of a gate are over the first variables
pub record IsGateOver (n : ℕ) (g : Wired) : Type 0 where
  pub first-positive : 0 < var_of g.first
  pub first-within : var_of g.first ≤ n
  pub second-positive : 0 < var_of g.second
  pub second-within : var_of g.second ≤ n

pub gate_over : (n : ℕ) (g : Wired) (rest : Bool) → (is_over n g.first && is_over n g.second && rest) ≡ true → IsGateOver n g
gate_over n g rest h =
    let both : (is_over n g.first && is_over n g.second) ≡ true = (and_parts (is_over n g.first && is_over n g.second) rest h).0 in
    let f : is_over n g.first ≡ true = (and_parts (is_over n g.first) _ both).0 in
    let s : is_over n g.second ≡ true = (and_parts (is_over n g.first) _ both).1 in
    record {
      first-positive = ltb-true 0 _ (and_parts (nat_lt 0 (var_of g.first)) _ f).0;
      first-within = leb-true _ n (and_parts (nat_lt 0 (var_of g.first)) _ f).1;
      second-positive = ltb-true 0 _ (and_parts (nat_lt 0 (var_of g.second)) _ s).0;
      second-within = leb-true _ n (and_parts (nat_lt 0 (var_of g.second)) _ s).1;
    }

gate-means : (v : Valuation) (n : ℕ) (g : Wired) → IsGateOver n g → satisfies v (gate_clauses n g) ≡ same (v (suc n)) (value_of v g)
gate-means v n g o = clauses_for-mean v n g.gate g.first g.second o.first-positive o.second-positive

pub IsOver-gate : (f : Formula) (g : Wired) → IsGateOver f.vars g → IsOver f → IsOver (after_gate f g)
IsOver-gate f g o h =
    list_all-append (is_within (suc f.vars)) f.clauses (gate_clauses f.vars g)
    ∙ and_from _ _ (within-more f.vars f.clauses h) (within-clauses (suc f.vars) (gate_clauses f.vars g)
    (are_clauses-for f.vars g.gate g.first g.second o.first-positive o.second-positive o.first-within o.second-within))

same-itself : (b : Bool) → same b b ≡ true
same-itself b = grind arith

with_value-other : (v : Valuation) (n : ℕ) (b : Bool) → Agree n v (with_value v (suc n) b)
with_value-other v n b k h = let e : nat_eq k (suc n) ≡ false = ne_eqb k (suc n) (λ i. omega arith) in rw e refl

with_value-here : (v : Valuation) (n : ℕ) (b : Bool) → with_value v (suc n) b (suc n) ≡ b
with_value-here v n b = let e : nat_eq (suc n) (suc n) ≡ true = eq-eqb (suc n) (suc n) refl in rw e refl

value_of-agree : (v w : Valuation) (n : ℕ) (g : Wired) → IsGateOver n g → Agree n v w → value_of v g ≡ value_of w g
value_of-agree v w n g o h =
    let e : literal_true v g.first ≡ literal_true w g.first = literal_true-agree n v w g.first h o.first-within in
    let f : literal_true v g.second ≡ literal_true w g.second = literal_true-agree n v w g.second h o.second-within in
    ap (λ p. gate_value g.gate p (literal_true v g.second)) e ∙ ap (gate_value g.gate (literal_true w g.first)) f

pub gate-keeps : (f : Formula) (g : Wired) (v : Valuation) → IsGateOver f.vars g → IsOver f → satisfies v f.clauses ≡ true
    → satisfies (with_value v (suc f.vars) (value_of v g)) (after_gate f g).clauses ≡ true
gate-keeps f g v o h s =
    let w : Valuation = with_value v (suc f.vars) (value_of v g) in
    let a : Agree f.vars v w = with_value-other v f.vars (value_of v g) in
    let old : satisfies w f.clauses ≡ true = sym (satisfies-agree f.vars v w f.clauses a h) ∙ s in
    let new : satisfies w (gate_clauses f.vars g) ≡ true =
    gate-means w f.vars g o
    ∙ ap (λ b. same b (value_of w g)) (with_value-here v f.vars (value_of v g) ∙ value_of-agree v w f.vars g o a)
    ∙ same-itself (value_of w g)
    in
    list_all-append (clause_true w) f.clauses (gate_clauses f.vars g) ∙ and_from _ _ old new

Agree-less : (n : ℕ) (v w : Valuation) → Agree (suc n) v w → Agree n v w
Agree-less n v w h k b = h k (omega arith)

Agree-trans : (n : ℕ) (u v w : Valuation) → Agree n u v → Agree n v w → Agree n u w
Agree-trans n u v w p q k b = p k b ∙ q k b

pub block-keeps : BlockKeeps
block-keeps f [] v h o s = (s, λ k b. refl)
block-keeps f (g ∷ gs) v h o s =
    let over : IsGateOver f.vars g = gate_over f.vars g (is_block (suc f.vars) gs) o in
    let rest : is_block (suc f.vars) gs ≡ true = (and_parts (is_over f.vars g.first && is_over f.vars g.second) _ o).1 in
    let w : Valuation = with_value v (suc f.vars) (value_of v g) in
    let r = block-keeps (after_gate f g) gs w (IsOver-gate f g over h) rest (gate-keeps f g v over h s) in
    (r.0, Agree-trans f.vars v w (extended w (suc f.vars) gs) (with_value-other v f.vars (value_of v g)) (Agree-less f.vars w (extended w (suc f.vars) gs) r.1))

-- values that satisfy a block satisfy what came before it
block-after : (f : Formula) (gs : List Wired) (w : Valuation) → satisfies w (after_gates f gs).clauses ≡ true → satisfies w f.clauses ≡ true
block-after f [] w s = s
block-after f (g ∷ gs) w s =
    let all : satisfies w (f.clauses ++ gate_clauses f.vars g) ≡ true = block-after (after_gate f g) gs w s in
    (and_parts (satisfies w f.clauses) _ (sym (list_all-append (clause_true w) f.clauses (gate_clauses f.vars g)) ∙ all)).0

pub gate-decides : (f : Formula) (g : Wired) (w : Valuation) → IsGateOver f.vars g → satisfies w (after_gate f g).clauses ≡ true → w (suc f.vars) ≡ value_of w g
gate-decides f g w o s =
    let both : (satisfies w f.clauses && satisfies w (gate_clauses f.vars g)) ≡ true =
    sym (list_all-append (clause_true w) f.clauses (gate_clauses f.vars g)) ∙ s in
    same-true _ _ (sym (gate-means w f.vars g o) ∙ (and_parts (satisfies w f.clauses) _ both).1)

Agree-more : (n : ℕ) (v w : Valuation) → Agree n v w → v (suc n) ≡ w (suc n) → Agree (suc n) v w
Agree-more n v w h e k b = elim (eq-or-lt_of_le b) [ inr l ↦ h k (omega arith) | inl i ↦ ap v i ∙ e ∙ ap w (sym i) ]

pub block-decides : BlockDecides
block-decides f [] v w h o s a = (s, λ k b. a k (omega (arith, b)))
block-decides f (g ∷ gs) v w h o s a =
    let over : IsGateOver f.vars g = gate_over f.vars g (is_block (suc f.vars) gs) o in
    let rest : is_block (suc f.vars) gs ≡ true = (and_parts (is_over f.vars g.first && is_over f.vars g.second) _ o).1 in
    let u : Valuation = with_value v (suc f.vars) (value_of v g) in
    let one : satisfies w (after_gate f g).clauses ≡ true = block-after (after_gate f g) gs w s in
    let here : u (suc f.vars) ≡ w (suc f.vars) = with_value-here v f.vars (value_of v g) ∙ value_of-agree v w f.vars g over a
    ∙ sym (gate-decides f g w over one) in
    let low : Agree f.vars u w = λ k b. sym (with_value-other v f.vars (value_of v g) k b) ∙ a k b in
    let r = block-decides (after_gate f g) gs u w (IsOver-gate f g over h) rest s (Agree-more f.vars u w low here) in
    (block-after f (g ∷ gs) w s, λ k b. r.1 k (omega (arith, b)))
