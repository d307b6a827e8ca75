-- Clauses that give two words the same value.
use Rattle.std.proofs.Common.{◌≡◌, ℕ, ◌^◌, ◌<◌, List, [], ◌∷◌, ℤ, neg_ℤ, refl, ap, sym, ◌∙◌, subst, arith, Bool, true, false, not, length}
use Rattle.std.specs.Prelude.{◌&&◌, ◌||◌}
use Rattle.std.specs.Int.{w32, cast_signed, cast_unsigned}
use Rattle.std.specs.List.{All}
use Rattle.std.proofs.lemmas.Bool.{and_from, and_parts}
use Rattle.std.proofs.lemmas.Int.{of_z-to_z}
use Rattle.std.proofs.lemmas.List.Elements.{All-nil, All-cons, All-head, All-tail}
use Rattle.cnf_core.specs.Clauses.{Valuation, literal_true, clause_true, satisfies}
use Rattle.cnf_core.proofs.GateLaws.{literal_true-neg}
use Rattle.bit_gates.specs.Laws.{IsOf}
use Rattle.bit_gates.proofs.Blocks.{IsOf-opposite}
use Rattle.bit_ops.specs.bit_words.Laws.{values, number_of, value}
use Rattle.bit_ops.specs.bit_arith.Laws.{int_value}
use Rattle.bit_ops.proofs.bit_arith.Values.{value_below}
use Rattle.bit_blast.specs.Reads.{value_clauses}

-- a word of 32 bits
below_32 : (w : Valuation) (xs : List ℤ) → length xs ≡ 32 → value w xs < 2 ^ 32
below_32 w xs e = subst (λ n. value w xs < 2 ^ n) e (value_below w xs)

-- numbers with equally many bits are equal if their bits are
number_same : (ps qs : List Bool) → length ps ≡ length qs → number_of ps ≡ number_of qs → ps ≡ qs
number_same [] [] e h = refl
number_same [] (q ∷ qs) e h = absurd (omega (arith, e))
number_same (p ∷ ps) [] e h = absurd (omega (arith, e))
number_same (true ∷ ps) (true ∷ qs) e h = ap (λ k. true ∷ k) (number_same ps qs (omega (arith, e)) (omega (arith, h)))
number_same (false ∷ ps) (false ∷ qs) e h = ap (λ k. false ∷ k) (number_same ps qs (omega (arith, e)) (omega (arith, h)))
number_same (true ∷ ps) (false ∷ qs) e h = absurd (omega (arith, h))
number_same (false ∷ ps) (true ∷ qs) e h = absurd (omega (arith, h))

pub ints_same : (w : Valuation) (xs ys : List ℤ) → length xs ≡ 32 → length ys ≡ 32 → length (values w xs) ≡ length (values w ys)
    → int_value w xs ≡ int_value w ys → values w xs ≡ values w ys
ints_same w xs ys p q e h =
    number_same (values w xs) (values w ys) e
    (sym (of_z-to_z w32 (value w xs) (below_32 w xs p)) ∙ ap (cast_unsigned w32) h ∙ of_z-to_z w32 (value w ys) (below_32 w ys q))

pub same_ints : (w : Valuation) (xs ys : List ℤ) → values w xs ≡ values w ys → int_value w xs ≡ int_value w ys
same_ints w xs ys h = ap (λ k. cast_signed w32 (number_of k)) h

-- the literals of such clauses
pub value_literals : (n : ℕ) (holds taken : ℤ) (xs ys : List ℤ) → IsOf n holds → IsOf n taken → All (IsOf n) xs → All (IsOf n) ys
    → All (All (IsOf n)) (value_clauses holds taken xs ys)
value_literals n holds taken [] ys h t p q = All-nil (All (IsOf n))
value_literals n holds taken (x ∷ xs) [] h t p q = All-nil (All (IsOf n))
value_literals n holds taken (x ∷ xs) (y ∷ ys) h t p q =
    let a : IsOf n x = All-head (IsOf n) x xs p in
    let b : IsOf n y = All-head (IsOf n) y ys q in
    let nh : IsOf n (neg_ℤ holds) = IsOf-opposite n holds h in
    let nt : IsOf n (neg_ℤ taken) = IsOf-opposite n taken t in
    let second : List ℤ = neg_ℤ holds ∷ neg_ℤ taken ∷ x ∷ neg_ℤ y ∷ [] in
    let rest : List (List ℤ) = value_clauses holds taken xs ys in
    All-cons (All (IsOf n)) (neg_ℤ holds ∷ neg_ℤ taken ∷ neg_ℤ x ∷ y ∷ []) (second ∷ rest) (four (neg_ℤ holds) (neg_ℤ taken) (neg_ℤ x) y nh nt (IsOf-opposite n x a) b)
    (All-cons (All (IsOf n)) second rest (four (neg_ℤ holds) (neg_ℤ taken) x (neg_ℤ y) nh nt a (IsOf-opposite n y b))
    (value_literals n holds taken xs ys h t (All-tail (IsOf n) x xs p) (All-tail (IsOf n) y ys q)))
  where
    four : (a b c d : ℤ) → IsOf n a → IsOf n b → IsOf n c → IsOf n d → All (IsOf n) (a ∷ b ∷ c ∷ d ∷ [])
    four a b c d p q r s =
        All-cons (IsOf n) a (b ∷ c ∷ d ∷ []) p (All-cons (IsOf n) b (c ∷ d ∷ []) q (All-cons (IsOf n) c (d ∷ []) r (All-cons (IsOf n) d [] s (All-nil (IsOf n)))))

-- if both variables are true, the bits are equal
bit_forced : (h t a b nh nt na nb : Bool) → h ≡ true → t ≡ true → nh ≡ not h → nt ≡ not t → na ≡ not a → nb ≡ not b
    → (nh || (nt || (na || (b || false)))) ≡ true → (nh || (nt || (a || (nb || false)))) ≡ true → a ≡ b
bit_forced h t true true nh nt na nb p q r s u v x y = refl
bit_forced h t false false nh nt na nb p q r s u v x y = refl
bit_forced h t true false nh nt na nb p q r s u v x y = grind arith
bit_forced h t false true nh nt na nb p q r s u v x y = grind arith

pub values_forced : (w : Valuation) (n : ℕ) (holds taken : ℤ) (xs ys : List ℤ) → IsOf n holds → IsOf n taken → All (IsOf n) xs → All (IsOf n) ys
    → length ys ≡ length xs → literal_true w holds ≡ true → literal_true w taken ≡ true → satisfies w (value_clauses holds taken xs ys) ≡ true
    → values w xs ≡ values w ys
values_forced w n holds taken [] [] h t p q e i j s = refl
values_forced w n holds taken [] (y ∷ ys) h t p q e i j s = absurd (omega (arith, e))
values_forced w n holds taken (x ∷ xs) [] h t p q e i j s = absurd (omega (arith, e))
values_forced w n holds taken (x ∷ xs) (y ∷ ys) h t p q e i j s =
    let first : List ℤ = neg_ℤ holds ∷ neg_ℤ taken ∷ neg_ℤ x ∷ y ∷ [] in
    let second : List ℤ = neg_ℤ holds ∷ neg_ℤ taken ∷ x ∷ neg_ℤ y ∷ [] in
    let one = and_parts (clause_true w first) (clause_true w second && satisfies w (value_clauses holds taken xs ys)) s in
    let two = and_parts (clause_true w second) (satisfies w (value_clauses holds taken xs ys)) one.1 in
    let here : literal_true w x ≡ literal_true w y =
    bit_forced (literal_true w holds) (literal_true w taken) (literal_true w x) (literal_true w y) _ _ _ _ i j
    (literal_true-neg w holds h.0) (literal_true-neg w taken t.0) (literal_true-neg w x (All-head (IsOf n) x xs p).0)
    (literal_true-neg w y (All-head (IsOf n) y ys q).0) one.0 two.0 in
    ap (λ k. k ∷ values w xs) here
    ∙ ap (λ k. literal_true w y ∷ k)
    (values_forced w n holds taken xs ys h t (All-tail (IsOf n) x xs p) (All-tail (IsOf n) y ys q) (omega (arith, e)) i j two.1)

-- if one variable is false or the bits are equal, the clauses are true
off_one : (nh nt p : Bool) → (nh || nt) ≡ true → (nh || (nt || p)) ≡ true
off_one true nt p h = refl
off_one false true p h = refl
off_one false false p h = absurd (cc)

pub values_off : (w : Valuation) (holds taken : ℤ) (xs ys : List ℤ) → (literal_true w (neg_ℤ holds) || literal_true w (neg_ℤ taken)) ≡ true
    → satisfies w (value_clauses holds taken xs ys) ≡ true
values_off w holds taken [] ys h = refl
values_off w holds taken (x ∷ xs) [] h = refl
values_off w holds taken (x ∷ xs) (y ∷ ys) h =
    and_from _ _ (off_one (literal_true w (neg_ℤ holds)) (literal_true w (neg_ℤ taken)) _ h)
    (and_from _ _ (off_one (literal_true w (neg_ℤ holds)) (literal_true w (neg_ℤ taken)) _ h) (values_off w holds taken xs ys h))

or_right : (p q : Bool) → q ≡ true → (p || q) ≡ true
or_right true q h = refl
or_right false q h = h

one_or_not : (p q np : Bool) → np ≡ not p → p ≡ q → (np || (q || false)) ≡ true
one_or_not true q np h e = grind arith
one_or_not false q np h e = grind arith

not_or_one : (p q nq : Bool) → nq ≡ not q → p ≡ q → (p || (nq || false)) ≡ true
not_or_one true q nq h e = refl
not_or_one false q nq h e = grind arith

pub values_on : (w : Valuation) (n : ℕ) (holds taken : ℤ) (xs ys : List ℤ) → All (IsOf n) xs → All (IsOf n) ys → values w xs ≡ values w ys
    → satisfies w (value_clauses holds taken xs ys) ≡ true
values_on w n holds taken [] ys p q e = refl
values_on w n holds taken (x ∷ xs) [] p q e = refl
values_on w n holds taken (x ∷ xs) (y ∷ ys) p q e =
    let here : literal_true w x ≡ literal_true w y = cc in
    let rest : values w xs ≡ values w ys = cc in
    and_from _ _ (or_right (literal_true w (neg_ℤ holds)) _ (or_right (literal_true w (neg_ℤ taken)) _
    (one_or_not (literal_true w x) (literal_true w y) (literal_true w (neg_ℤ x)) (literal_true-neg w x (All-head (IsOf n) x xs p).0) here)))
    (and_from _ _ (or_right (literal_true w (neg_ℤ holds)) _ (or_right (literal_true w (neg_ℤ taken)) _
    (not_or_one (literal_true w x) (literal_true w y) (literal_true w (neg_ℤ y)) (literal_true-neg w y (All-head (IsOf n) y ys q).0) here)))
    (values_on w n holds taken xs ys (All-tail (IsOf n) x xs p) (All-tail (IsOf n) y ys q) rest))
