-- Hints that prove a clause for a search prove it for a checker.
use Rattle.std.proofs.Common.{
  ◌≡◌,
  ◌≢◌,
  ℕ,
  suc,
  ◌<◌,
  true,
  false,
  not,
  cond,
  List,
  [],
  ◌∷◌,
  ◌++◌,
  map,
  length,
  ℤ,
  neg_ℤ,
  Some,
  None,
  inl,
  inr,
  refl,
  sym,
  ◌∙◌,
  ap,
  subst,
  arith,
}
use Rattle.std.specs.Prelude.{Contains, All, nat_lt}
use Rattle.std.proofs.lemmas.List.Elements.{All-cons, All-nil}
use Rattle.std.specs.Option.{option_map_or}
use Rattle.std.specs.FinMap.{get}
use Rattle.std.proofs.lemmas.Bool.{and_parts}
use Rattle.std.proofs.lemmas.List.{map_push}
use Rattle.cnf_core.specs.Clauses.{var_of, rises_above}
use Rattle.refute_check.specs.Kept.{KeptClauses}
use Rattle.refute_check.specs.Literals.{is_among, left}
use Rattle.refute_check.specs.Left.{by_left, left_of_clause, count_of_literals}
use Rattle.refute_check.specs.Refutations.{hints_fault}
use Rattle.refute_check.specs.declared.verdict.CheckFault.TheVariants.{NoClause, Hint}
use Rattle.cdcl_literals.specs.Literals.{opposite_of}
use Rattle.cdcl_learn.specs.cdcl_clauses.Clauses.{Clause, at}
use Rattle.cdcl_learn.specs.Shown.{Leads}
use Rattle.cdcl_lines.specs.Literals.{literal_of, clause_of, numbers_of, Rise}
use Rattle.cdcl_lines.specs.Keeping.{as_kept, HintsAreThere}
use Rattle.cdcl_lines.proofs.Members.{contains-here, contains-there, contains-cases, contains-map, contains-from_map, among-there, among-not, int-cases}
use Rattle.cdcl_lines.proofs.Numbers.{neg-literal, same-literal, above-contains}

left-none : (given c : List ℤ) → ((z : ℤ) → Contains c z → Contains given (neg_ℤ z)) → left given c ≡ []
left-none given [] h = refl
left-none given (x ∷ c) h =
    ap (λ b. cond (not b) (x ∷ left given c) (left given c)) (among-there given (neg_ℤ x) (h x (contains-here x c)))
    ∙ left-none given c (λ z m. h z (contains-there x c z m))

-- one of the rising literals is left
left-one : (given c : List ℤ) (low : ℕ) (l : ℤ) → rises_above low c ≡ true → Contains c l → (Contains given (neg_ℤ l) → ⊥)
    → ((z : ℤ) → Contains c z → z ≢ l → Contains given (neg_ℤ z)) → left given c ≡ l ∷ []
left-one given [] low l r m n h = absurd (omega (arith, m.1))
left-one given (x ∷ c) low l r m n h =
    let p = and_parts (nat_lt low (var_of x)) (rises_above (var_of x) c) r in
    elim (int-cases x l) [
      | inl e ↦
          let a : is_among given (neg_ℤ x) ≡ false = among-not given (neg_ℤ x) (subst (λ y. Contains given (neg_ℤ y) → ⊥) (sym e.1) n) in
          let rest : left given c ≡ [] = left-none given c (λ z k. h z (contains-there x c z k)
          (λ f. let b : var_of x < var_of z = above-contains (var_of x) c z p.1 k in omega (arith, ap var_of (f ∙ sym e.1)))) in
          ap (λ b. cond (not b) (x ∷ left given c) (left given c)) a ∙ ap (λ xs. x ∷ xs) rest ∙ ap (λ y. y ∷ []) e.1
      | inr e ↦
          let a : is_among given (neg_ℤ x) ≡ true = among-there given (neg_ℤ x) (h x (contains-here x c) e.1) in
          let k : Contains c l = elim (contains-cases x c l m) [ inl f ↦ absurd (e.1 f) | inr g ↦ g ] in
          ap (λ b. cond (not b) (x ∷ left given c) (left given c)) a
          ∙ left-one given c (var_of x) l p.1 k n (λ z g. h z (contains-there x c z g))
    ]

-- the given literals of a search and those of a checker
neg-given : (given : List ℕ) (x : ℕ) → Contains given (opposite_of x) → Contains (clause_of given) (neg_ℤ (literal_of x))
neg-given given x h = subst (λ z. Contains (clause_of given) z) (sym (neg-literal x)) (contains-map literal_of given (opposite_of x) h)

from-given : (given : List ℕ) (x : ℕ) → Contains (clause_of given) (neg_ℤ (literal_of x)) → Contains given (opposite_of x)
from-given given x h =
    let s = contains-from_map literal_of given (neg_ℤ (literal_of x)) h in
    subst (λ y. Contains given y) (same-literal s.0 (opposite_of x) (s.2 ∙ neg-literal x)) s.1

left-refuted : (given ls : List ℕ) → ((x : ℕ) → Contains ls x → Contains given (opposite_of x)) → left (clause_of given) (clause_of ls) ≡ []
left-refuted given ls h = left-none (clause_of given) (clause_of ls) (λ z m.
    let s = contains-from_map literal_of ls z m in
    subst (λ y. Contains (clause_of given) (neg_ℤ y)) s.2 (neg-given given s.0 (h s.0 s.1)))

left-forced : (given ls : List ℕ) (l : ℕ) → Rise ls → Contains ls l → (Contains given (opposite_of l) → ⊥)
    → ((x : ℕ) → Contains ls x → x ≢ l → Contains given (opposite_of x)) → left (clause_of given) (clause_of ls) ≡ literal_of l ∷ []
left-forced given ls l r m n h = left-one (clause_of given) (clause_of ls) 0 (literal_of l) r (contains-map literal_of ls l m)
    (λ k. n (from-given given l k))
    (λ z k e.
    let s = contains-from_map literal_of ls z k in
    subst (λ y. Contains (clause_of given) (neg_ℤ y)) s.2 (neg-given given s.0 (h s.0 s.1 (λ f. e (sym s.2 ∙ ap literal_of f)))))

kept-there : (cs : List Clause) (kept : KeptClauses) → ((k : ℕ) → get kept (suc k) ≡ as_kept (at cs k)) → (k : ℕ) → (at cs k).kept ≡ true
    → get kept (suc k) ≡ Some (clause_of (at cs k).literals)
kept-there cs kept same k h = same k ∙ ap (λ b. cond b (Some (clause_of (at cs k).literals)) None) h

pub leads-pass : (n : ℕ) (cs : List Clause) (kept : KeptClauses) → ((k : ℕ) → get kept (suc k) ≡ as_kept (at cs k))
    → ((k : ℕ) → (at cs k).kept ≡ true → Rise (at cs k).literals) → (given hints : List ℕ) → Leads cs given hints
    → hints_fault n kept (clause_of given) (numbers_of hints) ≡ None
leads-pass n cs kept same rise given [] h = absurd h
leads-pass n cs kept same rise given (k ∷ []) h =
    let f = λ (c : List ℤ). by_left (left_of_clause (clause_of given) c) None (λ (l : ℤ). hints_fault n kept (clause_of given ++ l ∷ []) []) (Some (Hint n)) in
    ap (λ o. option_map_or f o (Some (NoClause n))) (kept-there cs kept same k h.kept)
    ∙ ap (λ xs. by_left (count_of_literals xs) None (λ (l : ℤ). hints_fault n kept (clause_of given ++ l ∷ []) []) (Some (Hint n)))
    (left-refuted given (at cs k).literals h.all_false)
leads-pass n cs kept same rise given (k ∷ g ∷ hs) (l, f, rest) =
    let go = λ (z : ℤ). hints_fault n kept (clause_of given ++ z ∷ []) (numbers_of (g ∷ hs)) in
    let F = λ (c : List ℤ). by_left (left_of_clause (clause_of given) c) (Some (Hint n)) go (Some (Hint n)) in
    ap (λ o. option_map_or F o (Some (NoClause n))) (kept-there cs kept same k f.kept)
    ∙ ap (λ xs. by_left (count_of_literals xs) (Some (Hint n)) go (Some (Hint n)))
    (left-forced given (at cs k).literals l (rise k f.kept) f.has f.not_false f.others)
    ∙ ap (λ xs. hints_fault n kept xs (numbers_of (g ∷ hs))) (sym (map_push literal_of given l))
    ∙ leads-pass n cs kept same rise (given ++ l ∷ []) (g ∷ hs) rest

pub opposites : (ls : List ℕ) → map neg_ℤ (clause_of ls) ≡ clause_of (map opposite_of ls)
opposites [] = refl
opposites (l ∷ ls) = ap (λ z. z ∷ map neg_ℤ (clause_of ls)) (neg-literal l) ∙ ap (λ zs. literal_of (opposite_of l) ∷ zs) (opposites ls)

pub leads-there : (cs : List Clause) (given hints : List ℕ) → Leads cs given hints → All (λ k. k < length cs) hints
leads-there cs given [] h = absurd h
leads-there cs given (k ∷ []) h = All-cons (λ k. k < length cs) k [] h.there (All-nil (λ k. k < length cs))
leads-there cs given (k ∷ g ∷ hs) (l, f, rest) =
    All-cons (λ k. k < length cs) k (g ∷ hs) f.there (leads-there cs (given ++ l ∷ []) (g ∷ hs) rest)

pub shows-there : HintsAreThere
shows-there cs literals hints h = leads-there cs (map opposite_of literals) hints h
