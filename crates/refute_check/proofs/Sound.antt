-- A clause that a line adds is true in each valuation that makes the kept clauses true.
use Rattle.std.proofs.Common.{◌≡◌, ◌≢◌, ℕ, suc, zero, ◌+◌, List, [], ◌∷◌, ◌++◌, map, ℤ, pos, negsuc, neg_ℤ, refl, ap, sym, ◌∙◌, subst, arith}
use Rattle.std.proofs.Common.{Bool, true, false, not, cond, Option, Some, None, Ok, inl, inr}
use Rattle.std.proofs.Math.IntN.{neg_ℤ-neg_ℤ}
use Rattle.std.proofs.lemmas.Bool.{and_parts, or_cases, or_parts, or_right, not-true}
use Rattle.std.specs.Prelude.{◌||◌, is_some, IfSome, if◌then◌else◌}
use Rattle.std.specs.List.{Contains, fold}
use Rattle.std.specs.Option.{option_map_or}
use Rattle.std.specs.Ordering.{nat_cmp, int_eq, eq_by_cmp}
use Rattle.std.specs.Cmp.{nat_cmp_total, signed_Decides}
use Rattle.std.specs.FinMap.{get, insert, remove, empty, get-insert, get-remove, get-empty}
use Rattle.std.proofs.lemmas.List.Folds.{list_any-append}
use Rattle.cnf_core.specs.Clauses.{Valuation, literal_true, clause_true, satisfies, is_within}
use Rattle.refute_check.specs.Kept.{KeptClauses}
use Rattle.refute_check.specs.Literals.{is_among, left}
use Rattle.refute_check.specs.Left.{by_left, left_of_clause, count_of_literals}
use Rattle.refute_check.specs.Refutations.{Checking, keep, opening, start, without_clauses, hints_fault, clause_fault, line_fault, state_after_line, state_after_verdict, verdict_of}
use Rattle.list_laws.specs.Lists.{is_nil}
use Rattle.refute_check.specs.Laws.{ClosedMeansUnsatisfiable}
use Rattle.refute_check.specs.declared.line.Line.{Line}
use Rattle.refute_check.specs.declared.line.Line.TheVariants.{Add, Delete}
use Rattle.refute_check.specs.declared.verdict.CheckFault.{CheckFault}
use Rattle.refute_check.specs.declared.verdict.CheckFault.TheVariants.{NoVariable, NoClause, Hint}
use Rattle.refute_check.specs.declared.verdict.Checked.TheVariants.{Closed}

-- a kept clause is true
abbrev pub IsTrueAt : Valuation → KeptClauses → ℕ → Type 0
IsTrueAt v kept n = IfSome (get kept n) (λ c. clause_true v c ≡ true)

-- all kept clauses are true
abbrev AreTrue : Valuation → KeptClauses → Type 0
AreTrue v kept = (n : ℕ) → IsTrueAt v kept n

chosen : (v : Valuation) (b : Bool) (x y : Option (List ℤ)) → IfSome x (λ c. clause_true v c ≡ true) → IfSome y (λ c. clause_true v c ≡ true)
    → IfSome (cond b x y) (λ c. clause_true v c ≡ true)
chosen v true x y h k = h
chosen v false x y h k = k

AreTrue-empty : (v : Valuation) → AreTrue v empty
AreTrue-empty v n = subst (λ o. IfSome o (λ c. clause_true v c ≡ true)) (sym (get-empty nat_cmp n)) tt

AreTrue-insert : (v : Valuation) (kept : KeptClauses) (n : ℕ) (c : List ℤ) → AreTrue v kept → clause_true v c ≡ true → AreTrue v (insert kept n c)
AreTrue-insert v kept n c h t q = subst (λ o. IfSome o (λ c. clause_true v c ≡ true)) (sym (get-insert nat_cmp_total kept n c q))
    (chosen v (eq_by_cmp nat_cmp q n) (Some c) (get kept q) t (h q))

AreTrue-without : (v : Valuation) (kept : KeptClauses) (ns : List ℕ) → AreTrue v kept → AreTrue v (without_clauses kept ns)
AreTrue-without v kept [] h = h
AreTrue-without v kept (n ∷ ns) h =
    AreTrue-without v (remove kept n) ns (λ q. subst (λ o. IfSome o (λ c. clause_true v c ≡ true)) (sym (get-remove nat_cmp_total kept n q))
    (chosen v (eq_by_cmp nat_cmp q n) None (get kept q) tt (h q)))

-- the literals that are false if the given ones are true
abbrev AreFalse : Valuation → List ℤ → Type 0
AreFalse v given = (l : ℤ) → is_among given (neg_ℤ l) ≡ true → literal_true v l ≡ false

neg-true : (v : Valuation) (l : ℤ) → literal_true v (neg_ℤ l) ≡ true → literal_true v l ≡ false
neg-true v (pos zero) h = refl
neg-true v (pos (suc n)) h = not-true (v (suc n)) h
neg-true v (negsuc n) h = ap not h

AreFalse-more : (v : Valuation) (given : List ℤ) (l : ℤ) → AreFalse v given → literal_true v l ≡ true → AreFalse v (given ++ l ∷ [])
AreFalse-more v given l h t m e =
    elim (or_cases (is_among given (neg_ℤ m)) (int_eq (neg_ℤ m) l || false) (sym (list_any-append (int_eq (neg_ℤ m)) given (l ∷ [])) ∙ e)) [
      | inl old ↦ h m old
      | inr new ↦ elim (or_cases (int_eq (neg_ℤ m) l) false new) [
        | inl same ↦ neg-true v m (ap (literal_true v) ((signed_Decides (neg_ℤ m) l).0 same) ∙ t)
        | inr never ↦ absurd (cc)
      ]
    ]

AreFalse-line : (v : Valuation) (lits : List ℤ) → clause_true v lits ≡ false → AreFalse v (map neg_ℤ lits)
AreFalse-line v [] f m e = absurd (cc)
AreFalse-line v (l ∷ lits) f m e =
    elim (or_cases (int_eq (neg_ℤ m) (neg_ℤ l)) (is_among (map neg_ℤ lits) (neg_ℤ m)) e) [
      | inl same ↦ ap (literal_true v) (sym (neg_ℤ-neg_ℤ m) ∙ ap neg_ℤ ((signed_Decides (neg_ℤ m) (neg_ℤ l)).0 same) ∙ neg_ℤ-neg_ℤ l)
          ∙ (or_parts (literal_true v l) (clause_true v lits) f).0
      | inr rest ↦ AreFalse-line v lits (or_parts (literal_true v l) (clause_true v lits) f).1 m rest
    ]

left-step : (v : Valuation) (given : List ℤ) (l : ℤ) (c : List ℤ) (b : Bool) → is_among given (neg_ℤ l) ≡ b → AreFalse v given
    → (clause_true v c ≡ true → clause_true v (left given c) ≡ true) → (literal_true v l || clause_true v c) ≡ true
    → clause_true v (cond (not b) (l ∷ left given c) (left given c)) ≡ true
left-step v given l c true e h rest t =
    elim (or_cases (literal_true v l) (clause_true v c) t) [ inl here ↦ absurd (let f : literal_true v l ≡ false = h l e in cc) | inr there ↦ rest there ]
left-step v given l c false e h rest t =
    elim (or_cases (literal_true v l) (clause_true v c) t) [
      | inl here ↦ ap (λ x. x || clause_true v (left given c)) here
      | inr there ↦ or_right (literal_true v l) (clause_true v (left given c)) (rest there)
    ]

left-true : (v : Valuation) (given c : List ℤ) → AreFalse v given → clause_true v c ≡ true → clause_true v (left given c) ≡ true
left-true v given [] h t = t
left-true v given (l ∷ c) h t = left-step v given l c (is_among given (neg_ℤ l)) refl h (left-true v given c h) t

-- a true clause has a true literal left, or more than one literal
by-counted : (v : Valuation) (ls : List ℤ) (nothing more : Option CheckFault) (one : ℤ → Option CheckFault) → clause_true v ls ≡ true → more ≢ None
    → ((l : ℤ) → literal_true v l ≡ true → one l ≢ None) → by_left (count_of_literals ls) nothing one more ≢ None
by-counted v [] nothing more one t h k = λ e. absurd (cc)
by-counted v (l ∷ []) nothing more one t h k = k l (elim (or_cases (literal_true v l) false t) [ inl x ↦ x | inr x ↦ absurd (cc) ])
by-counted v (l ∷ m ∷ ls) nothing more one t h k = h

by-kept : (v : Valuation) (o : Option (List ℤ)) (f : List ℤ → Option CheckFault) (d : Option CheckFault) → IfSome o (λ c. clause_true v c ≡ true)
    → ((c : List ℤ) → clause_true v c ≡ true → f c ≢ None) → d ≢ None → option_map_or f o d ≢ None
by-kept v None f d h k e = e
by-kept v (Some c) f d h k e = k c h

-- hints over false literals show a conflict only if some clause that they name is false
hints-sound : (v : Valuation) (n : ℕ) (kept : KeptClauses) (given : List ℤ) (hs : List ℕ) → ((h : ℕ) → Contains hs h → IsTrueAt v kept h)
    → AreFalse v given → hints_fault n kept given hs ≢ None
hints-sound v n kept given [] h f = λ e. cc
hints-sound v n kept given (i ∷ hs) h f =
    by-kept v (get kept i)
    (λ c. by_left (left_of_clause given c) (if is_nil hs then None else Some (Hint n)) (λ l. hints_fault n kept (given ++ l ∷ []) hs) (Some (Hint n)))
    (Some (NoClause n))
    (h i (0, omega arith, refl))
    (λ c t. by-counted v (left given c) (if is_nil hs then None else Some (Hint n)) (Some (Hint n)) (λ l. hints_fault n kept (given ++ l ∷ []) hs)
    (left-true v given c f t) (λ e. cc)
    (λ l u. hints-sound v n kept (given ++ l ∷ []) hs (λ j a. h j (suc a.0, omega (arith, a.1), a.2)) (AreFalse-more v given l f u)))
    (λ e. cc)

-- a line that passes adds a clause that is true if those that its hints name are
clause-step : (v : Valuation) (n vars : ℕ) (kept : KeptClauses) (lits : List ℤ) (hints : List ℕ) (w b : Bool) → clause_true v lits ≡ b
    → ((h : ℕ) → Contains hints h → IsTrueAt v kept h) → (if w then hints_fault n kept (map neg_ℤ lits) hints else Some (NoVariable n)) ≡ None → clause_true v lits ≡ true
clause-step v n vars kept lits hints w true e h p = e
clause-step v n vars kept lits hints true false e h p = absurd (hints-sound v n kept (map neg_ℤ lits) hints h (AreFalse-line v lits e) p)
clause-step v n vars kept lits hints false false e h p = absurd (cc)

pub clause-sound : (v : Valuation) (n vars : ℕ) (kept : KeptClauses) (lits : List ℤ) (hints : List ℕ)
    → ((h : ℕ) → Contains hints h → IsTrueAt v kept h) → clause_fault n vars kept lits hints ≡ None → clause_true v lits ≡ true
clause-sound v n vars kept lits hints h p = clause-step v n vars kept lits hints (is_within vars lits) (clause_true v lits) refl h p

-- the kept clauses are true, and no empty clause was added
pub record StaysTrue (v : Valuation) (s : Checking) : Type 0 where
  pub kept : AreTrue v s.kept
  pub open' : s.closed ≢ true

not-nil : (v : Valuation) (lits : List ℤ) → clause_true v lits ≡ true → is_nil lits ≡ false
not-nil v [] t = absurd (cc)
not-nil v (l ∷ lits) t = refl

judged-sound : (v : Valuation) (s : Checking) (l : Line) (o : Option CheckFault) → line_fault (s.line + 1) s.vars s.kept l ≡ o → StaysTrue v s
    → StaysTrue v (state_after_verdict o s l)
judged-sound v s (Add lits hints) None e h =
    let t : clause_true v lits ≡ true = clause-sound v (s.line + 1) s.vars s.kept lits hints (λ n i. h.kept n) e in
    let f : is_nil lits ≡ false = not-nil v lits t in
    record {
      kept = AreTrue-insert v s.kept s.next lits h.kept t;
      open' = λ c. elim (or_cases s.closed (is_nil lits) c) [ inl x ↦ h.open' x | inr x ↦ cc ];
    }
judged-sound v s (Delete ns) None e h = record { kept = AreTrue-without v s.kept ns h.kept; open' = h.open' }
judged-sound v s l (Some f) e h = record { kept = AreTrue-empty v; open' = h.open' }

after-step : (v : Valuation) (s : Checking) (l : Line) (b : Bool) → StaysTrue v s
    → StaysTrue v (if b then s else state_after_verdict (line_fault (s.line + 1) s.vars s.kept l) s l)
after-step v s l true h = h
after-step v s l false h = judged-sound v s l (line_fault (s.line + 1) s.vars s.kept l) refl h

lines-sound : (v : Valuation) (s : Checking) (lines : List Line) → StaysTrue v s → StaysTrue v (fold state_after_line s lines)
lines-sound v s [] h = h
lines-sound v s (l ∷ lines) h = lines-sound v (state_after_line s l) lines (after-step v s l (is_some s.fault) h)

start-sound : (v : Valuation) (s : Checking) (cs : List (List ℤ)) → satisfies v cs ≡ true → StaysTrue v s → StaysTrue v (fold keep s cs)
start-sound v s [] t h = h
start-sound v s (c ∷ cs) t h =
    start-sound v (keep s c) cs (and_parts (clause_true v c) _ t).1
    (record { kept = AreTrue-insert v s.kept s.next c h.kept (and_parts (clause_true v c) _ t).0; open' = h.open' })

closed-true : (o : Option CheckFault) (b : Bool) → verdict_of o b ≡ Ok Closed → b ≡ true
closed-true (Some f) b e = absurd (cc)
closed-true None true e = refl
closed-true None false e = absurd (cc)

pub closed-means-unsatisfiable : ClosedMeansUnsatisfiable
closed-means-unsatisfiable f lines e v t =
    let s : StaysTrue v (fold state_after_line (start f) lines) = lines-sound v (start f) lines
    (start-sound v (opening f.vars) f.clauses t (record { kept = AreTrue-empty v; open' = λ e. cc })) in
    s.open' (closed-true (fold state_after_line (start f) lines).fault (fold state_after_line (start f) lines).closed e)
