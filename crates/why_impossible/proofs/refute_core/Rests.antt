-- A closed derivation rests on the clauses that it reaches: no valuation satisfies those of the
-- formula.
use Rattle.std.proofs.Common.{◌≡◌, ◌∙◌, ℕ, zero, suc, ◌+◌, ◌<◌, List, [], ◌∷◌, length, map, ℤ, refl, ap, sym, subst, arith, get_or}
use Rattle.std.proofs.Common.{Bool, true, false, cond, Some, None}
use Rattle.std.specs.Prelude.{IfSome, ◌||◌}
use Rattle.std.specs.List.{Contains, fold}
use Rattle.std.specs.Ordering.{nat_cmp, eq_by_cmp}
use Rattle.std.specs.Cmp.{nat_cmp_total, unsigned_tied}
use Rattle.std.specs.FinMap.{get, insert, remove, get-insert, get-remove, get-empty}
use Rattle.std.proofs.lemmas.Bool.{and_parts}
use borrow.Author.Tests.{eqb-true}
use Rattle.cnf_core.specs.Clauses.{Valuation, clause_true, satisfies}
use Rattle.refute_check.specs.Kept.{KeptClauses}
use Rattle.refute_check.specs.Refutations.{Checking, keep, opening, start, without_clauses, state_after_line, state_after_pass}
use Rattle.refute_check.specs.declared.line.Line.{Line}
use Rattle.refute_check.specs.declared.line.Line.TheVariants.{Add, Delete}
use Rattle.refute_check.proofs.Checkings.{keep-next}
use Rattle.refute_check.proofs.Sound.{IsTrueAt, clause-sound}
use Rattle.why_impossible.specs.refute_core.Reached.{IsReached, First, Hinted, hints_used}
use Rattle.why_impossible.specs.refute_core.Laws.{ReachedAreUnsatisfiable}
use Rattle.why_impossible.proofs.refute_core.Passes.{first_passes, goes_on, is_closed, start_open}

module _ (v : Valuation) (R : ℕ → Type 0) where
  -- each kept clause with such a number is true
  abbrev AreTrueIn : KeptClauses → Type 0
  AreTrueIn kept = (n : ℕ) → R n → IsTrueAt v kept n

  true_insert : (kept : KeptClauses) (n : ℕ) (c : List ℤ) → AreTrueIn kept → (R n → clause_true v c ≡ true) → AreTrueIn (insert kept n c)
  true_insert kept n c are own q r =
      subst (λ o. IfSome o (λ d. clause_true v d ≡ true)) (sym (get-insert nat_cmp_total kept n c q)) (by (eq_by_cmp nat_cmp q n) refl)
    where
      by : (b : Bool) → eq_by_cmp nat_cmp q n ≡ b → IfSome (cond b (Some c) (get kept q)) (λ d. clause_true v d ≡ true)
      by true is = own (subst R (eqb-true q n (sym (unsigned_tied q n) ∙ is)) r)
      by false is = are q r

  true_remove : (kept : KeptClauses) (n : ℕ) → AreTrueIn kept → AreTrueIn (remove kept n)
  true_remove kept n are q r =
      subst (λ o. IfSome o (λ d. clause_true v d ≡ true)) (sym (get-remove nat_cmp_total kept n q)) (by (eq_by_cmp nat_cmp q n))
    where
      by : (b : Bool) → IfSome (cond b None (get kept q)) (λ d. clause_true v d ≡ true)
      by true = tt
      by false = are q r

  true_without : (kept : KeptClauses) (ns : List ℕ) → AreTrueIn kept → AreTrueIn (without_clauses kept ns)
  true_without kept [] are = are
  true_without kept (n ∷ ns) are = true_without (remove kept n) ns (true_remove kept n are)

  true_from : (s : Checking) (cs : List (List ℤ)) → AreTrueIn s.kept
      → ((k : ℕ) → k < length cs → R (s.next + k) → clause_true v (get_or cs k []) ≡ true) → AreTrueIn (fold keep s cs).kept
  true_from s [] are each = are
  true_from s (c ∷ cs) are each =
      true_from (keep s c) cs (true_insert s.kept s.next c are (λ r. each 0 (omega arith) (subst R (omega arith) r)))
      (λ k below r. each (suc k) (omega (arith, below)) (subst R (omega arith) r))

  -- if such numbers are closed under hints, the first empty clause doesn't have one
  never : (s : Checking) (base : ℕ) (ls : List Line) → s.next ≡ suc base → (fold state_after_line s ls).fault ≡ None → (fold state_after_line s ls).closed ≡ true
      → s.closed ≡ false → AreTrueIn s.kept
      → ((k : ℕ) → R (base + k + 1) → (h : ℕ) → Contains (get_or (hints_used ls) k []) h → R h) → R (base + length (hints_used ls)) → ⊥
  never s base [] at free closed none are hinted first = let e : true ≡ false = sym closed ∙ none in cc
  never s base (Add [] hints ∷ ls) at free closed none are hinted first =
      let p = first_passes s (Add [] hints) ls free in
      let e : clause_true v [] ≡ true =
      clause-sound v (s.line + 1) s.vars s.kept [] hints (λ h among. are h (hinted 0 (subst R (omega arith) first) h among)) p.passes in
      cc
  never s base (Add (l ∷ lits) hints ∷ ls) at free closed none are hinted first =
      let p = first_passes s (Add (l ∷ lits) hints) ls free in
      let on = goes_on s (Add (l ∷ lits) hints) ls p.to in
      never (state_after_pass s (Add (l ∷ lits) hints)) (suc base) ls (omega (arith, at)) (sym (ap (λ (t : Checking). t.fault) on) ∙ free)
      (sym (ap (λ (t : Checking). t.closed) on) ∙ closed) (ap (λ b. b || false) none)
      (true_insert s.kept s.next (l ∷ lits) are (λ r. clause-sound v (s.line + 1) s.vars s.kept (l ∷ lits) hints
      (λ h among. are h (hinted 0 (subst R (omega (arith, at)) r) h among)) p.passes))
      (λ k r h among. hinted (suc k) (subst R (omega arith) r) h among) (subst R (omega arith) first)
  never s base (Delete ns ∷ ls) at free closed none are hinted first =
      let p = first_passes s (Delete ns) ls free in
      let on = goes_on s (Delete ns) ls p.to in
      never (state_after_pass s (Delete ns)) base ls at (sym (ap (λ (t : Checking). t.fault) on) ∙ free) (sym (ap (λ (t : Checking). t.closed) on) ∙ closed) none
      (true_without s.kept ns are) hinted first

-- each of the named clauses is true
named_true : (v : Valuation) (cs : List (List ℤ)) (places : List ℕ) → satisfies v (map (λ place. get_or cs place []) places) ≡ true → (place : ℕ)
    → Contains places place → clause_true v (get_or cs place []) ≡ true
named_true v cs [] all place (k, below, is) = absurd (omega (arith, below))
named_true v cs (p ∷ places) all place (zero, below, is) =
    subst (λ q. clause_true v (get_or cs q []) ≡ true) is (and_parts (clause_true v (get_or cs p [])) _ all).0
named_true v cs (p ∷ places) all place (suc k, below, is) =
    named_true v cs places (and_parts (clause_true v (get_or cs p [])) _ all).1 place (k, omega (arith, below), is)

pub reached_are_unsatisfiable : ReachedAreUnsatisfiable
reached_are_unsatisfiable f lines places closed every v all =
    let e = is_closed (fold state_after_line (start f) lines).fault (fold state_after_line (start f) lines).closed closed in
    let R = IsReached (length f.clauses) lines in
    let next : (start f).next ≡ suc (length f.clauses) = omega (arith, keep-next (opening f.vars) f.clauses) in
    never v R (start f) (length f.clauses) lines next e.0 e.1 (start_open (opening f.vars) f.clauses)
    (true_from v R (opening f.vars) f.clauses
    (λ n r. subst (λ o. IfSome o (λ d. clause_true v d ≡ true)) (sym (get-empty nat_cmp n)) tt)
    (λ k below r. named_true v f.clauses places all k (every k below (subst R (omega arith) r))))
    (λ k r h among. Hinted k h r among) (First (length f.clauses + length (hints_used lines)) refl)
