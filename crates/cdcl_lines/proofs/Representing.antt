-- A checker keeps the same clauses as a search.
use Rattle.std.proofs.Common.{
  ◌≡◌,
  ◌≢◌,
  ℕ,
  suc,
  ◌+◌,
  ◌*◌,
  ◌<◌,
  ◌⊎◌,
  true,
  false,
  cond,
  List,
  [],
  ◌∷◌,
  ◌++◌,
  map,
  length,
  Some,
  None,
  inl,
  inr,
  refl,
  sym,
  ◌∙◌,
  ap,
  subst,
  arith,
  length-set,
}
use Rattle.std.specs.Prelude.{All, is_some, fold, if◌then◌else◌, neg_ℤ}
use Rattle.std.specs.Ordering.{nat_cmp}
use Rattle.std.specs.FinMap.{get, insert, remove, get-empty}
use Rattle.std.proofs.lemmas.Bool.{cases_lt, cases_eq, false≢true, and_from, cond-true}
use Rattle.std.proofs.lemmas.List.{get_or_at, get_or_append_left, get_or_past, length_push}
use Rattle.std.proofs.lemmas.List.Elements.{All-head, All-contains}
use Rattle.refute_check.specs.Kept.{KeptClauses}
use Rattle.refute_check.specs.Refutations.{Checking, keep, state_after_verdict, state_after_pass, line_fault, hints_fault, can_delete, without_clauses}
use Rattle.refute_check.specs.declared.line.Line.{Line}
use Rattle.refute_check.specs.declared.verdict.CheckFault.TheVariants.{NoVariable, NoClause}
use Rattle.cnf_core.specs.Clauses.{is_within}
use Rattle.cdcl_literals.specs.Literals.{opposite_of}
use Rattle.cdcl_learn.specs.cdcl_clauses.Clauses.{Clause, at, no_clause}
use Rattle.cdcl_learn.specs.cdcl_clauses.Invariants.{AreSame}
use Rattle.cdcl_learn.specs.Shown.{Shows}
use Rattle.cdcl_lines.specs.Literals.{clause_of, numbers_of, Rise}
use Rattle.cdcl_lines.specs.Lines.{added, deleted}
use Rattle.cdcl_lines.specs.Keeping.{as_kept, Represents, Passes, OpeningIsRepresented, KeepIsRepresented, SameAreRepresented, ShownPasses, CanDrop, DropPasses}
use Rattle.cdcl_learn.specs.cdcl_clauses.Clauses.{dropped}
use Rattle.cdcl_learn.specs.cdcl_clauses.Clauses.{kept_clause}
use Rattle.cdcl_lines.proofs.Members.{contains-there, all-pairs-tail, all-pairs-head, all-from_contains}
use Rattle.cdcl_lines.proofs.Numbers.{within-there}
use Rattle.cdcl_lines.proofs.Maps.{get-new, get-old, get-gone, get-left}
use Rattle.cdcl_lines.proofs.Showing.{leads-pass, opposites}
use Rattle.cdcl_steps.proofs.cdcl_propagate.Links.{at-set}

pub opening-represented : OpeningIsRepresented
opening-represented vars = record {
  none = get-empty nat_cmp 0;
  same = λ k. get-empty nat_cmp (suc k);
  next = refl;
  fault = refl;
  rise = λ k h. absurd (false≢true h);
}

-- the clause at a place, with one more clause
pub at-more : (cs : List Clause) (c : Clause) (k : ℕ) → ((k ≡ length cs) × (at (cs ++ c ∷ []) k ≡ c)) ⊎ ((k ≢ length cs) × (at (cs ++ c ∷ []) k ≡ at cs k))
at-more cs c k =
    elim (cases_lt k (length cs)) [
      | inl d ↦ inr (omega arith, get_or_append_left cs (c ∷ []) no_clause k d)
      | inr d ↦ elim (cases_eq k (length cs)) [
        | inl e ↦ inl (e, get_or_at cs c [] no_clause k (sym e))
        | inr e ↦ inr (e, get_or_past (cs ++ c ∷ []) k no_clause (omega (arith, length_push cs c)) ∙ sym (get_or_past cs k no_clause d))
      ]
    ]

-- one more clause on both sides
represents-more : (cs : List Clause) (s u : Checking) (literals : List ℕ) (first second : ℕ) → Represents cs s → Rise literals
    → u.kept ≡ insert s.kept s.next (clause_of literals) → u.next ≡ s.next + 1 → u.fault ≡ s.fault
    → Represents (cs ++ kept_clause literals first second ∷ []) u
represents-more cs s u literals first second r rise ek en ef =
    let c : Clause = kept_clause literals first second in
    record {
      none = ap (λ (m : KeptClauses). get m 0) ek ∙ get-old s.kept s.next (clause_of literals) 0 (omega (arith, r.next)) ∙ r.none;
      same = λ k. ap (λ (m : KeptClauses). get m (suc k)) ek
          ∙ (elim (at-more cs c k) as (λ _. get (insert s.kept s.next (clause_of literals)) (suc k) ≡ as_kept (at (cs ++ c ∷ []) k)) [
            | inl e ↦ get-new s.kept s.next (clause_of literals) (suc k) (omega (arith, e.0, r.next)) ∙ sym (ap as_kept e.1)
            | inr e ↦ get-old s.kept s.next (clause_of literals) (suc k) (omega (arith, e.0, r.next)) ∙ r.same k ∙ sym (ap as_kept e.1)
          ]);
      next = omega (arith, en, r.next, length_push cs c);
      fault = ef ∙ r.fault;
      rise = λ k h. elim (at-more cs c k) [
        | inl e ↦ subst (λ (d : Clause). Rise d.literals) (sym e.1) rise
        | inr e ↦ subst (λ (d : Clause). Rise d.literals) (sym e.1) (r.rise k (sym (ap (λ (d : Clause). d.kept) e.1) ∙ h))
      ];
    }

pub keep-represented : KeepIsRepresented
keep-represented cs s literals first second r rise = represents-more cs s (keep s (clause_of literals)) literals first second r rise refl refl refl

pub as_kept-same : (cs ds : List Clause) → AreSame cs ds → (k : ℕ) → as_kept (at ds k) ≡ as_kept (at cs k)
as_kept-same cs ds a k = ap (λ b. cond b (Some (clause_of (at ds k).literals)) None) (a.kept k)
    ∙ ap (λ ls. cond (at cs k).kept (Some (clause_of ls)) None) (a.literals k)

pub same-represented : SameAreRepresented
same-represented cs ds s r a =
    record {
      none = r.none;
      same = λ k. r.same k ∙ sym (as_kept-same cs ds a k);
      next = r.next ∙ ap suc (sym a.count);
      fault = r.fault;
      rise = λ k h. subst (λ (ls : List ℕ). Rise ls) (sym (a.literals k)) (r.rise k (sym (a.kept k) ∙ h));
    }

-- the state after a line without a fault
pub passes-from : (s : Checking) (l : Line) → s.fault ≡ None → line_fault (s.line + 1) s.vars s.kept l ≡ None → Passes s l
passes-from s l f e = record {
  no_fault = e;
  leaves = ap (λ o. if is_some o then s else state_after_verdict (line_fault (s.line + 1) s.vars s.kept l) s l) f ∙ ap (λ o. state_after_verdict o s l) e;
}

shown-no_fault : (cs : List Clause) (s : Checking) (literals hints : List ℕ) → Represents cs s → All (λ l. l < 2 * s.vars) literals
    → Shows cs literals hints → line_fault (s.line + 1) s.vars s.kept (added literals hints) ≡ None
shown-no_fault cs s literals hints r w h =
    cond-true (is_within s.vars (clause_of literals)) (hints_fault (s.line + 1) s.kept (map neg_ℤ (clause_of literals)) (numbers_of hints))
    (Some (NoVariable (s.line + 1))) (within-there s.vars literals w)
    ∙ ap (λ g. hints_fault (s.line + 1) s.kept g (numbers_of hints)) (opposites literals)
    ∙ leads-pass (s.line + 1) cs s.kept r.same r.rise (map opposite_of literals) hints h

pub shown-passes : ShownPasses
shown-passes cs s literals hints r w rise h = (
  passes-from s (added literals hints) r.fault (shown-no_fault cs s literals hints r w h),
  λ first second. represents-more cs s (state_after_pass s (added literals hints)) literals first second r rise refl refl refl,
)

-- the clause at a place, after one was dropped
pub at-dropped : (cs : List Clause) (k j : ℕ) → k < length cs → ((j ≡ k) × (at (dropped cs k) j ≡ record (at cs k) { kept = false }))
    ⊎ ((j ≢ k) × (at (dropped cs k) j ≡ at cs j))
at-dropped cs k j h = at-set cs k j (record (at cs k) { kept = false }) h

-- a kept clause exists
pub kept-within : (cs : List Clause) (k : ℕ) → (at cs k).kept ≡ true → k < length cs
kept-within cs k h =
    elim (cases_lt k (length cs)) [
      | inl d ↦ d
      | inr d ↦ absurd (false≢true (sym (ap (λ (c : Clause). c.kept) (get_or_past cs k no_clause d)) ∙ h))
    ]

drop-represented : (cs : List Clause) (s : Checking) (k : ℕ) → Represents cs s → k < length cs
    → Represents (dropped cs k) (record s { kept = remove s.kept (suc k) })
drop-represented cs s k r h = record {
  none = get-left s.kept (suc k) 0 (omega arith) ∙ r.none;
  same = λ j. elim (at-dropped cs k j h) as (λ _. get (remove s.kept (suc k)) (suc j) ≡ as_kept (at (dropped cs k) j)) [
    | inl e ↦ get-gone s.kept (suc k) (suc j) (ap suc e.0) ∙ sym (ap as_kept e.1)
    | inr e ↦ get-left s.kept (suc k) (suc j) (omega (arith, e.0)) ∙ r.same j ∙ sym (ap as_kept e.1)
  ];
  next = r.next ∙ ap suc (sym (length-set cs k (record (at cs k) { kept = false })));
  fault = r.fault;
  rise = λ j f. elim (at-dropped cs k j h) [
    | inl e ↦ absurd (false≢true (sym (ap (λ (c : Clause). c.kept) e.1) ∙ f))
    | inr e ↦ subst (λ (d : Clause). Rise d.literals) (sym e.1) (r.rise j (sym (ap (λ (d : Clause). d.kept) e.1) ∙ f))
  ];
}

pub can_drop-tail : (cs : List Clause) (k : ℕ) (ks : List ℕ) → CanDrop cs (k ∷ ks) → CanDrop (dropped cs k) ks
can_drop-tail cs k ks c =
    let kept : (at cs k).kept ≡ true = All-head (λ j. (at cs j).kept ≡ true) k ks c.kept in
    record {
      kept = all-from_contains (λ j. (at (dropped cs k) j).kept ≡ true) ks
          (λ j m. elim (at-dropped cs k j (kept-within cs k kept)) [
            | inl e ↦ absurd (all-pairs-head (λ i j. i ≢ j) k ks j c.once m (sym e.0))
            | inr e ↦ ap (λ (d : Clause). d.kept) e.1 ∙ All-contains (λ i. (at cs i).kept ≡ true) (k ∷ ks) j c.kept (contains-there k ks j m)
          ]);
      once = all-pairs-tail (λ i j. i ≢ j) k ks c.once;
    }

pub drops : (ks : List ℕ) (cs : List Clause) (s : Checking) → Represents cs s → CanDrop cs ks
    → (can_delete s.kept (numbers_of ks) ≡ true) × Represents (fold dropped cs ks) (record s { kept = without_clauses s.kept (numbers_of ks) })
drops [] cs s r c = (refl, r)
drops (k ∷ ks) cs s r c =
    let kept : (at cs k).kept ≡ true = All-head (λ j. (at cs j).kept ≡ true) k ks c.kept in
    let there : get s.kept (suc k) ≡ Some (clause_of (at cs k).literals) = r.same k ∙ ap (λ b. cond b (Some (clause_of (at cs k).literals)) None) kept in
    let rest = drops ks (dropped cs k) (record s { kept = remove s.kept (suc k) }) (drop-represented cs s k r (kept-within cs k kept))
    (can_drop-tail cs k ks c) in
    (and_from (is_some (get s.kept (suc k))) (can_delete (remove s.kept (suc k)) (numbers_of ks)) (ap is_some there) rest.0, rest.1)

pub drop-passes : DropPasses
drop-passes cs s ks r c =
    let d = drops ks cs s r c in
    let e : line_fault (s.line + 1) s.vars s.kept (deleted ks) ≡ None = ap (λ b. cond b None (Some (NoClause (s.line + 1)))) d.0 in
    let p = d.1 in
    (passes-from s (deleted ks) r.fault e, record { none = p.none; same = p.same; next = p.next; fault = p.fault; rise = p.rise })
