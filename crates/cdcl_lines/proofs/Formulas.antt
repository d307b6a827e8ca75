-- A formula's clauses stay kept.
use Rattle.std.proofs.Common.{◌≡◌, ◌≢◌, ℕ, ◌<◌, ◌≤◌, false, List, [], ◌∷◌, ◌++◌, length, ℤ, Option, Some, None, inl, inr, refl, sym, ◌∙◌, ap, subst, arith}
use Rattle.std.specs.Prelude.{All, slice_get, IfSome, fold}
use Rattle.std.proofs.lemmas.Bool.{cases_lt, cases_eq}
use Rattle.std.proofs.lemmas.List.{length_push, get_or_past, get_or-set_other}
use Rattle.std.proofs.lemmas.List.Elements.{All-head, All-tail}
use Rattle.std.proofs.lemmas.Option.{slice_get_past, slice_get_within, none-some}
use Rattle.cdcl_learn.specs.cdcl_clauses.Clauses.{Clause, at, no_clause}
use Rattle.cdcl_lines.specs.Literals.{clause_of}
use Rattle.cdcl_lines.specs.Keeping.{as_kept, KeepsAll, KeepsOneMore, KeepsOn}
use Rattle.cdcl_learn.specs.cdcl_clauses.Clauses.{dropped}
use Rattle.cdcl_learn.specs.cdcl_clauses.Clauses.{kept_clause}
use Rattle.cdcl_lines.proofs.Representing.{at-more, as_kept-same}
use Rattle.cdcl_lines.proofs.Members.{slice_get-left, slice_get-last}

some-at : (o : Option (List ℤ)) (P : List ℤ → Type 0) → ((c : List ℤ) → o ≡ Some c → P c) → IfSome o P
some-at None P f = tt
some-at (Some c) P f = f c refl

at-some : (o : Option (List ℤ)) (P : List ℤ → Type 0) (c : List ℤ) → o ≡ Some c → IfSome o P → P c
at-some o P c e h = subst (λ (o : Option (List ℤ)). IfSome o P) e h

-- the clause at an index is unchanged
moved : (clauses : List (List ℤ)) (cs ds : List Clause) → ((k : ℕ) → k < length clauses → as_kept (at cs k) ≢ None → as_kept (at ds k) ≡ as_kept (at cs k))
    → KeepsAll clauses cs → KeepsAll clauses ds
moved clauses cs ds f h k =
    some-at (slice_get clauses k) (λ c. as_kept (at ds k) ≡ Some c)
    (λ c e.
    let g : as_kept (at cs k) ≡ Some c = at-some (slice_get clauses k) (λ c. as_kept (at cs k) ≡ Some c) c e (h k) in
    f k (slice_get_within clauses k c e) (λ n. none-some c (sym n ∙ g)) ∙ g)

pub keeps-one_more : KeepsOneMore
keeps-one_more clauses cs literals first second h e k =
    let c : Clause = kept_clause literals first second in
    elim (cases_lt k (length clauses)) [
      | inl d ↦ subst (λ (o : Option (List ℤ)). IfSome o (λ x. as_kept (at (cs ++ c ∷ []) k) ≡ Some x)) (sym (slice_get-left clauses (clause_of literals) k d))
          (elim (at-more cs c k) [
            | inl f ↦ absurd (omega (arith, f.0, d, e))
            | inr f ↦ subst (λ (x : Clause). IfSome (slice_get clauses k) (λ z. as_kept x ≡ Some z)) (sym f.1) (h k)
          ])
      | inr d ↦ elim (cases_eq k (length clauses)) [
        | inl f ↦ subst (λ (o : Option (List ℤ)). IfSome o (λ x. as_kept (at (cs ++ c ∷ []) k) ≡ Some x))
            (sym (slice_get-last clauses (clause_of literals) k f))
            (elim (at-more cs c k) [
              | inl g ↦ ap as_kept g.1
              | inr g ↦ absurd (g.0 (f ∙ sym e))
            ])
        | inr f ↦ subst (λ (o : Option (List ℤ)). IfSome o (λ x. as_kept (at (cs ++ c ∷ []) k) ≡ Some x))
            (sym (slice_get_past (clauses ++ clause_of literals ∷ []) k (omega (arith, d, f, length_push clauses (clause_of literals))))) tt
      ]
    ]

past-none : (cs : List Clause) (k : ℕ) → k ≡ length cs → as_kept (at cs k) ≡ None
past-none cs k e = ap as_kept (get_or_past cs k no_clause (omega arith))

keeps-dropped : (clauses : List (List ℤ)) (ks : List ℕ) (cs : List Clause) → KeepsAll clauses cs → All (λ k. length clauses ≤ k) ks
    → KeepsAll clauses (fold dropped cs ks)
keeps-dropped clauses [] cs h b = h
keeps-dropped clauses (k ∷ ks) cs h b =
    let low : length clauses ≤ k = All-head (λ k. length clauses ≤ k) k ks b in
    keeps-dropped clauses ks (dropped cs k)
    (moved clauses cs (dropped cs k)
    (λ j jl n. ap as_kept (get_or-set_other cs k j (record (at cs k) { kept = false }) no_clause (omega arith))) h)
    (All-tail (λ k. length clauses ≤ k) k ks b)

pub keeps-on : KeepsOn
keeps-on clauses cs h = (
  λ ds a. moved clauses cs ds (λ k kl n. as_kept-same cs ds a k) h,
  λ c. moved clauses cs (cs ++ c ∷ []) (λ k kl n. elim (at-more cs c k) [
    | inl e ↦ absurd (n (past-none cs k e.0))
    | inr e ↦ ap as_kept e.1
  ]) h,
  λ ks b. keeps-dropped clauses ks cs h b,
)
