-- Lines are counted one by one.
use Rattle.std.proofs.Common.{Some, ◌*◌, ◌≤◌, zero, suc, inl, inr, subst, cond, ◌≡◌, ℕ, ◌+◌, Bool, true, false, List, [], ◌∷◌, ◌++◌, length, take}
use Rattle.std.proofs.Common.{refl, sym, ◌∙◌, ap, arith, ◌<◌}
use Rattle.std.specs.Prelude.{count_by, slice_get, IfSome}
use Rattle.std.proofs.lemmas.List.{length_push, take-append-le, take_all}
use Rattle.std.proofs.lemmas.List.Sums.{fold-append, sum_by_push}
use Rattle.std.proofs.lemmas.Bool.{cases_lt, cases_eq}
use Rattle.std.proofs.lemmas.Option.{slice_get_past}
use Rattle.std.proofs.lemmas.List.Elements.{All-push}
use Rattle.cnf_core.specs.Clauses.{Formula}
use Rattle.refute_check.specs.Refutations.{start, state_after_line}
use Rattle.refute_check.specs.declared.line.Line.{Line}
use Rattle.cdcl_lines.specs.Lines.{added}
use Rattle.cdcl_core.specs.Searches.{adds, teaches, count_of_added, deletes, count_of_deleted, Spares, DeletesFew, IsRoomy, checked}

pub begins-push : (lines : List Line) (l : Line) → take (length lines) (lines ++ l ∷ []) ≡ lines
begins-push lines l = take-append-le (length lines) lines (l ∷ []) (omega arith) ∙ take_all (length lines) lines (omega arith)

more-yes : (p : Line → Bool) (lines : List Line) (l : Line) → p l ≡ true → count_by p (lines ++ l ∷ []) ≡ count_by p lines + 1
more-yes p lines l e =
    sum_by_push (λ x. cond (p x) 1 0) lines l ∙ ap (λ (b : Bool). let n : ℕ = cond b 1 0 in count_by p lines + n) e

more-no : (p : Line → Bool) (lines : List Line) (l : Line) → p l ≡ false → count_by p (lines ++ l ∷ []) ≡ count_by p lines
more-no p lines l e =
    let f : count_by p lines + 0 ≡ count_by p lines = omega arith in
    sum_by_push (λ x. cond (p x) 1 0) lines l ∙ ap (λ (b : Bool). let n : ℕ = cond b 1 0 in count_by p lines + n) e ∙ f

pub added-push : (lines : List Line) (l : Line) → teaches l ≡ true → count_of_added (lines ++ l ∷ []) ≡ count_of_added lines + 1
added-push lines l e = more-yes teaches lines l e

pub added-same : (lines : List Line) (l : Line) → teaches l ≡ false → count_of_added (lines ++ l ∷ []) ≡ count_of_added lines
added-same lines l e = more-no teaches lines l e

pub adds-push : (lines : List Line) (l : Line) → adds l ≡ true → count_by adds (lines ++ l ∷ []) ≡ count_by adds lines + 1
adds-push lines l e = more-yes adds lines l e

pub checked-push : (f : Formula) (lines : List Line) (l : Line) → checked f (lines ++ l ∷ []) ≡ state_after_line (checked f lines) l
checked-push f lines l = fold-append state_after_line (start f) lines (l ∷ [])

pub adds-same : (lines : List Line) (l : Line) → adds l ≡ false → count_by adds (lines ++ l ∷ []) ≡ count_by adds lines
adds-same lines l e = more-no adds lines l e

pub deleted-push : (lines : List Line) (l : Line) → count_of_deleted (lines ++ l ∷ []) ≡ count_of_deleted lines + deletes l
deleted-push lines l = sum_by_push deletes lines l

pub deleted-added : (lines : List Line) (l : Line) → deletes l ≡ 0 → count_of_deleted (lines ++ l ∷ []) ≡ count_of_deleted lines
deleted-added lines l e = omega (arith, deleted-push lines l, e)

-- what holds for each first part and for the whole holds for each first part of one more line
each-beginning : (P : List Line → Type 0) (lines : List Line) (l : Line) → ((k : ℕ) → P (take k lines)) → P (lines ++ l ∷ []) → (k : ℕ)
    → P (take k (lines ++ l ∷ []))
each-beginning P lines l old new k =
    elim (cases_lt k (length lines + 1)) [
      | inl h ↦ subst P (sym (take-append-le k lines (l ∷ []) (omega arith))) (old k)
      | inr h ↦ subst P (sym (take_all k (lines ++ l ∷ []) (omega (arith, length_push lines l)))) new
    ]

get-left : (lines : List Line) (line : Line) (k : ℕ) → k < length lines → slice_get (lines ++ line ∷ []) k ≡ slice_get lines k
get-left [] line k h = absurd (omega arith)
get-left (l ∷ lines) line zero h = refl
get-left (l ∷ lines) line (suc k) h = get-left lines line k (omega arith)

get-last : (lines : List Line) (line : Line) (k : ℕ) → k ≡ length lines → slice_get (lines ++ line ∷ []) k ≡ Some line
get-last [] line zero e = refl
get-last [] line (suc k) e = absurd (omega arith)
get-last (l ∷ lines) line zero e = absurd (omega arith)
get-last (l ∷ lines) line (suc k) e = get-last lines line k (omega arith)

-- what holds for each line after those before it holds with one more line
each-line : (P : List Line → Line → Type 0) (lines : List Line) (line : Line) → ((k : ℕ) → IfSome (slice_get lines k) (λ l. P (take k lines) l))
    → P lines line → (k : ℕ) → IfSome (slice_get (lines ++ line ∷ []) k) (λ l. P (take k (lines ++ line ∷ [])) l)
each-line P lines line old new k =
    elim (cases_lt k (length lines)) [
      | inl d ↦ subst (λ o. IfSome o (λ l. P (take k (lines ++ line ∷ [])) l)) (sym (get-left lines line k d))
          (subst (λ (xs : List Line). IfSome (slice_get lines k) (λ l. P xs l)) (sym (take-append-le k lines (line ∷ []) (omega arith))) (old k))
      | inr d ↦ elim (cases_eq k (length lines)) [
        | inl e ↦ subst (λ o. IfSome o (λ l. P (take k (lines ++ line ∷ [])) l)) (sym (get-last lines line k e))
            (subst (λ (xs : List Line). P xs line) (sym (take-append-le k lines (line ∷ []) (omega arith) ∙ take_all k lines d)) new)
        | inr e ↦ subst (λ o. IfSome o (λ l. P (take k (lines ++ line ∷ [])) l))
            (sym (slice_get_past (lines ++ line ∷ []) k (omega (arith, length_push lines line)))) tt
      ]
    ]

pub few-push : (f : Formula) (lines : List Line) (l : Line) → DeletesFew f lines → Spares (length f.clauses) l
    → 2 * count_of_deleted (lines ++ l ∷ []) ≤ count_by adds (lines ++ l ∷ []) → (adds l ≡ true → IsRoomy f.vars lines) → DeletesFew f (lines ++ l ∷ [])
few-push f lines l h s n r = record {
  spares = All-push (Spares (length f.clauses)) lines l h.spares s;
  few = each-beginning (λ (xs : List Line). 2 * count_of_deleted xs ≤ count_by adds xs) lines l h.few n;
  roomy = each-line (λ (xs : List Line) (m : Line). adds m ≡ true → IsRoomy f.vars xs) lines l h.roomy r;
}

pub whole-few : (f : Formula) (lines : List Line) → DeletesFew f lines → 2 * count_of_deleted lines ≤ count_by adds lines
whole-few f lines h = subst (λ (xs : List Line). 2 * count_of_deleted xs ≤ count_by adds xs) (take_all (length lines) lines (omega arith)) (h.few (length lines))

pub few-added : (f : Formula) (lines : List Line) (ls hs : List ℕ) → DeletesFew f lines → IsRoomy f.vars lines
    → DeletesFew f (lines ++ added ls hs ∷ [])
few-added f lines ls hs h r =
    few-push f lines (added ls hs) h tt
    (omega (arith, whole-few f lines h, deleted-added lines (added ls hs) refl, adds-push lines (added ls hs) refl))
    (λ e. r)

none-taken : (k : ℕ) → 2 * count_of_deleted (take k []) ≤ count_by adds (take k [])
none-taken zero = omega arith
none-taken (suc k) = omega arith

none-there : (f : Formula) (k : ℕ) → IfSome (slice_get [] k) (λ l. adds l ≡ true → IsRoomy f.vars (take k []))
none-there f k = subst (λ o. IfSome o (λ l. adds l ≡ true → IsRoomy f.vars (take k []))) (sym (slice_get_past [] k (omega arith))) tt

pub few-none : (f : Formula) → DeletesFew f []
few-none f = record { spares = λ k d h. absurd (omega (arith, h)); few = λ k. none-taken k; roomy = λ k. none-there f k }
