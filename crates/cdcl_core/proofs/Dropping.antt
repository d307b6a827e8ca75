-- Learnt clauses are deleted.
use Rattle.cdcl_core.proofs.Tallying.{kept-dropped, kept-le, marked-more, none-marked}
use Rattle.std.proofs.Common.{◌≡◌, ℕ, suc, ◌+◌, ◌*◌, ◌<◌, ◌≤◌, Bool, true, false, Some, None, List, [], ◌∷◌, ◌++◌, map, length, take, get_or}
use Rattle.std.proofs.Common.{set, inl, inr, refl, sym, ◌∙◌, ap, subst, arith, length-set, replicate}
use Rattle.std.specs.Prelude.{All, fold, not, count_by, ◌&&◌}
use Rattle.std.proofs.lemmas.Bool.{cases_lt, cases_eq, not-false}
use Rattle.std.proofs.lemmas.Option.{none-some, same_Some}
use Rattle.std.proofs.lemmas.List.{length_push, length-map, get_or-map, take_more, get_or-set_same, get_or-set_other, length-replicate}
use Rattle.std.proofs.lemmas.List.Elements.{All-push}
use Rattle.std.proofs.lemmas.List.Quantifiers.{all_pairs_push}
use Rattle.std.proofs.lemmas.List.Sums.{fold-append}
use Rattle.cnf_core.specs.Clauses.{Formula}
use Rattle.refute_check.specs.Refutations.{Checking, state_after_pass}
use Rattle.refute_check.specs.declared.line.Line.{Line}
use Rattle.cdcl_trail.specs.Trail.{Trail}
use Rattle.cdcl_clauses.specs.Clauses.{Clause, at}
use Rattle.cdcl_lines.specs.Literals.{numbers_of}
use Rattle.cdcl_lines.specs.Lines.{deleted}
use Rattle.cdcl_lines.specs.Keeping.{Represents, CanDrop}
use Rattle.cdcl_clauses.specs.Clauses.{dropped}
use Rattle.cdcl_lines.proofs.Representing.{drop-passes, kept-within}
use Rattle.cdcl_lines.proofs.Formulas.{keeps-on}
use Rattle.cdcl_lines.proofs.Freshness.{fresh-goes_on}
use Rattle.cdcl_core.specs.Searches.{checked, adds, IsRoomy}
use Rattle.cdcl_core.specs.helpers.States.{BelongTogether, MayGo, MayAllGo, MarksReasons, IsLive, NoneMayGo}
use Rattle.cdcl_core.specs.declared.state.State.{State}
use Rattle.cdcl_core.proofs.Counts.{checked-push, added-same, adds-same, deleted-push, few-push}

length-dropped : (ks : List ℕ) (cs : List Clause) → length (fold dropped cs ks) ≡ length cs
length-dropped [] cs = refl
length-dropped (k ∷ ks) cs = length-dropped ks (dropped cs k) ∙ length-set cs k (record (at cs k) { kept = false })

pub can-drop : (s : State) (ks : List ℕ) → MayAllGo s ks → CanDrop s.clauses ks
can-drop s ks m = record {
  kept = λ k d h. (m.each k d h).kept;
  once = λ i j d ij jl e. omega (arith, m.rise i j d ij jl, e);
}

spares : (n : ℕ) (ks : List ℕ) → All (λ k. n ≤ k) ks → All (λ k. n < k) (numbers_of ks)
spares n ks a k d h =
    let kl : k < length ks = omega (arith, h, length-map ks suc) in
    let e : get_or (map suc ks) k d ≡ suc (get_or ks k 0) = get_or-map suc ks k 0 d kl in
    omega (arith, e, a k 0 kl)

pub agree-dropped : (f : Formula) (cs : List Clause) (lines : List Line) (n d : ℕ) → BelongTogether f cs lines n d → (ks : List ℕ) → CanDrop cs ks
    → All (λ k. length f.clauses ≤ k) ks → 0 < length ks → 2 * (d + length ks) ≤ n
    → BelongTogether f (fold dropped cs ks) (lines ++ deleted ks ∷ []) n (d + length ks)
agree-dropped f cs lines n d a ks c b some half =
    let p = drop-passes cs (checked f lines) ks a.represents c in
    let e : checked f (lines ++ deleted ks ∷ []) ≡ state_after_pass (checked f lines) (deleted ks) = checked-push f lines (deleted ks) ∙ p.0.leaves in
    let size : length (numbers_of ks) ≡ length ks = length-map ks suc in
    let no-add : adds (deleted ks) ≡ true → IsRoomy f.vars lines = λ g. absurd (let i : false ≡ true = g in cc) in
    record {
      few = a.few;
      given = a.given;
      count = length-dropped ks cs ∙ a.count;
      keeps = (keeps-on f.clauses cs a.keeps).2 ks b;
      represents = subst (λ (t : Checking). Represents (fold dropped cs ks) t) (sym e) p.1;
      vars = ap (λ (t : Checking). t.vars) e ∙ a.vars;
      unclosed = ap (λ (t : Checking). t.closed) e ∙ a.unclosed;
      counted = a.counted ∙ sym (added-same lines (deleted ks) refl);
      not_empty = a.not_empty ∙ sym (adds-same lines (deleted ks) refl);
      many = a.many;
      deleted = omega (arith, a.deleted, deleted-push lines (deleted ks), size);
      half = half;
      bound = omega (arith, a.bound);
      kept = omega (arith, kept-dropped ks cs c, length-dropped ks cs, a.kept);
      short = omega (arith, length_push lines (deleted ks), a.short, some);
      fresh = fresh-goes_on f lines (deleted ks) a.fresh tt;
      few_deleted = few-push f lines (deleted ks) a.few_deleted (spares (length f.clauses) ks b)
          (omega (arith, a.deleted, deleted-push lines (deleted ks), size, half, adds-same lines (deleted ks) refl, a.not_empty)) no-add;
    }

pub all-within : (s : State) (ks : List ℕ) → MayAllGo s ks → All (λ k. k < length s.clauses) ks
all-within s ks m = λ k d h. kept-within s.clauses (get_or ks k d) (m.each k d h).kept

-- the marks of the reasons at the first places
pub record MarksBelow (t : Trail) (n place : ℕ) (marks : List Bool) : Type 0 where
  pub size : length marks ≡ n
  pub few : count_by (λ b. b) marks ≤ place
  pub marked : (p k : ℕ) → p < place → get_or t.reasons p None ≡ Some k → get_or marks k false ≡ true

pub marks-more : (t : Trail) (n place : ℕ) (marks : List Bool) (r : ℕ) → MarksBelow t n place marks → get_or t.reasons place None ≡ Some r → r < n
    → MarksBelow t n (place + 1) (set marks r true)
marks-more t n place marks r m e h = record {
  size = length-set marks r true ∙ m.size;
  few = omega (arith, marked-more marks r (omega (arith, h, m.size)), m.few);
  marked = λ p k pl g. elim (cases_eq k r) [
    | inl f ↦ ap (λ (j : ℕ). get_or (set marks r true) j false) f ∙ get_or-set_same marks r true false (omega (arith, h, m.size))
    | inr f ↦ get_or-set_other marks r k true false f ∙ elim (cases_lt p place) [
      | inl d ↦ m.marked p k d g
      | inr d ↦ absurd (f (same_Some k r (sym g ∙ ap (λ (q : ℕ). get_or t.reasons q None) (let z : p ≡ place = omega arith in z) ∙ e)))
    ]
  ];
}

pub marks-none : (t : Trail) (n place : ℕ) (marks : List Bool) → MarksBelow t n place marks → get_or t.reasons place None ≡ None
    → MarksBelow t n (place + 1) marks
marks-none t n place marks m e = record {
  size = m.size;
  few = omega (arith, m.few);
  marked = λ p k pl g. elim (cases_lt p place) [
    | inl d ↦ m.marked p k d g
    | inr d ↦ absurd (none-some k (sym e ∙ ap (λ (q : ℕ). get_or t.reasons q None) (let z : place ≡ p = omega arith in z) ∙ g))
  ];
}

-- one more clause may be deleted
pub may-all-push : (s : State) (ks : List ℕ) (k : ℕ) → MayAllGo s ks → All (λ j. j < k) ks → MayGo s k → MayAllGo s (ks ++ k ∷ [])
may-all-push s ks k m below one = record {
  each = All-push (MayGo s) ks k m.each one;
  rise = all_pairs_push (λ i j. i < j) ks k m.rise (λ i d h. below i d h);
}

pub fold-step : (ks : List ℕ) (cs : List Clause) (i : ℕ) → i < length ks
    → fold dropped cs (take (i + 1) ks) ≡ dropped (fold dropped cs (take i ks)) (get_or ks i 0)
fold-step ks cs i h = ap (fold dropped cs) (take_more ks i 0 h) ∙ fold-append dropped cs (take i ks) (get_or ks i 0 ∷ [])

pub marks-start : (t : Trail) (n : ℕ) (marks : List Bool) → marks ≡ replicate n false → MarksBelow t n 0 marks
marks-start t n marks e = record {
  size = ap length e ∙ length-replicate n false;
  few = omega (arith, ap (count_by (λ b. b)) e, none-marked n);
  marked = λ p k h. absurd (omega (arith, h));
}

-- if none may be deleted, few are kept
pub few-where_none : (s : State) → IsLive s → (marks : List Bool) → MarksReasons s.trail (length s.clauses) marks → NoneMayGo s marks
    → s.added ≤ s.deleted + s.formula.vars
few-where_none s h marks m none =
    omega (
      arith,
      kept-le s.clauses marks (length s.formula.clauses) (omega (arith, h.agree.count)) m.size none,
      m.few,
      h.sound.lawful.few,
      h.variables,
      h.agree.kept,
      h.agree.count,
    )

pub marked-by : (s : State) (marks : List Bool) (k : ℕ) (b : Bool) → b ≡ ((at s.clauses k).kept && not (get_or marks k false)) → b ≡ false
    → (at s.clauses k).kept ≡ true → get_or marks k false ≡ true
marked-by s marks k b e f g = not-false (get_or marks k false) (sym (ap (λ (a : Bool). a && not (get_or marks k false)) g) ∙ sym e ∙ f)

pub alone : (s : State) (k : ℕ) → MayGo s k → MayAllGo s ([] ++ k ∷ [])
alone s k h = may-all-push s [] k (record { each = λ i d g. absurd (omega (arith, g)); rise = λ i j d ij jl. absurd (omega (arith, jl)) })
    (λ i d g. absurd (omega (arith, g))) h
