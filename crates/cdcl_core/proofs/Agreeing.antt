-- The kept clauses and the lines stay in agreement.
use Rattle.std.proofs.Common.{◌≡◌, ℕ, ◌+◌, ◌*◌, ◌<◌, Bool, true, false, List, [], ◌∷◌, ◌++◌, length, refl, sym, ◌∙◌, ap, subst, arith}
use Rattle.std.specs.Prelude.{Contains, All, ◌||◌}
use Rattle.std.proofs.lemmas.List.{length_push}
use Rattle.cnf_core.specs.Clauses.{Formula}
use Rattle.refute_check.specs.Refutations.{Checking, state_after_pass}
use Rattle.refute_check.specs.list_laws.Lists.{is_nil}
use Rattle.refute_check.specs.declared.line.Line.{Line}
use Rattle.cdcl_clauses.specs.Clauses.{Clause}
use Rattle.cdcl_clauses.specs.Invariants.{AreSame}
use Rattle.cdcl_learn.specs.Shown.{Shows}
use Rattle.cdcl_lines.specs.Literals.{clause_of, Rise}
use Rattle.cdcl_lines.specs.Lines.{added}
use Rattle.cdcl_lines.specs.Keeping.{Represents}
use Rattle.cdcl_clauses.specs.Clauses.{kept_clause}
use Rattle.cdcl_lines.specs.Fresh.{IsFresh, IsFreshLine}
use Rattle.cdcl_lines.proofs.Representing.{same-represented, shown-passes}
use Rattle.cdcl_lines.proofs.Formulas.{keeps-on}
use Rattle.cdcl_lines.proofs.Freshness.{fresh-goes_on}
use Rattle.cdcl_core.specs.Searches.{IsRoomy, checked, teaches}
use Rattle.tc_limits.specs.declared.limits.TheConstants.{BUDGET}
use Rattle.cdcl_core.specs.helpers.States.{BelongTogether, Ended, HasBound}
use Rattle.cdcl_core.proofs.Tallying.{kept-same, kept-push}
use Rattle.cdcl_core.proofs.Counts.{checked-push, added-push, added-same, adds-push, deleted-added, few-added}

-- the watched literals don't matter
pub agree-same : (f : Formula) (cs : List Clause) (lines : List Line) (n d : ℕ) → BelongTogether f cs lines n d → (ds : List Clause) → AreSame cs ds
    → BelongTogether f ds lines n d
agree-same f cs lines n d a ds e = record {
  few = a.few;
  given = a.given;
  count = e.count ∙ a.count;
  keeps = (keeps-on f.clauses cs a.keeps).0 ds e;
  represents = same-represented cs ds (checked f lines) a.represents e;
  vars = a.vars;
  unclosed = a.unclosed;
  counted = a.counted;
  not_empty = a.not_empty;
  many = a.many;
  deleted = a.deleted;
  half = a.half;
  bound = a.bound;
  kept = omega (arith, kept-same cs ds e, e.count, a.kept);
  short = a.short;
  fresh = a.fresh;
  few_deleted = a.few_deleted;
}

-- a clause with a literal is not empty
some-literal : (ls : List ℕ) (a : ℕ) → Contains ls a → (x : ℕ) × (xs : List ℕ) × (ls ≡ x ∷ xs)
some-literal [] a c = absurd (omega (arith, c.1))
some-literal (x ∷ xs) a c = (x, xs, refl)

pub teaches-added : (ls hs : List ℕ) (a : ℕ) → Contains ls a → teaches (added ls hs) ≡ true
teaches-added ls hs a c =
    let (x, xs, e) = some-literal ls a c in
    ap (λ (ys : List ℕ). teaches (added ys hs)) e

not-nil : (ls : List ℕ) (a : ℕ) → Contains ls a → is_nil (clause_of ls) ≡ false
not-nil ls a c = let (x, xs, e) = some-literal ls a c in ap (λ (ys : List ℕ). is_nil (clause_of ys)) e

-- the checker's state after a line that passes
pub checked-added : (f : Formula) (cs : List Clause) (lines : List Line) (n d : ℕ) → BelongTogether f cs lines n d → (ls hs : List ℕ)
    → All (λ l. l < 2 * f.vars) ls → Rise ls → Shows cs ls hs → checked f (lines ++ added ls hs ∷ []) ≡ state_after_pass (checked f lines) (added ls hs)
checked-added f cs lines n d a ls hs w r s =
    let w' : All (λ l. l < 2 * (checked f lines).vars) ls = subst (λ (v : ℕ). All (λ l. l < 2 * v) ls) (sym a.vars) w in
    let p = shown-passes cs (checked f lines) ls hs a.represents w' r s in
    checked-push f lines (added ls hs) ∙ p.0.leaves

fresh-line : (f : Formula) (lines : List Line) (ls hs : List ℕ) (a : ℕ) → Contains ls a → IsFresh (checked f lines).kept (clause_of ls)
    → IsFreshLine (checked f lines).kept (added ls hs)
fresh-line f lines [] hs a c h = absurd (omega (arith, c.1))
fresh-line f lines (x ∷ xs) hs a c h = h

is-roomy : (f : Formula) (cs : List Clause) (lines : List Line) (n d : ℕ) → BelongTogether f cs lines n d → HasBound f.vars n d → IsRoomy f.vars lines
is-roomy f cs lines n d a bound = omega (arith, a.not_empty, a.deleted, bound)

-- a learnt clause and its line are added on both sides
pub agree-learnt : (f : Formula) (cs : List Clause) (lines : List Line) (n d : ℕ) → BelongTogether f cs lines n d → n < BUDGET → HasBound f.vars n d
    → (ls hs : List ℕ) (a b : ℕ)
    → All (λ l. l < 2 * f.vars) ls → Rise ls → Shows cs ls hs → Contains ls a → IsFresh (checked f lines).kept (clause_of ls)
    → BelongTogether f (cs ++ kept_clause ls a b ∷ []) (lines ++ added ls hs ∷ []) (n + 1) d
agree-learnt f cs lines n d a room bound ls hs x y w r s c new =
    let w' : All (λ l. l < 2 * (checked f lines).vars) ls = subst (λ (v : ℕ). All (λ l. l < 2 * v) ls) (sym a.vars) w in
    let p = shown-passes cs (checked f lines) ls hs a.represents w' r s in
    let e : checked f (lines ++ added ls hs ∷ []) ≡ state_after_pass (checked f lines) (added ls hs) = checked-added f cs lines n d a ls hs w r s in
    record {
      few = a.few;
      given = a.given;
      count = omega (arith, length_push cs (kept_clause ls x y), a.count);
      keeps = (keeps-on f.clauses cs a.keeps).1 (kept_clause ls x y);
      represents = subst (λ (t : Checking). Represents (cs ++ kept_clause ls x y ∷ []) t) (sym e) (p.1 x y);
      vars = ap (λ (t : Checking). t.vars) e ∙ a.vars;
      unclosed = ap (λ (t : Checking). t.closed) e ∙ ap (λ (b : Bool). b || is_nil (clause_of ls)) a.unclosed ∙ not-nil ls x c;
      counted = omega (arith, added-push lines (added ls hs) (teaches-added ls hs x c), a.counted);
      not_empty = omega (arith, adds-push lines (added ls hs) refl, a.not_empty);
      many = omega (arith, room);
      deleted = a.deleted ∙ sym (deleted-added lines (added ls hs) refl);
      half = omega (arith, a.half);
      bound = omega (arith, bound);
      kept = omega (arith, kept-push cs (kept_clause ls x y) refl, length_push cs (kept_clause ls x y), a.kept);
      short = omega (arith, length_push lines (added ls hs), a.short);
      few_deleted = few-added f lines ls hs a.few_deleted (is-roomy f cs lines n d a bound);
      fresh = fresh-goes_on f lines (added ls hs) a.fresh (fresh-line f lines ls hs x c new);
    }

-- a line that adds the empty clause ends the derivation
pub ended : (f : Formula) (cs : List Clause) (lines : List Line) (n d : ℕ) → BelongTogether f cs lines n d → HasBound f.vars n d
    → (ls hs : List ℕ) → ls ≡ [] → Rise ls → Shows cs ls hs
    → Ended f (lines ++ added ls hs ∷ []) n
ended f cs lines n d a bound ls hs e r s =
    let w : All (λ l. l < 2 * f.vars) ls = λ k d h. absurd (omega (arith, h, ap length e)) in
    let g : checked f (lines ++ added ls hs ∷ []) ≡ state_after_pass (checked f lines) (added ls hs) = checked-added f cs lines n d a ls hs w r s in
    let line : added ls hs ≡ added [] hs = ap (λ (xs : List ℕ). added xs hs) e in
    record {
      passes = ap (λ (t : Checking). t.fault) g ∙ a.represents.fault;
      closed = ap (λ (t : Checking). t.closed) g ∙ ap (λ (b : Bool). b || is_nil (clause_of ls)) a.unclosed ∙ ap (λ (xs : List ℕ). is_nil (clause_of xs)) e;
      counted = a.counted ∙ sym (added-same lines (added ls hs) (ap teaches line));
      many = a.many;
      few_deleted = few-added f lines ls hs a.few_deleted (is-roomy f cs lines n d a bound);
      fresh = fresh-goes_on f lines (added ls hs) a.fresh (subst (λ (l : Line). IsFreshLine (checked f lines).kept l) (sym line) tt);
    }
