-- Formulas that are extended step by step.
use Rattle.std.proofs.Common.{◌≡◌, ℕ, suc, ◌+◌, ◌-◌, ◌<◌, ◌≤◌, List, ℤ, sym, ap, ◌∙◌, refl, arith, Bool, true}
use Rattle.std.specs.Prelude.{if◌then◌else◌}
use Rattle.std.specs.List.{All, flat_map}
use Rattle.std.proofs.lemmas.Bool.{and_from, le-leb, lt-leb}
use Rattle.cnf_core.specs.Clauses.{Formula, Valuation, satisfies}
use Rattle.cnf_core.specs.Gates.{Agree}
use Rattle.cnf_core.proofs.GateLaws.{satisfies-agree}
use Rattle.bit_gates.specs.Extended.{IsExtended}
use Rattle.bit_gates.specs.Laws.{IsGrown, IsModel, IsOf}
use Rattle.bit_gates.proofs.Extended.{gates-extend}
use Rattle.bit_order.specs.Clauses.{folded_clause}
use Rattle.bit_blast.specs.Reads.{with_clauses}
use Rattle.bit_blast.proofs.Clauses.{with_over, with_satisfied}
use Rattle.bit_blast.proofs.Prefixes.{before_grown, first_part}
use Rattle.bit_blast.proofs.Taken.{within_wider}
use Rattle.mutex_states.specs.Extending.{Extends, valued}

-- a property of the values of the first variables
abbrev pub IsKept : ℕ → (Valuation → Type 0) → Type 0
IsKept n P = (v w : Valuation) → Agree n v w → P v → P w

pub agree_again : (n m : ℕ) (u v w : Valuation) → n ≤ m → Agree n u v → Agree m v w → Agree n u w
agree_again n m u v w less a b = λ k below. a k below ∙ b k (omega (arith, below, less))

pub same : (P : Valuation → Type 0) (f : Formula) → Extends P f P f
same P f = record {
  more = omega arith;
  over = λ o. o;
  before = λ w s. s;
  extends = λ v o m p. (v, m, λ k below. refl, p);
}

pub and_then : (P Q R : Valuation → Type 0) (f g h : Formula) → Extends P f Q g → Extends Q g R h → Extends P f R h
and_then P Q R f g h a b = record {
  more = omega (arith, a.more, b.more);
  over = λ o. b.over (a.over o);
  before = λ w s. a.before w (b.before w s);
  extends = λ v o m p.
      let x = a.extends v o m p in
      let y = b.extends x.0 (a.over o) x.1 x.3 in
      (y.0, y.1, agree_again f.vars g.vars v x.0 y.0 a.more x.2 y.2, y.3);
}

pub weaker : (P Q R S : Valuation → Type 0) (f g : Formula) → ((v : Valuation) → IsModel v f → R v → P v) → ((v : Valuation) → IsModel v g → Q v → S v)
    → Extends P f Q g → Extends R f S g
weaker P Q R S f g before after e = record {
  more = e.more;
  over = e.over;
  before = e.before;
  extends = λ v o m r. let x = e.extends v o m (before v m r) in (x.0, x.1, x.2, after x.0 x.1 x.3);
}

-- what is kept holds of the extension too
pub keeping : (P Q R : Valuation → Type 0) (f g : Formula) → IsKept f.vars R → Extends P f Q g → Extends (λ v. P v × R v) f (λ v. Q v × R v) g
keeping P Q R f g kept e = record {
  more = e.more;
  over = e.over;
  before = e.before;
  extends = λ v o m p. let x = e.extends v o m p.0 in (x.0, x.1, x.2, (x.3, kept v x.0 x.2 p.1));
}

-- gates have values in every model
pub by_gates : (P : Valuation → Type 0) (f g : Formula) → 0 < f.vars → IsKept f.vars P → IsGrown f g → Extends P f P g
by_gates P f g one kept grown =
    let e : IsExtended f g = gates-extend f g one grown in
    record {
      more = e.more;
      over = e.over;
      before = λ w s. before_grown w f g grown s;
      extends = λ v o m p. let x = e.extends v o m in (x.0, x.1, x.2, kept v x.0 x.2 p);
    }

-- clauses that hold
pub by_clauses : (P : Valuation → Type 0) (f : Formula) (lists : List (List ℤ)) → All (All (IsOf f.vars)) lists
    → ((v : Valuation) → IsModel v f → P v → satisfies v lists ≡ true) → Extends P f P (with_clauses f lists)
by_clauses P f lists there hold = record {
  more = omega arith;
  over = λ o. with_over f lists there o;
  before = λ w s. first_part w f.clauses (flat_map folded_clause lists) s;
  extends = λ v o m p. (
    v,
    record { one = m.one; all = with_satisfied v f lists m.one there ∙ and_from _ _ m.all (hold v m p) },
    λ k below. refl,
    p,
  );
}

abbrev pub widened : Formula → ℕ → Formula
widened f n = record { vars = f.vars + n; clauses = f.clauses }

-- new variables have the values that are wanted
pub valued_first : (v : Valuation) (n : ℕ) (value : ℕ → Bool) → Agree n v (valued v n value)
valued_first v n value k below = ap (λ b. if b then v k else value (k - suc n)) (sym (le-leb k n below))

pub valued_new : (v : Valuation) (n : ℕ) (value : ℕ → Bool) (k : ℕ) → valued v n value (suc n + k) ≡ value k
valued_new v n value k =
    let place : suc n + k - suc n ≡ k = omega arith in
    ap (λ b. if b then v (suc n + k) else value (suc n + k - suc n)) (lt-leb (suc n + k) n (omega arith)) ∙ ap value place

pub by_values : (P : Valuation → Type 0) (f : Formula) (n : ℕ) (value : ℕ → Bool) → 0 < f.vars → IsKept f.vars P
    → Extends P f (λ w. P w × ((k : ℕ) → w (suc f.vars + k) ≡ value k)) (widened f n)
by_values P f n value one kept = record {
  more = omega arith;
  over = λ o. within_wider f.vars (f.vars + n) f.clauses (omega arith) o;
  before = λ w s. s;
  extends = λ v o m p.
      let w : Valuation = valued v f.vars value in
      let agree : Agree f.vars v w = valued_first v f.vars value in (
        w,
        record { one = sym (agree 1 (omega (arith, one))) ∙ m.one; all = sym (satisfies-agree f.vars v w f.clauses agree o) ∙ m.all },
        agree,
        (kept v w agree p, λ k. valued_new v f.vars value k),
      );
}
