-- Logs within bounds aren't left out, and those that aren't new are within smaller bounds.
use Rattle.std.proofs.Common.{◌≡◌, ◌∙◌, ℕ, zero, suc, ◌<◌, ◌≤◌, Bool, true, false, ◌||◌, ◌==◌, List, [], ◌∷◌, length, refl, sym, arith}
use Rattle.std.specs.Prelude.{nat_lt, nat_le}
use Rattle.std.specs.List.{All, list_any}
use Rattle.std.proofs.lemmas.Bool.{false≢true, false_from_ne_true, leb-false, ltb-true, or_parts}
use Rattle.std.proofs.lemmas.List.Elements.{All-weaker, All-head, All-tail, All-cons, All-nil}
use Rattle.std.proofs.lemmas.List.Folds.{list_any_none}
use Rattle.tc_base.specs.Paths.{ThreadPath}
use Rattle.tc_code.specs.Code.{Code}
use Rattle.tc_code.specs.tc_limits.declared.limits.TheConstants.{DEPTH, STEPS, THREADS}
use Rattle.log_walk.specs.Given.{IsLeftOut, IsOne, IsWithin, has_many_outcomes, has_many_steps, is_deep}
use Rattle.log_walk.specs.Given.IsLeftOut.{Outcomes, Steps, Depth, Threads}
use Rattle.log_walk.specs.declared.bounds.Bounds.{Bounds}
use Rattle.log_walk.specs.declared.bounds.Kind.{Kind}
use Rattle.log_walk.specs.declared.bounds.LeftOut.{LeftOut}

not_more : (a b : ℕ) → b ≤ a → nat_lt a b ≡ false
not_more a b le = false_from_ne_true (nat_lt a b) (λ e. let less = ltb-true a b e in omega (arith, less, le))

none_of : (p : ThreadPath → Bool) (most : ℕ) → ((t : ThreadPath) → IsWithin most t → p t ≡ false) → (ts : List ThreadPath)
    → All (IsWithin most) ts → list_any p ts ≡ true → ⊥
none_of p most isnt ts within e =
    false≢true (sym (list_any_none p ts (All-weaker (IsWithin most) (λ t. p t ≡ false) isnt ts within)) ∙ e)

-- threads within the bounds aren't left out
pub one_is_in : (code : Code) (bounds : Bounds) (out : LeftOut) (ts : List ThreadPath) → IsOne code bounds ts
    → IsLeftOut bounds.most THREADS out ts → ⊥
one_is_in code bounds out ts one (Outcomes told is) =
    none_of (has_many_outcomes bounds.most) bounds.most (λ t w. not_more bounds.most (length t.path.outcomes) w.outcomes) ts one.within is
one_is_in code bounds out ts one (Steps told is) =
    none_of has_many_steps bounds.most (λ t w. not_more STEPS t.path.steps w.steps) ts one.within is
one_is_in code bounds out ts one (Depth told is) =
    none_of is_deep bounds.most (λ t w. not_more DEPTH (length t.name) w.depth) ts one.within is
one_is_in code bounds out ts one (Threads told is) = omega (arith, one.few, is)

-- threads within the bounds are within greater ones
pub one_in_more : (code : Code) (kind : Kind) (most more : ℕ) (ts : List ThreadPath) → most ≤ more
    → IsOne code (record { kind = kind; most = most }) ts → IsOne code (record { kind = kind; most = more }) ts
one_in_more code kind most more ts le one = record {
  makes_up = one.makes_up;
  few = one.few;
  within = All-weaker (IsWithin most) (IsWithin more) (λ t w. record { outcomes = omega (arith, le, w.outcomes); steps = w.steps; depth = w.depth })
      ts one.within;
}

none_more : (n : ℕ) (ts : List ThreadPath) → All (IsWithin (suc n)) ts → list_any (λ t. nat_le (suc n) (length t.path.outcomes)) ts ≡ false
    → All (IsWithin n) ts
none_more n [] within e = All-nil (IsWithin n)
none_more n (t ∷ ts) within e =
    by (λ g. none_more n ts (All-tail (IsWithin (suc n)) t ts within) g) (nat_le (suc n) (length t.path.outcomes)) refl e
  where
    head : IsWithin (suc n) t
    head = All-head (IsWithin (suc n)) t ts within

    by : (list_any (λ u. nat_le (suc n) (length u.path.outcomes)) ts ≡ false → All (IsWithin n) ts) → (b : Bool)
        → nat_le (suc n) (length t.path.outcomes) ≡ b
        → (b || list_any (λ u. nat_le (suc n) (length u.path.outcomes)) ts) ≡ false → All (IsWithin n) (t ∷ ts)
    by rest true is e = absurd (false≢true (sym e))
    by rest false is e =
        let less = leb-false (suc n) (length t.path.outcomes) is in
        All-cons (IsWithin n) t ts (record { outcomes = omega (arith, less); steps = head.steps; depth = head.depth }) (rest e)

-- threads of which none has as many outcomes as the bound allows are within a smaller one
pub old_is_below : (code : Code) (kind : Kind) (level : ℕ) (ts : List ThreadPath) → IsOne code (record { kind = kind; most = level }) ts
    → (level == 0 || list_any (λ t. nat_le level (length t.path.outcomes)) ts) ≡ false
    → (less : ℕ) × (less < level) × IsOne code (record { kind = kind; most = less }) ts
old_is_below code kind zero ts one e = absurd (false≢true (sym e))
old_is_below code kind (suc n) ts one e =
    (n, omega arith, record { makes_up = one.makes_up; few = one.few; within = none_more n ts one.within (or_parts (suc n == 0) (list_any (λ t. nat_le (suc n) (length t.path.outcomes)) ts) e).1 })
