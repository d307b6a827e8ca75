-- Marking backwards from the first empty clause marks exactly the reached clauses.
use Rattle.std.proofs.Common.{◌≡◌, ◌∙◌, ℕ, ◌+◌, ◌-◌, ◌<◌, ◌≤◌, List, [], length, refl, ap, sym, subst, arith, get_or, map, set, take, replicate, Bor}
use Rattle.std.proofs.Common.{Bool, true, false, inl, inr}
use Rattle.std.specs.List.{Contains}
use Rattle.std.proofs.Math.ListN.{get_or-eq_default}
use Rattle.std.proofs.Math.Nat.{eq-or-lt_of_le}
use Rattle.std.proofs.lemmas.Bool.{cases_eq, cases_lt, false≢true}
use Rattle.std.proofs.lemmas.List.{get_or-map, get_or-replicate, get_or-set_other, get_or-set_same, get_or-take, length-replicate, length-set, length-take-le}
use Rattle.cnf_core.specs.Clauses.{Formula}
use Rattle.refute_check.specs.declared.line.Line.{Line}
use Rattle.why_impossible.specs.refute_core.Reached.{AreReached, IsReached, First, Hinted, hints_used}
use Rattle.why_impossible.specs.refute_core.helpers.Marks.{AreMarked}

module _ (size : ℕ) (lines : List Line) where
  abbrev used : List (List ℕ)
  used = hints_used lines

  -- the clauses from a place on have marked their hints
  pub record AreSwept (marks : List Bool) (place : ℕ) : Type 0 where
    pub all : length marks ≡ size + length used
    pub reached : (n : ℕ) → get_or marks n false ≡ true → IsReached size lines (n + 1)
    pub first : (n : ℕ) → n + 1 ≡ size + length used → get_or marks n false ≡ true
    pub every : (k h : ℕ) → place ≤ k → get_or marks (size + k) false ≡ true → Contains (get_or used k []) (h + 1) → get_or marks h false ≡ true

  -- once all clauses have, each reached clause is marked
  pub all_swept : (marks : List Bool) → AreSwept marks 0 → (n : ℕ) → IsReached size lines n → (m : ℕ) → m + 1 ≡ n → get_or marks m false ≡ true
  all_swept marks are n (First k is) m at = are.first m (at ∙ is)
  all_swept marks are n (Hinted k j reached among) m at =
      are.every k m (omega arith) (all_swept marks are (size + k + 1) reached (size + k) refl)
      (subst (λ j. Contains (get_or used k []) j) (sym at) among)

  -- the hints of a clause are marked
  pub swept_more : (old new : List Bool) (place : ℕ) → ((k h : ℕ) → Contains (get_or used k []) h → (0 < h) × (h ≤ size + k)) → AreSwept old (place + 1)
      → get_or old (size + place) false ≡ true → AreMarked old (get_or used place []) new → AreSwept new place
  swept_more old new place earlier are marked more = record {
    all = more.all ∙ are.all;
    reached = λ n m. elim (more.only n m) [
      | inl before ↦ are.reached n before
      | inr among ↦ Hinted place (n + 1) (are.reached (size + place) marked) among
    ];
    first = λ n at. more.before n (are.first n at);
    every = λ k h from' m among. elim (eq-or-lt_of_le from') [
      | inl here ↦ more.these h (subst (λ j. Contains (get_or used j []) (h + 1)) (sym here) among)
      | inr behind ↦ more.before h (are.every k h (omega (arith, behind)) (elim (more.only (size + k) m) [
        | inl before ↦ before
        | inr named ↦ absurd (omega (arith, (earlier place (size + k + 1) named).1, behind))
      ]) among)
    ];
  }

  -- the same for the hints of the clause before a place
  pub swept_step : (old new : List Bool) (place : ℕ) (numbers : List ℕ) → ((k h : ℕ) → Contains (get_or used k []) h → (0 < h) × (h ≤ size + k))
      → 0 < place → AreSwept old place → get_or used (place - 1) [] ≡ numbers → get_or old (size + (place - 1)) false ≡ true → AreMarked old numbers new
      → AreSwept new (place - 1)
  swept_step old new place numbers earlier positive are of marked more =
      swept_more old new (place - 1) earlier (subst (AreSwept old) (omega (arith, positive)) are) marked
      (subst (λ (ns : List ℕ). AreMarked old ns new) (sym of) more)

  -- at first only the first empty clause is marked, which is the last
  abbrev pub one_mark : List Bool
  one_mark = set (replicate (size + length used) false) (size + length used - 1) true

  last_mark : (n : ℕ) → 0 < length used → n + 1 ≡ size + length used → get_or one_mark n false ≡ true
  last_mark n some at =
      subst (λ j. get_or one_mark j false ≡ true) (omega (arith, at))
      (get_or-set_same (replicate (size + length used) false) (size + length used - 1) true false
      (omega (arith, some, length-replicate (size + length used) false)))

  unmarked : (n : ℕ) → (n ≡ size + length used - 1 → ⊥) → get_or one_mark n false ≡ false
  unmarked n not =
      get_or-set_other (replicate (size + length used) false) (size + length used - 1) n true false not ∙ replicated n (size + length used)
    where
      replicated : (n m : ℕ) → get_or (replicate m false) n false ≡ false
      replicated n m = elim (cases_lt n m) [
        | inl below ↦ get_or-replicate m n false false below
        | inr past ↦ get_or-eq_default (replicate m false) false (omega (arith, past, length-replicate m false))
      ]

  only_last : (n : ℕ) → get_or one_mark n false ≡ true → n ≡ size + length used - 1
  only_last n m = elim (cases_eq n (size + length used - 1)) [ inl same ↦ same | inr other ↦ absurd (false≢true (sym (unmarked n other) ∙ m)) ]

  pub swept_none : (marks : List Bool) → 0 < length used → marks ≡ one_mark → AreSwept marks (length used)
  swept_none marks some is = subst (λ (ms : List Bool). AreSwept ms (length used)) (sym is) (record {
    all = length-set (replicate (size + length used) false) (size + length used - 1) true ∙ length-replicate (size + length used) false;
    reached = λ n m. First (n + 1) (omega (arith, only_last n m, some));
    first = λ n at. last_mark n some at;
    every = λ k h past m among. absurd (omega (arith, past, only_last (size + k) m, some));
  })

  pub swept_begin : (items : List Bool) (n k place : ℕ) → 0 < length used → items ≡ replicate n false → n ≡ size + length used → k ≡ n - 1
      → place ≡ length used → AreSwept (set items k true) place
  swept_begin items n k place some is many last at =
      subst (AreSwept (set items k true)) (sym at) (swept_none (set items k true) some
      (ap (λ ms. set ms k true) (is ∙ ap (λ m. replicate m false) many)
      ∙ ap (λ j. set (replicate (size + length used) false) j true) (last ∙ ap (λ m. m - 1) many)))

  -- the marks of the formula's clauses, which come first
  pub swept_first : (marks : List Bool) → AreSwept marks 0 → (f : Formula) → length f.clauses ≡ size → AreReached f lines (take size marks)
  swept_first marks are f many = record {
    all = length-take-le size marks (omega (arith, are.all)) ∙ sym many;
    reached = λ n m. subst (λ k. IsReached k lines (n + 1)) (sym many) (are.reached n (first_marks n m));
    every = λ n below is.
        get_or-take size marks n false (omega (arith, below, many))
        ∙ all_swept marks are (n + 1) (subst (λ k. IsReached k lines (n + 1)) many is) n refl;
  }
    where
      first_marks : (n : ℕ) → get_or (take size marks) n false ≡ true → get_or marks n false ≡ true
      first_marks n m = elim (cases_lt n size) [
        | inl below ↦ sym (get_or-take size marks n false below) ∙ m
        | inr past ↦ absurd (false≢true (sym (get_or-eq_default (take size marks) false
            (omega (arith, past, length-take-le size marks (omega (arith, are.all))))) ∙ m))
      ]

-- the hints of a place, through a reference
pub hints_at : (items : List (Bor (List ℕ))) (us : List (List ℕ)) (place : ℕ) (x : Bor (List ℕ)) → map (λ h. h.now) items ≡ us
    → x ≡ get_or items place x → place < length items → get_or us place [] ≡ x.now
hints_at items us place x of is below =
    ap (λ u. get_or u place []) (sym of) ∙ get_or-map (λ h. h.now) items place x [] below ∙ ap (λ (h : Bor (List ℕ)). h.now) (sym is)
