-- The beginning of a search.
use Rattle.std.proofs.Common.{◌≡◌, ◌≢◌, ℕ, zero, suc, ◌+◌, ◌*◌, ◌<◌, true, Option, Some, None, List, [], ◌∷◌, ◌++◌, map, length, take, get_or}
use Rattle.std.proofs.Common.{replicate, inl, inr, ℤ, refl, sym, ◌∙◌, ap, subst, arith, append-nil, append_assoc, get_or-take}
use Rattle.std.specs.Prelude.{Contains, All, IfSome, MatchOption, slice_get, fold}
use Rattle.std.proofs.lemmas.Bool.{and_parts, cases_lt}
use Rattle.std.proofs.lemmas.List.{length_push, length-map, length-replicate, get_or-replicate, get_or_past, length-take, get_or-map, take_more}
use Rattle.std.proofs.lemmas.List.{take_all, take-append-le, length-take-le, get_or_at}
use Rattle.std.proofs.lemmas.List.Sums.{fold-append}
use Rattle.std.proofs.lemmas.Option.{slice_get_past}
use Rattle.cnf_core.specs.Clauses.{Formula, is_clause, are_clauses, rises_above, var_of}
use Rattle.cnf_core.specs.declared.cnf.TheConstants.{LIMIT}
use Rattle.refute_check.specs.Refutations.{Checking, opening, keep, start, state_after_line}
use Rattle.cdcl_literals.specs.Literals.{opposite_of}
use Rattle.cdcl_trail.specs.Trail.{Trail, IsTrail, empty}
use Rattle.cdcl_clauses.specs.Clauses.{Clause, at, no_clause, listed}
use Rattle.cdcl_clauses.specs.declared.watches.Watch.{Watch}
use Rattle.cdcl_clauses.specs.Invariants.{AreConsistent, IsWatch, AreRooted}
use Rattle.cdcl_learn.specs.Shown.{Refutes, Shows}
use Rattle.cdcl_learn.specs.Lessons.{TurnFits, IsLesson}
use Rattle.cdcl_learn.specs.declared.lesson.Lesson.{Lesson}
use Rattle.cdcl_learn.specs.declared.lesson.Turn.{Turn}
use Rattle.cdcl_learn.specs.declared.lesson.Turn.TheVariants.{Closed, Back}
use Rattle.std.specs.Prelude.{Result, Ok, Err, IfOk, OnOk}
use Rattle.cdcl_steps.specs.Loads.{IsAtStart, MayBeLoaded, WasLoaded, Loads}
use Rattle.cdcl_steps.specs.declared.loading.Loaded.{Loaded}
use Rattle.cdcl_steps.specs.declared.loading.Loaded.TheVariants.{Taken, Refuted}
use Rattle.cdcl_lines.specs.Literals.{literal_of, code_of, clause_of, Rise}
use Rattle.cdcl_lines.specs.Keeping.{Represents, KeepsAll, as_kept}
use Rattle.cdcl_clauses.specs.Clauses.{kept_clause}
use Rattle.cdcl_lines.specs.Fresh.{AreFresh, IsFreshLine}
use Rattle.cdcl_lines.proofs.Numbers.{above-contains, literal-code}
use Rattle.cdcl_lines.proofs.Representing.{opening-represented, keep-represented}
use Rattle.cdcl_lines.proofs.Formulas.{keeps-one_more}
use Rattle.cdcl_core.specs.helpers.States.{BelongTogether, IsLive, IsLoaded, IsEmptyAt, CanConclude, LoadsOne}
use Rattle.cdcl_core.proofs.Counts.{few-none}
use Rattle.cdcl_core.proofs.Tallying.{kept-all}
use Rattle.cdcl_core.specs.declared.state.State.{State}

-- what loading a formula's clauses doesn't change
pub record IsUntouched (s t : Checking) : Type 0 where
  pub vars : t.vars ≡ s.vars
  pub closed : t.closed ≡ s.closed

untouched : (zs : List (List ℤ)) (s : Checking) → IsUntouched s (fold keep s zs)
untouched [] s = record { vars = refl; closed = refl }
untouched (z ∷ zs) s = (let u = untouched zs (keep s z) in record { vars = u.vars; closed = u.closed })

fresh-none : (f : Formula) → AreFresh f []
fresh-none f k = subst (λ o. IfSome o (λ l. IsFreshLine (fold state_after_line (start f) (take k [])).kept l))
    (sym (slice_get_past [] k (omega arith))) tt

pub agree-start : (f : Formula) (cs : List Clause) → f.vars < LIMIT → length f.clauses < LIMIT → length cs ≡ length f.clauses → KeepsAll f.clauses cs
    → Represents cs (start f) → BelongTogether f cs [] 0 0
agree-start f cs few given count keeps r =
    let u = untouched f.clauses (opening f.vars) in
    record {
      few = few;
      given = given;
      count = omega (arith, count);
      keeps = keeps;
      represents = r;
      vars = u.vars;
      unclosed = u.closed;
      counted = refl;
      not_empty = refl;
      many = omega arith;
      deleted = refl;
      half = omega arith;
      bound = omega arith;
      kept = omega (arith, kept-all f.clauses cs count keeps);
      short = omega arith;
      fresh = fresh-none f;
      few_deleted = few-none f;
    }

pub agree-loaded : (s : State) → IsLoaded s (length s.formula.clauses) → BelongTogether s.formula s.clauses s.derivation s.added s.deleted
agree-loaded s h =
    let n : ℕ = length s.formula.clauses in
    let all : take n s.formula.clauses ≡ s.formula.clauses = take_all n s.formula.clauses (omega arith) in
    rw (h.no_lines, h.none_added, h.none_deleted) (agree-start s.formula s.clauses h.few h.given h.count
    (subst (λ (zs : List (List ℤ)). KeepsAll zs s.clauses) all h.keeps)
    (subst (λ (zs : List (List ℤ)). Represents s.clauses (fold keep (opening s.formula.vars) zs)) all h.represents))

pub live-loaded : (s : State) → IsLoaded s (length s.formula.clauses) → AreRooted s.trail s.clauses → IsLive s
live-loaded s h r = record { sound = h.sound; rooted = r; variables = h.variables; activity = h.activity; agree = agree-loaded s h }

-- a clause of a formula may be loaded
some-in : (ls : List ℕ) (z : List ℤ) → clause_of ls ≡ z → z ≢ [] → 0 < length ls
some-in [] z e n = absurd (n (sym e))
some-in (x ∷ ls) z e n = omega arith

apart-in : (ls : List ℕ) → Rise ls → 1 < length ls → get_or ls 0 0 ≢ get_or ls 1 0
apart-in [] r h e = absurd (omega arith)
apart-in (x ∷ []) r h e = absurd (omega arith)
apart-in (x ∷ y ∷ ls) r h e =
    let a = and_parts _ _ r in
    let v : var_of (literal_of x) < var_of (literal_of y) =
    above-contains (var_of (literal_of x)) (literal_of y ∷ clause_of ls) (literal_of y) a.1 (0, omega arith, refl) in
    omega (arith, v, ap (λ (n : ℕ). var_of (literal_of n)) e)

pub may-be-loaded : (v w : ℕ) (ls : List ℕ) (z : List ℤ) → v ≡ w → clause_of ls ≡ z → z ≢ [] → Rise ls → All (λ l. l < 2 * w) ls → MayBeLoaded v ls
may-be-loaded v w ls z f e n r s = record {
  within = subst (λ (x : ℕ). All (λ l. l < 2 * x) ls) (sym f) s;
  some = some-in ls z e n;
  apart = apart-in ls r;
}

pub at-get : (zs : List (List ℤ)) (k : ℕ) (z : List ℤ) → k < length zs → slice_get zs k ≡ Some z → get_or zs k [] ≡ z
at-get [] k z h e = absurd (omega arith)
at-get (x ∷ zs) zero z h e = cc
at-get (x ∷ zs) (suc k) z h e = at-get zs k z (omega (arith, h)) e

pub loaded-more : (s t : State) (n : ℕ) (ls : List ℕ) (z : List ℤ) → IsLoaded s n → n < length s.formula.clauses → slice_get s.formula.clauses n ≡ Some z
    → clause_of ls ≡ z → Rise ls → t.formula ≡ s.formula → t.derivation ≡ s.derivation → t.added ≡ s.added → t.deleted ≡ s.deleted → t.activity ≡ s.activity
    → t.trail.variables ≡ s.trail.variables → AreConsistent t.trail t.clauses t.watches → IsAtStart t.trail → WasLoaded s.clauses t.clauses ls
    → IsLoaded t (n + 1)
loaded-more s t n ls z h nl g e r ef ed ea ex eo ev sound begun w =
    let f : Formula = s.formula in
    let c : Clause = kept_clause ls w.first w.second in
    let more : take (n + 1) f.clauses ≡ take n f.clauses ++ clause_of ls ∷ [] = take_more f.clauses n [] nl
    ∙ ap (λ (y : List ℤ). take n f.clauses ++ y ∷ []) (at-get f.clauses n z nl g ∙ sym e) in
    let size : length s.clauses ≡ length (take n f.clauses) = h.count ∙ sym (length-take-le n f.clauses (omega arith)) in
    let state : fold keep (opening f.vars) (take (n + 1) f.clauses) ≡ keep (fold keep (opening f.vars) (take n f.clauses)) (clause_of ls) =
    ap (λ (zs : List (List ℤ)). fold keep (opening f.vars) zs) more ∙ fold-append keep (opening f.vars) (take n f.clauses) (clause_of ls ∷ []) in
    record {
      sound = sound;
      start = begun;
      variables = ev ∙ h.variables ∙ sym (ap (λ (x : Formula). x.vars) ef);
      activity = eo ∙ h.activity ∙ sym (ap (λ (x : Formula). x.vars) ef);
      few = rw ef h.few;
      given = rw ef h.given;
      count = omega (arith, ap length w.clauses, length_push s.clauses c, h.count);
      keeps = rw (ef, w.clauses, more) (keeps-one_more (take n f.clauses) s.clauses ls w.first w.second h.keeps size);
      represents = rw (ef, w.clauses, state) (keep-represented s.clauses (fold keep (opening f.vars) (take n f.clauses)) ls w.first w.second h.represents r);
      no_lines = ed ∙ h.no_lines;
      none_added = ea ∙ h.none_added;
      none_deleted = ex ∙ h.none_deleted;
    }

-- a false clause stays false
pub refutes-stays : (cs ds : List Clause) (xs ys : List ℕ) (k : ℕ) → take (length cs) ds ≡ cs → ((x : ℕ) → Contains xs x → Contains ys x)
    → Refutes cs xs k → Refutes ds ys k
refutes-stays cs ds xs ys k e m r =
    let same : at ds k ≡ at cs k = sym (get_or-take (length cs) ds k no_clause r.there) ∙ ap (λ (es : List Clause). at es k) e in
    record {
      there = omega (arith, r.there, ap length e, length-take (length cs) ds);
      kept = ap (λ (c : Clause). c.kept) same ∙ r.kept;
      all_false = λ x c. m (opposite_of x) (r.all_false x (subst (λ (d : Clause). Contains d.literals x) same c));
    }

-- the last clause is false
pub refutes-last : (cs ds : List Clause) (ls xs : List ℕ) → WasLoaded cs ds ls → ((x : ℕ) → Contains ls x → Contains xs (opposite_of x)) → (k : ℕ)
    → k ≡ length cs → Refutes ds xs k
refutes-last cs ds ls xs w f k h =
    let c : Clause = kept_clause ls w.first w.second in
    let same : at ds k ≡ c = ap (λ (es : List Clause). at es k) w.clauses ∙ get_or_at cs c [] no_clause k (sym h) in
    record {
      there = omega (arith, h, ap length w.clauses, length_push cs c);
      kept = ap (λ (d : Clause). d.kept) same;
      all_false = λ x m. f x (subst (λ (d : Clause). Contains d.literals x) same m);
    }

pub loads-clauses : (cs ds : List Clause) (ls : List ℕ) → WasLoaded cs ds ls → take (length cs) ds ≡ cs
loads-clauses cs ds ls w =
    ap (take (length cs)) w.clauses ∙ take-append-le (length cs) cs (kept_clause ls w.first w.second ∷ []) (omega arith)
    ∙ take_all (length cs) cs (omega arith)

-- if no level has begun, only the empty clause is learnt
fits-closed : (t : Trail) (ls : List ℕ) (turn : Turn) → t.starts ≡ [] → TurnFits t ls turn → ls ≡ []
fits-closed t ls Closed e h = h
fits-closed t ls (Back level asserted beside) e h = absurd (omega (arith, h.level_within, ap length e))

pub conclude-unit : (s : State) → IsLoaded s (length s.formula.clauses) → (l : Lesson) → IsLesson s.trail s.clauses l → CanConclude s l.hints.items
conclude-unit s h l e = record {
  clauses = s.clauses;
  agree = agree-loaded s h;
  bound = rw (h.none_added, h.none_deleted) (omega arith);
  shown = subst (λ (ls : List ℕ). Shows s.clauses ls l.hints.items) (fits-closed s.trail l.literals.items l.turn h.start.starts e.turn) e.shown;
}

-- a formula's clauses as a search stores them
abbrev pub stored : List (List ℤ) → List Clause
stored zs = map (λ z. kept_clause (map code_of z) 0 0) zs

codes-back : (low : ℕ) (z : List ℤ) → rises_above low z ≡ true → clause_of (map code_of z) ≡ z
codes-back low [] r = refl
codes-back low (l ∷ z) r =
    let a = and_parts _ _ r in
    let v : low < var_of l = above-contains low (l ∷ z) l r (0, omega arith, refl) in
    ap (λ (x : ℤ). x ∷ clause_of (map code_of z)) (literal-code l (omega (arith, v))) ∙ ap (λ (ys : List ℤ). l ∷ ys) (codes-back (var_of l) z a.1)

stored-represented : (vars : ℕ) (zs : List (List ℤ)) (pre : List Clause) (s : Checking) → Represents pre s → are_clauses vars zs ≡ true
    → Represents (pre ++ stored zs) (fold keep s zs)
stored-represented vars [] pre s r h = subst (λ (cs : List Clause). Represents cs s) (sym (append-nil pre)) r
stored-represented vars (z ∷ zs) pre s r h =
    let a = and_parts _ _ h in
    let rise : is_clause z ≡ true = (and_parts _ _ a.0).0 in
    let back : clause_of (map code_of z) ≡ z = codes-back 0 z rise in
    let c : Clause = kept_clause (map code_of z) 0 0 in
    let one : Represents (pre ++ c ∷ []) (keep s z) = subst (λ (y : List ℤ). Represents (pre ++ c ∷ []) (keep s y)) back
    (keep-represented pre s (map code_of z) 0 0 r (ap is_clause back ∙ rise)) in
    subst (λ (cs : List Clause). Represents cs (fold keep (keep s z) zs)) (append_assoc pre (c ∷ []) (stored zs))
    (stored-represented vars zs (pre ++ c ∷ []) (keep s z) one a.1)

stored-keeps : (vars : ℕ) (zs : List (List ℤ)) → are_clauses vars zs ≡ true → KeepsAll zs (stored zs)
stored-keeps vars [] h k = subst (λ o. IfSome o (λ c. as_kept (at [] k) ≡ Some c)) (sym (slice_get_past [] k (omega arith))) tt
stored-keeps vars (z ∷ zs) h zero = ap (λ (y : List ℤ). Some y) (codes-back 0 z (and_parts _ _ (and_parts _ _ h).0).0)
stored-keeps vars (z ∷ zs) h (suc k) = stored-keeps vars zs (and_parts _ _ h).1 k

pub conclude-empty : (s : State) → IsLoaded s 0 → are_clauses s.formula.vars s.formula.clauses ≡ true → (k : ℕ) → IsEmptyAt s.formula.clauses k
    → k < length s.formula.clauses → CanConclude s (k ∷ [])
conclude-empty s h all k e kl =
    let f : Formula = s.formula in
    let cs : List Clause = stored f.clauses in
    let same : at cs k ≡ kept_clause (map code_of (get_or f.clauses k [])) 0 0 =
    get_or-map (λ z. kept_clause (map code_of z) 0 0) f.clauses k [] no_clause kl in
    let none : (at cs k).literals ≡ [] = ap (λ (c : Clause). c.literals) same ∙ ap (λ (z : List ℤ). map code_of z) (at-get f.clauses k [] kl e) in
    record {
      clauses = cs;
      agree = rw (h.no_lines, h.none_added, h.none_deleted) (agree-start f cs h.few h.given (length-map f.clauses (λ z. kept_clause (map code_of z) 0 0))
          (stored-keeps f.vars f.clauses all) (stored-represented f.vars f.clauses [] (opening f.vars) (opening-represented f.vars) all));
      bound = rw (h.none_added, h.none_deleted) (omega arith);
      shown = record {
        there = omega (arith, kl, length-map f.clauses (λ z. kept_clause (map code_of z) 0 0));
        kept = ap (λ (c : Clause). c.kept) same;
        all_false = λ x c. absurd (let d : Contains [] x = subst (λ (ls : List ℕ). Contains ls x) none c in omega (arith, d.1));
      };
    }

pub empty-within : (zs : List (List ℤ)) (k : ℕ) → IsEmptyAt zs k → k < length zs
empty-within zs k e =
    elim (cases_lt k (length zs)) [ inl h ↦ h | inr h ↦ absurd (let g = sym (slice_get_past zs k h) ∙ e in cc) ]

listed-none : (n l : ℕ) → listed (replicate n []) l ≡ []
listed-none n l = elim (cases_lt l n) [
  | inl h ↦ get_or-replicate n l [] [] h
  | inr h ↦ get_or_past (replicate n []) l [] (omega (arith, length-replicate {A = List Watch} n []))
]

-- the state before any clause
pub sound-start : (t : Trail) (v : ℕ) → IsTrail t → t ≡ empty v → (ws : List (List Watch)) → ws ≡ replicate (2 * v) [] → AreConsistent t [] ws
sound-start t v u e ws f =
    let size : length ws ≡ 2 * v = ap length f ∙ length-replicate (2 * v) [] in
    let none : (l : ℕ) → listed ws l ≡ [] = λ l. ap (λ (us : List (List Watch)). listed us l) f ∙ listed-none (2 * v) l in
    record {
      lawful = u;
      linked = record {
        lists = size ∙ ap (λ (x : Trail). 2 * x.variables) (sym e);
        clauses = λ k kl. absurd (omega (arith, kl));
        entries = λ l. subst (λ (us : List Watch). All (IsWatch t.variables []) us) (sym (none l)) (λ i d h. absurd (omega (arith, h)));
        watching = λ k l kl. absurd (omega (arith, kl));
      };
      guarded = record { below = λ k i kl. absurd (omega (arith, kl)); last = λ k kl. absurd (omega (arith, kl)) };
      reasoned = λ p pl. absurd (omega (arith, pl, ap (λ (x : Trail). length x.literals) e));
    }

pub start-loaded : (s : State) (f : Formula) → IsTrail s.trail → s.trail ≡ empty f.vars → s.clauses ≡ [] → s.watches ≡ replicate (2 * f.vars) []
    → s.activity ≡ f.vars → s.formula ≡ f → f.vars < LIMIT → length f.clauses < LIMIT → s.derivation ≡ [] → s.added ≡ 0 → s.deleted ≡ 0 → IsLoaded s 0
start-loaded s f u et ec ew eo ef few given ed ea ex = record {
  sound = rw ec (sound-start s.trail f.vars u et s.watches ew);
  start = record { starts = ap (λ (x : Trail). x.starts) et; propagated = ap (λ (x : Trail). x.propagated) et };
  variables = ap (λ (x : Trail). x.variables) et ∙ sym (ap (λ (x : Formula). x.vars) ef);
  activity = eo ∙ sym (ap (λ (x : Formula). x.vars) ef);
  few = rw ef few;
  given = rw ef given;
  count = ap length ec;
  keeps = λ k. subst (λ o. IfSome o (λ c. as_kept (at s.clauses k) ≡ Some c)) (sym (slice_get_past [] k (omega arith))) tt;
  represents = rw ec (opening-represented s.formula.vars);
  no_lines = ed;
  none_added = ea;
  none_deleted = ex;
}

ok-both : {T E : Type 0} (r : Result T E) (P Q R : T → Type 0) → IfOk r P → IfOk r Q → ((x : T) → P x → Q x → R x) → IfOk r R
ok-both (Ok x) P Q R p q f = f x p q
ok-both (Err e) P Q R p q f = tt

loads-one : (s t : State) (place : ℕ) (ls : List ℕ) → place ≡ length s.clauses → WasLoaded s.clauses t.clauses ls
    → ((x : ℕ) → Contains s.trail.literals x → Contains t.trail.literals x) → (l : Loaded) → Loads s.trail s.clauses t.trail t.clauses ls l
    → LoadsOne s t place l
loads-one s t place ls e w more Taken h = (record { literals = more; clauses = loads-clauses s.clauses t.clauses ls w }, h)
loads-one s t place ls e w more Refuted h =
    (record { literals = more; clauses = loads-clauses s.clauses t.clauses ls w }, refutes-last s.clauses t.clauses ls t.trail.literals w h place e)

pub load-one : {E : Type 0} (s t : State) (r : Result Loaded E) (place : ℕ) (ls : List ℕ) → place ≡ length s.clauses
    → OnOk r (WasLoaded s.clauses t.clauses ls) → ((x : ℕ) → Contains s.trail.literals x → Contains t.trail.literals x)
    → IfOk r (Loads s.trail s.clauses t.trail t.clauses ls) → IfOk r (LoadsOne s t place)
load-one s t r place ls e w more h = ok-both r (λ l. WasLoaded s.clauses t.clauses ls) (Loads s.trail s.clauses t.trail t.clauses ls) (LoadsOne s t place) w h
    (λ l v g. loads-one s t place ls e v more l g)

-- the false clause found so far, if any
abbrev pub Found : State → Option ℕ → Type 0
Found s found = MatchOption found (AreRooted s.trail s.clauses) (Refutes s.clauses s.trail.literals)

pub found-taken : (s t : State) (found : Option ℕ) (place : ℕ) → LoadsOne s t place Taken → Found s found → Found t found
found-taken s t None place h f = h.1 f
found-taken s t (Some k) place h f = refutes-stays s.clauses t.clauses s.trail.literals t.trail.literals k h.0.clauses h.0.literals f
