-- Each line of a closed derivation passes, and its hints are earlier clauses.
use Rattle.std.proofs.Common.{◌≡◌, ◌∙◌, ℕ, zero, suc, ◌+◌, ◌<◌, ◌≤◌, List, [], ◌∷◌, ◌++◌, length, map, ℤ, neg_ℤ, refl, ap, sym, subst, arith, get_or}
use Rattle.std.proofs.Common.{Bool, true, false, cond, Option, Some, None, Ok}
use Rattle.std.specs.Prelude.{is_some, if◌then◌else◌}
use Rattle.std.specs.List.{Contains, fold}
use Rattle.std.specs.Option.{option_map_or}
use Rattle.std.specs.Ordering.{nat_cmp, eq_by_cmp}
use Rattle.std.specs.Cmp.{nat_cmp_total, unsigned_tied}
use Rattle.std.specs.FinMap.{get, insert, remove, get-insert, get-remove, get-empty}
use Rattle.std.proofs.lemmas.Bool.{false≢true}
use Rattle.std.proofs.lemmas.Option.{none-some}
use borrow.Author.Tests.{eqb-true}
use Rattle.cnf_core.specs.Clauses.{is_within, Formula}
use Rattle.refute_check.specs.list_laws.Lists.{is_nil}
use Rattle.refute_check.specs.Kept.{KeptClauses}
use Rattle.refute_check.specs.Left.{by_left, left_of_clause}
use Rattle.refute_check.specs.Refutations.{Checking, IsClosed, keep, opening, start, without_clauses, hints_fault, line_fault, state_after_line, state_after_verdict, state_after_pass, verdict_of}
use Rattle.refute_check.specs.declared.given.Left.{Left}
use Rattle.refute_check.specs.declared.given.Left.TheVariants.{Nothing, One, More}
use Rattle.refute_check.specs.declared.line.Line.{Line}
use Rattle.refute_check.specs.declared.line.Line.TheVariants.{Add, Delete}
use Rattle.refute_check.specs.declared.verdict.CheckFault.{CheckFault}
use Rattle.refute_check.specs.declared.verdict.CheckFault.TheVariants.{NoVariable, NoClause, Hint}
use Rattle.refute_check.specs.declared.verdict.Checked.TheVariants.{Closed}
use Rattle.refute_check.proofs.Checkings.{fold-stays, keep-next}
use Rattle.why_impossible.specs.refute_core.Reached.{hints_used}

-- a closed verdict means no fault and an empty clause
pub is_closed : (o : Option CheckFault) (b : Bool) → verdict_of o b ≡ Ok Closed → (o ≡ None) × (b ≡ true)
is_closed (Some f) b e = absurd (cc)
is_closed None true e = (refl, refl)
is_closed None false e = absurd (cc)

-- a line passes, and there was no fault before it
pub record IsPassed (s : Checking) (l : Line) : Type 0 where
  pub none : s.fault ≡ None
  pub passes : line_fault (s.line + 1) s.vars s.kept l ≡ None
  pub to : state_after_line s l ≡ state_after_pass s l

-- if all lines pass, the first does
pub first_passes : (s : Checking) (l : Line) (ls : List Line) → (fold state_after_line s (l ∷ ls)).fault ≡ None → IsPassed s l
first_passes s l ls free = before s.fault refl
  where
    here : (o : Option CheckFault) → line_fault (s.line + 1) s.vars s.kept l ≡ o → s.fault ≡ None → IsPassed s l
    here None is none = record {
      none = none;
      passes = is;
      to = ap (λ f. if is_some f then s else state_after_verdict (line_fault (s.line + 1) s.vars s.kept l) s l) none ∙ ap (λ f. state_after_verdict f s l) is;
    }
    here (Some f) is none =
        let next : state_after_line s l ≡ state_after_verdict (Some f) s l =
        ap (λ g. if is_some g then s else state_after_verdict (line_fault (s.line + 1) s.vars s.kept l) s l) none ∙ ap (λ g. state_after_verdict g s l) is in
        let fault : (state_after_line s l).fault ≡ Some f = ap (λ (t : Checking). t.fault) next in
        absurd (none-some f (sym free ∙ ap (λ (t : Checking). t.fault) (fold-stays (state_after_line s l) ls f fault) ∙ fault))

    before : (o : Option CheckFault) → s.fault ≡ o → IsPassed s l
    before None is = here (line_fault (s.line + 1) s.vars s.kept l) refl is
    before (Some f) is = absurd (none-some f (sym free ∙ ap (λ (t : Checking). t.fault) (fold-stays s (l ∷ ls) f is) ∙ is))

-- the conflict is at the last hint
last_hint : (f : CheckFault) (i h : ℕ) (hs : List ℕ) → (if is_nil hs then None else Some f) ≡ None → Contains (i ∷ hs) h → i ≡ h
last_hint f i h [] free (zero, below, is) = is
last_hint f i h [] free (suc k, below, is) = absurd (omega (arith, below))
last_hint f i h (j ∷ hs) free among = absurd (cc)

-- each hint names a kept clause
kept_by : (n : ℕ) (kept : KeptClauses) (given : List ℤ) (i h : ℕ) (hs : List ℕ) (l : Left) → is_some (get kept i) ≡ true
    → ((m : ℤ) → hints_fault n kept (given ++ m ∷ []) hs ≡ None → Contains hs h → is_some (get kept h) ≡ true)
    → by_left l (if is_nil hs then None else Some (Hint n)) (λ m. hints_fault n kept (given ++ m ∷ []) hs) (Some (Hint n)) ≡ None
    → Contains (i ∷ hs) h → is_some (get kept h) ≡ true
kept_by n kept given i h hs Nothing here later free among = subst (λ j. is_some (get kept j) ≡ true) (last_hint (Hint n) i h hs free among) here
kept_by n kept given i h hs (One m) here later free (zero, below, same) = subst (λ j. is_some (get kept j) ≡ true) same here
kept_by n kept given i h hs (One m) here later free (suc k, below, same) = later m free (k, omega (arith, below), same)
kept_by n kept given i h hs More here later free among = absurd (cc)

named_by : (n : ℕ) (kept : KeptClauses) (given : List ℤ) (i h : ℕ) (hs : List ℕ) (o : Option (List ℤ)) → get kept i ≡ o
    → ((m : ℤ) → hints_fault n kept (given ++ m ∷ []) hs ≡ None → Contains hs h → is_some (get kept h) ≡ true)
    → option_map_or
    (λ c. by_left (left_of_clause given c) (if is_nil hs then None else Some (Hint n)) (λ m. hints_fault n kept (given ++ m ∷ []) hs) (Some (Hint n))) o
    (Some (NoClause n))
    ≡ None
    → Contains (i ∷ hs) h → is_some (get kept h) ≡ true
named_by n kept given i h hs None is later free among = absurd (cc)
named_by n kept given i h hs (Some c) is later free among = kept_by n kept given i h hs (left_of_clause given c) (ap is_some is) later free among

hints_kept : (n : ℕ) (kept : KeptClauses) (given : List ℤ) (hs : List ℕ) (h : ℕ) → hints_fault n kept given hs ≡ None → Contains hs h
    → is_some (get kept h) ≡ true
hints_kept n kept given [] h free among = absurd (cc)
hints_kept n kept given (i ∷ hs) h free among =
    named_by n kept given i h hs (get kept i) refl (λ m. hints_kept n kept (given ++ m ∷ []) hs h) free among

-- the hints of a line that passes name kept clauses
clause_kept : (n : ℕ) (kept : KeptClauses) (lits : List ℤ) (hints : List ℕ) (h : ℕ) (within : Bool)
    → (if within then hints_fault n kept (map neg_ℤ lits) hints else Some (NoVariable n)) ≡ None → Contains hints h → is_some (get kept h) ≡ true
clause_kept n kept lits hints h true free among = hints_kept n kept (map neg_ℤ lits) hints h free among
clause_kept n kept lits hints h false free among = absurd (cc)

-- kept clauses are numbered from 1 to below the next number
abbrev pub AreNumbered : KeptClauses → ℕ → Type 0
AreNumbered kept next = (n : ℕ) → is_some (get kept n) ≡ true → (0 < n) × (n < next)

numbered_insert : (kept : KeptClauses) (next : ℕ) (c : List ℤ) → 0 < next → AreNumbered kept next → AreNumbered (insert kept next c) (next + 1)
numbered_insert kept next c positive are q some =
    by (eq_by_cmp nat_cmp q next) refl (subst (λ o. is_some o ≡ true) (get-insert nat_cmp_total kept next c q) some)
  where
    by : (b : Bool) → eq_by_cmp nat_cmp q next ≡ b → is_some (cond b (Some c) (get kept q)) ≡ true → (0 < q) × (q < next + 1)
    by true is some = let same : q ≡ next = eqb-true q next (sym (unsigned_tied q next) ∙ is) in (omega (arith, same, positive), omega (arith, same))
    by false is some = let a = are q some in (a.0, omega (arith, a.1))

numbered_remove : (kept : KeptClauses) (next n : ℕ) → AreNumbered kept next → AreNumbered (remove kept n) next
numbered_remove kept next n are q some = by (eq_by_cmp nat_cmp q n) (subst (λ o. is_some o ≡ true) (get-remove nat_cmp_total kept n q) some)
  where
    by : (b : Bool) → is_some (cond b None (get kept q)) ≡ true → (0 < q) × (q < next)
    by true some = absurd (cc)
    by false some = are q some

numbered_without : (kept : KeptClauses) (next : ℕ) (ns : List ℕ) → AreNumbered kept next → AreNumbered (without_clauses kept ns) next
numbered_without kept next [] are = are
numbered_without kept next (n ∷ ns) are = numbered_without (remove kept n) next ns (numbered_remove kept next n are)

-- a state with clauses numbered this way
pub record IsNumbered (s : Checking) : Type 0 where
  pub positive : 0 < s.next
  pub are : AreNumbered s.kept s.next

numbered_keep : (s : Checking) (c : List ℤ) → IsNumbered s → IsNumbered (keep s c)
numbered_keep s c is = record { positive = omega (arith, is.positive); are = numbered_insert s.kept s.next c is.positive is.are }

numbered_from : (s : Checking) (cs : List (List ℤ)) → IsNumbered s → IsNumbered (fold keep s cs)
numbered_from s [] is = is
numbered_from s (c ∷ cs) is = numbered_from (keep s c) cs (numbered_keep s c is)

pub numbered_start : (f : Formula) → IsNumbered (start f)
numbered_start f =
    numbered_from (opening f.vars) f.clauses
    (record { positive = omega arith; are = λ n some. absurd (false≢true (sym (ap is_some (get-empty nat_cmp n)) ∙ some)) })

pub numbered_passed : (s : Checking) (l : Line) → IsNumbered s → IsNumbered (state_after_pass s l)
numbered_passed s (Add lits hints) is =
    record { positive = omega (arith, is.positive); are = numbered_insert s.kept s.next lits is.positive is.are }
numbered_passed s (Delete ns) is = record { positive = is.positive; are = numbered_without s.kept s.next ns is.are }

no_hint : (k h : ℕ) → Contains (get_or [] k []) h → ⊥
no_hint zero h (j, below, is) = omega (arith, below)
no_hint (suc k) h (j, below, is) = omega (arith, below)

-- after a first line that passes, the others go on from there
pub goes_on : (s : Checking) (l : Line) (ls : List Line) → state_after_line s l ≡ state_after_pass s l → fold state_after_line s (l ∷ ls) ≡ fold state_after_line (state_after_pass s l) ls
goes_on s l ls to = ap (λ t. fold state_after_line t ls) to

later_hint : (s : Checking) (k h : ℕ) (used : List (List ℕ)) (nil : Bool)
    → (Contains (get_or used k []) h → (0 < h) × (h < s.next + 1 + k)) → Contains (get_or (if nil then [] else used) k []) h
    → (0 < h) × (h < s.next + suc k)
later_hint s k h used true later among = absurd (no_hint k h among)
later_hint s k h used false later among = let a = later among in (a.0, omega (arith, a.1))

-- each hint is the number of an earlier clause
pub hints_are_earlier : (s : Checking) (ls : List Line) → IsNumbered s → (fold state_after_line s ls).fault ≡ None → (k h : ℕ)
    → Contains (get_or (hints_used ls) k []) h → (0 < h) × (h < s.next + k)
hints_are_earlier s [] is free k h among = absurd (no_hint k h among)
hints_are_earlier s (Add lits hints ∷ ls) is free zero h among =
    let p = first_passes s (Add lits hints) ls free in
    let a = is.are h (clause_kept (s.line + 1) s.kept lits hints h (is_within s.vars lits) p.passes among) in
    (a.0, omega (arith, a.1))
hints_are_earlier s (Add lits hints ∷ ls) is free (suc k) h among =
    let p = first_passes s (Add lits hints) ls free in
    later_hint s k h (hints_used ls) (is_nil lits)
    (hints_are_earlier (state_after_pass s (Add lits hints)) ls (numbered_passed s (Add lits hints) is)
    (sym (ap (λ (t : Checking). t.fault) (goes_on s (Add lits hints) ls p.to)) ∙ free) k h) among
hints_are_earlier s (Delete ns ∷ ls) is free k h among =
    let p = first_passes s (Delete ns) ls free in
    hints_are_earlier (state_after_pass s (Delete ns)) ls (numbered_passed s (Delete ns) is)
    (sym (ap (λ (t : Checking). t.fault) (goes_on s (Delete ns) ls p.to)) ∙ free) k h among

-- over a formula's clauses, a hint is at most the number of clauses before it
pub hints_within : (f : Formula) (ls : List Line) → IsClosed f ls → (k h : ℕ) → Contains (get_or (hints_used ls) k []) h
    → (0 < h) × (h ≤ length f.clauses + k)
hints_within f ls closed k h among =
    let e = is_closed (fold state_after_line (start f) ls).fault (fold state_after_line (start f) ls).closed closed in
    let a = hints_are_earlier (start f) ls (numbered_start f) e.0 k h among in
    (a.0, omega (arith, a.1, keep-next (opening f.vars) f.clauses))

-- some line adds an empty clause
some_line : (s : Checking) (ls : List Line) → (fold state_after_line s ls).fault ≡ None → (fold state_after_line s ls).closed ≡ true → s.closed ≡ false
    → 0 < length (hints_used ls)
some_line s [] free closed none = absurd (let e : true ≡ false = sym closed ∙ none in cc)
some_line s (Add lits hints ∷ ls) free closed none = omega arith
some_line s (Delete ns ∷ ls) free closed none =
    let p = first_passes s (Delete ns) ls free in
    let on = goes_on s (Delete ns) ls p.to in
    some_line (state_after_pass s (Delete ns)) ls (sym (ap (λ (t : Checking). t.fault) on) ∙ free) (sym (ap (λ (t : Checking). t.closed) on) ∙ closed) none

pub start_open : (s : Checking) (cs : List (List ℤ)) → (fold keep s cs).closed ≡ s.closed
start_open s [] = refl
start_open s (c ∷ cs) = start_open (keep s c) cs

pub some_hints : (f : Formula) (ls : List Line) → IsClosed f ls → 0 < length (hints_used ls)
some_hints f ls closed =
    let e = is_closed (fold state_after_line (start f) ls).fault (fold state_after_line (start f) ls).closed closed in
    some_line (start f) ls e.0 e.1 (start_open (opening f.vars) f.clauses)
