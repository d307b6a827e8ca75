-- Invariants of a checker's states.
use Rattle.std.proofs.Common.{◌≡◌, ◌≢◌, ℕ, suc, zero, ◌+◌, List, [], ◌∷◌, ◌++◌, ℤ, refl, ap, sym, ◌∙◌, subst, arith}
use Rattle.std.proofs.Common.{Bool, true, false, cond, Option, Some, None, length, take, drop, add-one, Err}
use Rattle.std.specs.Prelude.{is_some, IfSome, IsTrue, slice_get, if◌then◌else◌}
use Rattle.std.specs.List.{fold}
use Rattle.std.specs.Option.{option_map_or}
use Rattle.std.specs.Ordering.{nat_cmp, eq_by_cmp}
use Rattle.std.specs.Cmp.{nat_cmp_total}
use Rattle.std.specs.FinMap.{get, insert, remove, empty, get-insert, get-remove, get-empty}
use Rattle.cnf_core.specs.Clauses.{is_within}
use Rattle.refute_check.specs.Kept.{KeptClauses}
use Rattle.refute_check.specs.Left.{by_left, left_of_clause}
use Rattle.refute_check.specs.helpers.Checkers.{AreWithin}
use Rattle.refute_check.specs.Refutations.{Checking, keep, without_clauses, hints_fault, clause_fault, state_after_line, state_after_verdict}
use Rattle.refute_check.specs.Refutations.{line_fault, verdict, verdict_of}
use Rattle.list_laws.specs.Lists.{is_nil}
use Rattle.refute_check.specs.declared.line.Line.{Line}
use Rattle.refute_check.specs.declared.given.Left.{Left}
use Rattle.refute_check.specs.declared.given.Left.TheVariants.{Nothing, One, More}
use Rattle.refute_check.specs.declared.verdict.CheckFault.{CheckFault}
use Rattle.refute_check.specs.declared.verdict.CheckFault.TheVariants.{NoVariable, NoClause, Hint, Memory}

if_chosen : (P : List ℤ → Type 0) (b : Bool) (c : Option (List ℤ)) (o : Option (List ℤ)) → IfSome c P → IfSome o P → IfSome (cond b c o) P
if_chosen P true c o h k = h
if_chosen P false c o h k = k

pub AreWithin-empty : (vars : ℕ) → AreWithin vars empty
AreWithin-empty vars n = subst (λ o. IfSome o (λ c. IsTrue (is_within vars c))) (sym (get-empty nat_cmp n)) tt

pub AreWithin-insert : (vars : ℕ) (kept : KeptClauses) (n : ℕ) (c : List ℤ) → AreWithin vars kept → IsTrue (is_within vars c) → AreWithin vars (insert kept n c)
AreWithin-insert vars kept n c h w q = subst (λ o. IfSome o (λ c. IsTrue (is_within vars c))) (sym (get-insert nat_cmp_total kept n c q))
    (if_chosen (λ c. IsTrue (is_within vars c)) (eq_by_cmp nat_cmp q n) (Some c) (get kept q) w (h q))

pub AreWithin-remove : (vars : ℕ) (kept : KeptClauses) (n : ℕ) → AreWithin vars kept → AreWithin vars (remove kept n)
AreWithin-remove vars kept n h q = subst (λ o. IfSome o (λ c. IsTrue (is_within vars c))) (sym (get-remove nat_cmp_total kept n q))
    (if_chosen (λ c. IsTrue (is_within vars c)) (eq_by_cmp nat_cmp q n) None (get kept q) tt (h q))

pub AreWithin-without : (vars : ℕ) (kept : KeptClauses) (ns : List ℕ) → AreWithin vars kept → AreWithin vars (without_clauses kept ns)
AreWithin-without vars kept [] h = h
AreWithin-without vars kept (n ∷ ns) h = AreWithin-without vars (remove kept n) ns (AreWithin-remove vars kept n h)

-- opening keeps the variables and counts the clauses
pub keep-vars : (s : Checking) (cs : List (List ℤ)) → (fold keep s cs).vars ≡ s.vars
keep-vars s [] = refl
keep-vars s (c ∷ cs) = keep-vars (keep s c) cs

pub keep-next : (s : Checking) (cs : List (List ℤ)) → (fold keep s cs).next ≡ s.next + length cs
keep-next s [] = omega arith
keep-next s (c ∷ cs) = omega (arith, keep-next (keep s c) cs)

fold-suc : (s : Checking) (cs : List (List ℤ)) (k : ℕ) (c : List ℤ) → slice_get cs k ≡ Some c → fold keep s (take (suc k) cs) ≡ keep (fold keep s (take k cs)) c
fold-suc s [] k c h = absurd (cc)
fold-suc s (d ∷ cs) zero c h = let e : d ≡ c = cc in ap (keep s) e
fold-suc s (d ∷ cs) (suc k) c h = fold-suc (keep s d) cs k c h

pub fold-keep-more : (s : Checking) (cs : List (List ℤ)) (k : ℕ) (c : List ℤ) → slice_get cs k ≡ Some c
    → fold keep s (take (k + 1) cs) ≡ keep (fold keep s (take k cs)) c
fold-keep-more s cs k c h = ap (λ j. fold keep s (take j cs)) (add-one k) ∙ fold-suc s cs k c h

-- a line's fault isn't lack of memory
map-not-memory : (f : List ℤ → Option CheckFault) (o : Option (List ℤ)) (d : Option CheckFault) → ((c : List ℤ) → f c ≢ Some Memory) → d ≢ Some Memory
    → option_map_or f o d ≢ Some Memory
map-not-memory f None d h k = k
map-not-memory f (Some c) d h k = h c

left-not-memory : (l : Left) (nothing : Option CheckFault) (one : ℤ → Option CheckFault) (more : Option CheckFault) → nothing ≢ Some Memory
    → ((z : ℤ) → one z ≢ Some Memory) → more ≢ Some Memory → by_left l nothing one more ≢ Some Memory
left-not-memory Nothing nothing one more p q r = p
left-not-memory (One z) nothing one more p q r = q z
left-not-memory More nothing one more p q r = r

choice-not-memory : (b : Bool) (x y : Option CheckFault) → x ≢ Some Memory → y ≢ Some Memory → (if b then x else y) ≢ Some Memory
choice-not-memory true x y p q = p
choice-not-memory false x y p q = q

pub hints-not-memory : (n : ℕ) (kept : KeptClauses) (given : List ℤ) (hs : List ℕ) → hints_fault n kept given hs ≢ Some Memory
hints-not-memory n kept given [] = λ e. absurd (cc)
hints-not-memory n kept given (h ∷ hs) =
    map-not-memory
    (λ c. by_left (left_of_clause given c) (if is_nil hs then None else Some (Hint n)) (λ l. hints_fault n kept (given ++ l ∷ []) hs) (Some (Hint n)))
    (get kept h)
    (Some (NoClause n))
    (λ c. left-not-memory (left_of_clause given c) (if is_nil hs then None else Some (Hint n)) (λ l. hints_fault n kept (given ++ l ∷ []) hs)
    (Some (Hint n)) (choice-not-memory (is_nil hs) None (Some (Hint n)) (λ e. cc) (λ e. cc)) (λ l. hints-not-memory n kept (given ++ l ∷ []) hs) (λ e. cc))
    (λ e. cc)

pub clause-not-memory : (n vars : ℕ) (kept : KeptClauses) (lits : List ℤ) (hints : List ℕ) (f : CheckFault)
    → Some f ≡ clause_fault n vars kept lits hints → f ≢ Memory
clause-not-memory n vars kept lits hints f e m =
    let p : clause_fault n vars kept lits hints ≢ Some Memory = choice-not-memory (is_within vars lits) _ (Some (NoVariable n))
    (hints-not-memory n kept _ hints) (λ e. cc) in
    p (sym e ∙ ap (λ g. Some g) m)

after-stays : (s : Checking) (l : Line) (f : CheckFault) → s.fault ≡ Some f → state_after_line s l ≡ s
after-stays s l f e = ap (λ o. if is_some o then s else state_after_verdict (line_fault (s.line + 1) s.vars s.kept l) s l) e

-- after a fault nothing changes
pub fold-stays : (s : Checking) (ls : List Line) (f : CheckFault) → s.fault ≡ Some f → fold state_after_line s ls ≡ s
fold-stays s [] f e = refl
fold-stays s (l ∷ ls) f e = ap (λ t. fold state_after_line t ls) (after-stays s l f e) ∙ fold-stays s ls f e

fold-split : (s : Checking) (ls : List Line) (k : ℕ) → fold state_after_line s ls ≡ fold state_after_line (fold state_after_line s (take k ls)) (drop k ls)
fold-split s ls zero = refl
fold-split s [] (suc k) = refl
fold-split s (l ∷ ls) (suc k) = fold-split (state_after_line s l) ls k

-- the verdict at a line's fault is that of the whole derivation
pub check-at : (s t : Checking) (ls : List Line) (k : ℕ) (f : CheckFault) → t ≡ fold state_after_line s (take k ls) → t.fault ≡ Some f → Err f ≡ verdict (fold state_after_line s ls)
check-at s t ls k f e g =
    let h : (fold state_after_line s (take k ls)).fault ≡ Some f = ap (λ (u : Checking). u.fault) (sym e) ∙ g in
    let stays : fold state_after_line s ls ≡ fold state_after_line s (take k ls) = fold-split s ls k ∙ fold-stays (fold state_after_line s (take k ls)) (drop k ls) f h in
    sym (ap verdict stays ∙ ap (λ o. verdict_of o (fold state_after_line s (take k ls)).closed) h)

pub start-line : (s : Checking) (cs : List (List ℤ)) → (fold keep s cs).line ≡ s.line
start-line s [] = refl
start-line s (c ∷ cs) = start-line (keep s c) cs

pub start-fault : (s : Checking) (cs : List (List ℤ)) → (fold keep s cs).fault ≡ s.fault
start-fault s [] = refl
start-fault s (c ∷ cs) = start-fault (keep s c) cs
