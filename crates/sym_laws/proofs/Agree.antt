-- The values that the loads of a run took agree with its history.
use Rattle.std.proofs.Common.{◌≡◌, ◌∙◌, ℕ, zero, suc, ◌+◌, ◌≤◌, ◌==◌, ◌&&◌, ℤ, pos, List, [], ◌∷◌, map, length, get_or, Bool, true, false, cond}
use Rattle.std.proofs.Common.{Option, Some, None, refl, ap, sym, subst, arith}
use Rattle.std.specs.Prelude.{slice_get, unwrap_or, option_map}
use Rattle.std.specs.Option.{option_map_or}
use Rattle.std.specs.FinMap as fin
use Rattle.std.specs.List.{filter_map, flat_map, cons_option}
use Rattle.std.proofs.lemmas.Bool.{eq-eqb}
use Rattle.std.proofs.lemmas.List.{length-map}
use Rattle.std.proofs.lemmas.Option.{none-some, same_Some, slice_get-map, get_or_from_slice_get}
use Rattle.sym_exec.specs.tc_base.Names.{Name}
use Rattle.sym_exec.specs.tc_base.Buffers.{BufferOps}
use Rattle.sym_exec.specs.tc_base.States.{Thread, State}
use Rattle.sym_exec.specs.tc_base.declared.moves.Move.{Move}
use Rattle.sym_exec.specs.tc_base.declared.request.Request.{Request}
use Rattle.sym_exec.specs.tc_code.Code.{Code}
use Rattle.sym_exec.specs.tc_code.Run.{run}
use Rattle.path_laws.specs.run_history.History.{Deed, Did, Drained, same, history}
use Rattle.sym_exec.proofs.run_laws.Names.{same_self}
use Rattle.path_laws.specs.Deeds.{number_by}
use Rattle.path_laws.proofs.Deeds.{steps_are_numbered}
use Rattle.sym_exec.specs.Executed.{Course, Symbolic}
use Rattle.sym_exec.specs.declared.symbolic.Access.{Access}
use Rattle.sym_laws.specs.Valued.{IsOneOf, AgreesWith}
use Rattle.sym_laws.specs.Loads.{Load, loads_by, loads_of, took_by, taken_at, loads_in}
use Rattle.sym_laws.proofs.Lists.{in_front, in_back}
use Rattle.sym_laws.proofs.Numbered.{CountsFrom, counts_at, counts_long, counts_range}

in_cons : {Y : Type 0} (o : Option Y) (y : Y) (ys : List Y) → IsOneOf y ys → IsOneOf y (cons_option o ys)
in_cons None y ys is = is
in_cons (Some z) y ys is = (suc is.0, is.1)

-- the value that an element gives is in the filtered map
is_given : {X Y : Type 0} (f : X → Option Y) (x : X) (y : Y) (xs : List X) → IsOneOf x xs → f x ≡ Some y → IsOneOf y (filter_map f xs)
is_given {X} {Y} f x y xs is gives = by xs is.0 is.1
  where
    by : (xs : List X) (k : ℕ) → slice_get xs k ≡ Some x → IsOneOf y (filter_map f xs)
    by [] k at = absurd (none-some x at)
    by (z ∷ xs) zero at = subst (λ o. IsOneOf y (cons_option o (filter_map f xs))) (sym (ap f (same_Some z x at) ∙ gives)) (0, refl)
    by (z ∷ xs) (suc k) at = in_cons (f z) y (filter_map f xs) (by xs k at)

is_given_in : {X Y : Type 0} (f : X → List Y) (x : X) (y : Y) (xs : List X) → IsOneOf x xs → IsOneOf y (f x) → IsOneOf y (flat_map f xs)
is_given_in {X} {Y} f x y xs is gives = by xs is.0 is.1
  where
    by : (xs : List X) (k : ℕ) → slice_get xs k ≡ Some x → IsOneOf y (flat_map f xs)
    by [] k at = absurd (none-some x at)
    by (z ∷ xs) zero at = in_front y (f z) (flat_map f xs) (subst (λ w. IsOneOf y (f w)) (sym (same_Some z x at)) gives)
    by (z ∷ xs) (suc k) at = in_back y (f z) (flat_map f xs) (by xs k at)

-- the first value that a thread took in its step with this number
abbrev first_of : Name → ℕ → List Deed → Option ℤ
first_of n k h = slice_get (filter_map (took_by n k) h) 0

-- if the steps of a thread are counted, each took the value in the deed with its number
pub took_once : (n : Name) (k : ℕ) (r : Request) (v : ℤ) (o : Option Name) (h : List Deed) (a b : ℕ) → CountsFrom a (filter_map (number_by n) h) b
    → IsOneOf (Did n k r v o) h → taken_at h n k ≡ v
took_once n k r v o h a b counts is = ap (λ x. unwrap_or x (pos 0)) (by h a counts is.0 is.1)
  where
    -- each deed of the thread has a number from the first on
    later : (h : List Deed) (a : ℕ) → CountsFrom a (filter_map (number_by n) h) b → (m : ℕ) → slice_get h m ≡ Some (Did n k r v o) → a ≤ k
    later h a counts m at =
        let one = is_given (number_by n) (Did n k r v o) k h (m, at) (ap (λ c. cond c (Some k) None) (same_self n n refl)) in
        let number = counts_at a b (filter_map (number_by n) h) one.0 k counts one.1 in
        omega (arith, number)

    first_here : (h : List Deed) → first_of n k (Did n k r v o ∷ h) ≡ Some v
    first_here h =
        ap (λ c. slice_get (cons_option (cond (c && k == k) (Some v) None) (filter_map (took_by n k) h)) 0) (same_self n n refl)
        ∙ ap (λ c. slice_get (cons_option (cond c (Some v) None) (filter_map (took_by n k) h)) 0) (eq-eqb k k refl)

    not_here : (q : Name) (j : ℕ) (s : Request) (w : ℤ) (p : Option Name) (h : List Deed) → (same n q && j == k) ≡ false
        → first_of n k (Did q j s w p ∷ h) ≡ first_of n k h
    not_here q j s w p h apart = ap (λ c. slice_get (cons_option (cond c (Some w) None) (filter_map (took_by n k) h)) 0) apart

    by_same : (c : Bool) (q : Name) (j : ℕ) (s : Request) (w : ℤ) (p : Option Name) (h : List Deed) (a : ℕ) → same n q ≡ c
        → CountsFrom a (cons_option (cond c (Some j) None) (filter_map (number_by n) h)) b → (m : ℕ) → slice_get h m ≡ Some (Did n k r v o)
        → ((a : ℕ) → CountsFrom a (filter_map (number_by n) h) b → first_of n k h ≡ Some v) → first_of n k (Did q j s w p ∷ h) ≡ Some v
    by_same true q j s w p h a is counts m at rest =
        let after = later h (a + 1) counts.1 m at in
        let apart : (j == k) ≡ false = grind (arith, after, counts.0) in
        not_here q j s w p h (ap (λ c. c && j == k) is ∙ apart) ∙ rest (a + 1) counts.1
    by_same false q j s w p h a is counts m at rest = not_here q j s w p h (ap (λ c. c && j == k) is) ∙ rest a counts

    by : (h : List Deed) (a : ℕ) → CountsFrom a (filter_map (number_by n) h) b → (m : ℕ) → slice_get h m ≡ Some (Did n k r v o) → first_of n k h ≡ Some v
    by [] a counts m at = absurd (none-some (Did n k r v o) at)
    by (d ∷ h) a counts zero at = ap (λ e. first_of n k (e ∷ h)) (same_Some d (Did n k r v o) at) ∙ first_here h
    by (Drained q j c w ∷ h) a counts (suc m) at = by h a counts m at
    by (Did q j s w p ∷ h) a counts (suc m) at = by_same (same n q) q j s w p h a refl counts m at (λ c more. by h c more m at)

-- each step of each run took its value once
pub taken_once : {B : Type 0} (ops : BufferOps B) (code : Code) (moves : List Move) (s : State B) (n : Name) (k : ℕ) (r : Request) (v : ℤ) (o : Option Name)
    → run ops code moves ≡ Some s → IsOneOf (Did n k r v o) (history ops code moves) → taken_at (history ops code moves) n k ≡ v
taken_once {B} ops code moves s n k r v o leads is =
    let steps = option_map_or (λ (t : Thread B). t.local.steps) (fin.get s.threads n) 0 in
    let counts : CountsFrom 0 (filter_map (number_by n) (history ops code moves)) (0 + steps) =
    subst (λ ks. CountsFrom 0 ks (0 + steps)) (sym (steps_are_numbered ops code moves s n leads)) (counts_range 0 steps) in
    took_once n k r v o (history ops code moves) 0 (0 + steps) counts is

-- the values that the loads took agree with the history
pub loads_agree : (symbolic : Symbolic) (h : List Deed) (all : ℕ) → CountsFrom 0 (map (λ l. l.number) (loads_of symbolic)) all
    → ((n : Name) (k : ℕ) (r : Request) (v : ℤ) (o : Option Name) → IsOneOf (Did n k r v o) h → taken_at h n k ≡ v)
    → AgreesWith symbolic (loads_in symbolic h) h
loads_agree symbolic h all counts once c a m r took other ic ia takes done =
    let load : Load = record { number = m; thread = c.name; step = a.step } in
    let mine : IsOneOf load (loads_by c.name c.accesses) =
    is_given (λ (x : Access). option_map (λ m. record { number = m; thread = c.name; step = x.step }) x.takes) a load c.accesses ia
    (ap (option_map (λ m. record { number = m; thread = c.name; step = a.step })) takes) in
    let one : IsOneOf load (loads_of symbolic) = is_given_in (λ (x : Course). loads_by x.name x.accesses) c load symbolic.threads ic mine in
    let place : m ≡ 0 + one.0 =
    counts_at 0 all (map (λ (l : Load). l.number) (loads_of symbolic)) one.0 m counts
    (slice_get-map (λ (l : Load). l.number) (loads_of symbolic) one.0 ∙ ap (option_map (λ (l : Load). l.number)) one.1) in
    let same : m ≡ one.0 = omega (arith, place) in
    ap (λ k. get_or (loads_in symbolic h) k (pos 0)) same
    ∙ get_or_from_slice_get (loads_in symbolic h) one.0 (taken_at h c.name a.step) (pos 0)
    (slice_get-map (λ (l : Load). taken_at h l.thread l.step) (loads_of symbolic) one.0 ∙ ap (option_map (λ (l : Load). taken_at h l.thread l.step)) one.1)
    ∙ once c.name a.step r took other done

pub as_many : (symbolic : Symbolic) (h : List Deed) (all : ℕ) → CountsFrom 0 (map (λ l. l.number) (loads_of symbolic)) all
    → length (loads_in symbolic h) ≡ all
as_many symbolic h all counts =
    let many = counts_long 0 all (map (λ (l : Load). l.number) (loads_of symbolic)) counts in
    let a = length-map (loads_of symbolic) (λ (l : Load). taken_at h l.thread l.step) in
    let b = length-map (loads_of symbolic) (λ (l : Load). l.number) in
    omega (arith, many, a, b)
