-- The symbols of loads are numbered from 0, in the order of threads and steps.
use Rattle.std.proofs.Common.{◌≡◌, ◌∙◌, ℕ, zero, suc, ◌+◌, List, [], ◌∷◌, ◌++◌, map, length, fold, Bool, true, false, cond, Option, Some, None}
use Rattle.std.proofs.Common.{refl, ap, sym, subst, arith, append-nil, append_assoc}
use Rattle.std.specs.Prelude.{slice_get, option_map}
use Rattle.std.specs.List.{filter_map, cons_option, range_with_len}
use Rattle.std.proofs.lemmas.Grind.{flat_map-append}
use Rattle.std.proofs.lemmas.List.{map-append}
use Rattle.std.proofs.lemmas.List.Elements.{filter_map-append}
use Rattle.std.proofs.lemmas.Option.{none-some, same_Some}
use Rattle.sym_exec.specs.tc_base.Names.{Name}
use Rattle.sym_exec.specs.tc_code.Code.{Code, instr_at}
use Rattle.sym_exec.specs.tc_code.declared.instr.Instr.{Instr}
use Rattle.sym_exec.specs.path_walk.Paths.{Walk, Paths}
use Rattle.sym_exec.specs.sym_terms.declared.node.Node.{Node}
use Rattle.sym_exec.specs.Thread.{Doing, wanted_of, after_all, Route, route_of}
use Rattle.sym_exec.specs.Executed.{Executed, fails_at, thread_started, thread_done, with_thread, nothing}
use Rattle.sym_exec.specs.declared.symbolic.Access.{Access}
use Rattle.sym_exec.proofs.Sound.{stepped_by}
use Rattle.sym_exec.proofs.Tells.{is_load, loads_after}
use Rattle.sym_laws.specs.Loads.{Load, loads_by, loads_of}
use Rattle.sym_laws.proofs.Steps.{adds, next, line_of, uncounted}

-- numbers count up by one, from the first up to another
abbrev pub CountsFrom : ℕ → List ℕ → ℕ → Type 0
CountsFrom a [] b = a ≡ b
CountsFrom a (x ∷ xs) b = (x ≡ a) × CountsFrom (a + 1) xs b

pub counts_both : (a b c : ℕ) (xs ys : List ℕ) → CountsFrom a xs b → CountsFrom b ys c → CountsFrom a (xs ++ ys) c
counts_both a b c [] ys f g = subst (λ n. CountsFrom n ys c) (sym f) g
counts_both a b c (x ∷ xs) ys f g = (f.0, counts_both (a + 1) b c xs ys f.1 g)

pub counts_long : (a b : ℕ) (xs : List ℕ) → CountsFrom a xs b → a + length xs ≡ b
counts_long a b [] f = omega (arith, f)
counts_long a b (x ∷ xs) f = let rest = counts_long (a + 1) b xs f.1 in omega (arith, rest)

pub counts_at : (a b : ℕ) (xs : List ℕ) (k x : ℕ) → CountsFrom a xs b → slice_get xs k ≡ Some x → x ≡ a + k
counts_at a b [] k x f at = absurd (none-some x at)
counts_at a b (y ∷ xs) zero x f at = let same = same_Some y x at in omega (arith, same, f.0)
counts_at a b (y ∷ xs) (suc k) x f at = let rest = counts_at (a + 1) b xs k x f.1 at in omega (arith, rest)

pub counts_range : (a n : ℕ) → CountsFrom a (range_with_len a n) (a + n)
counts_range a zero = omega arith
counts_range a (suc n) =
    let e : (a + 1) + n ≡ a + suc n = omega arith in
    (refl, subst (CountsFrom (a + 1) (range_with_len (a + 1) n)) e (counts_range (a + 1) n))

abbrev takes : Access → Option ℕ
takes a = a.takes

abbrev numbers : List Load → List ℕ
numbers ls = map (λ l. l.number) ls

abbrev with_number : Name → Access → ℕ → Load
with_number n a m = record { number = m; thread = n; step = a.step }

numbers_by : (n : Name) (found : List Access) → numbers (loads_by n found) ≡ filter_map takes found
numbers_by n [] = refl
numbers_by n (a ∷ found) = by (numbers_by n found) a.takes
  where
    by : numbers (loads_by n found) ≡ filter_map takes found → (o : Option ℕ)
        → numbers (cons_option (option_map (with_number n a) o) (loads_by n found)) ≡ cons_option o (filter_map takes found)
    by rest None = rest
    by rest (Some m) = ap (λ ms. m ∷ ms) rest

-- one execution extends another, and its new loads take the next numbers
record CountsOn (d e : Doing) : Type 0 where
  found : List Access
  accesses : e.accesses ≡ d.accesses ++ found
  counts : CountsFrom d.loads (filter_map takes found) e.loads

counts_itself : (d : Doing) → CountsOn d d
counts_itself d = record { found = []; accesses = sym (append-nil d.accesses); counts = refl }

counts_on : (d e g : Doing) → CountsOn d e → CountsOn e g → CountsOn d g
counts_on d e g a b = record {
  found = a.found ++ b.found;
  accesses = b.accesses ∙ ap (λ xs. xs ++ b.found) a.accesses ∙ append_assoc d.accesses a.found b.found;
  counts = subst (λ xs. CountsFrom d.loads xs g.loads) (sym (filter_map-append takes a.found b.found))
      (counts_both d.loads e.loads g.loads (filter_map takes a.found) (filter_map takes b.found) a.counts b.counts);
}

one_counts : (b : Bool) (n m : ℕ) → m ≡ n + cond b 1 0 → CountsFrom n (cond b (n ∷ []) []) m
one_counts true n m is = (refl, sym is)
one_counts false n m is = omega (arith, is)

module _ (r : Route) where
  by_instr : (d : Doing) (place : ℕ) (i : Instr) → CountsOn d (record (uncounted r d place i) { steps = d.steps + 1 })
  by_instr d place i =
      let a = adds (line_of r place) (wanted_of r.outcomes r.fails d i) d i in
      let e = loads_after (line_of r place) (wanted_of r.outcomes r.fails d i) d i in
      record {
        found = a.found;
        accesses = a.accesses;
        counts = subst (λ xs. CountsFrom d.loads xs (uncounted r d place i).loads) (sym a.taken)
            (one_counts (is_load i) d.loads (uncounted r d place i).loads e);
      }

  step_counts : (d : Doing) (place : ℕ) → CountsOn d (next r d place)
  step_counts d place = by (instr_at r.code r.function place) refl
    where
      by : (o : Option Instr) → instr_at r.code r.function place ≡ o → CountsOn d (next r d place)
      by None at = subst (CountsOn d) (sym (ap (stepped_by r d place) at)) (counts_itself d)
      by (Some i) at = subst (CountsOn d) (sym (ap (stepped_by r d place) at)) (by_instr d place i)

  all_count : (places : List ℕ) (d : Doing) → CountsOn d (after_all r d places)
  all_count [] d = counts_itself d
  all_count (place ∷ places) d =
      let e = next r d place in
      counts_on d e (after_all r e places) (step_counts d place) (all_count places e)

-- with one thread more
thread_counts : (code : Code) (paths : Paths) (x : Executed) (w : Walk) → CountsFrom 0 (numbers (loads_of x.symbolic)) x.symbolic.loads
    → CountsFrom 0 (numbers (loads_of (with_thread code paths x w).symbolic)) (with_thread code paths x w).symbolic.loads
thread_counts code paths x w so =
    let d = thread_done code paths x w in
    let c = all_count (route_of code w (fails_at paths (length x.symbolic.threads) w)) w.places (thread_started code x w) in
    let is : numbers (loads_of (with_thread code paths x w).symbolic) ≡ numbers (loads_of x.symbolic) ++ filter_map takes c.found =
    ap numbers (flat_map-append (λ c. loads_by c.name c.accesses) x.symbolic.threads _
    ∙ ap (λ ls. loads_of x.symbolic ++ ls) (append-nil (loads_by w.name d.accesses)))
    ∙ map-append (λ l. l.number) (loads_of x.symbolic) (loads_by w.name d.accesses)
    ∙ ap (λ ms. numbers (loads_of x.symbolic) ++ ms) (numbers_by w.name d.accesses ∙ ap (filter_map takes) c.accesses) in
    subst (λ ms. CountsFrom 0 ms d.loads) (sym is)
    (counts_both 0 x.symbolic.loads d.loads (numbers (loads_of x.symbolic)) (filter_map takes c.found) so c.counts)

threads_count : (code : Code) (paths : Paths) (ws : List Walk) (x : Executed) → CountsFrom 0 (numbers (loads_of x.symbolic)) x.symbolic.loads
    → CountsFrom 0 (numbers (loads_of (fold (with_thread code paths) x ws).symbolic)) (fold (with_thread code paths) x ws).symbolic.loads
threads_count code paths [] x so = so
threads_count code paths (w ∷ ws) x so = threads_count code paths ws (with_thread code paths x w) (thread_counts code paths x w so)

pub all_numbered : (code : Code) (paths : Paths) (nodes : List Node)
    → CountsFrom 0 (numbers (loads_of (fold (with_thread code paths) (nothing nodes) paths.threads).symbolic))
    (fold (with_thread code paths) (nothing nodes) paths.threads).symbolic.loads
all_numbered code paths nodes = threads_count code paths paths.threads (nothing nodes) refl
