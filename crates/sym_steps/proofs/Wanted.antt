-- A step fails if its path fails there.
use Rattle.std.proofs.Common.{◌≡◌, ◌∙◌, ℕ, ◌+◌, ◌-◌, ◌<◌, ◌==◌, ◌&&◌, ℤ, arith, Bool, true, false, not, cond, List, [], ◌∷◌, map, Option, Some, None, refl, ap, sym, slice_index_or, true≢false}
use Rattle.std.specs.Prelude.{option_map, option_and_then}
use Rattle.std.specs.List.{AllByRecursion as Each, last_or}
use Rattle.std.specs.Option.{option_map_or}
use Rattle.order_events.specs.tc_base.Names.{Name}
use Rattle.order_events.specs.tc_base.declared.handle.Handle.TheVariants.{Unset}
use Rattle.order_events.specs.tc_base.States.{Local}
use Rattle.order_events.specs.tc_base.declared.request.Request.{Request}
use Rattle.order_events.specs.tc_base.declared.request.Request.TheVariants.{Silent, Fail}
use Rattle.order_events.specs.tc_code.declared.instr.Instr.{Instr}
use Rattle.order_events.specs.tc_code.declared.instr.Instr.TheVariants.{Inside, Branch, Create, Join, Holds, Ready, Assert, Nonzero, InRange}
use Rattle.order_events.specs.tc_code.Step.{is_within, is_nonzero, value_in, holds, can_be_joined, child_number, handle_of, site, request}
use Rattle.order_events.specs.int_ops.Arith.{is_distance}
use Rattle.order_events.proofs.run_laws.Changes.{is_fail}
use Rattle.sym_laws.specs.run_history.History.{Deed, Did}
use Rattle.sym_laws.specs.run_history.Told.{fails, children_in}
use Rattle.sym_laws.proofs.run_history.Lists.{last_or-push}
use Rattle.sym_laws.specs.run_follows.Follow.{OtherIs}
use Rattle.order_events.specs.path_walk.Steps.{is_site}
use Rattle.sym_laws.specs.path_laws.history.Next.{IsAsWanted}
use Rattle.order_events.specs.path_walk.Events.{kind_with}
use Rattle.order_events.specs.path_walk.Marks.{Marks}
use Rattle.order_events.specs.path_walk.declared.event.EventKind.TheVariants as kind
use Rattle.sym_laws.specs.path_laws.Along.{HasMarks}
use Rattle.sym_laws.specs.path_laws.Deeds.{kind_of}
use Rattle.sym_laws.proofs.path_laws.Deeds.{same_test}
use Rattle.sym_laws.specs.sym_exec.Alone.{condition}
use Rattle.sym_laws.specs.sym_exec.Thread.{Doing, wanted_of}

-- a site that passes unless it should fail
fail_site : (b fails : Bool) → b ≡ not fails → is_fail (site b) ≡ fails
fail_site true true e = absurd (true≢false e)
fail_site true false e = refl
fail_site false true e = refl
fail_site false false e = absurd (true≢false (sym e))

never : (fails : Bool) → (fails ≡ true → false ≡ true) → false ≡ fails
never true h = absurd (true≢false (sym (h refl)))
never false h = refl

-- an instruction fails if it should, given that its test has its wanted outcome and only a site
-- should fail
pub fails_as_told : (t : Local) (i : Instr) (fails : Bool) → IsAsWanted fails t i
    → ((b : Bool) → condition t i ≡ Some b → is_site i ≡ true → b ≡ not fails) → (fails ≡ true → is_site i ≡ true) → is_fail (request t i) ≡ fails
fails_as_told t (Inside len e) fails wanted tested sites = fail_site (is_within len (value_in t e)) fails (tested _ refl refl)
fails_as_told t (Holds m) fails wanted tested sites = fail_site (holds t m) fails wanted
fails_as_told t (Ready v) fails wanted tested sites = fail_site (can_be_joined (handle_of t v)) fails wanted
fails_as_told t (Assert e) fails wanted tested sites = fail_site (is_nonzero (value_in t e)) fails (tested _ refl refl)
fails_as_told t (Nonzero e) fails wanted tested sites = fail_site (is_nonzero (value_in t e)) fails (tested _ refl refl)
fails_as_told t (InRange e) fails wanted tested sites = fail_site (is_distance (value_in t e)) fails (tested _ refl refl)
fails_as_told t i fails wanted tested sites = never fails sites

-- the deed of the step fails if it should
pub deed_fails : (n : Name) (k : ℕ) (r : Request) (took : ℤ) (other : Option Name) → fails (Did n k r took other) ≡ cond (is_fail r) (Some n) None
deed_fails n k Fail took other = refl
deed_fails n k Silent took other = refl
deed_fails n k r took other = refl

-- The kind of a step's request is the one that the path gives its instruction.

-- a site is an event only if it fails
site_is : (b : Bool) (other : Option Name) → kind_of (site b) other ≡ cond (is_fail (site b)) (Some kind.Fail) None
site_is true other = refl
site_is false other = refl

pub asked_kind : (h : List Deed) (n : Name) (t : Local) (m : Marks) (i : Instr) (other : Option Name) → OtherIs h n (request t i) other
    → t.children ≡ children_in h n → HasMarks t m → kind_of (request t i) other ≡ kind_with m i (is_fail (request t i))
asked_kind h n t m (Create v f es) other is children marks =
    ap (λ o. option_map kind.Create (option_and_then (last_or None) o)) is
    ∙ ap (option_map kind.Create) (last_or-push None n (children_in h n + 1))
    ∙ ap (λ k. Some (kind.Create (k + 1))) (sym children ∙ sym marks.children)
asked_kind h n t m (Join v) other is children marks = ap (λ hs. Some (kind.Join (child_number (slice_index_or hs v Unset)))) (sym marks.handles)
asked_kind h n t m (Inside len e) other is children marks = site_is _ other
asked_kind h n t m (Holds k) other is children marks = site_is _ other
asked_kind h n t m (Ready v) other is children marks = site_is _ other
asked_kind h n t m (Assert e) other is children marks = site_is _ other
asked_kind h n t m (Nonzero e) other is children marks = site_is _ other
asked_kind h n t m (InRange e) other is children marks = site_is _ other
asked_kind h n t m i other is children marks = refl

-- the wanted outcome of a site: it passes, unless the thread fails in that step
pub site_is_wanted : (outcomes : List Bool) (fails : Option ℕ) (d : Doing) (i : Instr) → is_site i ≡ true
    → wanted_of outcomes fails d i ≡ option_map_or (λ m. not (d.steps == m)) fails true
site_is_wanted outcomes None d (Branch e to) site = absurd (true≢false (sym site))
site_is_wanted outcomes (Some m) d (Branch e to) site = absurd (true≢false (sym site))
site_is_wanted outcomes None d i site = refl
site_is_wanted outcomes (Some m) d i site = refl

-- if a thread fails only in its last step, it passes in each earlier one
pub passes_before : (b : Bool) (k n : ℕ) → k < n → option_map_or (λ m. not (k == m)) (cond b (Some (n - 1)) None) true ≡ not (b && k + 1 == n)
passes_before false k n few = refl
passes_before true k n few = ap not (same_test k (n - 1) (k + 1) n (λ e. omega (arith, e, few)) (λ e. omega (arith, e)))

-- one of several tests with wanted outcomes
pub one_wanted : {X : Type 0} (f : X → Bool) (wanted b : Bool) (xs : List X) → map f xs ≡ b ∷ [] → Each (λ x. f x ≡ wanted) xs → b ≡ wanted
one_wanted f wanted b [] is each = absurd cc
one_wanted f wanted b (x ∷ xs) is each = let same : f x ≡ b = cc in sym same ∙ each.0
