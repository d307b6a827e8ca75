-- A history with one more deed.
use Rattle.std.proofs.Common.{◌≡◌, ◌∙◌, ◌≢◌, ℕ, ◌+◌, ◌≤◌, ℤ, Bool, true, false, ◌||◌, cond, List, [], ◌∷◌, ◌++◌, Option, Some, None, refl, ap, arith}
use Rattle.std.specs.List.{filter_map, list_any, cons_option}
use Rattle.std.specs.Option.{option_or}
use Rattle.std.proofs.lemmas.List.Folds.{list_any-append}
use Rattle.condition_order.specs.tc_base.Names.{Name, main}
use Rattle.condition_order.specs.tc_base.declared.request.Request.{Request}
use Rattle.condition_order.specs.tc_base.declared.request.Request.TheVariants.{Silent, Fail}
use Rattle.condition_order.proofs.run_laws.Names.{same_self, same_other}
use Rattle.sym_steps.specs.run_history.History.{Deed, Did, Drained, same}
use Rattle.sym_steps.specs.run_history.Told.{is_step_of, steps_in, creates, is_thread_in, fails, failed_in}
use Rattle.sym_steps.proofs.run_history.Lists.{filter_map-push, last_of-push, count-push}
use Rattle.condition_order.specs.path_walk.declared.event.EventKind.TheVariants as kind
use Rattle.sym_steps.specs.path_laws.Deeds.{kind_of}

-- Threads stay, and the numbers of their steps grow.
pub record GoesOn (h g : List Deed) : Type 0 where
  pub there : (n : Name) → is_thread_in h n ≡ true → is_thread_in g n ≡ true
  pub grows : (n : Name) → steps_in h n ≤ steps_in g n

pub goes_nowhere : (h : List Deed) → GoesOn h h
goes_nowhere h = record { there = λ n is. is; grows = λ n. omega arith }

pub goes_further : (h g k : List Deed) → GoesOn h g → GoesOn g k → GoesOn h k
goes_further h g k a b = record { there = λ n is. b.there n (a.there n is); grows = λ n. omega (arith, a.grows n, b.grows n) }

or_more : (a b c : Bool) → (a || b) ≡ true → (a || (b || c)) ≡ true
or_more true b c e = refl
or_more false true c e = refl
or_more false false c e = absurd cc

pub goes_push : (h : List Deed) (d : Deed) → GoesOn h (h ++ d ∷ [])
goes_push h d = record {
  there = λ n is.
      ap (λ ns. same n main || list_any (same n) ns) (filter_map-push creates h d)
      ∙ ap (λ b. same n main || b) (list_any-append (same n) (filter_map creates h) (cons_option (creates d) []))
      ∙ or_more (same n main) (list_any (same n) (filter_map creates h)) (list_any (same n) (cons_option (creates d) [])) is;
  grows = λ n. omega (arith, count-push (is_step_of n) h d);
}

-- a step adds one to the steps of its thread, and nothing to those of others
pub steps_own : (h : List Deed) (n : Name) (k : ℕ) (r : Request) (v : ℤ) (o : Option Name) → steps_in (h ++ Did n k r v o ∷ []) n ≡ steps_in h n + 1
steps_own h n k r v o = count-push (is_step_of n) h (Did n k r v o) ∙ ap (λ b. steps_in h n + cond b 1 0) (same_self n n refl)

pub steps_other : (h : List Deed) (n q : Name) (k : ℕ) (r : Request) (v : ℤ) (o : Option Name) → q ≢ n
    → steps_in (h ++ Did n k r v o ∷ []) q ≡ steps_in h q
steps_other h n q k r v o apart =
    let e = count-push (is_step_of q) h (Did n k r v o) ∙ ap (λ b. steps_in h q + cond b 1 0) (same_other q n apart) in
    omega (arith, e)

pub steps_drained : (h : List Deed) (n q : Name) (k c : ℕ) (v : ℤ) → steps_in (h ++ Drained n k c v ∷ []) q ≡ steps_in h q
steps_drained h n q k c v = let e = count-push (is_step_of q) h (Drained n k c v) in omega (arith, e)

-- the failed thread after a deed
pub failed_after : (h : List Deed) (d : Deed) → failed_in h ≡ None → failed_in (h ++ d ∷ []) ≡ fails d
failed_after h d none = last_of-push fails h d ∙ ap (option_or (fails d)) none ∙ or_nothing (fails d)
  where
    or_nothing : (o : Option Name) → option_or o None ≡ o
    or_nothing None = refl
    or_nothing (Some n) = refl

pub fails_not : (n : Name) (k : ℕ) (r : Request) (v : ℤ) (o : Option Name) → kind_of r o ≢ Some kind.Fail → fails (Did n k r v o) ≡ None
fails_not n k Fail v o not = absurd (not refl)
fails_not n k Silent v o not = refl
fails_not n k r v o not = refl
