-- The names that have a fault.
use Rattle.std.proofs.Common.{◌≡◌, ◌∙◌, ◌⊎◌, inl, inr, ℕ, zero, suc, ◌-◌, cond, List, [], ◌∷◌, ◌++◌, length}
use Rattle.std.proofs.Common.{IsSome, Option, Some, None, Err, refl, sym, ap, subst, append_assoc, append-nil, true≢false}
use Rattle.std.specs.Prelude.{is_some, option_and_then, slice_get}
use Rattle.std.specs.Option.{option_map_or}
use Rattle.std.specs.Ordering.{is_lt}
use Rattle.std.specs.Result.{result_err, result_unwrap_or}
use Rattle.std.specs.declared.cmp.Ordering.{Ordering}
use Rattle.std.specs.declared.cmp.Ordering.TheVariants.{Less, Equal, Greater}
use Rattle.std.proofs.lemmas.Option.{none-some, same_Some}
use Rattle.tc_base.specs.Names.{Name, by_name, child}
use Rattle.run_log.specs.Logs.{Log}
use Rattle.tc_base.specs.Paths.{Path, path_under}
use Rattle.tc_base.proofs.Names.{same_name, turned}
use Rattle.tc_code.specs.Code.{Code}
use Rattle.path_walk.specs.Steps.{steps_at, places_of}
use Rattle.path_walk.specs.Fits.{IsFirst, started, ending_of, places_or_misfit, child_function, function_below, function_of, unless_absent, misfit_of}
use Rattle.path_walk.specs.declared.fault.Misfit.{Misfit}
use Rattle.path_walk.specs.declared.fault.Misfit.TheVariants as misfit

-- an option is none or has a value
pub option_is : {X : Type 0} (o : Option X) → (o ≡ None) ⊎ ((x : X) × (o ≡ Some x))
option_is None = inl refl
option_is (Some x) = inr (x, refl)

pub there : {X : Type 0} (o : Option X) (x : X) → o ≡ Some x → IsSome o
there o x e = subst IsSome (sym e) refl

pub not_there : {X : Type 0} (o : Option X) → o ≡ None → IsSome o → ⊥
not_there o e h = true≢false (sym h ∙ ap is_some e)

then_same : (o : Option ℕ) → option_and_then (λ g. Some g) o ≡ o
then_same None = refl
then_same (Some g) = refl

then_alike : (F H G : ℕ → Option ℕ) (o : Option ℕ) → ((g : ℕ) → F g ≡ option_and_then H (G g))
    → option_and_then F o ≡ option_and_then H (option_and_then G o)
then_alike F H G None h = refl
then_alike F H G (Some g) h = h g

module _ (code : Code) (log : Log) where
  below_child : (m : Name) (f : ℕ) (ks : List ℕ) (k : ℕ)
      → function_below code log m f (ks ++ k ∷ []) ≡ option_and_then (λ g. child_function code log (m ++ ks) g k) (function_below code log m f ks)
  below_child m f [] k =
      then_same (child_function code log m f k) ∙ ap (λ n. child_function code log n f k) (sym (append-nil m))
  below_child m f (j ∷ ks) k =
      then_alike (λ g. function_below code log (child m j) g (ks ++ k ∷ [])) (λ g. child_function code log (m ++ j ∷ ks) g k)
      (λ g. function_below code log (child m j) g ks) (child_function code log m f j)
      (λ g. below_child (child m j) g ks k
      ∙ ap (λ n. option_and_then (λ h. child_function code log n h k) (function_below code log (child m j) g ks)) (append_assoc m (j ∷ []) ks))

  -- a child's function is that of its parent's create
  pub function_of_child : (p : Name) (k : ℕ) → function_of code log (child p k) ≡ option_and_then (λ g. child_function code log p g k) (function_of code log p)
  function_of_child p k = below_child [] (length code.functions - 1) p k

  pub walked_absent : (n : Name) (f : ℕ) → path_under n log.threads ≡ None → places_or_misfit code log n f ≡ Err misfit.Missing
  walked_absent n f e = ap (λ o. option_map_or (places_of code f (ending_of log n)) o (Err misfit.Missing)) e

  pub walked_there : (n : Name) (f : ℕ) (p : Path) → path_under n log.threads ≡ Some p → places_or_misfit code log n f ≡ places_of code f (ending_of log n) p
  walked_there n f p e = ap (λ o. option_map_or (places_of code f (ending_of log n)) o (Err misfit.Missing)) e

  none_started : (n : Name) (f k : ℕ) → path_under n log.threads ≡ None → child_function code log n f k ≡ None
  none_started n f zero e = refl
  none_started n f (suc k) e = ap (λ r. slice_get (started (steps_at code f (result_unwrap_or r []))) k) (walked_absent n f e)

  -- a name without a path creates no child
  pub no_child : (p : Name) (k : ℕ) → path_under p log.threads ≡ None → function_of code log (child p k) ≡ None
  no_child p k e = function_of_child p k ∙ none_from (function_of code log p)
    where
      none_from : (o : Option ℕ) → option_and_then (λ g. child_function code log p g k) o ≡ None
      none_from None = refl
      none_from (Some g) = none_started p g k e

  -- the fault of a name, by whether it has a function
  fault_by : (n : Name) (o : Option ℕ) → function_of code log n ≡ o
      → misfit_of code log n ≡ option_map_or (λ f. result_err (places_or_misfit code log n f)) o (unless_absent code log n)
  fault_by n o e = ap (λ o. option_map_or (λ f. result_err (places_or_misfit code log n f)) o (unless_absent code log n)) e

  pub missing : (n : Name) (f : ℕ) → function_of code log n ≡ Some f → path_under n log.threads ≡ None → misfit_of code log n ≡ Some misfit.Missing
  missing n f e absent = fault_by n (Some f) e ∙ ap result_err (walked_absent n f absent)

  pub nobody : (n : Name) → function_of code log n ≡ None → path_under n log.threads ≡ None → misfit_of code log n ≡ None
  nobody n e absent = fault_by n None e ∙ ap (λ o. cond (is_some o) (Some misfit.Stranger) None) absent

  pub stranger : (n : Name) (p : Path) → function_of code log n ≡ None → path_under n log.threads ≡ Some p → misfit_of code log n ≡ Some misfit.Stranger
  stranger n p e here = fault_by n None e ∙ ap (λ o. cond (is_some o) (Some misfit.Stranger) None) here

  pub by_path : (n : Name) (f : ℕ) (p : Path) → function_of code log n ≡ Some f → path_under n log.threads ≡ Some p
      → misfit_of code log n ≡ result_err (places_of code f (ending_of log n) p)
  by_path n f p e here = fault_by n (Some f) e ∙ ap result_err (walked_there n f p here)

  -- a thread of the log without a fault has a function
  pub fitting : (n : Name) (p : Path) → path_under n log.threads ≡ Some p → misfit_of code log n ≡ None → (f : ℕ) × (function_of code log n ≡ Some f)
  fitting n p here fits =
      elim (option_is (function_of code log n)) [
        | inl none ↦ absurd (none-some misfit.Stranger (sym fits ∙ stranger n p none here))
        | inr is ↦ is
      ]

  -- only one name is the least with a fault, and it has one fault
  pub one_first : (n q : Name) (m k : Misfit) → IsFirst code log n m → IsFirst code log q k → (n ≡ q) × (m ≡ k)
  one_first n q m k f g = by (by_name n q) refl
    where
      by : (o : Ordering) → by_name n q ≡ o → (n ≡ q) × (m ≡ k)
      by Less is = absurd (none-some m (sym (g.least n (ap is_lt is)) ∙ f.there))
      by Equal is =
          let name = same_name n q is in
          (name, same_Some m k (sym f.there ∙ ap (misfit_of code log) name ∙ g.there))
      by Greater is = absurd (none-some k (sym (f.least q (ap is_lt (turned n q is))) ∙ g.there))
