-- A path, step by step.
use Rattle.std.proofs.Common.{◌≡◌, ◌∙◌, ℕ, zero, suc, ◌+◌, ◌≤◌, Bool, List, [], ◌∷◌, length, Some, None, refl, ap, arith}
use Rattle.std.specs.Option.{option_map_or}
use Rattle.std.proofs.lemmas.List.{length-append}
use Rattle.tc_code.specs.Code.{Code, instr_at}
use Rattle.tc_code.specs.declared.instr.Instr.{Instr}
use Rattle.tc_code.specs.declared.instr.Instr.TheVariants.{Create}
use Rattle.thread_paths.specs.path_walk.Steps.{Onward, onward}
use Rattle.log_walk.specs.Told.{Told, told_by, told_from}

-- a step adds at most one child
pub one_more : (t : Told) (i : Instr) (to : ℕ) → length (told_by t i to).created ≤ length t.created + 1
one_more t (Create h f es) to = omega (arith, length-append t.created (f ∷ []))
one_more t _ to = omega arith

module _ (code : Code) (f : ℕ) (o : List Bool) (t : Told) (k : ℕ) (place : t.place ≡ k) where
  abbrev go : ℕ → Instr → Onward → Told
  go n i on = told_from code f n on.outcomes (told_by t i on.place)

  -- past the last instruction nothing changes
  pub past : (n : ℕ) → instr_at code f k ≡ None → told_from code f n o t ≡ t
  past zero at = refl
  past (suc n) at = ap (λ x. option_map_or (λ i. option_map_or (go n i) (onward t.place i o) t) x t) (ap (instr_at code f) place ∙ at)

  module _ (o' : List Bool) (outcomes : o ≡ o') (i : Instr) (at : instr_at code f k ≡ Some i) where
    abbrev by_instr : (n : ℕ) → told_from code f (suc n) o t ≡ option_map_or (go n i) (onward t.place i o) t
    by_instr n = ap (λ x. option_map_or (λ j. option_map_or (go n j) (onward t.place j o) t) x t) (ap (instr_at code f) place ∙ at)

    -- without an outcome for a branch nothing changes
    pub short : (n : ℕ) → onward k i o' ≡ None → told_from code f n o t ≡ t
    short zero on = refl
    short (suc n) on = by_instr n ∙ ap (λ x. option_map_or (go n i) x t) (ap (λ p. onward p i o) place ∙ ap (onward k i) outcomes ∙ on)

    -- one step further
    pub more : (m n : ℕ) (on : Onward) → m ≡ n + 1 → onward k i o' ≡ Some on
        → told_from code f m o t ≡ told_from code f n on.outcomes (told_by t i on.place)
    more zero n on is leads = absurd (omega (arith, is))
    more (suc m) n on is leads =
        by_instr m
        ∙ ap (λ x. option_map_or (go m i) x t) (ap (λ p. onward p i o) place ∙ ap (onward k i) outcomes ∙ leads)
        ∙ ap (λ j. go j i on) (omega (arith, is))
