-- The functions that awaited threads run are those that the paths of the log give them.
use Rattle.std.proofs.Common.{◌≡◌, ◌∙◌, inl, inr, ℕ, suc, ◌+◌, true, List, [], ◌∷◌, Option, Some, sym, ap, ap₂, arith}
use Rattle.std.specs.Prelude.{slice_get, option_and_then}
use Rattle.std.proofs.lemmas.Option.{same_Some}
use Rattle.log_walk.specs.run_log.Logs.{Log, is_log}
use Rattle.log_walk.specs.tc_base.Names.{child}
use Rattle.log_walk.specs.tc_base.Paths.{ThreadPath, path_under}
use Rattle.log_walk.specs.tc_code.Code.{Code}
use Rattle.log_walk.specs.tc_code.declared.instr.Instr.{Instr}
use Rattle.normal_logs.proofs.run_history.of_pending.In.{In}
use Rattle.log_walk.specs.path_walk.Fits.{Fits, places_in, started, child_function, function_of}
use Rattle.log_walk.specs.path_walk.Paths.{Walk}
use Rattle.log_walk.specs.path_walk.Steps.{steps_at}
use Rattle.log_walk.proofs.path_walk.Faults.{function_of_child}
use Rattle.normal_logs.specs.path_laws.history.Along.{IsThread, path_thread}
use Rattle.normal_logs.proofs.path_laws.Prefixes.{own_under}
use Rattle.normal_logs.proofs.path_laws.of_history.Walks.{IsWalk, walk_is, named}
use Rattle.log_walk.specs.Told.{Told, told}
use Rattle.log_walk.specs.declared.bounds.Kind.{Kind}
use Rattle.log_walk.specs.declared.rest.Awaited.{Awaited}
use Rattle.walked_logs.proofs.Children.{IsChild}
use Rattle.walked_logs.proofs.Ends.{says, says_so}

-- Where something is in a list.
pub in_get : {X : Type 0} (x : X) (xs : List X) → In x xs → (k : ℕ) × (slice_get xs k ≡ Some x)
in_get x [] i = absurd i
in_get x (y ∷ xs) (inl e) = (0, ap (λ z. Some z) e)
in_get x (y ∷ xs) (inr i) = let rest = in_get x xs i in (suc rest.0, rest.1)

module _ (code : Code) (log : Log) (is : is_log log ≡ true) (fits : Fits code log) where
  -- the walk of a thread of the log
  pub record IsOf (t : ThreadPath) : Type 0 where
    pub place : ℕ
    pub walk : Walk
    pub there : IsThread code log place walk
    pub name : walk.name ≡ t.name
    pub path : (walk_is code log is fits (path_thread place walk there)).path ≡ t.path

  pub of : (t : ThreadPath) → In t log.threads → IsOf t
  of t i =
      let at = in_get t log.threads i in
      let under = own_under log is at.0 t at.1 in
      let n = named code log is fits t.name t.path under in
      let k = walk_is code log is fits n.thread in
      record {
        place = n.index;
        walk = n.walk;
        there = n.there;
        name = n.name_is;
        path = same_Some k.path t.path (sym k.under ∙ ap (λ q. path_under q log.threads) n.name_is ∙ under);
      }

  -- the thread of an awaited name
  module _ (t : ThreadPath) (c : Awaited) (o : IsOf t) (own_name : t.name ≡ c.name) (known : function_of code log c.name ≡ Some c.function) where
    abbrev w : Walk
    w = o.walk

    abbrev k : IsWalk code log w
    k = walk_is code log is fits (path_thread o.place o.walk o.there)

    pub name : w.name ≡ c.name
    name = o.name ∙ own_name

    pub function : w.function ≡ c.function
    function = same_Some w.function c.function (sym k.function ∙ ap (function_of code log) name ∙ known)

    abbrev T : Told
    T = told code c.function t.path

    pub same_told : says code log w k ≡ T
    same_told = ap₂ (told code) function o.path

    -- its children are those of its path
    pub created : T.created ≡ started (steps_at code c.function (places_in code log c.name c.function))
    created =
        ap (λ (x : Told). x.created) (sym same_told) ∙ (says_so code log w k).created
        ∙ ap (λ ps. started (steps_at code w.function ps)) (sym k.told)
        ∙ ap₂ (λ n f. started (steps_at code f (places_in code log n f))) name function

    -- and run the functions that the paths give them
    pub child_made : (kind : Kind) (at : Option Instr) (d : Awaited) → IsChild kind c.name at T 0 T.created d → function_of code log d.name ≡ Some d.function
    child_made kind at d h =
        let number : 0 + h.place + 1 ≡ suc h.place = omega arith in
        ap (function_of code log) (h.name ∙ ap (child c.name) number)
        ∙ function_of_child code log c.name (suc h.place)
        ∙ ap (option_and_then (λ g. child_function code log c.name g (suc h.place))) known
        ∙ ap (λ xs. slice_get xs h.place) (sym created)
        ∙ h.there
