-- The moves made so far, and the history that they are those of.
use Rattle.std.proofs.Common.{◌≡◌, ◌∙◌, ◌≢◌, ℕ, zero, suc, ◌<◌, ◌==◌, Bool, true, false, cond, List, [], ◌∷◌, ◌++◌, length}
use Rattle.std.proofs.Common.{Option, Some, None, sym, ap, refl, arith, append-nil, length-set}
use Rattle.std.specs.Prelude.{slice_get, max}
use Rattle.std.specs.Option.{option_map_or}
use Rattle.std.proofs.lemmas.Bool.{false≢true, eqb-true, eq-eqb}
use Rattle.std.proofs.lemmas.Option.{same_Some, slice_get_within}
use Rattle.tc_code.specs.run_log.Logs.{Log}
use Rattle.store_buffers.specs.tc_base.Names.{Name}
use Rattle.store_buffers.specs.tc_base.declared.moves.Move.{Move}
use Rattle.store_buffers.specs.tc_base.declared.request.Request.{Request}
use Rattle.tc_code.specs.Code.{Code}
use Rattle.store_buffers.specs.Pending.{Binding}
use Rattle.world_moves.specs.run_history.History.{Deed, Did}
use Rattle.world_moves.specs.run_history.Locals.{asks_next}
use Rattle.world_moves.specs.run_history.Told.{steps_in}
use Rattle.world_moves.proofs.run_history.Lists.{index_or-set}
use Rattle.world_moves.specs.run_follows.Follow.{moves_for, taken_in}
use Rattle.tc_code.specs.run_log.Logs.{is_log}
use Rattle.path_walk.specs.Paths.{Walk, Paths, paths_of}
use Rattle.world_moves.specs.path_laws.history.Along.{IsThread}
use Rattle.order_formula.specs.Worlds.{World}
use Rattle.world_moves.specs.world_plan.Plan.{other_of, does_next, goes_on}
use Rattle.world_moves.proofs.world_plan.Threads.{one_thread}
use Rattle.world_moves.specs.Moves.{Made, steps_of, with_moves}
use Rattle.plan_runs.proofs.Deeds.{steps_other}

-- the moves so far are those of a history, and so are the counts of steps
pub record IsMadeOf (bound : Binding) (code : Code) (log : Log) (h : List Deed) (m : Made) : Type 0 where
  pub moves : m.moves ≡ moves_for bound h
  pub threads : length m.steps ≡ length (paths_of code log).threads
  pub steps : (t : ℕ) (q : Walk) → IsThread code log t q → steps_of m t ≡ steps_in h q.name

-- the steps of one thread aren't those of another
pub others_stay : (buffered : Bool) (code : Code) (paths : Paths) (w : World) (m : ℕ) (h : List Deed) (t : ℕ) (n u : Name) → u ≢ n
    → steps_in (goes_on buffered code paths w m h t n) u ≡ steps_in h u
others_stay buffered code paths w zero h t n u apart = refl
others_stay buffered code paths w (suc m) h t n u apart =
    others_stay buffered code paths w m (h ++ does_next buffered code paths w h t n) t n u apart ∙ by (asks_next code h n)
  where
    by : (o : Option Request)
        → steps_in (h ++ option_map_or (λ r. Did n (steps_in h n) r (taken_in buffered code h n r) (other_of paths w h t n r) ∷ []) o []) u ≡ steps_in h u
    by None = ap (λ ds. steps_in ds u) (append-nil h)
    by (Some r) = steps_other h n u (steps_in h n) r (taken_in buffered code h n r) (other_of paths w h t n r) apart

-- a thread's further moves are those of a longer history
pub made_on : (bound : Binding) (code : Code) (log : Log) → is_log log ≡ true → (h later : List Deed) (m : Made) → IsMadeOf bound code log h m
    → (t : ℕ) (q : Walk) → IsThread code log t q → (k : ℕ) (more : List Move) → moves_for bound later ≡ moves_for bound h ++ more
    → steps_in later q.name ≡ max (steps_in h q.name) k → ((n : Name) → n ≢ q.name → steps_in later n ≡ steps_in h n)
    → IsMadeOf bound code log later (with_moves m t k more)
made_on bound code log is h later m made t q there k more moves steps others = record {
  moves = ap (λ ms. ms ++ more) made.moves ∙ sym moves;
  threads = length-set m.steps t (max (steps_of m t) k) ∙ made.threads;
  steps = λ u v at. by u v at (t == u) refl;
}
  where
    within : (u : ℕ) (v : Walk) → IsThread code log u v → u < length m.steps
    within u v at = let few = slice_get_within (paths_of code log).threads u v at in omega (arith, few, made.threads)

    set_is : (u : ℕ) (v : Walk) → IsThread code log u v → (b : Bool) → (t == u) ≡ b
        → steps_of (with_moves m t k more) u ≡ cond b (max (steps_of m t) k) (steps_of m u)
    set_is u v at b e =
        index_or-set m.steps t u (max (steps_of m t) k) 0 (within u v at) ∙ ap (λ c. cond c (max (steps_of m t) k) (steps_of m u)) e

    by : (u : ℕ) (v : Walk) → IsThread code log u v → (b : Bool) → (t == u) ≡ b → steps_of (with_moves m t k more) u ≡ steps_in later v.name
    by u v at true e =
        let walk : q ≡ v = same_Some q v (sym there ∙ ap (slice_get (paths_of code log).threads) (eqb-true t u e) ∙ at) in
        set_is u v at true e ∙ ap (λ n. max n k) (made.steps t q there) ∙ sym steps ∙ ap (λ (x : Walk). steps_in later x.name) walk
    by u v at false e =
        set_is u v at false e ∙ made.steps u v at
        ∙ sym (others v.name (λ same. false≢true (sym e ∙ eq-eqb t u (sym (one_thread code log is u t v q at there same)))))
