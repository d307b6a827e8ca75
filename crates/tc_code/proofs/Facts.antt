-- Facts on code and its runs for later crates.
use Rattle.std.specs.Prelude.{◌≡◌, ℕ, Bool, true, false, List, [], ◌∷◌, ◌++◌, Option, Some, None, refl, option_and_then, option_map, slice_get, IsSomeAnd}
use Rattle.std.specs.Prelude.{if◌then◌else◌}
use Rattle.std.proofs.Common.{ap, subst, ◌∙◌}
use Rattle.std.proofs.lemmas.Option.{none-some, same_Some, option_and_then_some}
use Rattle.run_log.specs.tc_base.Buffers.{BufferOps}
use Rattle.run_log.specs.tc_base.Paths.{ThreadPath, place_in}
use Rattle.run_log.specs.Logs.{Log, failing_of}
use Rattle.run_log.specs.tc_base.States.{Local, State}
use Rattle.run_log.specs.tc_base.declared.failing.Failing.{Failing}
use Rattle.run_log.specs.tc_base.declared.failing.Failing.TheVariants as failing
use Rattle.run_log.specs.tc_base.declared.moves.Move.{Move}
use Rattle.tc_code.specs.declared.instr.Instr.{Instr}
use Rattle.tc_code.specs.Code.{Code, instr_at}
use Rattle.tc_code.specs.Lawful.{IsLawful, IsLawfulFunction}
use Rattle.tc_code.specs.Step.{instr_of, step, opening}
use Rattle.tc_code.specs.Run.{run_from, IsReached, EndsAs}
use Rattle.tc_code.specs.declared.code.Func.{Func}

-- an instruction at its place, in a lawful function
pub record IsPlaced (code : Code) (f k : ℕ) (i : Instr) : Type 0 where
  pub function : Func
  pub there : slice_get code.functions f ≡ Some function
  pub at : slice_get function.instrs k ≡ Some i
  pub lawful : IsLawfulFunction code function

-- each instruction of lawful code is at its place
pub placed : (code : Code) (f k : ℕ) (i : Instr) → IsLawful code → instr_at code f k ≡ Some i → IsPlaced code f k i
placed code f k i lawful at =
    option_and_then_some (λ g. slice_get g.instrs k) (slice_get code.functions f) i at
    (λ g there here. record { function = g; there = there; at = here; lawful = lawful.functions f g there })

-- a thread's next instruction is at its place
unless : {A : Type 0} (b : Bool) (o : Option A) (x : A) → (if b then None else o) ≡ Some x → o ≡ Some x
unless true o x h = absurd (none-some x h)
unless false o x h = h

pub at_its_place : (code : Code) (t : Local) (i : Instr) → instr_of code t ≡ Some i → instr_at code t.function t.instruction ≡ Some i
at_its_place code t i at = unless t.has_exited _ i at

pub placed_next : (code : Code) (t : Local) (i : Instr) → IsLawful code → instr_of code t ≡ Some i → IsPlaced code t.function t.instruction i
placed_next code t i lawful at = placed code t.function t.instruction i lawful (at_its_place code t i at)

module _ {B : Type 0} (ops : BufferOps B) (code : Code) where
  and_then-and_then : (o : Option (State B)) (xs ys : List Move)
      → ((u : State B) → run_from ops code u (xs ++ ys) ≡ option_and_then (λ v. run_from ops code v ys) (run_from ops code u xs))
      → option_and_then (λ u. run_from ops code u (xs ++ ys)) o ≡ option_and_then (λ v. run_from ops code v ys)
      (option_and_then (λ u. run_from ops code u xs) o)
  and_then-and_then None xs ys h = refl
  and_then-and_then (Some u) xs ys h = h u

  -- a run of joined moves is a run of the first and then of the others
  pub run_from-append : (s : State B) (xs ys : List Move)
      → run_from ops code s (xs ++ ys) ≡ option_and_then (λ u. run_from ops code u ys) (run_from ops code s xs)
  run_from-append s [] ys = refl
  run_from-append s (x ∷ xs) ys = and_then-and_then (step ops code s x) xs ys (λ u. run_from-append u xs ys)

  -- a run, and one more step
  pub run_from-step : (s u v : State B) (ms : List Move) (m : Move) → run_from ops code s ms ≡ Some u → step ops code u m ≡ Some v
      → run_from ops code s (ms ++ m ∷ []) ≡ Some v
  run_from-step s u v ms m h one =
      run_from-append s ms (m ∷ [])
      ∙ ap (option_and_then (λ w. run_from ops code w (m ∷ []))) h
      ∙ ap (option_and_then (λ w. run_from ops code w [])) one

  -- what each step keeps, a run keeps
  pub kept_by_run : (P : State B → Type 0) → ((s u : State B) (m : Move) → step ops code s m ≡ Some u → P s → P u)
      → (s u : State B) (ms : List Move) → run_from ops code s ms ≡ Some u → P s → P u
  kept_by_run P keeps s u [] h p = subst P (same_Some s u h) p
  kept_by_run P keeps s u (m ∷ ms) h p =
      option_and_then_some (λ v. run_from ops code v ms) (step ops code s m) u h
      (λ v one rest. kept_by_run P keeps v u ms rest (keeps s v m one p))

  -- a run reaches its first state, and each step from a reached state leads to one
  pub opening_is_reached : IsReached ops code (opening ops code)
  opening_is_reached = record { moves = []; leads = refl }

  pub step_is_reached : (s u : State B) (m : Move) → step ops code s m ≡ Some u → IsReached ops code s → IsReached ops code u
  step_is_reached s u m one r =
      record { moves = r.moves ++ m ∷ []; leads = run_from-step (opening ops code) s u r.moves m r.leads one }

  -- if a run ends as a log says, the failed thread is the log's failing thread, if it has one
  failed_there : (s : State B) (o : Option ThreadPath) → IsSomeAnd o (λ t. s.failed ≡ Some t.name) → s.failed ≡ option_map (λ t. t.name) o
  failed_there s None h = absurd h
  failed_there s (Some t) h = h

  pub failed_as_logged : (log : Log) (s : State B) → EndsAs ops code log.failing log.threads s → s.failed ≡ failing_of log
  failed_as_logged log s ends = by log.failing ends
    where
      by : (f : Failing) → EndsAs ops code f log.threads s
          → s.failed ≡ option_and_then (λ k. option_map (λ (t : ThreadPath). t.name) (slice_get log.threads k)) (place_in f)
      by (failing.Thread k) h = failed_there s (slice_get log.threads k) h
      by failing.Deadlock h = h.unfailed
