-- From one bound on outcomes to the next.
use Rattle.std.proofs.Common.{◌≡◌, ◌∙◌, ℕ, ◌+◌, ◌≤◌, ◌<◌, Bool, true, false, not, ◌||◌, ◌==◌, inl, inr, refl, sym, subst, arith}
use Rattle.std.specs.Prelude.{◌⊎◌}
use Rattle.std.proofs.lemmas.Bool.{false≢true, eqb-true, eq-eqb, cases_lt}
use Rattle.memory_models.specs.declared.model.Model.{Model}
use Rattle.tc_base.specs.Buffers.{BufferOps}
use Rattle.tc_code.specs.Code.{Code}
use Rattle.tc_code.specs.tc_limits.declared.limits.TheConstants.{THREADS}
use Rattle.store_buffers.specs.Pending.{Binding}
use Rattle.log_walk.specs.thread_paths.pure_turns.Live.{Liveness}
use Rattle.log_walk.specs.Given.{IsLeftOut}
use Rattle.log_walk.specs.Given.IsLeftOut.{Outcomes, Steps, Depth, Threads}
use Rattle.log_walk.specs.declared.bounds.LeftOut.{LeftOut}
use Rattle.find_failures.specs.declared.asked.Asked.{Asked}
use Rattle.find_failures.specs.declared.gone.Gone.{Gone}
use Rattle.find_failures.specs.declared.round.Ended.{Ended}
use Rattle.find_failures.specs.declared.round.Ended.TheVariants.{Possible, TooMany, Done}
use Rattle.find_failures.specs.Runs.{AreExcluded}
use Rattle.find_failures.specs.helpers.Gone.{AreGone, AreSettled, AreDone, IsEnded, is_last}
use Rattle.find_failures.proofs.Below.{one_is_in, one_in_more}

module _ {B : Type 0} (ops : BufferOps B) (model : Model) (bound : Binding) (code : Code) (live : Liveness) (asked : Asked) (level : ℕ) (gone : Gone) where
  -- nothing comes before the first bound
  pub first_settled : AreSettled ops model code live asked.kind 0 gone
  first_settled closed less ts below = absurd (omega (arith, below))

  -- after one bound the logs below the next are excluded
  next_settled : (out : LeftOut) → AreDone ops model code live asked.kind level gone out → AreSettled ops model code live asked.kind (level + 1) gone
  next_settled out done closed less ts below one = by (done closed ts one.makes_up)
    where
      by : AreExcluded ops model code live asked.kind ts ⊎ IsLeftOut level THREADS out ts → AreExcluded ops model code live asked.kind ts
      by (inl excluded) = excluded
      by (inr left) =
          absurd (one_is_in code (record { kind = asked.kind; most = level }) out ts
          (one_in_more code asked.kind less level ts (omega (arith, below)) one) left)

  -- greater bounds lead to no more logs
  with_more : (out : LeftOut) → out.outcomes ≡ false → AreDone ops model code live asked.kind level gone out
      → AreDone ops model code live asked.kind asked.outcomes gone out
  with_more out none done closed ts made = by (done closed ts made)
    where
      by : AreExcluded ops model code live asked.kind ts ⊎ IsLeftOut level THREADS out ts
          → AreExcluded ops model code live asked.kind ts ⊎ IsLeftOut asked.outcomes THREADS out ts
      by (inl excluded) = inl excluded
      by (inr (Outcomes told is)) = absurd (false≢true (subst (λ b. b ≡ true) none told))
      by (inr (Steps told is)) = inr (Steps told is)
      by (inr (Depth told is)) = inr (Depth told is)
      by (inr (Threads told is)) = inr (Threads told is)

  last_done : (out : LeftOut) → is_last asked level (Done out) ≡ true → AreDone ops model code live asked.kind level gone out
      → AreDone ops model code live asked.kind asked.outcomes gone out
  last_done out last done = by (level == asked.outcomes) refl out.outcomes refl last
    where
      by : (b : Bool) → (level == asked.outcomes) ≡ b → (c : Bool) → out.outcomes ≡ c → (b || not c) ≡ true
          → AreDone ops model code live asked.kind asked.outcomes gone out
      by true same c cut e = subst (λ n. AreDone ops model code live asked.kind n gone out) (eqb-true level asked.outcomes same) done
      by false same true cut e = absurd (false≢true e)
      by false same false cut e = with_more out cut done

  -- the last bound decides
  pub ended_last : (ended : Ended) → is_last asked level ended ≡ true → IsEnded ops model bound code live asked level gone ended
      → IsEnded ops model bound code live asked asked.outcomes gone ended
  ended_last (Possible log) last is = is
  ended_last TooMany last is = is
  ended_last (Done out) last is = (is.0, last_done out last is.1)

  -- before the last bound
  pub ended_before : (ended : Ended) → is_last asked level ended ≡ false → level ≤ asked.outcomes
      → IsEnded ops model bound code live asked level gone ended
      → AreGone ops model bound code asked gone × AreSettled ops model code live asked.kind (level + 1) gone × (level < asked.outcomes)
  ended_before (Possible log) last le is = absurd (false≢true (sym last))
  ended_before TooMany last le is = absurd (false≢true (sym last))
  ended_before (Done out) last le is = (
    is.0,
    next_settled out is.1,
    less (level == asked.outcomes) refl last,
  )
    where
      less : (b : Bool) → (level == asked.outcomes) ≡ b → (b || not out.outcomes) ≡ false → level < asked.outcomes
      less true same e = absurd (false≢true (sym e))
      less false same e = by_least (cases_lt level asked.outcomes)
        where
          by_least : (level < asked.outcomes) ⊎ (asked.outcomes ≤ level) → level < asked.outcomes
          by_least (inl l) = l
          by_least (inr l) = absurd (false≢true (sym same ∙ eq-eqb level asked.outcomes (omega (arith, le, l))))
