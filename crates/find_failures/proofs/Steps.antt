-- One log of a round further.
use Rattle.std.proofs.Common.{◌≡◌, ◌∙◌, ℕ, Bool, true, false, not, List, Option, Some, None, inl, inr, refl, sym, subst}
use Rattle.std.specs.Prelude.{◌⊎◌, IfSome}
use Rattle.std.proofs.lemmas.Bool.{false≢true}
use Rattle.memory_models.specs.declared.model.Model.{Model}
use Rattle.tc_base.specs.Buffers.{BufferOps}
use Rattle.tc_base.specs.Paths.{ThreadPath}
use Rattle.tc_code.specs.Code.{Code}
use Rattle.tc_code.specs.tc_limits.declared.limits.TheConstants.{THREADS}
use Rattle.store_buffers.specs.Pending.{Binding}
use Rattle.log_walk.specs.thread_paths.pure_turns.Live.{Liveness, IsClosed}
use Rattle.log_walk.specs.Given.{Given, IsFirst, IsLeftOut, IsOne, AreNotAfter}
use Rattle.log_walk.specs.Order.{are_from, are_to_come}
use Rattle.log_walk.specs.Rest.{all}
use Rattle.log_walk.specs.Needless.{SomeNeedless}
use Rattle.log_walk.specs.declared.bounds.Bounds.{Bounds}
use Rattle.log_walk.specs.declared.bounds.Kind.{Kind}
use Rattle.log_walk.specs.declared.bounds.LeftOut.{LeftOut}
use Rattle.find_failures.specs.Runs.{AreExcluded, AreExcludedBelow, NoneBelow, NoneBefore}
use Rattle.find_failures.specs.declared.asked.Asked.{Asked}
use Rattle.find_failures.specs.declared.gone.Gone.{Gone}
use Rattle.find_failures.specs.declared.round.Ended.TheVariants.{Done}
use Rattle.find_failures.specs.LeftOut.{both}
use Rattle.find_failures.specs.helpers.Gone.{AreGone, AreReached, AreSettled, IsEnded, IsTried}
use Rattle.find_failures.proofs.Below.{one_is_in}
use Rattle.find_failures.proofs.Through.{IsThrough, go_on, at_end}

not_true : (b : Bool) → not b ≡ true → b ≡ false
not_true true e = absurd (false≢true e)
not_true false e = refl

module _ {B : Type 0} (ops : BufferOps B) (model : Model) (code : Code) (live : Liveness) (kind : Kind) where
  abbrev SomeAreNeedless : List ThreadPath → Type 0
  SomeAreNeedless ts = SomeNeedless code live kind (all code kind) ts

  -- threads with a needless path are excluded
  pub some_excluded : (ts : List ThreadPath) → SomeAreNeedless ts → AreExcluded ops model code live kind ts
  some_excluded ts some none = absurd (none some)

  module _ (level : ℕ) (closed : IsClosed code live) where
    -- excluded threads have no possible log if no path is needless
    pub none_below : AreExcludedBelow ops model code live kind level → NoneBelow ops model code kind level
    none_below settled less is ts one needed = settled less ts is one (needed live closed)

    -- no log before the next one is possible
    pub none_before : (last : Option (List ThreadPath)) (given : Given) (out : LeftOut) (us : List ThreadPath)
        → IsFirst code live (record { kind = kind; most = level }) last given
        → IsThrough code (record { kind = kind; most = level }) (AreExcluded ops model code live kind) last out
        → given.threads ≡ Some us → IsOne code (record { kind = kind; most = level }) us → NoneBelow ops model code kind level
        → NoneBefore ops model code kind us
    none_before last given out us first through some one below = record {
      most = level;
      within = one;
      fewer = below;
      first = λ ts is needed before. by_last ts is before (are_to_come last ts) refl (needed live closed);
    }
      where
        not_left : (ts : List ThreadPath) → IsOne code (record { kind = kind; most = level }) ts → (o : LeftOut)
            → AreExcluded ops model code live kind ts ⊎ IsLeftOut level THREADS o ts → AreExcluded ops model code live kind ts
        not_left ts is o (inl excluded) = excluded
        not_left ts is o (inr left) = absurd (one_is_in code (record { kind = kind; most = level }) o ts is left)

        not_after : (ts : List ThreadPath) → IsOne code (record { kind = kind; most = level }) ts → are_to_come (Some ts) us ≡ true
            → AreNotAfter given.threads ts ⊎ (IsLeftOut level THREADS given.out ts ⊎ SomeAreNeedless ts) → AreExcluded ops model code live kind ts
        not_after ts is before (inl on) =
            absurd (false≢true (sym (not_true (are_from us ts) before) ∙ subst (λ o. AreNotAfter o ts) some on))
        not_after ts is before (inr (inl left)) = absurd (one_is_in code (record { kind = kind; most = level }) given.out ts is left)
        not_after ts is before (inr (inr some)) = some_excluded ts some

        by_last : (ts : List ThreadPath) → IsOne code (record { kind = kind; most = level }) ts → are_to_come (Some ts) us ≡ true
            → (b : Bool) → are_to_come last ts ≡ b → AreExcluded ops model code live kind ts
        by_last ts is before true e = not_after ts is before (first.others ts is.makes_up e)
        by_last ts is before false e = not_left ts is out (through ts is.makes_up e)

module _ {B : Type 0} (ops : BufferOps B) (model : Model) (bound : Binding) (code : Code) (live : Liveness) (asked : Asked) (level : ℕ) where
  abbrev bounds : Bounds
  bounds = record { kind = asked.kind; most = level }

  abbrev pub IsThroughTo : Option (List ThreadPath) → LeftOut → Type 0
  IsThroughTo last out = IsThrough code (record { kind = asked.kind; most = level }) (AreExcluded ops model code live asked.kind) last out

  module _ (last : Option (List ThreadPath)) (given : Given) (out new : LeftOut) (gone : Gone)
      (first : IsFirst code live (record { kind = asked.kind; most = level }) last given) (told : new ≡ both out given.out)
      (through : gone.unknown ≡ None → IsThroughTo last out) where
    -- after the last log
    pub round_done : given.threads ≡ None → AreGone ops model bound code asked gone → IsEnded ops model bound code live asked level gone (Done new)
    round_done none are = (
      are,
      λ closed ts made. subst (λ o. AreExcluded ops model code live asked.kind ts ⊎ IsLeftOut level THREADS o ts) (sym told)
          (at_end code bounds (AreExcluded ops model code live asked.kind) live (some_excluded ops model code live asked.kind) last given out first
          (through closed) none ts made),
    )

    module _ (us : List ThreadPath) (some : given.threads ≡ Some us) where
      -- the next log is within the bounds
      pub next_one : IsOne code (record { kind = asked.kind; most = level }) us
      next_one = subst (λ o. IfSome o (IsOne code (record { kind = asked.kind; most = level }))) some first.is_one

      -- and none before it is possible
      pub next_reached : IsClosed code live → AreSettled ops model code live asked.kind level gone → AreReached ops model code asked.kind gone us
      next_reached is settled closed =
          none_before ops model code live asked.kind level is last given out us first (through closed) some next_one
          (none_below ops model code live asked.kind level is (settled closed))

      -- after it
      pub next_through : (after : Gone) → IsTried ops model bound code asked gone after (AreExcluded ops model code live asked.kind us) None
          → after.unknown ≡ None → IsThroughTo (Some us) new
      next_through after tried none =
          let now = tried.1 none in
          subst (λ o. IsThroughTo (Some us) o) (sym told)
          (go_on code bounds (AreExcluded ops model code live asked.kind) live (some_excluded ops model code live asked.kind) last given out first
          (through now.0) us some next_one.makes_up now.1)
