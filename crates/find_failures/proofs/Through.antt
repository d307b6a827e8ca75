-- Going through the threads that make up a log misses none.
use Rattle.std.proofs.Common.{◌≡◌, Bool, true, false, not, ◌||◌, List, Option, Some, None, inl, inr, refl, sym, ap, subst}
use Rattle.std.specs.Prelude.{◌⊎◌}
use Rattle.std.proofs.lemmas.Bool.{false≢true}
use Rattle.tc_base.specs.Paths.{ThreadPath}
use Rattle.tc_code.specs.Code.{Code}
use Rattle.tc_code.specs.tc_limits.declared.limits.TheConstants.{THREADS}
use Rattle.log_walk.specs.Given.{Given, IsFirst, IsLeftOut, AreNotAfter}
use Rattle.log_walk.specs.thread_paths.pure_turns.Live.{Liveness}
use Rattle.log_walk.specs.Order.{are_from, are_to_come}
use Rattle.log_walk.specs.Rest.{all, MakeUp}
use Rattle.log_walk.specs.Needless.{SomeNeedless}
use Rattle.log_walk.specs.helpers.Searches.{IsKept}
use Rattle.log_walk.specs.declared.bounds.Bounds.{Bounds}
use Rattle.log_walk.specs.declared.bounds.LeftOut.{LeftOut}
use Rattle.log_walk.proofs.Finds.{kept_out}
use Rattle.find_failures.specs.LeftOut.{both}
use Rattle.find_failures.proofs.Same.{same_threads}

not_false : (b : Bool) → not b ≡ false → b ≡ true
not_false true e = refl
not_false false e = absurd (false≢true (sym e))

or_first : (a b : Bool) → a ≡ true → (a || b) ≡ true
or_first a b e = ap (λ v. v || b) e

or_second : (a b : Bool) → b ≡ true → (a || b) ≡ true
or_second true b e = refl
or_second false b e = e

-- what one search left out was left out
first_kept : (one other : LeftOut) → IsKept one (both one other)
first_kept one other = record {
  outcomes = or_first one.outcomes other.outcomes;
  steps = or_first one.steps other.steps;
  depth = or_first one.depth other.depth;
  threads = or_first one.threads other.threads;
}

second_kept : (one other : LeftOut) → IsKept other (both one other)
second_kept one other = record {
  outcomes = or_second one.outcomes other.outcomes;
  steps = or_second one.steps other.steps;
  depth = or_second one.depth other.depth;
  threads = or_second one.threads other.threads;
}

module _ (code : Code) (bounds : Bounds) (P : List ThreadPath → Type 0) where
  -- the fact is true of the threads, or they were left out
  abbrev pub IsCovered : LeftOut → List ThreadPath → Type 0
  IsCovered out ts = P ts ⊎ IsLeftOut bounds.most THREADS out ts

  -- all threads that don't come after the last ones are covered
  abbrev pub IsThrough : Option (List ThreadPath) → LeftOut → Type 0
  IsThrough last out =
      (ts : List ThreadPath) → MakeUp code bounds.kind (all code bounds.kind) ts → are_to_come last ts ≡ false → IsCovered out ts

  pub begin : (out : LeftOut) → IsThrough None out
  begin out ts made e = absurd (false≢true (sym e))

  covered_first : (one other : LeftOut) (ts : List ThreadPath) → IsCovered one ts → IsCovered (both one other) ts
  covered_first one other ts (inl p) = inl p
  covered_first one other ts (inr left) = inr (kept_out bounds.most THREADS one (both one other) ts (first_kept one other) left)

  covered_second : (one other : LeftOut) (ts : List ThreadPath) → IsLeftOut bounds.most THREADS other ts → IsCovered (both one other) ts
  covered_second one other ts left = inr (kept_out bounds.most THREADS other (both one other) ts (second_kept one other) left)

  module _ (live : Liveness) (shown : (ts : List ThreadPath) → SomeNeedless code live bounds.kind (all code bounds.kind) ts → P ts)
      (last : Option (List ThreadPath)) (given : Given) (out : LeftOut) (first : IsFirst code live bounds last given)
      (through : IsThrough last out) where
    abbrev Others : List ThreadPath → Type 0
    Others ts = AreNotAfter given.threads ts ⊎ (IsLeftOut bounds.most THREADS given.out ts ⊎ SomeNeedless code live bounds.kind (all code bounds.kind) ts)

    -- one list of threads further
    pub go_on : (us : List ThreadPath) → given.threads ≡ Some us → MakeUp code bounds.kind (all code bounds.kind) us → P us
        → IsThrough (Some us) (both out given.out)
    go_on us some found here ts made e = by (are_to_come last ts) refl
      where
        by_found : AreNotAfter (Some us) ts → IsCovered (both out given.out) ts
        by_found on = inl (subst P (same_threads code bounds.kind us ts (all code bounds.kind) found made on (not_false (are_from ts us) e)) here)

        by_first : Others ts → IsCovered (both out given.out) ts
        by_first (inl on) = by_found (subst (λ o. AreNotAfter o ts) some on)
        by_first (inr (inl left)) = covered_second out given.out ts left
        by_first (inr (inr some)) = inl (shown ts some)

        by : (b : Bool) → are_to_come last ts ≡ b → IsCovered (both out given.out) ts
        by true is = by_first (first.others ts made is)
        by false is = covered_first out given.out ts (through ts made is)

    -- at the end all threads are covered
    pub at_end : given.threads ≡ None → (ts : List ThreadPath) → MakeUp code bounds.kind (all code bounds.kind) ts
        → IsCovered (both out given.out) ts
    at_end none ts made = by (are_to_come last ts) refl
      where
        by_first : Others ts → IsCovered (both out given.out) ts
        by_first (inl on) = absurd (subst (λ o. AreNotAfter o ts) none on)
        by_first (inr (inl left)) = covered_second out given.out ts left
        by_first (inr (inr some)) = inl (shown ts some)

        by : (b : Bool) → are_to_come last ts ≡ b → IsCovered (both out given.out) ts
        by true is = by_first (first.others ts made is)
        by false is = covered_first out given.out ts (through ts made is)
