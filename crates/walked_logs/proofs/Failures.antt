-- The threads of the normal log of a failure make up a log.
use Rattle.std.proofs.Common.{◌≡◌, ◌∙◌, inl, inr, ℕ, Bool, true, false, cond, length, Option, Some, None, IsSome, refl, sym, ap, subst, bytes_eq}
use Rattle.std.specs.Prelude.{slice_get, option_map, option_and_then}
use Rattle.std.proofs.lemmas.Bool.{false≢true, false_from_ne_true}
use Rattle.std.proofs.lemmas.Option.{same_Some}
use Rattle.log_walk.specs.run_log.Logs.{Log, failing_of}
use Rattle.log_walk.specs.tc_base.Names.{Name, by_name, child}
use Rattle.log_walk.specs.tc_base.Paths.{ThreadPath, place_in}
use Rattle.log_walk.proofs.tc_base.Names.{not_itself, same_true, same_refl}
use Rattle.log_walk.specs.tc_code.Code.{Code}
use Rattle.normal_logs.proofs.run_history.of_pending.In.{In}
use Rattle.log_walk.specs.path_walk.Fits.{fails_in, ending_by}
use Rattle.log_walk.specs.path_walk.Paths.{Walk}
use Rattle.log_walk.specs.path_walk.Steps.{is_failing}
use Rattle.log_walk.specs.path_walk.declared.ending.Ending.TheVariants.{Fails, Open}
use Rattle.normal_logs.specs.path_laws.history.Along.{IsThread, path_thread}
use Rattle.normal_logs.proofs.path_laws.of_history.Walks.{IsWalk, walk_is}
use Rattle.normal_logs.proofs.path_laws.of_events.Lists.{in_place}
use Rattle.log_walk.specs.Rest.{MakeUp, all}
use Rattle.log_walk.specs.declared.bounds.Kind.TheVariants.{Failure}
use Rattle.normal_logs.specs.Ends.{IsUsed, Acts}
use Rattle.normal_logs.specs.Normal.{IsNormal}
use Rattle.walked_logs.proofs.Ends.{says, site_fails, create_site, create_some, create_last}
use Rattle.walked_logs.proofs.Takes.{Asked, may_take, ends_so}
use Rattle.walked_logs.proofs.Takes.Asked.{Joined, Free, Acting}
use Rattle.walked_logs.proofs.Logs.{Facts, threads_make_up}

-- One thread fails, if any does.
fails_by_name : (o : Option Name) (n : Name) → is_failing (ending_by o n) ≡ true → o ≡ Some n
fails_by_name None n e = absurd (false≢true e)
fails_by_name (Some m) n e = by (bytes_eq n m) refl e
  where
    by : (c : Bool) → bytes_eq n m ≡ c → is_failing (cond c Fails Open) ≡ true → Some m ≡ Some n
    by true same e = ap (λ q. Some q) (sym (same_true n m same))
    by false same e = absurd (false≢true e)

one_fails : (log : Log) (m n : Name) → fails_in log m ≡ true → fails_in log n ≡ true → m ≡ n
one_fails log m n e g = same_Some m n (sym (fails_by_name (failing_of log) m e) ∙ fails_by_name (failing_of log) n g)

who_fails : (log : Log) (n : Name) → failing_of log ≡ Some n → fails_in log n ≡ true
who_fails log n e =
    ap (λ o. is_failing (ending_by o n)) e ∙ ap (λ c. is_failing (cond c Fails Open)) (same_refl n)

module _ (code : Code) (log : Log) (normal : IsNormal code log) where
  -- the child of a create that ends its creator's path acts
  child_acts : (j : ℕ) (w : Walk) (there : IsThread code log j w)
      → (says code log w (walk_is code log normal.paths.is_log normal.paths.fits (path_thread j w there))).at_create ≡ true
      → Acts code log (child w.name (length (says code log w (walk_is code log normal.paths.is_log normal.paths.fits (path_thread j w there))).created))
  child_acts j w there at = by (fails_in log w.name) refl
    where
      k : IsWalk code log w
      k = walk_is code log normal.paths.is_log normal.paths.fits (path_thread j w there)

      by : (b : Bool) → fails_in log w.name ≡ b → Acts code log (child w.name (length (says code log w k).created))
      by true e = absurd (false≢true (sym (create_site code log w k at) ∙ site_fails code log w k e))
      by false e =
          elim (normal.used j w there e) [
            | inl none ↦ absurd (create_some code log w k at none)
            | inr u ↦ subst (IsUsed code log w.name) (create_last code log w k at e u.asked u.ends) u.used
          ]

  some_fails : (t : ThreadPath) × In t log.threads × (fails_in log t.name ≡ true)
  some_fails = by (place_in log.failing) refl normal.fails
    where
      by_thread : (n : ℕ) (u : Option ThreadPath) → slice_get log.threads n ≡ u → failing_of log ≡ option_map (λ t. t.name) u
          → IsSome (option_map (λ (t : ThreadPath). t.name) u) → (t : ThreadPath) × In t log.threads × (fails_in log t.name ≡ true)
      by_thread n None at is some = absurd (false≢true some)
      by_thread n (Some u) at is some = (u, in_place u log.threads n at, who_fails log u.name is)

      by : (o : Option ℕ) → place_in log.failing ≡ o → IsSome (failing_of log)
          → (t : ThreadPath) × In t log.threads × (fails_in log t.name ≡ true)
      by None e some =
          absurd (false≢true (subst IsSome (ap (option_and_then (λ n. option_map (λ (t : ThreadPath). t.name) (slice_get log.threads n))) e) some))
      by (Some n) e some =
          let is : failing_of log ≡ option_map (λ (t : ThreadPath). t.name) (slice_get log.threads n) =
          ap (option_and_then (λ n. option_map (λ (t : ThreadPath). t.name) (slice_get log.threads n))) e in
          by_thread n (slice_get log.threads n) refl is (subst IsSome is some)

  abbrev facts : Facts code log Failure
  facts = record {
    paths = normal.paths;
    Asked = Asked code log;
    Spared = λ n. fails_in log n ≡ false;
    EndsIt = λ n. fails_in log n ≡ true;
    takes = may_take code log normal;
    spares = λ j w there e ends asked once does n less.
        false_from_ne_true (fails_in log n) (λ too.
        not_itself w.name
        (ap (by_name w.name) (one_fails log w.name n (sym (ends_so code log normal j w there e ends asked once) ∙ does) too) ∙ less));
    ends_it = λ j w there e ends asked once none does.
        false≢true (sym none ∙ ends_so code log normal j w there e ends asked once ∙ does);
    joined = λ n joined. Joined refl joined;
    free = λ n free. Free free refl;
    last = λ j w there at free. Acting free refl (child_acts j w there at);
    Stays = λ n. ⊥;
    Wanted = λ m. ⊥;
    stays = λ j w there none. absurd none;
    waits_child = λ j w there q does. absurd (false≢true does);
    waits_mutex = λ j w there waited m e. inl e;
    wanted = λ m none. absurd none;
    some_ends = some_fails;
  }

  pub failure_made_up : MakeUp code Failure (all code Failure) log.threads
  failure_made_up = threads_make_up code log Failure facts
