-- One log after another is tried.
use Rattle.std.proofs.Common.{◌≡◌, ◌∙◌, ℕ, ◌+◌, ◌≤◌, ◌<◌, Bool, true, false, cond, ◌&&◌, List, [], ◌∷◌, ◌++◌, length, Option, Some, None, IsSome, is_some, inl, inr, refl, sym, ap, ap₂, subst, arith}
use Rattle.std.specs.Prelude.{◌⊎◌, slice_get, option_map, IfSome}
use Rattle.std.specs.List.{All}
use Rattle.std.proofs.lemmas.Bool.{false≢true, lt-ltb, cases_lt}
use Rattle.std.proofs.lemmas.List.Elements.{All-push}
use Rattle.std.proofs.lemmas.Option.{none-some, slice_get_within, slice_get_cases}
use Rattle.memory_models.specs.declared.model.Model.{Model}
use Rattle.tc_base.specs.Buffers.{BufferOps}
use Rattle.tc_base.specs.Paths.{ThreadPath}
use Rattle.tc_base.specs.declared.failing.Failing.{Failing}
use Rattle.tc_base.specs.declared.failing.Failing.TheVariants as failing
use Rattle.run_log.specs.Logs.{Log, StoredLog, failing_of, is_log, is_there, rises_from}
use Rattle.tc_code.specs.Code.{Code}
use Rattle.store_buffers.specs.Pending.{Binding}
use Rattle.walked_logs.specs.run_follows.Machine.{Machine}
use Rattle.clap_system.specs.path_walk.Fits.{IsFirst}
use Rattle.clap_system.specs.path_walk.declared.fault.Misfit.{Misfit}
use Rattle.clap_system.specs.path_walk.declared.fault.WalkFault.{WalkFault}
use Rattle.clap_system.specs.path_walk.declared.fault.WalkFault.TheVariants as walk
use Rattle.clap_system.specs.Faults.{IsBuildFault}
use Rattle.clap_system.specs.declared.fault.BuildFault.TheVariants as build
use Rattle.tc_base.specs.Names.{Name}
use Rattle.walked_logs.proofs.path_laws.Logs.{reproduced_fits}
use Rattle.log_walk.specs.Given.{IsOne}
use Rattle.log_walk.specs.Rest.{all, MakeUp}
use Rattle.log_walk.specs.declared.bounds.Kind.{Kind}
use Rattle.log_walk.specs.declared.bounds.Kind.TheVariants.{Failure, Deadlock}
use Rattle.walked_logs.proofs.Rising.{names_rise, names_some}
use Rattle.clap_solve.specs.Solved.{IsImpossible}
use Rattle.find_failures.specs.Found.{IsRefuted, IsUnknown}
use Rattle.find_failures.specs.Runs.{AreImpossible, Records}
use Rattle.find_failures.specs.declared.asked.Asked.{Asked}
use Rattle.find_failures.specs.declared.found.Unknown.{Unknown}
use Rattle.find_failures.specs.declared.found.Refuted.{Refuted}
use Rattle.find_failures.specs.declared.gone.Gone.{Gone}
use Rattle.find_failures.specs.helpers.Gone.{AreGone, IsTried}

-- a log that doesn't fit is reproduced by no moves
pub unfit : {B : Type 0} (m : Machine B) (log : Log) (n : Name) (misfit : Misfit) → IsFirst m.code log n misfit → IsImpossible m.ops m.code log
unfit m log n misfit first moves again = none-some misfit (sym (reproduced_fits m log moves again n) ∙ first.there)

pub unfit_by : {B : Type 0} (m : Machine B) (log : Log) (fault : WalkFault) → IsBuildFault m.code log (build.Walk fault)
    → IsImpossible m.ops m.code log
unfit_by m log (walk.Unfit n misfit) is = unfit m log n misfit is.1
unfit_by m log walk.Memory is = absurd is

-- Threads that make up a log.

both_true : (a b : Bool) → a ≡ true → b ≡ true → (a && b) ≡ true
both_true a b e g = ap₂ (λ x y. x && y) e g

module _ (model : Model) (ts : List ThreadPath) where
  failing_there : (f : Failing) → IsSome (failing_of (record { model = model; failing = f; threads = ts })) → is_there f (length ts) ≡ true
  failing_there (failing.Thread k) some = by (slice_get ts k) refl some
    where
      by : (o : Option ThreadPath) → slice_get ts k ≡ o → IsSome (option_map (λ (t : ThreadPath). t.name) o) → is_there (failing.Thread k) (length ts) ≡ true
      by None e some = absurd (false≢true some)
      by (Some t) e some = lt-ltb k (length ts) (slice_get_within ts k t e)
  failing_there failing.Deadlock some = absurd (false≢true some)

  end_there : (kind : Kind) (f : Failing) → Records kind (record { model = model; failing = f; threads = ts }) → 0 < length ts
      → is_there f (length ts) ≡ true
  end_there Failure f records some = failing_there f records
  end_there Deadlock f records some = ap (λ g. is_there g (length ts)) records ∙ lt-ltb 0 (length ts) some

  -- they are those of a log that records such an end
  pub logged : (code : Code) (kind : Kind) (most : ℕ) (f : Failing) → IsOne code (record { kind = kind; most = most }) ts
      → Records kind (record { model = model; failing = f; threads = ts }) → is_log (record { model = model; failing = f; threads = ts }) ≡ true
  logged code kind most f one records =
      both_true (rises_from None ts) (is_there f (length ts)) (names_rise code kind ts one.makes_up)
      (end_there kind f records (names_some code kind ts one.makes_up))

-- they are those of the log of a deadlock
pub stuck_log : (model : Model) (code : Code) (kind : Kind) (ts : List ThreadPath) → MakeUp code kind (all code kind) ts
    → is_log (record { model = model; failing = failing.Deadlock; threads = ts }) ≡ true
stuck_log model code kind ts made =
    both_true (rises_from None ts) (is_there failing.Deadlock (length ts)) (names_rise code kind ts made)
    (lt-ltb 0 (length ts) (names_some code kind ts made))

past : (k : ℕ) (ts : List ThreadPath) → slice_get ts k ≡ None → length ts ≤ k
past k ts none =
    elim (slice_get_cases ts k).1 [
      | inl there ↦ absurd (none-some there.0 (sym none ∙ there.2))
      | inr gone ↦ gone.0
    ]

-- a log by its parts
log_by : (log : Log) (model : Model) (f : Failing) (ts : List ThreadPath) → log.model ≡ model → log.failing ≡ f → log.threads ≡ ts
    → record { model = model; failing = f; threads = ts } ≡ log
log_by log model f ts one two three =
    sym (ap (λ (x : Model). record { model = x; failing = log.failing; threads = log.threads }) one
    ∙ ap (λ (x : Failing). record { model = model; failing = x; threads = log.threads }) two
    ∙ ap (λ (x : List ThreadPath). record { model = model; failing = f; threads = x }) three)

module _ {B : Type 0} (ops : BufferOps B) (model : Model) (code : Code) (ts : List ThreadPath) where
  abbrev pub IsRuledOut : Failing → Type 0
  IsRuledOut f = IsImpossible ops code (record { model = model; failing = f; threads = ts })

  -- the log of a deadlock is the only one
  pub only_deadlock : IsRuledOut failing.Deadlock → AreImpossible ops model code Deadlock ts
  only_deadlock none log under threads records =
      subst (IsImpossible ops code) (log_by log model failing.Deadlock ts under records threads) none

  -- the logs of failures of the first n threads
  abbrev pub AreRuledOut : ℕ → Type 0
  AreRuledOut n = (k : ℕ) → k < n → IsRuledOut (failing.Thread k)

  pub none_ruled_out : AreRuledOut 0
  none_ruled_out k less = absurd (omega (arith, less))

  pub one_ruled_out : (n : ℕ) → AreRuledOut n → IsRuledOut (failing.Thread n) → AreRuledOut (n + 1)
  one_ruled_out n before here k less = by (cases_lt k n)
    where
      by : (k < n) ⊎ (n ≤ k) → IsRuledOut (failing.Thread k)
      by (inl l) = before k l
      by (inr l) = let same : n ≡ k = omega (arith, less, l) in subst (λ j. IsRuledOut (failing.Thread j)) same here

  -- one of the threads fails
  pub all_ruled_out : AreRuledOut (length ts) → AreImpossible ops model code Failure ts
  all_ruled_out none log under threads records = by log.failing refl
    where
      by_thread : (k : ℕ) → log.failing ≡ failing.Thread k → (o : Option ThreadPath) → slice_get ts k ≡ o
          → IsSome (option_map (λ (t : ThreadPath). t.name) o) → IsImpossible ops code log
      by_thread k e None at some = absurd (false≢true some)
      by_thread k e (Some t) at some =
          subst (IsImpossible ops code) (log_by log model (failing.Thread k) ts under e threads) (none k (slice_get_within ts k t at))

      recorded : (f : Failing) → log.failing ≡ f → IsSome (failing_of (record { model = model; failing = f; threads = ts }))
      recorded f e = subst (λ (x : Log). IsSome (failing_of x)) (sym (log_by log model f ts under e threads)) records

      by : (f : Failing) → log.failing ≡ f → IsImpossible ops code log
      by (failing.Thread k) e = by_thread k e (slice_get ts k) refl (recorded (failing.Thread k) e)
      by failing.Deadlock e = absurd (false≢true (recorded failing.Deadlock e))

module _ {B : Type 0} (ops : BufferOps B) (model : Model) (bound : Binding) (code : Code) (asked : Asked) where
  -- a log that no moves reproduce was added
  pub tried_refuted : (before after : Gone) (r : Refuted) (fact : Type 0) → AreGone ops model bound code asked before
      → after.unknown ≡ before.unknown
      → after.refuted.items ≡ cond (is_some before.unknown) before.refuted.items (before.refuted.items ++ r ∷ [])
      → IsRefuted ops bound code r → fact → IsTried ops model bound code asked before after fact None
  tried_refuted before after r fact gone same items is holds = (
    record {
      refuted = subst (All (IsRefuted ops bound code)) (sym items) (by (is_some before.unknown));
      unknown = subst (λ o. IfSome o (IsUnknown ops bound code model asked)) (sym same) gone.unknown;
    },
    λ none. (sym same ∙ none, holds),
  )
    where
      by : (b : Bool) → All (IsRefuted ops bound code) (cond b before.refuted.items (before.refuted.items ++ r ∷ []))
      by true = gone.refuted
      by false = All-push (IsRefuted ops bound code) before.refuted.items r gone.refuted is

  -- a log that doesn't fit was left aside
  pub tried_unfit : (gone : Gone) (fact : Type 0) → AreGone ops model bound code asked gone → fact
      → IsTried ops model bound code asked gone gone fact None
  tried_unfit gone fact is holds = (is, λ none. (none, holds))

  -- a log of which it isn't known was added
  pub tried_unknown : (before after : Gone) (o : Unknown) (fact : Type 0) → AreGone ops model bound code asked before
      → after.unknown ≡ cond (is_some before.unknown) before.unknown (Some o) → after.refuted.items ≡ before.refuted.items
      → (before.unknown ≡ None → IsUnknown ops bound code model asked o) → IsTried ops model bound code asked before after fact None
  tried_unknown before after o fact gone told items is = (
    record {
      refuted = subst (All (IsRefuted ops bound code)) (sym items) gone.refuted;
      unknown = subst (λ q. IfSome q (IsUnknown ops bound code model asked)) (sym told) (by before.unknown refl gone.unknown);
    },
    λ none. absurd (never before.unknown (sym told ∙ none)),
  )
    where
      by : (q : Option Unknown) → before.unknown ≡ q → IfSome q (IsUnknown ops bound code model asked)
          → IfSome (cond (is_some q) q (Some o)) (IsUnknown ops bound code model asked)
      by None e some = is e
      by (Some q) e some = some

      never : (q : Option Unknown) → cond (is_some q) q (Some o) ≡ None → ⊥
      never None e = none-some o (sym e)
      never (Some q) e = none-some q (sym e)

  -- the same of what follows from it
  pub tried_so : (before after : Gone) (one other : Type 0) → (one → other) → (o : Option StoredLog)
      → IsTried ops model bound code asked before after one o → IsTried ops model bound code asked before after other o
  tried_so before after one other f (Some log) is = is
  tried_so before after one other f None is = (is.0, λ none. let both = is.1 none in (both.0, f both.1))

  -- a log in which one of the threads fails was tried, after those before it
  pub tried_next : (ts : List ThreadPath) (n : ℕ) (first before after : Gone)
      → (before.unknown ≡ None → (first.unknown ≡ None) × AreRuledOut ops model code ts n)
      → IsTried ops model bound code asked before after (IsRuledOut ops model code ts (failing.Thread n)) None
      → AreGone ops model bound code asked after
      × (after.unknown ≡ None → (first.unknown ≡ None) × AreRuledOut ops model code ts (n + 1))
  tried_next ts n first before after so_far tried = (
    tried.0,
    λ none. let old = tried.1 none in let all = so_far old.0 in (all.0, one_ruled_out ops model code ts n all.1 old.1),
  )

-- the log of a deadlock records one, and that of a thread that fails records its failure
pub records_deadlock : (model : Model) (ts : List ThreadPath) (kind : Kind) → kind ≡ Deadlock
    → Records kind (record { model = model; failing = failing.Deadlock; threads = ts })
records_deadlock model ts kind e = subst (λ k. Records k (record { model = model; failing = failing.Deadlock; threads = ts })) (sym e) refl

pub records_failure : (model : Model) (ts : List ThreadPath) (kind : Kind) (k : ℕ) → kind ≡ Failure → k < length ts
    → Records kind (record { model = model; failing = failing.Thread k; threads = ts })
records_failure model ts kind k e less =
    subst (λ j. Records j (record { model = model; failing = failing.Thread k; threads = ts })) (sym e) (by (slice_get ts k) refl)
  where
    by : (o : Option ThreadPath) → slice_get ts k ≡ o → IsSome (option_map (λ (t : ThreadPath). t.name) (slice_get ts k))
    by None e = absurd (omega (arith, less, past k ts e))
    by (Some t) e = subst (λ o. IsSome (option_map (λ (t : ThreadPath). t.name) o)) (sym e) refl
