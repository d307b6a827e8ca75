-- From one place among the logs to the next.
use Rattle.std.proofs.Common.{◌≡◌, ◌∙◌, ℕ, ◌+◌, ◌≤◌, ◌<◌, Bool, true, false, cond, not, ◌||◌, ◌==◌, List, length, Option, Some, None, Vec, Global, inl, inr, refl, sym, subst, arith}
use Rattle.std.specs.Prelude.{◌⊎◌, IfSome, nat_le, option_map}
use Rattle.std.specs.List.{list_any}
use Rattle.std.proofs.lemmas.Bool.{false≢true, eqb-true, eq-eqb, cases_lt}
use Rattle.tc_base.specs.Paths.{ThreadPath}
use Rattle.run_log.specs.Logs.{Log, is_log}
use Rattle.run_log.specs.declared.log.ThreadPath.{ThreadPath as LogThread}
use Rattle.tc_code.specs.Code.{Code}
use Rattle.tc_code.specs.tc_limits.declared.limits.TheConstants.{THREADS}
use Rattle.store_buffers.specs.Buffers.{buffer_of}
use Rattle.log_walk.specs.thread_paths.pure_turns.Live.{Liveness, IsClosed}
use Rattle.log_walk.specs.Needless.{SomeNeedless}
use Rattle.log_walk.specs.Given.{Given, IsFirst, IsLeftOut, IsOne}
use Rattle.log_walk.specs.Given.IsLeftOut.{Outcomes, Steps, Depth, Threads}
use Rattle.log_walk.specs.Rest.{all, MakeUp}
use Rattle.log_walk.specs.declared.bounds.Bounds.{Bounds}
use Rattle.log_walk.specs.declared.bounds.Kind.{Kind}
use Rattle.log_walk.specs.declared.bounds.Kind.TheVariants.{Failure, Deadlock}
use Rattle.log_walk.specs.declared.bounds.LeftOut.{LeftOut}
use Rattle.clap_solve.specs.Solved.{IsImpossible}
use Rattle.none_certificates.specs.declared.header.Header.{Header}
use Rattle.find_failures.specs.LeftOut.{both}
use Rattle.find_failures.specs.Runs.{AreExcludedBelow, Records}
use Rattle.find_failures.proofs.Below.{one_is_in, one_in_more, old_is_below}
use Rattle.find_failures.proofs.Steps.{none_before, none_below, some_excluded}
use Rattle.find_failures.proofs.Through.{IsThrough, at_end, begin, go_on}
use Rattle.find_failures.proofs.Tried.{all_ruled_out, logged, only_deadlock, records_deadlock, records_failure}
use Rattle.certified_logs.specs.Logs.{are_new, ends_of, end_at, first_end, log_at, AreRefuted, IsNext}
use Rattle.certified_logs.specs.Places.{AreDone, AllAreDone, AreReached, IsReachedAt, IsOf, last_of}
use Rattle.certified_logs.specs.declared.place.Place.{Place}

abbrev pub items : Option (Vec LogThread Global) → Option (List ThreadPath)
items o = option_map (λ v. v.items) o

no_last : (q : Place) → q.last ≡ None → (P : List ThreadPath → Type 0) → IfSome (last_of q) P
no_last q none P = subst (λ o. IfSome (items o) P) (sym none) tt

-- all logs of the last threads were gone through, or there are none
pub none_ended : (h : Header) (p : Place) → p.last ≡ None → IfSome (last_of p) (λ ts. ends_of h.bounds.kind ts ≤ p.end)
none_ended h p none = no_last p none (λ ts. ends_of h.bounds.kind ts ≤ p.end)

pub some_ended : (h : Header) (p : Place) (ts : List ThreadPath) → last_of p ≡ Some ts → ends_of h.bounds.kind ts ≤ p.end
    → IfSome (last_of p) (λ us. ends_of h.bounds.kind us ≤ p.end)
some_ended h p ts last le = subst (λ o. IfSome o (λ us. ends_of h.bounds.kind us ≤ p.end)) (sym last) le

module _ (code : Code) (live : Liveness) (h : Header) where
  abbrev kind : Kind
  kind = h.bounds.kind

  abbrev bounds_at : ℕ → Bounds
  bounds_at level = record { kind = h.bounds.kind; most = level }

  -- no path of these threads is needless
  abbrev IsLean : List ThreadPath → Type 0
  IsLean ts = SomeNeedless code live kind (all code kind) ts → ⊥

  shown : (ts : List ThreadPath) → SomeNeedless code live kind (all code kind) ts → AreDone code live h ts
  shown = some_excluded (buffer_of h.model) h.model code live kind

  -- the logs of threads that have an index record an end of the kind
  records_at : (k : Kind) (ts : List ThreadPath) (n : ℕ) → n < ends_of k ts
      → Records k (record { model = h.model; failing = end_at k n; threads = ts })
  records_at Failure ts n less = records_failure h.model ts Failure n refl less
  records_at Deadlock ts n less = records_deadlock h.model ts Deadlock refl

  -- if no moves reproduce any log of threads, none reproduce those with an index
  each_gone : (ts : List ThreadPath) → AreRefuted code h ts → (n : ℕ) → n < ends_of kind ts
      → IsImpossible (buffer_of h.model) code (log_at h ts n)
  each_gone ts none n less = none (log_at h ts n) refl refl (records_at kind ts n less)

  -- and the other way round
  all_gone : (ts : List ThreadPath) → ((n : ℕ) → n < ends_of kind ts → IsImpossible (buffer_of h.model) code (log_at h ts n))
      → AreRefuted code h ts
  all_gone ts = by kind
    where
      by : (k : Kind)
          → ((n : ℕ) → n < ends_of k ts → IsImpossible (buffer_of h.model) code (record { model = h.model; failing = end_at k n; threads = ts }))
          → (log : Log) → log.model ≡ h.model → log.threads ≡ ts → Records k log → IsImpossible (buffer_of h.model) code log
      by Failure each = all_ruled_out (buffer_of h.model) h.model code ts each
      by Deadlock each = only_deadlock (buffer_of h.model) h.model code ts (each 0 (omega arith))

  module _ (p : Place) (at : IsReachedAt code live h p) where
    reached_at : (ts : List ThreadPath) → last_of p ≡ Some ts → AreReached code live h p.level p.end p.out ts
    reached_at ts last = subst (λ o. IfSome o (AreReached code live h p.level p.end p.out)) last at.last

    -- a log at a place is one that the search looks for, and those before it are refuted
    pub is_next : (log : Log) → IsOf h p log → IsNext code h log
    is_next log of =
        let r = reached_at of.threads of.last in
        subst (IsNext code h) (sym of.is)
        (record {
          needed = record {
            under = refl;
            records = records_at kind of.threads p.end of.end;
            is_one = one_in_more code kind p.level h.bounds.most of.threads at.level r.one;
          };
          first = r.first;
        })

    -- the log is one
    pub log_there : (ts : List ThreadPath) → last_of p ≡ Some ts → p.end < ends_of kind ts → is_log (log_at h ts p.end) ≡ true
    log_there ts last less =
        logged h.model ts code kind p.level (end_at kind p.end) (reached_at ts last).one (records_at kind ts p.end less)

    -- a log at a place is one
    pub log_is : (log : Log) → IsOf h p log → is_log log ≡ true
    log_is log of = subst (λ l. is_log l ≡ true) (sym of.is) (log_there of.threads of.last of.end)

    -- the number of logs of some threads is small
    pub few_ends : (log : Log) → IsOf h p log → p.end < 16
    few_ends log of = by kind of.end
      where
        by : (k : Kind) → p.end < ends_of k of.threads → p.end < 16
        by Failure less = let few : length of.threads ≤ 16 = (reached_at of.threads of.last).one.few in omega (arith, few, less)
        by Deadlock less = omega (arith, less)

    -- past a log that no moves reproduce
    pub past : (log : Log) → IsOf h p log → IsImpossible (buffer_of h.model) code log → IsReachedAt code live h (record p { end = p.end + 1 })
    past log of none = record {
      level = at.level;
      below = at.below;
      last = subst (λ o. IfSome o (AreReached code live h p.level (p.end + 1) p.out)) (sym of.last)
          (record { one = r.one; first = r.first; ends = omega (arith, of.end); gone = gone; through = r.through });
    }
      where
        r : AreReached code live h p.level p.end p.out of.threads
        r = reached_at of.threads of.last

        here : IsImpossible (buffer_of h.model) code (log_at h of.threads p.end)
        here = subst (IsImpossible (buffer_of h.model) code) of.is none

        gone : IsLean of.threads → (k : ℕ) → k < p.end + 1 → IsImpossible (buffer_of h.model) code (log_at h of.threads k)
        gone needed k less = by (cases_lt k p.end)
          where
            by : (k < p.end) ⊎ (p.end ≤ k) → IsImpossible (buffer_of h.model) code (log_at h of.threads k)
            by (inl l) = r.gone needed k l
            by (inr l) =
                let same : p.end ≡ k = omega (arith, less, l) in
                subst (λ j. IsImpossible (buffer_of h.model) code (log_at h of.threads j)) same here

    module _ (closed : IsClosed code live) (ended : IfSome (last_of p) (λ ts. ends_of kind ts ≤ p.end)) where
      -- all logs up to the last threads are refuted, or were left out
      through : IsThrough code (bounds_at p.level) (AreDone code live h) (last_of p) p.out
      through = by (last_of p) refl ended
        where
          by : (o : Option (List ThreadPath)) → last_of p ≡ o → IfSome o (λ ts. ends_of kind ts ≤ p.end)
              → IsThrough code (bounds_at p.level) (AreDone code live h) o p.out
          by None e end = begin code (bounds_at p.level) (AreDone code live h) p.out
          by (Some ts) e end =
              let r = reached_at ts e in
              r.through (λ needed. all_gone ts (λ n less. r.gone needed n (omega (arith, less, end))))

      module _ (given : Given) (first : IsFirst code live (bounds_at p.level) (last_of p) given) where
        -- after the last threads with so few outcomes
        pub level_done : given.threads ≡ None
            → AllAreDone code live (record h { bounds = record { kind = h.bounds.kind; most = p.level } }) (both p.out given.out)
        level_done none ts made =
            at_end code (bounds_at p.level) (AreDone code live h) live shown (last_of p) given p.out first through none ts made

        module _ (us : List ThreadPath) (some : given.threads ≡ Some us) where
          one : IsOne code (bounds_at p.level) us
          one = subst (λ o. IfSome o (IsOne code (bounds_at p.level))) some first.is_one

          reached_by : (end : ℕ) → end ≤ ends_of kind us
              → (IsLean us → (k : ℕ) → k < end → IsImpossible (buffer_of h.model) code (log_at h us k))
              → AreReached code live h p.level end (both p.out given.out) us
          reached_by end less gone = record {
            one = one;
            first = none_before (buffer_of h.model) h.model code live kind p.level closed (last_of p) given p.out us first through some one
                (none_below (buffer_of h.model) h.model code live kind p.level closed at.below);
            ends = less;
            gone = gone;
            through = λ none. go_on code (bounds_at p.level) (AreDone code live h) live shown (last_of p) given p.out first through us some one.makes_up none;
          }

          -- at the next threads, if they are new
          pub next_new : AreReached code live h p.level 0 (both p.out given.out) us
          next_new = reached_by 0 (omega arith) (λ needed k less. absurd (omega (arith, less)))

          -- and if they aren't
          pub next_old : (p.level == 0 || list_any (λ t. nat_le p.level (length t.path.outcomes)) us) ≡ false
              → AreReached code live h p.level (ends_of kind us) (both p.out given.out) us
          next_old isnt =
              let old = old_is_below code kind p.level us one isnt in
              reached_by (ends_of kind us) (omega arith) (λ needed. each_gone us (at.below old.0 us old.1 old.2 needed))

        module _ (us : List ThreadPath) (some : given.threads ≡ Some us) where
          -- at the next threads
          pub next_reached : AreReached code live h p.level (first_end p.level kind us) (both p.out given.out) us
          next_reached = by (are_new p.level us) refl
            where
              by : (b : Bool) → are_new p.level us ≡ b
                  → AreReached code live h p.level (cond b 0 (ends_of kind us)) (both p.out given.out) us
              by true e = next_new us some
              by false e = next_old us some e

    module _ (out : LeftOut)
        (done : AllAreDone code live (record h { bounds = record { kind = h.bounds.kind; most = p.level } }) out) where
      -- more outcomes lead to no more logs
      with_more : out.outcomes ≡ false → AllAreDone code live h out
      with_more none ts made = by (done ts made)
        where
          by : AreDone code live h ts ⊎ IsLeftOut p.level THREADS out ts → AreDone code live h ts ⊎ IsLeftOut h.bounds.most THREADS out ts
          by (inl refuted) = inl refuted
          by (inr (Outcomes told is)) = absurd (false≢true (subst (λ b. b ≡ true) none told))
          by (inr (Steps told is)) = inr (Steps told is)
          by (inr (Depth told is)) = inr (Depth told is)
          by (inr (Threads told is)) = inr (Threads told is)

      -- after the last level
      pub all_done : (p.level == h.bounds.most || not out.outcomes) ≡ true → AllAreDone code live h out
      all_done last = by (p.level == h.bounds.most) refl out.outcomes refl last
        where
          by : (b : Bool) → (p.level == h.bounds.most) ≡ b → (c : Bool) → out.outcomes ≡ c → (b || not c) ≡ true → AllAreDone code live h out
          by true same c cut e =
              subst (λ n. (ts : List ThreadPath) → MakeUp code kind (all code kind) ts → AreDone code live h ts ⊎ IsLeftOut n THREADS out ts)
              (eqb-true p.level h.bounds.most same) done
          by false same true cut e = absurd (false≢true e)
          by false same false cut e = with_more cut

      -- before it
      pub less_than_most : (p.level == h.bounds.most || not out.outcomes) ≡ false → p.level < h.bounds.most
      less_than_most last = by (p.level == h.bounds.most) refl last
        where
          by : (b : Bool) → (p.level == h.bounds.most) ≡ b → (b || not out.outcomes) ≡ false → p.level < h.bounds.most
          by true same e = absurd (false≢true (sym e))
          by false same e = by_least (cases_lt p.level h.bounds.most)
            where
              by_least : (p.level < h.bounds.most) ⊎ (h.bounds.most ≤ p.level) → p.level < h.bounds.most
              by_least (inl l) = l
              by_least (inr l) =
                  absurd (false≢true (sym same ∙ eq-eqb p.level h.bounds.most (let le = at.level in omega (arith, le, l))))

      pub settled_above : AreExcludedBelow (buffer_of h.model) h.model code live kind (p.level + 1)
      settled_above less ts below one = by (done ts one.makes_up)
        where
          by : AreDone code live h ts ⊎ IsLeftOut p.level THREADS out ts → AreDone code live h ts
          by (inl refuted) = refuted
          by (inr left) =
              absurd (one_is_in code (bounds_at p.level) out ts (one_in_more code kind less p.level ts (omega (arith, below)) one) left)

  -- nothing comes before the first place
  nothing_below : AreExcludedBelow (buffer_of h.model) h.model code live kind 0
  nothing_below less ts below one = absurd (omega (arith, below))

  -- before any thread is given
  at_none : (q : Place) → q.last ≡ None → q.level ≤ h.bounds.most → AreExcludedBelow (buffer_of h.model) h.model code live kind q.level → IsReachedAt code live h q
  at_none q none level below =
      record { level = level; below = below; last = no_last q none (AreReached code live h q.level q.end q.out) }

  -- the first place
  pub first_at : (q : Place) → q.level ≡ 0 → q.last ≡ None → IsReachedAt code live h q
  first_at q zero none =
      at_none q none (omega (arith, zero)) (subst (AreExcludedBelow (buffer_of h.model) h.model code live kind) (sym zero) nothing_below)

  -- at the next threads
  pub at_threads : (p q : Place) → IsReachedAt code live h p → q.level ≡ p.level → (us : List ThreadPath) → last_of q ≡ Some us
      → AreReached code live h p.level q.end q.out us → IsReachedAt code live h q
  at_threads p q at same us last reached = record {
    level = subst (λ n. n ≤ h.bounds.most) (sym same) at.level;
    below = subst (AreExcludedBelow (buffer_of h.model) h.model code live kind) (sym same) at.below;
    last = subst (λ o. IfSome o (AreReached code live h q.level q.end q.out)) (sym last)
        (subst (λ n. AreReached code live h n q.end q.out us) (sym same) reached);
  }

  -- after all logs with so few outcomes
  pub raised : (p q : Place) (at : IsReachedAt code live h p) (out : LeftOut)
      → AllAreDone code live (record h { bounds = record { kind = h.bounds.kind; most = p.level } }) out
      → (p.level == h.bounds.most || not out.outcomes) ≡ false → q.level ≡ p.level + 1 → q.last ≡ None → IsReachedAt code live h q
  raised p q at out done last more none =
      let less = less_than_most p at out done last in
      at_none q none (omega (arith, less, more))
      (subst (AreExcludedBelow (buffer_of h.model) h.model code live kind) (sym more) (settled_above p at out done))
