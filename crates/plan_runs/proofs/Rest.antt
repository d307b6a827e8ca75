-- The rest of the threads' paths at the end of a lawful world.
use Rattle.std.proofs.Common.{◌≡◌, ◌∙◌, ◌⊎◌, inl, inr, ℕ, zero, suc, ◌+◌, ◌-◌, ◌≤◌, ◌==◌, ◌&&◌, Bool, true, false, not, cond, List}
use Rattle.std.proofs.Common.{[], ◌∷◌, ◌++◌, length, fold, Option, Some, None, refl, sym, ap, subst, arith}
use Rattle.std.specs.Prelude.{slice_get}
use Rattle.std.specs.List.{Contains, filter, find, range_with_len}
use Rattle.std.specs.Option.{option_map_or}
use Rattle.std.proofs.lemmas.Bool.{false≢true, eqb-true, eq-eqb}
use Rattle.std.proofs.lemmas.List.FromFn.{length-range_with_len, get_or-range_with_len}
use Rattle.std.proofs.lemmas.List.Sums.{fold-append}
use Rattle.std.proofs.lemmas.Option.{none-some, same_Some, slice_get_within}
use Rattle.condition_order.specs.tc_base.Paths.{place_in}
use Rattle.condition_order.specs.tc_base.Names.{Name}
use Rattle.condition_order.specs.tc_base.declared.failing.Failing.{Failing}
use Rattle.condition_order.specs.tc_base.declared.failing.Failing.TheVariants as failing
use Rattle.sym_steps.specs.run_history.History.{Deed}
use Rattle.sym_steps.specs.run_history.Told.{steps_in, is_thread_in}
use Rattle.sym_steps.specs.run_follows.Follow.{taken_in}
use Rattle.condition_order.specs.path_walk.Fits.{fails_in}
use Rattle.condition_order.specs.path_walk.Paths.{Walk, Paths, paths_of}
use Rattle.condition_order.specs.path_walk.declared.event.Event.{Event}
use Rattle.condition_order.specs.path_walk.declared.event.EventKind.TheVariants as kind
use Rattle.sym_steps.specs.path_laws.Setting.{Setting}
use Rattle.sym_steps.specs.path_laws.history.Along.{IsThread, HasDoneAll, AllHaveDone, AllAreThere, PathThread, path_thread}
use Rattle.sym_steps.proofs.path_laws.of_history.Walks.{few_steps}
use Rattle.condition_order.specs.sym_exec.Executed.{has_failed}
use Rattle.condition_order.specs.sym_terms.declared.node.Node.{Node}
use Rattle.condition_order.specs.order_formula.Worlds.{World}
use Rattle.condition_order.proofs.order_events.Lists.{in_front, in_back, of_cons, of_nil, in_filter, of_filter}
use Rattle.condition_order.specs.lawful_order.Memory.{is_store}
use Rattle.world_plan.specs.Going.{IsLawfulWorld, is_pending, HaveDrained}
use Rattle.world_plan.specs.Plan.{is_failure, is_failing, other_of, goes_on, goes_to, with_rest, up_to, plan}
use Rattle.world_plan.specs.Sights.{AreInOrder}
use Rattle.world_plan.proofs.Numbers.{of_find, in_find, one_event}
use Rattle.world_plan.proofs.Threads.{fails_by_place, fail_is_last}
use Rattle.plan_runs.proofs.Deeds.{GoesOn, goes_nowhere, goes_further}
use Rattle.plan_runs.proofs.End.{end, others_before, fail_ends, none_before, failure_is}
use Rattle.plan_runs.proofs.Given.{Gone, Along, Given}
use Rattle.plan_runs.proofs.Goes.{Reached, quiet_on, gone_up_to}
use Rattle.plan_runs.proofs.Next as next
use Rattle.plan_runs.proofs.Next.{NextIs, next_is, paths_whole}
use Rattle.plan_runs.proofs.Steps.{QuietAt, quiet_goes, event_along, event_order, one_more}

place_passes : (f : Failing) (t : ℕ) → option_map_or (λ k. k == t) (place_in f) false ≡ false → has_failed f t ≡ false
place_passes (failing.Thread k) t e = grind (arith, e)
place_passes failing.Deadlock t e = refl

one_place_fails : (f : Failing) (t u : ℕ) → option_map_or (λ k. k == t) (place_in f) false ≡ true
    → option_map_or (λ k. k == u) (place_in f) false ≡ true → t ≡ u
one_place_fails (failing.Thread k) t u a b = sym (eqb-true k t a) ∙ eqb-true k u b
one_place_fails failing.Deadlock t u a b = absurd (false≢true a)

not_true : (b : Bool) → not b ≡ true → b ≡ false
not_true true e = absurd (false≢true e)
not_true false e = refl

and_false : (b : Bool) → (b && false) ≡ false
and_false true = refl
and_false false = refl

not_false : (b : Bool) → b ≡ false → not b ≡ true
not_false b e = ap not e

module _ {B : Type 0} (setting : Setting B) (nodes : List Node) (w : World) (l : IsLawfulWorld setting nodes w) (g : Given setting nodes w) where
  open setting use {ops, code, log}

  abbrev paths : Paths
  paths = paths_of code log

  abbrev last : ℕ
  last = end setting nodes w l

  abbrev at_end : List Deed → Type 0
  at_end h = Gone setting nodes w last h

  abbrev goes : ℕ → List Deed → ℕ → Name → List Deed
  goes m h t n = goes_on ops.buffered code paths w m h t n

  abbrev rest : List Deed → ℕ → List Deed
  rest h t = with_rest ops.buffered code paths w h t

  pub few : (h : List Deed) → Along setting nodes w h → (t : PathThread code log) → steps_in h t.name ≤ length t.places
  few h along = few_steps setting (record { deeds = h; fits = l.fits; along = along })

  -- a thread that has done all of its path has still done it later
  still_done : (h k : List Deed) → Along setting nodes w k → GoesOn h k → (t : ℕ) (q : Walk) → IsThread code log t q
      → HasDoneAll h q → HasDoneAll k q
  still_done h k along on t q there done =
      let most = few k along (path_thread t q there) in
      omega (arith, most, on.grows q.name, done)

  -- A step at the end is quiet, or it fails.
  pub quiet_unless : (h : List Deed) → at_end h → (t : ℕ) (q : Walk) → IsThread code log t q → (x : Event) → Contains q.events x → steps_in h q.name ≤ x.step
      → (is_pending ops.buffered x ≡ true) ⊎ (x.kind ≡ kind.Fail)
  quiet_unless h gone t q there x i left = by (is_pending ops.buffered x) refl (is_failure x.kind) refl
    where
      by : (b : Bool) → is_pending ops.buffered x ≡ b → (f : Bool) → is_failure x.kind ≡ f → (is_pending ops.buffered x ≡ true) ⊎ (x.kind ≡ kind.Fail)
      by true e f is = inl e
      by false e true is = inr (failure_is x.kind is)
      by false e false is =
          let before = others_before setting nodes w l t q x there i is e in
          let done = gone.did t q x there i before in
          absurd (omega (arith, done, left))

  -- A thread that doesn't fail goes on to the end of its path, and no other thread sees anything.
  quiet_rest : (h : List Deed) → at_end h → (t : ℕ) (q : Walk) → IsThread code log t q → is_thread_in h q.name ≡ true → fails_in log q.name ≡ false
      → Reached setting nodes w l g last h q (length q.places) (goes_to ops.buffered code paths w h t q.name (length q.places))
  quiet_rest h gone t q there is_there passes =
      let most = few h gone.along (path_thread t q there) in
      let r = quiet_on setting nodes w l g (length q.places - steps_in h q.name) last h gone (path_thread t q there) is_there (omega (arith, most))
      (λ k low high x i step.
      elim (quiet_unless h gone t q there x i (omega (arith, low, step))) [
        | inl waits ↦ waits
        | inr fails ↦ absurd (false≢true (sym passes ∙ (fail_is_last code log setting.log_is l.fits t q x there i fails).0))
      ]) in
      record { gone = r.gone; steps = omega (arith, r.steps, most); on = r.on }

  -- Each of some threads goes on to the end of its path.
  pub record AllRest (h : List Deed) (ts : List ℕ) (k : List Deed) : Type 0 where
    pub gone : at_end k
    pub on : GoesOn h k
    pub done : (t : ℕ) (q : Walk) → IsThread code log t q → Contains ts t → HasDoneAll k q

  all_rest : (ts : List ℕ) (h : List Deed) → at_end h → AllAreThere code log h → ((t : ℕ) → Contains ts t → is_failing paths t ≡ false)
      → AllRest h ts (fold rest h ts)
  all_rest [] h gone are_there passing = record { gone = gone; on = goes_nowhere h; done = λ t q there i. absurd (of_nil t i) }
  all_rest (t ∷ ts) h gone are_there passing =
      by (slice_get paths.threads t) refl
      (λ k there on. all_rest ts k there (λ u. on.there u.name (are_there u)) (λ u i. passing u (in_back u t ts i)))
    where
      Later : Type 0
      Later = (k : List Deed) → at_end k → GoesOn h k → AllRest k ts (fold rest k ts)

      later : Later → (k : List Deed) → at_end k → GoesOn h k → ((q : Walk) → IsThread code log t q → HasDoneAll k q) → AllRest h (t ∷ ts) (fold rest k ts)
      later more k there on done =
          let r = more k there on in
          record {
            gone = r.gone;
            on = goes_further h k (fold rest k ts) on r.on;
            done = λ u q at i.
                elim (of_cons u t ts i) [
                  | inl same ↦
                      still_done k (fold rest k ts) r.gone.along r.on u q at (done q (subst (λ a. IsThread code log a q) (sym same) at))
                  | inr more ↦ r.done u q at more
                ];
          }

      one : Option Walk → List Deed
      one o = option_map_or (λ (q : Walk). goes_to ops.buffered code paths w h t q.name (length q.places)) o h

      by : (o : Option Walk) → slice_get paths.threads t ≡ o → Later → AllRest h (t ∷ ts) (fold rest (one (slice_get paths.threads t)) ts)
      by None none more =
          subst (λ o. AllRest h (t ∷ ts) (fold rest (one o) ts)) (sym none)
          (later more h gone (goes_nowhere h) (λ q there. absurd (none-some q (sym none ∙ there))))
      by (Some q) there more =
          let passes : fails_in log q.name ≡ false =
          fails_by_place code log setting.log_is t q there ∙ place_passes log.failing t (passing t (in_front t ts)) in
          let r = quiet_rest h gone t q there (are_there (path_thread t q there)) passes in
          subst (λ o. AllRest h (t ∷ ts) (fold rest (one o) ts)) (sym there)
          (later more (goes_to ops.buffered code paths w h t q.name (length q.places)) r.gone r.on
          (λ v at.
          let same : q ≡ v = same_Some q v (sym there ∙ at) in
          subst (HasDoneAll (goes_to ops.buffered code paths w h t q.name (length q.places))) same r.steps))

  -- a step is quiet or fails if its events are stores that wait or failures
  quiet_or_fails : (t : ℕ) (q : Walk) → IsThread code log t q → (k : ℕ)
      → ((x : Event) → Contains q.events x → x.step ≡ k → (is_pending ops.buffered x ≡ true) ⊎ (x.kind ≡ kind.Fail))
      → QuietAt setting nodes w l g q k ⊎ ((x : Event) × Contains q.events x × (x.step ≡ k) × (x.kind ≡ kind.Fail))
  quiet_or_fails t q there k either = by (find (λ (e : Event). e.step == k) q.events) refl
    where
      by : (o : Option Event) → find (λ (e : Event). e.step == k) q.events ≡ o
          → QuietAt setting nodes w l g q k ⊎ ((x : Event) × Contains q.events x × (x.step ≡ k) × (x.kind ≡ kind.Fail))
      by None none =
          inl (λ x i step.
          let f = in_find (λ (e : Event). e.step == k) q.events x i (eq-eqb x.step k step) in
          absurd (none-some f.0 (sym none ∙ f.1)))
      by (Some e) is =
          let f = of_find (λ (a : Event). a.step == k) q.events e is in
          let step = eqb-true e.step k f.1 in
          elim (either e f.0 step) [
            | inl waits ↦
                inl (λ x i at.
                ap (is_pending ops.buffered)
                (one_event paths (paths_whole setting nodes w l) t q x e there i f.0 (at ∙ sym step))
                ∙ waits)
            | inr fails ↦ inr (e, f.0, step, fails)
          ]

  -- The thread that fails goes on to its failure.
  pub record Ended (h : List Deed) (k : List Deed) : Type 0 where
    pub along : Along setting nodes w k
    pub on : GoesOn h k
    pub order : AreInOrder ops.buffered paths w k
    pub drained : HaveDrained code log w ops.buffered last k

  record FailsLast (h : List Deed) (q : Walk) (k : List Deed) : Type 0 where
    ended : Ended h k
    done : HasDoneAll k q

  fail_on : (m : ℕ) (h : List Deed) → at_end h → (t : ℕ) (q : Walk) → IsThread code log t q → is_thread_in h q.name ≡ true
      → steps_in h q.name + m ≡ length q.places → FailsLast h q (goes m h t q.name)
  fail_on zero h gone t q there is_there all =
      record { ended = record { along = gone.along; on = goes_nowhere h; order = gone.order; drained = gone.drained }; done = omega (arith, all) }
  fail_on (suc m) h gone t q there is_there all =
      subst (λ ds. FailsLast h q (goes m (h ++ ds) t q.name)) (sym (next.does_it setting nodes w l last h gone (path_thread t q there) n))
      (elim (quiet_or_fails t q there (steps_in h q.name) (λ x i step. quiet_unless h gone t q there x i (omega (arith, step)))) [
        | inl quiet ↦ after_quiet (fail_on m k (quiet_goes setting nodes w l g last h gone (path_thread t q there) n quiet) t q there
            (grown.there q.name is_there) (omega (arith, all, one_step)))
        | inr f ↦ after_failure f.0 f.1 f.2 f.3
      ])
    where
      n : NextIs setting nodes w l h (path_thread t q there)
      n = next_is setting nodes w l last h gone (path_thread t q there) is_there (omega (arith, all))

      d : Deed
      d = next.deed setting nodes w l last h gone (path_thread t q there) n

      k : List Deed
      k = h ++ d ∷ []

      grown : GoesOn h k
      grown = (one_more setting nodes w l g last h gone (path_thread t q there) n).goes

      one_step : steps_in k q.name ≡ steps_in h q.name + 1
      one_step = (one_more setting nodes w l g last h gone (path_thread t q there) n).steps

      after_quiet : FailsLast k q (goes m k t q.name) → FailsLast h q (goes m k t q.name)
      after_quiet r = record {
        ended = record { along = r.ended.along; on = goes_further h k (goes m k t q.name) grown r.ended.on; order = r.ended.order; drained = r.ended.drained };
        done = r.done;
      }

      after_failure : (x : Event) → Contains q.events x → x.step ≡ steps_in h q.name → x.kind ≡ kind.Fail → FailsLast h q (goes m k t q.name)
      after_failure x i step fails =
          let f = fail_is_last code log setting.log_is l.fits t q x there i fails in
          let none : m ≡ 0 = omega (arith, f.1, step, all) in
          let at = fail_ends setting nodes w l t q x there i fails in
          subst (λ a. FailsLast h q (goes a k t q.name)) (sym none)
          (record {
            ended = record {
              along = event_along setting nodes w l g last h gone (path_thread t q there) n x i at (sym step);
              on = grown;
              order = event_order setting nodes w l g last h gone (path_thread t q there) n x i at (sym step)
                  (ap (λ a. ops.buffered && is_store a) fails ∙ and_false ops.buffered);
              drained = g.steps_drain last h q.name (steps_in h q.name) n.request (taken_in ops.buffered code h q.name n.request)
                  (other_of paths w h t q.name n.request) gone;
            };
            done = omega (arith, one_step, f.1, step);
          })

  -- the rest adds nothing for a thread that has done its whole path
  stays : (t : ℕ) (q : Walk) → IsThread code log t q → (ts : List ℕ) (k : List Deed) → HasDoneAll k q → ((u : ℕ) → Contains ts u → u ≡ t)
      → fold rest k ts ≡ k
  stays t q there [] k done only = refl
  stays t q there (u ∷ us) k done only =
      let at : slice_get paths.threads u ≡ Some q = ap (slice_get paths.threads) (only u (in_front u us)) ∙ there in
      let none : length q.places - steps_in k q.name ≡ 0 = omega (arith, done) in
      let same : rest k u ≡ k =
      ap (λ o. option_map_or (λ (v : Walk). goes_to ops.buffered code paths w k u v.name (length v.places)) o k) at
      ∙ ap (λ m. goes m k u q.name) none in
      ap (λ a. fold rest a us) same ∙ stays t q there us k done (λ a i. only a (in_back a u us i))

  record LastRest (h : List Deed) (ts : List ℕ) (k : List Deed) : Type 0 where
    ended : Ended h k
    done : (t : ℕ) (q : Walk) → IsThread code log t q → Contains ts t → HasDoneAll k q

  last_rest : (ts : List ℕ) (h : List Deed) → at_end h → AllAreThere code log h → ((t : ℕ) → Contains ts t → is_failing paths t ≡ true)
      → LastRest h ts (fold rest h ts)
  last_rest [] h gone are_there failing =
      record { ended = record { along = gone.along; on = goes_nowhere h; order = gone.order; drained = gone.drained }; done = λ t q there i. absurd (of_nil t i) }
  last_rest (t ∷ ts) h gone are_there failing =
      by (slice_get paths.threads t) refl (last_rest ts h gone are_there (λ u i. failing u (in_back u t ts i)))
    where
      only : (u : ℕ) → Contains (t ∷ ts) u → u ≡ t
      only u i = one_place_fails log.failing u t (failing u i) (failing t (in_front t ts))

      one : Option Walk → List Deed
      one o = option_map_or (λ (q : Walk). goes_to ops.buffered code paths w h t q.name (length q.places)) o h

      by : (o : Option Walk) → slice_get paths.threads t ≡ o → LastRest h ts (fold rest h ts)
          → LastRest h (t ∷ ts) (fold rest (one (slice_get paths.threads t)) ts)
      by None none r =
          subst (λ o. LastRest h (t ∷ ts) (fold rest (one o) ts)) (sym none)
          (record {
            ended = r.ended;
            done = λ u q at i. absurd (none-some q (sym none ∙ ap (slice_get paths.threads) (sym (only u i)) ∙ at));
          })
      by (Some q) there r =
          let most = few h gone.along (path_thread t q there) in
          let f = fail_on (length q.places - steps_in h q.name) h gone t q there (are_there (path_thread t q there)) (omega (arith, most)) in
          let k = goes (length q.places - steps_in h q.name) h t q.name in
          subst (λ o. LastRest h (t ∷ ts) (fold rest (one o) ts)) (sym there)
          (subst (LastRest h (t ∷ ts)) (sym (stays t q there ts k f.done (λ u i. only u (in_back u t ts i))))
          (record {
            ended = f.ended;
            done = λ u v at i.
                let same : q ≡ v = same_Some q v (sym there ∙ ap (slice_get paths.threads) (sym (only u i)) ∙ at) in
                subst (HasDoneAll k) same f.done;
          }))

  -- The whole plan.
  abbrev pub whole_plan : List Deed
  whole_plan = plan ops.buffered code paths w

  abbrev range : List ℕ
  range = range_with_len 0 (length paths.threads)

  abbrev pub passing : List ℕ
  passing = filter (λ t. not (is_failing paths t)) range

  abbrev failing_ones : List ℕ
  failing_ones = filter (is_failing paths) range

  in_range : (t : ℕ) (q : Walk) → IsThread code log t q → Contains range t
  in_range t q there =
      let within = slice_get_within paths.threads t q there in
      (t, omega (arith, within, length-range_with_len 0 (length paths.threads)), get_or-range_with_len 0 (length paths.threads) t t within ∙ omega arith)

  pub come : at_end (up_to ops.buffered code paths w last)
  come =
      gone_up_to setting nodes w l g last (λ t q x there i. none_before setting nodes w l t q x there i) last (omega arith)

  pub all_threads : (h : List Deed) → at_end h → AllAreThere code log h
  all_threads h gone = g.all_there last h gone (λ t q x there i. others_before setting nodes w l t q x there i)

  pub first_rest : AllRest (up_to ops.buffered code paths w last) passing (fold rest (up_to ops.buffered code paths w last) passing)
  first_rest =
      all_rest passing (up_to ops.buffered code paths w last) come (all_threads (up_to ops.buffered code paths w last) come)
      (λ t i. not_true (is_failing paths t) (of_filter (λ t. not (is_failing paths t)) t range i).1)

  abbrev pub nearly : List Deed
  nearly = fold rest (up_to ops.buffered code paths w last) passing

  second_rest : LastRest nearly failing_ones (fold rest nearly failing_ones)
  second_rest =
      last_rest failing_ones nearly first_rest.gone (all_threads nearly first_rest.gone) (λ t i. (of_filter (is_failing paths) t range i).1)

  plan_is : fold rest nearly failing_ones ≡ whole_plan
  plan_is = sym (fold-append rest (up_to ops.buffered code paths w last) passing failing_ones)

  all_done : AllHaveDone code log (fold rest nearly failing_ones)
  all_done thread = by (is_failing paths thread.index) refl
    where
      by : (b : Bool) → is_failing paths thread.index ≡ b → HasDoneAll (fold rest nearly failing_ones) thread.walk
      by false e =
          still_done nearly (fold rest nearly failing_ones) second_rest.ended.along second_rest.ended.on thread.index thread.walk thread.there
          (first_rest.done thread.index thread.walk thread.there (in_filter (λ u. not (is_failing paths u)) thread.index range (in_range thread.index thread.walk thread.there) (not_false (is_failing paths thread.index) e)))
      by true e = second_rest.done thread.index thread.walk thread.there (in_filter (is_failing paths) thread.index range (in_range thread.index thread.walk thread.there) e)

  pub plan_along : Along setting nodes w whole_plan
  plan_along = subst (Along setting nodes w) plan_is second_rest.ended.along

  pub plan_order : AreInOrder ops.buffered paths w whole_plan
  plan_order = subst (AreInOrder ops.buffered paths w) plan_is second_rest.ended.order

  pub plan_drained : HaveDrained code log w ops.buffered last whole_plan
  plan_drained = subst (HaveDrained code log w ops.buffered last) plan_is second_rest.ended.drained

  pub plan_done : AllHaveDone code log whole_plan
  plan_done = subst (AllHaveDone code log) plan_is all_done

  -- if no thread fails, the history has gone up to the end
  none_failing : (ts : List ℕ) → log.failing ≡ failing.Deadlock → filter (is_failing paths) ts ≡ []
  none_failing [] dead = refl
  none_failing (t ∷ ts) dead =
      let not : is_failing paths t ≡ false = ap (λ f. option_map_or (λ k. k == t) (place_in f) false) dead in
      ap (λ b. cond b (t ∷ filter (is_failing paths) ts) (filter (is_failing paths) ts)) not ∙ none_failing ts dead

  pub plan_gone : log.failing ≡ failing.Deadlock → at_end whole_plan
  plan_gone dead = subst at_end (ap (fold rest nearly) (sym (none_failing range dead)) ∙ plan_is) first_rest.gone
