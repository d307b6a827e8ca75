-- The moves that take each thread to the end of its path are those of the plan.
use Rattle.std.proofs.Common.{◌≡◌, ◌∙◌, ◌≢◌, ◌⊎◌, inl, inr, ℕ, zero, suc, ◌+◌, ◌-◌, ◌≤◌, ◌<◌, ◌==◌, Bool, true, false, not, cond, List}
use Rattle.std.proofs.Common.{[], ◌∷◌, ◌++◌, length, fold, replicate, Option, Some, None, refl, sym, ap, subst, arith, append_assoc}
use Rattle.std.specs.Prelude.{slice_get, option_map, if◌then◌else◌}
use Rattle.std.specs.List.{Contains, filter, find, range_with_len}
use Rattle.std.specs.Option.{option_map_or}
use Rattle.std.proofs.lemmas.Bool.{false≢true, not-true, eqb-true, eq-eqb, ne_eqb, ltb-true, and_parts, cases_order}
use Rattle.std.proofs.lemmas.List.{append-nil, map-append, length-map}
use Rattle.std.proofs.lemmas.List.Sums.{fold-append}
use Rattle.std.proofs.lemmas.Option.{none-some, same_Some}
use Rattle.store_buffers.specs.tc_base.Paths.{place_in}
use Rattle.store_buffers.specs.tc_base.Names.{Name}
use Rattle.store_buffers.specs.tc_base.declared.failing.Failing.{Failing}
use Rattle.store_buffers.specs.tc_base.declared.failing.Failing.TheVariants as failing
use Rattle.store_buffers.specs.tc_base.declared.moves.Move.{Move}
use Rattle.store_buffers.specs.tc_base.declared.moves.Move.TheVariants as move
use Rattle.world_moves.specs.run_history.History.{Deed}
use Rattle.world_moves.specs.run_history.Told.{steps_in, is_thread_in}
use Rattle.world_moves.specs.run_follows.Follow.{move_for, moves_for, taken_in}
use Rattle.tc_code.specs.run_log.Logs.{is_there, rises_from}
use Rattle.path_walk.specs.Fits.{fails_in}
use Rattle.path_walk.specs.Paths.{Walk, Paths, paths_of, walk_of}
use Rattle.path_walk.specs.declared.event.Event.{Event}
use Rattle.path_walk.specs.declared.event.EventKind.TheVariants as kind
use Rattle.world_moves.specs.path_laws.Setting.{Setting}
use Rattle.world_moves.specs.path_laws.history.Along.{AllAreThere, PathThread, path_thread}
use Rattle.sym_exec.specs.Executed.{has_failed}
use Rattle.path_execution.specs.declared.execution.Execution.{Execution}
use Rattle.plan_runs.specs.sym_steps.Next.{kind_at}
use Rattle.sym_terms.specs.declared.node.Node.{Node}
use Rattle.world_moves.proofs.order_events.Lists.{in_front, in_back, of_filter}
use Rattle.order_formula.specs.Worlds.{World}
use Rattle.lawful_terms.specs.lawful_order.Memory.{is_store}
use Rattle.world_moves.specs.world_plan.Going.{IsLawfulWorld}
use Rattle.world_moves.specs.world_plan.Plan as plan
use Rattle.world_moves.specs.world_plan.Plan.{is_failing, goes_on, goes_to, up_to}
use Rattle.world_moves.proofs.world_plan.Numbers.{of_find}
use Rattle.world_moves.proofs.world_plan.Threads.{fails_by_place, fail_is_last}
use Rattle.world_moves.specs.Moves as spec
use Rattle.world_moves.specs.Moves.{Made, steps_of, runs_to, with_moves, with_passing, last_place, made_to}
use Rattle.plan_runs.proofs.Deeds.{GoesOn, goes_nowhere, goes_further}
use Rattle.plan_runs.proofs.End.{end, none_before}
use Rattle.plan_runs.proofs.Given.{Gone, Given}
use Rattle.plan_runs.proofs.Goes.{gone_up_to}
use Rattle.plan_runs.proofs.Next as next
use Rattle.plan_runs.proofs.Next.{NextIs, next_is}
use Rattle.plan_runs.proofs.Rest.{few, quiet_unless, come, all_threads, first_rest}
use Rattle.plan_runs.proofs.Steps.{Step, QuietAt, quiet_goes, one_more}
use Rattle.schedule_decode.specs.Decodable.{executed_with}
use Rattle.schedule_decode.proofs.Events.{same_end, made_up_to}
use Rattle.schedule_decode.proofs.Made.{IsMadeOf, made_on, others_stay}
use Rattle.schedule_decode.proofs.Runs.{own_run}

-- A fold that skips some elements is a fold over the others.
fold_but : {X Y : Type 0} (f : Y → X → Y) (p : X → Bool) (y : Y) (xs : List X)
    → fold (λ a x. if p x then a else f a x) y xs ≡ fold f y (filter (λ x. not (p x)) xs)
fold_but f p y [] = refl
fold_but {X} {Y} f p y (x ∷ xs) = by (p x) (λ a. fold_but f p a xs)
  where
    by : (b : Bool) → ((a : Y) → fold (λ c z. if p z then c else f c z) a xs ≡ fold f a (filter (λ z. not (p z)) xs))
        → fold (λ c z. if p z then c else f c z) (cond b y (f y x)) xs
        ≡ fold f y (cond (not b) (x ∷ filter (λ z. not (p z)) xs) (filter (λ z. not (p z)) xs))
    by true later = later y
    by false later = later (f y x)

-- A number outside a range doesn't occur in it.
not_among : (k a n : ℕ) → (k < a) ⊎ (a + n ≤ k) → filter (λ t. k == t) (range_with_len a n) ≡ []
not_among k a zero out = refl
not_among k a (suc n) out =
    let miss : (k == a) ≡ false =
    ne_eqb k a (λ same. elim out [
      | inl low ↦ omega (arith, low, same)
      | inr high ↦ omega (arith, high, same)
    ]) in
    let beyond : (k < a + 1) ⊎ (a + 1 + n ≤ k) =
    elim out [
      | inl low ↦ inl (omega (arith, low))
      | inr high ↦ inr (omega (arith, high))
    ] in
    ap (λ b. cond b (a ∷ filter (λ t. k == t) (range_with_len (a + 1) n)) (filter (λ t. k == t) (range_with_len (a + 1) n))) miss
    ∙ not_among k (a + 1) n beyond

once_among : (k a n : ℕ) → a ≤ k → k < a + n → filter (λ t. k == t) (range_with_len a n) ≡ k ∷ []
once_among k a zero low high = absurd (omega (arith, low, high))
once_among k a (suc n) low high = by (k == a) refl (λ more. once_among k (a + 1) n more (omega (arith, high)))
  where
    others : List ℕ
    others = filter (λ t. k == t) (range_with_len (a + 1) n)

    by : (b : Bool) → (k == a) ≡ b → (a + 1 ≤ k → filter (λ t. k == t) (range_with_len (a + 1) n) ≡ k ∷ [])
        → cond b (a ∷ filter (λ t. k == t) (range_with_len (a + 1) n)) (filter (λ t. k == t) (range_with_len (a + 1) n)) ≡ k ∷ []
    by true hit later =
        let same = eqb-true k a hit in
        ap (λ ts. a ∷ ts) (not_among k (a + 1) n (inl (omega (arith, same)))) ∙ ap (λ c. c ∷ []) (sym same)
    by false miss later =
        elim (cases_order k a) [
          | inl same ↦ absurd (false≢true (sym miss ∙ eq-eqb k a same))
          | inr (inl less) ↦ absurd (omega (arith, less, low))
          | inr (inr more) ↦ later (omega (arith, more))
        ]

nobody : (ts : List ℕ) → filter (λ t. false) ts ≡ []
nobody [] = refl
nobody (t ∷ ts) = nobody ts

module _ {B : Type 0} (setting : Setting B) (nodes more : List Node) (w : World) (l : IsLawfulWorld setting nodes w) (g : Given setting nodes w) where
  open setting use {ops, bound, code, log}

  abbrev paths : Paths
  paths = paths_of code log

  abbrev last : ℕ
  last = end setting nodes w l

  abbrev at_end : List Deed → Type 0
  at_end h = Gone setting nodes w last h

  abbrev goes : ℕ → List Deed → ℕ → Name → List Deed
  goes m h t n = goes_on ops.buffered code paths w m h t n

  abbrev planned : List Deed → ℕ → List Deed
  planned h t = plan.with_rest ops.buffered code paths w h t

  abbrev IsMade : List Deed → Made → Type 0
  IsMade h m = IsMadeOf bound code log h m

  -- at the end a step is no signal
  no_signal : (h : List Deed) → at_end h → (t : PathThread code log) → (c : ℕ) → kind_at t.walk (steps_in h t.name) ≢ Some (kind.Signal c)
  no_signal h gone t c signals = by (find (λ (e : Event). e.step == steps_in h t.name) t.events) refl
    where
      by : (o : Option Event) → find (λ (e : Event). e.step == steps_in h t.name) t.events ≡ o → ⊥
      by None none = none-some (kind.Signal c) (sym (ap (option_map (λ (e : Event). e.kind)) none) ∙ signals)
      by (Some x) one =
          let f = of_find (λ (e : Event). e.step == steps_in h t.name) t.events x one in
          let is = same_Some x.kind (kind.Signal c) (sym (ap (option_map (λ (e : Event). e.kind)) one) ∙ signals) in
          let step = eqb-true x.step (steps_in h t.name) f.1 in
          elim (quiet_unless setting nodes w l g h gone t.index t.walk t.there x f.0 (omega (arith, step))) [
            | inl waits ↦ let s = and_parts ops.buffered (is_store x.kind) waits in false≢true (sym (ap is_store is) ∙ s.1)
            | inr fails ↦ let e : kind.Signal c ≡ kind.Fail = sym is ∙ fails in cc
          ]

  -- and it is quiet, unless its thread fails by it
  quiet_here : (h : List Deed) → at_end h → (t : PathThread code log)
      → (fails_in log t.name ≡ true → steps_in h t.name + 1 ≡ length t.places → ⊥)
      → QuietAt setting nodes w l g t.walk (steps_in h t.name)
  quiet_here h gone t not x i step =
      elim (quiet_unless setting nodes w l g h gone t.index t.walk t.there x i (omega (arith, step))) [
        | inl waits ↦ waits
        | inr fails ↦ let f = fail_is_last code log setting.log_is l.fits t.index t.walk x t.there i fails in absurd (not f.0 (omega (arith, f.1, step)))
      ]

  -- The `k` steps to the end of a path are `k` moves of its thread.
  record Ran (k : ℕ) (h : List Deed) (q : Walk) (later : List Deed) : Type 0 where
    moves : moves_for bound later ≡ moves_for bound h ++ replicate k (move.Run q.name)
    steps : steps_in later q.name ≡ steps_in h q.name + k
    on : GoesOn h later
    gone : fails_in log q.name ≡ false → at_end later

  runs_out : (k : ℕ) (h : List Deed) → at_end h → (t : PathThread code log) → is_thread_in h t.name ≡ true
      → steps_in h t.name + k ≡ length t.places → Ran k h t.walk (goes k h t.index t.name)
  runs_out zero h gone t is_there all =
      record { moves = sym (append-nil (moves_for bound h)); steps = omega arith; on = goes_nowhere h; gone = λ passes. gone }
  runs_out (suc k) h gone t is_there all =
      subst (λ ds. Ran (suc k) h t.walk (goes k (h ++ ds) t.index t.name)) (sym (next.does_it setting nodes w l last h gone t n))
      (by k all (λ on. runs_out k longer on t (one.goes.there t.name is_there) (omega (arith, all, one.steps))))
    where
      n : NextIs setting nodes w l h t
      n = next_is setting nodes w l last h gone t is_there (omega (arith, all))

      d : Deed
      d = next.deed setting nodes w l last h gone t n

      longer : List Deed
      longer = h ++ d ∷ []

      one : Step h longer t.walk
      one = one_more setting nodes w l g last h gone t n

      run : Move
      run = move.Run t.name

      own : move_for bound d ≡ run
      own =
          own_run bound t.name (steps_in h t.name) n.request (taken_in ops.buffered code h t.name n.request)
          (next.other setting nodes w l last h gone t n)
          (λ c is. no_signal h gone t c (sym (next.kind_is setting nodes w l last h gone t n) ∙ is))

      first : moves_for bound longer ≡ moves_for bound h ++ run ∷ []
      first = map-append (move_for bound) h (d ∷ []) ∙ ap (λ a. moves_for bound h ++ a ∷ []) own

      on_quietly : (fails_in log t.name ≡ true → steps_in h t.name + 1 ≡ length t.places → ⊥) → at_end longer
      on_quietly not = quiet_goes setting nodes w l g last h gone t n (quiet_here h gone t not)

      by : (j : ℕ) → steps_in h t.name + suc j ≡ length t.places → (at_end longer → Ran j longer t.walk (goes j longer t.index t.name))
          → Ran (suc j) h t.walk (goes j longer t.index t.name)
      by zero left later = record {
        moves = first;
        steps = one.steps;
        on = one.goes;
        gone = λ passes. on_quietly (λ fails. absurd (false≢true (sym passes ∙ fails)));
      }
      by (suc j) left later =
          let r = later (on_quietly (λ fails end. omega (arith, left, end))) in
          record {
            moves = r.moves ∙ ap (λ ms. ms ++ replicate (suc j) run) first ∙ append_assoc (moves_for bound h) (run ∷ []) (replicate (suc j) run);
            steps = omega (arith, r.steps, one.steps);
            on = goes_further h longer (goes (suc j) longer t.index t.name) one.goes r.on;
            gone = r.gone;
          }

  -- The rest of a thread's path.
  record RestMade (h : List Deed) (t : ℕ) (later : List Deed) (m : Made) : Type 0 where
    made : IsMade later m
    on : GoesOn h later
    gone : is_failing paths t ≡ false → at_end later

  place_passes : (f : Failing) (t : ℕ) → option_map_or (λ k. k == t) (place_in f) false ≡ false → has_failed f t ≡ false
  place_passes (failing.Thread k) t e = grind (arith, e)
  place_passes failing.Deadlock t e = refl

  rest_made : (h : List Deed) (m : Made) → at_end h → AllAreThere code log h → IsMade h m → (t : ℕ)
      → RestMade h t (planned h t) (spec.with_rest paths m t)
  rest_made h m gone are_there made t = by (slice_get paths.threads t) refl
    where
      deeds_by : Option Walk → List Deed
      deeds_by o = option_map_or (λ (q : Walk). goes_to ops.buffered code paths w h t q.name (length q.places)) o h

      made_by : Option Walk → Made
      made_by o = option_map_or (λ (q : Walk). with_moves m t (length q.places) (runs_to m t q.name (length q.places))) o m

      by : (o : Option Walk) → slice_get paths.threads t ≡ o → RestMade h t (deeds_by (slice_get paths.threads t)) (made_by (slice_get paths.threads t))
      by None none =
          subst (λ o. RestMade h t (deeds_by o) (made_by o)) (sym none) (record { made = made; on = goes_nowhere h; gone = λ passes. gone })
      by (Some q) there =
          let left = length q.places - steps_in h q.name in
          let thread : PathThread code log = path_thread t q there in
          let most = few setting nodes w l g h gone.along thread in
          let r = runs_out left h gone thread (are_there thread) (omega (arith, most)) in
          let count : left ≡ length q.places - steps_of m t = ap (λ k. length q.places - k) (sym (made.steps t q there)) in
          subst (λ o. RestMade h t (deeds_by o) (made_by o)) (sym there)
          (record {
            made = made_on bound code log setting.log_is h (goes left h t q.name) m made t q there (length q.places) (runs_to m t q.name (length q.places))
                (r.moves ∙ ap (λ k. moves_for bound h ++ replicate k (move.Run q.name)) count)
                (omega (arith, r.steps, most))
                (λ n apart. others_stay ops.buffered code paths w left h t q.name n apart);
            on = r.on;
            gone = λ passes. r.gone (fails_by_place code log setting.log_is t q there ∙ place_passes log.failing t passes);
          })

  -- The rest of the paths of some threads that don't fail.
  all_made : (ts : List ℕ) (h : List Deed) (m : Made) → at_end h → AllAreThere code log h → ((t : ℕ) → Contains ts t → is_failing paths t ≡ false)
      → IsMade h m → IsMade (fold planned h ts) (fold (spec.with_rest paths) m ts)
  all_made [] h m gone are_there passing made = made
  all_made (t ∷ ts) h m gone are_there passing made =
      let r = rest_made h m gone are_there made t in
      all_made ts (planned h t) (spec.with_rest paths m t) (r.gone (passing t (in_front t ts))) (λ u. r.on.there u.name (are_there u))
      (λ u i. passing u (in_back u t ts i)) r.made

  -- The whole plan.
  abbrev before : List Deed
  before = up_to ops.buffered code paths w last

  abbrev range : List ℕ
  range = range_with_len 0 (length paths.threads)

  abbrev nearly : List Deed
  nearly = fold planned before (filter (λ t. not (is_failing paths t)) range)

  module _ (m : Made) (first : IsMade before m) where
    abbrev passed : Made
    passed = fold (with_passing paths) m range

    nearly_made : IsMade nearly passed
    nearly_made =
        subst (IsMade nearly) (sym (fold_but (spec.with_rest paths) (is_failing paths) m range))
        (all_made (filter (λ t. not (is_failing paths t)) range) before m (come setting nodes w l g)
        (all_threads setting nodes w l g before (come setting nodes w l g))
        (λ t i. not-true (is_failing paths t) (of_filter (λ u. not (is_failing paths u)) t range i).1) first)

    -- the failing thread exists
    failing_within : (k : ℕ) → log.failing ≡ failing.Thread k → k < length paths.threads
    failing_within k is =
        let within =
        ltb-true k (length log.threads)
        (ap (λ f. is_there f (length log.threads)) (sym is)
        ∙ (and_parts (rises_from None log.threads) (is_there log.failing (length log.threads)) setting.log_is).1) in
        omega (arith, within, length-map log.threads (walk_of code log))

    abbrev ends : Failing → Made
    ends f = option_map_or (spec.with_rest paths passed) (place_in f) passed

    abbrev fails : Failing → List ℕ
    fails f = filter (λ t. option_map_or (λ k. k == t) (place_in f) false) range

    last_made : (f : Failing) → log.failing ≡ f → IsMade (fold planned nearly (fails f)) (ends f)
    last_made failing.Deadlock is = subst (λ ts. IsMade (fold planned nearly ts) passed) (sym (nobody range)) nearly_made
    last_made (failing.Thread k) is =
        let gone = (first_rest setting nodes w l g).gone in
        subst (λ ts. IsMade (fold planned nearly ts) (spec.with_rest paths passed k))
        (sym (once_among k 0 (length paths.threads) (omega arith) (omega (arith, failing_within k is))))
        (rest_made nearly passed gone (all_threads setting nodes w l g nearly gone) nearly_made k).made

    whole_made : IsMade (plan.plan ops.buffered code paths w) (option_map_or (spec.with_rest paths passed) (place_in paths.failing) passed)
    whole_made =
        subst (λ h. IsMade h (ends log.failing))
        (sym (fold-append planned before (filter (λ t. not (is_failing paths t)) range) (filter (is_failing paths) range)))
        (last_made log.failing refl)

  abbrev now : Execution
  now = executed_with code log nodes more

  abbrev made_at : ℕ → Made
  made_at p = made_to ops.buffered bound now w p

  pub gone_to : (p : ℕ) → p ≤ last → Gone setting nodes w p (up_to ops.buffered code paths w p)
  gone_to =
      gone_up_to setting nodes w l g last (λ t q x there i. none_before setting nodes w l t q x there i)

  -- the moves of the whole plan are made
  pub plan_made : IsMade (plan.plan ops.buffered code paths w) (spec.made ops.buffered bound now w)
  plan_made =
      whole_made (made_at (last_place paths w))
      (subst (λ p. IsMade before (made_at p)) (sym (same_end setting nodes more w l g))
      (made_up_to setting nodes more w l g last gone_to last (omega arith)))
