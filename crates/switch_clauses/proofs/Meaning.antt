-- What the clauses with a bound on switches mean.
use Rattle.std.proofs.Common.{◌≡◌, ◌≢◌, ◌∙◌, ℕ, suc, ◌<◌, ◌≤◌, nat_lt, Bool, true, false, ◌||◌, List, [], ◌∷◌, map, length, Option, Some, None, refl, sym, ap, subst, arith}
use Rattle.std.specs.Bool.{IsTrue}
use Rattle.std.specs.Prelude.{if◌then◌else◌, option_map}
use Rattle.std.specs.List.{All, Contains, find, list_any, range_with_len}
use Rattle.std.proofs.lemmas.Bool.{false≢true, ltb-true}
use Rattle.std.proofs.lemmas.List.{length-map}
use Rattle.std.proofs.lemmas.List.Elements.{All-cons, All-contains, All-map}
use Rattle.std.proofs.lemmas.List.Folds.{list_any-append}
use Rattle.std.proofs.lemmas.Option.{none-some, same_Some}
use Rattle.switch_clauses.specs.switch_runs.tc_base.Buffers.{BufferOps}
use Rattle.clap_solve.specs.run_log.Logs.{Log}
use Rattle.switch_clauses.specs.switch_runs.memory_models.declared.model.Model.{Model}
use Rattle.switch_clauses.specs.switch_runs.tc_base.declared.moves.Move.{Move}
use Rattle.clap_solve.specs.tc_code.Code.{Code}
use Rattle.clap_solve.specs.tc_code.Lawful.{IsLawful}
use Rattle.clap_solve.specs.tc_code.Run.{Reproduces}
use Rattle.clap_solve.specs.store_buffers.Laws.{Laws}
use Rattle.clap_solve.specs.store_buffers.Pending.{Binding}
use Rattle.switch_clauses.specs.switch_runs.run_follows.Follow.{moves_for}
use Rattle.clap_solve.specs.run_log.Logs.{is_log}
use Rattle.clap_solve.specs.path_walk.Paths.{Paths, paths_of}
use Rattle.clap_solve.specs.path_walk.declared.event.Event.{Event}
use Rattle.clap_solve.specs.order_formula.declared.formula.Body.{Body}
use Rattle.clap_solve.specs.order_formula.declared.formula.Body.TheVariants as body
use Rattle.clap_solve.specs.order_formula.declared.formula.Conjunct.{Conjunct}
use Rattle.clap_solve.specs.order_formula.declared.order.Pair.{Pair}
use Rattle.clap_solve.specs.order_formula.declared.read.Candidate.{Candidate}
use Rattle.clap_solve.specs.order_formula.Orders.{BodyIsAsked, BodyIsIn, ConjunctIsAsked, ConjunctIsIn, Grows, IsOrder, Order, pair_of, same_pair}
use Rattle.clap_solve.specs.order_formula.Worlds.{World}
use Rattle.clap_solve.proofs.order_formula.Asked.{formula_stays}
use Rattle.switch_clauses.specs.switch_runs.lawful_order.Events.{Placed, all_events, number_of}
use Rattle.switch_clauses.proofs.switch_runs.order_events.Lists as lists
use Rattle.switch_clauses.proofs.switch_runs.order_events.Numbers.{has_number}
use Rattle.switch_clauses.proofs.switch_runs.order_events.Parts.{each_in}
use Rattle.switch_clauses.proofs.switch_runs.order_events.Whole as paths_are
use Rattle.switch_clauses.specs.switch_runs.world_plan.Plan.{is_failure, plan}
use Rattle.switch_clauses.proofs.switch_runs.world_plan.Numbers.{event_numbered, of_find}
use Rattle.clap_solve.specs.cnf_core.Clauses.{Formula, Valuation, satisfies}
use Rattle.clap_solve.specs.bit_order.Laws.{IsWorldFor, PairIsAsked}
use Rattle.clap_solve.specs.bit_order.Layouts.{Layout}
use Rattle.clap_solve.specs.bit_order.Readings.{world_of}
use Rattle.clap_solve.proofs.bit_order.Asking.{completed-asked, grows-completed, range_has}
use Rattle.clap_solve.proofs.bit_order.Meaning.{values-say-worlds}
use Rattle.clap_solve.specs.bit_blast.Blasted.{BlastMeans, IsApart, IsPosed, impossible, layout_of}
use Rattle.clap_solve.specs.bit_blast.Contended.{contended}
use Rattle.clap_solve.specs.bit_blast.Laws.{BodyIsTold}
use Rattle.clap_solve.specs.bit_blast.Whole.{all_clauses}
use Rattle.clap_solve.specs.bit_blast.Whole as blast
use Rattle.clap_solve.proofs.bit_blast.Completed.{completed_choices, completed_events, completed_sleeps, contended_within}
use Rattle.clap_solve.proofs.bit_blast.Posed.{blast_means, formula_in}
use Rattle.clap_solve.proofs.bit_blast.Prefixes.{first_part}
use Rattle.clap_solve.proofs.bit_blast.WholeLaws.{all_range}
use Rattle.clap_solve.specs.refute_check.Refutations.{IsClosed}
use Rattle.clap_solve.specs.refute_check.declared.line.Line.{Line}
use Rattle.clap_solve.proofs.refute_check.Sound.{closed-means-unsatisfiable}
use Rattle.clap_solve.specs.switch_order.Laws.{IsReady, LevelsMean}
use Rattle.clap_solve.specs.switch_order.Levels.{level_clauses}
use Rattle.clap_solve.proofs.switch_order.Levels.{levels_mean}
use Rattle.switch_clauses.specs.switch_runs.Switches as runs
use Rattle.switch_clauses.specs.switch_runs.Worlds.{failing_of, threads_of, world_switches}
use Rattle.switch_clauses.proofs.switch_runs.Laws as of_runs
use Rattle.clap_solve.specs.clap_system.Systems.{System, system_of}
use Rattle.clap_solve.proofs.clap_system.Choices.{choices_are_enders}
use Rattle.clap_solve.specs.orders_are_runs.Possible.{IsPossible}
use Rattle.clap_solve.proofs.orders_are_runs.Systems.{possible_is_lawful}
use Rattle.switch_clauses.proofs.switch_runs.plan_runs.Laws as plans
use Rattle.switch_clauses.proofs.switch_runs.plan_runs.Runs.{plan_reproduces}
use Rattle.clap_solve.specs.Solved.{IsWithin}
use Rattle.clap_solve.proofs.Meaning as solve
use Rattle.clap_solve.proofs.Ordered.{completed_lawful}
use Rattle.switch_clauses.specs.Clauses.{asked_of_all, switch_clauses, clauses_with_levels}
use Rattle.switch_clauses.proofs.Same.{same_few}
use Rattle.switch_clauses.proofs.Whole as stands
use Rattle.switch_clauses.specs.switch_runs.path_laws.Setting.{Setting, setting_of}

-- a question stays in an order that grows
still_asked : (o p : Order) (q : Pair) → Grows o p → IsTrue (list_any (same_pair q) o.pairs) → IsTrue (list_any (same_pair q) p.pairs)
still_asked o p q g asked =
    ap (list_any (same_pair q)) g.pairs.1 ∙ list_any-append (same_pair q) o.pairs g.pairs.0 ∙ ap (λ b. b || list_any (same_pair q) g.pairs.0) asked

module _ (buffered : Bool) (bound : Binding) (code : Code) (log : Log) (lawful : IsLawful code) (within : IsWithin code log) where
  abbrev ps : Paths
  ps = paths_of code log

  abbrev s : System
  s = system_of buffered bound code log

  abbrev every : List ℕ
  every = range_with_len 0 s.order.events

  -- the order that asks about every two events
  abbrev oa : Order
  oa = asked_of_all s.order

  abbrev y : Layout
  y = layout_of oa s.symbolic.loads s.formula

  was : IsPosed s.nodes s.formula s.order
  was = solve.posed buffered bound code log lawful within

  events_all : oa.events ≡ s.order.events
  events_all = completed_events s.order every

  sleeps_all : oa.sleeps ≡ s.order.sleeps
  sleeps_all = completed_sleeps s.order every

  choices_all : oa.choices ≡ s.order.choices
  choices_all = completed_choices s.order every

  lawful_all : IsOrder oa
  lawful_all =
      completed_lawful s.order every (solve.ordered buffered bound code log lawful within)
      (all_range (λ e. e < s.order.events) 0 s.order.events (λ k below. omega (arith, below)))

  posed : IsPosed s.nodes s.formula oa
  posed = record {
    events = omega (arith, was.events, events_all);
    ints = was.ints;
    asked = formula_stays s.order oa s.formula (grows-completed s.order every) was.asked;
    within = formula_in s.order oa events_all sleeps_all s.formula was.within;
    apart = was.apart;
  }

  lawful_y : IsOrder y.order
  lawful_y = completed_lawful oa (contended s.formula) lawful_all (contended_within oa s.formula posed.within)

  means : BlastMeans s.nodes s.formula oa s.symbolic.loads
  means = blast_means s.nodes s.formula oa s.symbolic.loads posed lawful_y

  grows : Grows oa y.order
  grows = grows-completed oa (contended s.formula)

  events_y : y.order.events ≡ length (all_events ps)
  events_y = completed_events oa (contended s.formula) ∙ events_all ∙ solve.events buffered bound code log lawful within

  same_events : y.order.events ≡ oa.events
  same_events = completed_events oa (contended s.formula)

  asked : (e g : ℕ) → e < y.order.events → g < y.order.events → e ≢ g → PairIsAsked y e g
  asked e g one other apart =
      still_asked oa y.order (pair_of e g) grows
      (completed-asked s.order every e g (range_has 0 s.order.events e (omega arith) (omega (arith, one, same_events, events_all)))
      (omega (arith, other, same_events, events_all)) apart)

  within_y : All (ConjunctIsIn y.order) s.formula
  within_y = formula_in oa y.order same_events (completed_sleeps oa (contended s.formula)) s.formula posed.within

  told : (c : Conjunct) → (b : Body) → c.body ≡ b → BodyIsAsked y.order b → BodyIsIn y.order b → IsApart b → BodyIsTold y.order b
  told c (body.Any cases) is all inside apart = all
  told c (body.Read r) is all inside apart =
      let named : List ℕ = r.event ∷ map (λ (k : Candidate). k.event) r.candidates in
      let there : All (λ e. e < y.order.events) named =
      All-cons (λ e. e < y.order.events) r.event (map (λ (k : Candidate). k.event) r.candidates) inside.0
      (All-map (λ e. e < y.order.events) (λ (k : Candidate). k.event) r.candidates inside.1) in
      record {
        distinct = apart;
        within = there;
        asked = λ first second p q differ.
            asked first second (All-contains (λ e. e < y.order.events) named first there p) (All-contains (λ e. e < y.order.events) named second there q) differ;
      }

  pub ready : blast.IsReady y s.nodes s.formula
  ready = record {
    order = lawful_y;
    events = omega (arith, posed.events, same_events);
    ints = was.ints;
    told = each_in (λ (c : Conjunct). BodyIsTold y.order c.body) s.formula (λ c there.
        told c c.body refl
        (All-contains (ConjunctIsAsked y.order) s.formula c (formula_stays oa y.order s.formula grows posed.asked) there)
        (All-contains (ConjunctIsIn y.order) s.formula c within_y there)
        (All-contains (λ (d : Conjunct). IsApart d.body) s.formula c was.apart there));
    within = within_y;
  }

  -- the event that fails is an event of the order
  failing_within : (last : ℕ) → failing_of ps ≡ Some last → last < y.order.events
  failing_within last is = by (find (λ (e : Placed Event). is_failure e.it.kind) (all_events ps)) refl is
    where
      by : (o : Option (Placed Event)) → find (λ (e : Placed Event). is_failure e.it.kind) (all_events ps) ≡ o
          → option_map (λ (e : Placed Event). number_of ps e.thread e.it.step) o ≡ Some last → last < y.order.events
      by None at never = absurd (none-some last never)
      by (Some e) at number =
          let f = of_find (λ (d : Placed Event). is_failure d.it.kind) (all_events ps) e at in
          let i = lists.in_at (all_events ps) e f.0 in
          let q = event_numbered ps (paths_are.whole code ps (solve.are buffered bound code log lawful within)) i.0 e i.1 in
          let less = has_number ps e.thread e.it.step (e.it, q, refl) in
          omega (arith, less, events_y, same_Some (number_of ps e.thread e.it.step) last number)

  abbrev f : Formula
  f = all_clauses y s.nodes s.formula

  pub levels_ready : IsReady y (threads_of ps) (failing_of ps) f
  levels_ready = record {
    order = lawful_y;
    events = ready.events;
    every = length-map (all_events ps) (λ (e : Placed Event). e.thread) ∙ sym events_y;
    last = failing_within;
    asked = asked;
    more = stands.more y s.nodes s.formula ready;
    before = stands.before y s.nodes s.formula ready;
  }

  module _ (most : ℕ) where
    level_means : LevelsMean y (threads_of ps) (failing_of ps) most f
    level_means = levels_mean y (threads_of ps) (failing_of ps) most f levels_ready

    -- values that satisfy the clauses give a world with at most `most` switches in which the
    -- formula is true
    pub record IsSaid (v : Valuation) : Type 0 where
      pub possible : IsPossible buffered bound code log
      pub world : possible.world ≡ world_of y v
      pub small : All (λ p. p < 256) possible.world.positions
      pub few : world_switches ps possible.world ≤ most

    said : ps.dead ≡ false → (v : Valuation) → IsTrue (satisfies v (clauses_with_levels ps s most).clauses) → IsSaid v
    said lives v all =
        let own = first_part v f.clauses (level_clauses y (threads_of ps) (failing_of ps) (suc f.vars) most) all in
        let m = stands.model y s.nodes s.formula ready v own in
        let few = level_means.few v (record { one = m.one; all = all }) in
        let said = means.to v own in
        let w = world_of y v in
        record {
          possible = record {
            lives = lives;
            world = w;
            is = said.0.world;
            of = (choices_are_enders buffered bound code ps w (said.0.positions ∙ events_all ∙ solve.events buffered bound code log lawful within) said.0.loads
                (said.0.enders ∙ sleeps_all ∙ solve.sleeps buffered bound code log lawful within)).1
                (λ sleep by is. subst (λ cs. Contains cs (record { sleep = sleep; by = by })) choices_all (said.0.chosen sleep by is));
            holds = said.1;
          };
          world = refl;
          small = said.0.small;
          few = few;
        }

    abbrev Satisfied : Valuation → Bool → Type 0
    Satisfied v dead = IsTrue (satisfies v (if dead then impossible.clauses else clauses_with_levels ps s most).clauses)

    pub says : (v : Valuation) → IsTrue (satisfies v (switch_clauses buffered bound code log most).clauses) → IsSaid v
    says v satisfied = by ps.dead refl satisfied
      where
        by : (dead : Bool) → ps.dead ≡ dead → Satisfied v dead → IsSaid v
        by true is never = absurd (false≢true never)
        by false is all = said is v all

    -- each such world comes from such values
    pub is_said : (p : IsPossible buffered bound code log) → IsWorldFor (record { order = s.order; loads = s.symbolic.loads }) p.world
        → world_switches ps p.world ≤ most → (v : Valuation) × IsTrue (satisfies v (clauses_with_levels ps s most).clauses)
    is_said p is few =
        let world_for : IsWorldFor (record { order = oa; loads = s.symbolic.loads }) p.world = record {
          world = is.world;
          positions = is.positions ∙ sym events_all;
          small = is.small;
          loads = is.loads;
          ints = is.ints;
          enders = is.enders ∙ sym sleeps_all;
          chosen = λ sleep by at. subst (λ cs. Contains cs (record { sleep = sleep; by = by })) (sym choices_all) (is.chosen sleep by at);
        } in
        let m = means.back p.world world_for p.holds in
        let x = world_of y m.0 in
        let x_is = values-say-worlds y m.0 ready.events in
        let threads_are : length (threads_of ps) ≡ y.order.events = levels_ready.every in
        let same = same_few (threads_of ps) (failing_of ps) most p.world x is.world x_is.world
        (omega (arith, threads_are, same_events, events_all, is.positions)) (omega (arith, threads_are, x_is.positions))
        (λ last some. let less = failing_within last some in omega (arith, less, threads_are)) is.small
        (λ e g one other. m.2.before e g (omega (arith, one, threads_are, same_events)) (omega (arith, other, threads_are, same_events))) few in
        let u = level_means.extends m.0 (stands.over y s.nodes s.formula ready) (stands.model y s.nodes s.formula ready m.0 m.1) same in
        (u.0, u.1.all)

module _ {B : Type 0} (ops : BufferOps B) (model : Model) (bound : Binding) (code : Code) (log : Log) (most : ℕ) (laws : Laws ops model bound)
    (lawful : IsLawful code) (is : is_log log ≡ true) (within : IsWithin code log) where
  abbrev setting : Setting B
  setting = setting_of ops model bound code log laws lawful is

  abbrev qs : Paths
  qs = paths_of code log

  abbrev Few : List Move → Type 0
  Few moves = runs.switches ops code moves ≤ most

  pub said_is_run : (v : Valuation) → IsTrue (satisfies v (switch_clauses ops.buffered bound code log most).clauses)
      → (moves : List Move) × Reproduces ops code log moves × Few moves
  said_is_run v satisfied =
      let k = says ops.buffered bound code log lawful within most v satisfied in
      let w = k.possible.world in
      let l = possible_is_lawful setting within.fits k.possible in (
        moves_for bound (plan ops.buffered code qs w),
        plan_reproduces setting [] w l (plans.given setting [] w l),
        subst (λ n. n ≤ most) (sym (of_runs.worlds setting [] w l k.small)) k.few,
      )

  pub run_is_said : (moves : List Move) → Reproduces ops code log moves → Few moves
      → (v : Valuation) × IsTrue (satisfies v (switch_clauses ops.buffered bound code log most).clauses)
  run_is_said moves again few = by qs.dead refl
    where
      p : IsPossible ops.buffered bound code log
      p = solve.p ops model bound code log laws lawful is within moves again

      enough : world_switches qs p.world ≤ most
      enough =
          let same = of_runs.runs setting [] moves again (solve.few ops.buffered bound code log lawful within) in
          subst (λ (w : World). world_switches qs w ≤ most) (sym (solve.same ops model bound code log laws lawful is within moves again))
          (subst (λ n. n ≤ most) same few)

      by : (dead : Bool) → qs.dead ≡ dead → (v : Valuation) × Satisfied ops.buffered bound code log lawful within most v dead
      by true dead = absurd (false≢true (sym p.lives ∙ dead))
      by false dead =
          is_said ops.buffered bound code log lawful within most p (solve.world_for ops model bound code log laws lawful is within moves again) enough

  pub closed_is_more : (lines : List Line) (moves : List Move) → IsClosed (switch_clauses ops.buffered bound code log most) lines
      → Reproduces ops code log moves → most < runs.switches ops code moves
  closed_is_more lines moves closed again = by (nat_lt most (runs.switches ops code moves)) refl
    where
      by : (b : Bool) → nat_lt most (runs.switches ops code moves) ≡ b → most < runs.switches ops code moves
      by true more = ltb-true most (runs.switches ops code moves) more
      by false less =
          let few : Few moves = grind (arith, less) in
          let v = run_is_said moves again few in
          absurd (closed-means-unsatisfiable (switch_clauses ops.buffered bound code log most) lines closed v.0 v.1)
