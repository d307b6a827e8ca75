-- The meaning of a log's clauses: a world of its paths in which its formula is true, and so a run.
use Rattle.std.proofs.Common.{◌≡◌, ◌∙◌, ℕ, ◌<◌, ◌≤◌, Bool, true, false, List, length, map, refl, sym, subst, arith}
use Rattle.std.specs.Bool.{IsTrue}
use Rattle.std.specs.Prelude.{if◌then◌else◌}
use Rattle.std.specs.List.{All, Contains}
use Rattle.std.proofs.lemmas.Bool.{false≢true}
use Rattle.std.proofs.lemmas.List.{length-map}
use Rattle.std.proofs.lemmas.List.Elements.{All-weaker}
use Rattle.order_formula.specs.sym_terms.int_ops.Arith.{IsInt}
use Rattle.run_log.specs.tc_base.Buffers.{BufferOps}
use Rattle.run_log.specs.Logs.{Log}
use Rattle.run_log.specs.memory_models.declared.model.Model.{Model}
use Rattle.run_log.specs.tc_base.declared.moves.Move.{Move}
use Rattle.tc_code.specs.Code.{Code}
use Rattle.tc_code.specs.Lawful.{IsLawful}
use Rattle.tc_code.specs.Run.{Reproduces}
use Rattle.store_buffers.specs.Laws.{Laws}
use Rattle.store_buffers.specs.Pending.{Binding}
use Rattle.schedule_decode.specs.run_history.History.{Deed, history}
use Rattle.schedule_decode.proofs.run_history.Ints.{deeds_have_ints, models_pass_ints}
use Rattle.run_log.specs.Logs.{is_log}
use Rattle.path_walk.specs.Paths.{ArePaths, Paths, paths_of}
use Rattle.order_formula.specs.sym_terms.declared.node.Node.{Node}
use Rattle.order_formula.specs.sym_terms.declared.node.Node.TheVariants.{Constant}
use Rattle.clap_system.specs.sym_exec.Ints.{HasInt}
use Rattle.order_formula.specs.declared.formula.Body.{Body}
use Rattle.order_formula.specs.declared.formula.Body.TheVariants as body
use Rattle.order_formula.specs.declared.formula.Conjunct.{Conjunct}
use Rattle.order_formula.specs.Orders.{IsOrder, order_without_questions}
use Rattle.order_formula.specs.Worlds.{World}
use Rattle.order_formula.proofs.Asked.{grows_formula}
use Rattle.first_run.specs.lawful_order.Events.{all_events, all_sleeps}
use Rattle.first_run.proofs.order_events.Parts.{each_in}
use Rattle.first_run.proofs.order_events.Whole.{whole}
use Rattle.first_run.specs.bit_ranks.Ranks.{ranks_of}
use Rattle.first_run.proofs.bit_ranks.RankLaws.{ranks-below}
use Rattle.cnf_core.specs.Clauses.{Valuation, satisfies}
use Rattle.bit_blast.specs.bit_order.Laws.{IsWorldFor}
use Rattle.bit_blast.specs.bit_order.Layouts.{Layout}
use Rattle.bit_blast.specs.bit_order.Readings.{world_of}
use Rattle.bit_blast.specs.bit_terms.Laws.{IsIntNode}
use Rattle.bit_blast.specs.Blasted.{IsApart, IsPosed, impossible, layout_of}
use Rattle.bit_blast.specs.Contended.{contended}
use Rattle.bit_blast.specs.Drafts.{Draft, DraftMeans, KeepsWorlds, drafted}
use Rattle.bit_blast.proofs.Completed.{contended_within}
use Rattle.bit_blast.proofs.Posed.{drafts-mean, drafts-tell}
use Rattle.mutex_clauses.proofs.mutex_states.Keeping.{states_keep}
use Rattle.clap_solve.proofs.mutex_rules.Stated.{states_rules}
use Rattle.clap_solve.proofs.mutex_rules.Worlds.{has_worlds}
use Rattle.refute_check.specs.Refutations.{IsClosed}
use Rattle.refute_check.specs.declared.line.Line.{Line}
use Rattle.refute_check.proofs.Sound.{closed-means-unsatisfiable}
use Rattle.orders_are_runs.specs.run_lawful.world.WorldOf.{place_in, world_in}
use Rattle.clap_system.specs.Ready.{IsReady}
use Rattle.clap_system.specs.Systems.{System, system_of}
use Rattle.clap_system.proofs.Choices.{choices_are_enders}
use Rattle.clap_system.proofs.Ready.{is_ready}
use Rattle.orders_are_runs.specs.Possible.{IsPossible}
use Rattle.orders_are_runs.proofs.Systems.{possible_is_run, run_is_possible, run_world_is}
use Rattle.orders_are_runs.proofs.Terms.{system_terms}
use Rattle.clap_solve.specs.Clauses.{blasted_by, clauses_of, drafted_by}
use Rattle.clap_solve.specs.Solved.{IsImpossible, IsWithin}
use Rattle.clap_solve.proofs.Loads.{loads_are_ints}
use Rattle.clap_solve.proofs.Ordered.{completed_lawful, formula_for, unasked_for}
use Rattle.schedule_decode.specs.path_laws.Setting.{setting_of}

int_node : (n : Node) → HasInt n → IsIntNode n
int_node (Constant k) int = int
int_node _ none = tt

module _ (buffered : Bool) (bound : Binding) (code : Code) (log : Log) (lawful : IsLawful code) (within : IsWithin code log) where
  abbrev pub paths : Paths
  paths = paths_of code log

  abbrev pub s : System
  s = system_of buffered bound code log

  pub are : ArePaths code paths
  are = record { log = log; fits = within.fits; are = refl }

  pub ready : IsReady s
  ready = is_ready buffered bound code paths lawful are

  -- the order has the events and sleeps of the paths
  pub events : s.order.events ≡ length (all_events paths)
  events = (grows_formula (order_without_questions (length (all_events paths)) (length (all_sleeps paths))) s.formula).events

  pub sleeps : s.order.sleeps ≡ length (all_sleeps paths)
  sleeps = (grows_formula (order_without_questions (length (all_events paths)) (length (all_sleeps paths))) s.formula).sleeps

  pub few : length (all_events paths) ≤ 256
  few = omega (arith, (whole code paths are).counted, within.events)

  apart : (c : Conjunct) → Contains s.formula c → (b : Body) → c.body ≡ b → IsApart b
  apart c i (body.Any cases) is = tt
  apart c i (body.Read r) is = ready.differ c r i is

  -- the order has all questions that the clauses need
  pub posed : IsPosed s.nodes s.formula s.order
  posed = record {
    events = omega (arith, events, few);
    ints = All-weaker HasInt IsIntNode int_node s.nodes ready.ints;
    asked = ready.asked;
    within = ready.within;
    apart = each_in (λ (c : Conjunct). IsApart c.body) s.formula (λ c i. apart c i c.body refl);
  }

  pub ordered : IsOrder s.order
  ordered =
      (formula_for s.order (order_without_questions (length (all_events paths)) (length (all_sleeps paths))) s.formula
      (unasked_for s.order (length (all_events paths)) (length (all_sleeps paths)) (sym events) (sym sleeps)) ready.within).lawful

  completed : IsOrder (layout_of s.order s.symbolic.loads s.formula).order
  completed = completed_lawful s.order (contended s.formula) ordered (contended_within s.order s.formula ready.within)

  abbrev pub first : Draft
  first = drafted s.nodes s.formula (layout_of s.order s.symbolic.loads s.formula)

  -- in every world the states of mutexes hold for some values of their variables
  pub keeps : KeepsWorlds s.nodes s.formula first (drafted_by code s)
  unfolding drafted_by
  keeps = states_keep code paths s.symbolic s.nodes s.formula first
      (states_rules buffered bound code paths lawful are (system_terms buffered bound code paths lawful))
      (has_worlds buffered bound code paths lawful are (omega (arith, events, few)))
      (drafts-tell s.nodes s.formula s.order s.symbolic.loads posed completed)

  pub means : DraftMeans s.nodes s.formula (record { order = s.order; loads = s.symbolic.loads }) (drafted_by code s)
  means = drafts-mean s.nodes s.formula s.order s.symbolic.loads posed completed (drafted_by code s) keeps

  abbrev y : Layout
  y = (drafted_by code s).layout

  -- values that satisfy the clauses of a system give such a world
  said : paths.dead ≡ false → (v : Valuation) → IsTrue (satisfies v (blasted_by code s).clauses.clauses) → IsPossible buffered bound code log
  said lives v satisfied =
      let m = means.means.to v satisfied in
      let w = world_of y v in
      record {
        lives = lives;
        world = w;
        is = m.0.world;
        of = (choices_are_enders buffered bound code paths w (m.0.positions ∙ events) m.0.loads (m.0.enders ∙ sleeps)).1 m.0.chosen;
        holds = m.1;
      }

  abbrev Satisfied : Valuation → Bool → Type 0
  Satisfied v dead = IsTrue (satisfies v (if dead then impossible else blasted_by code s).clauses.clauses)

  abbrev pub world_said : Valuation → World
  world_said v = world_of y v

  -- values that satisfy the clauses of the log give such a world
  pub possible : (v : Valuation) → IsTrue (satisfies v (clauses_of buffered bound code log).clauses)
      → (p : IsPossible buffered bound code log) × (p.world ≡ world_said v)
  unfolding said
  possible v satisfied = by paths.dead refl satisfied
    where
      by : (dead : Bool) → paths.dead ≡ dead → Satisfied v dead → (p : IsPossible buffered bound code log) × (p.world ≡ world_said v)
      by true is never = absurd (false≢true never)
      by false is satisfied = (said is v satisfied, refl)

module _ {B : Type 0} (ops : BufferOps B) (model : Model) (bound : Binding) (code : Code) (log : Log) (laws : Laws ops model bound) (lawful : IsLawful code)
    (is : is_log log ≡ true) (within : IsWithin code log) where
  abbrev pub ways : Paths
  ways = paths_of code log

  abbrev pub t : System
  t = system_of ops.buffered bound code log

  module _ (moves : List Move) (again : Reproduces ops code log moves) where
    abbrev pub h : List Deed
    h = history ops code moves

    abbrev pub places : List ℕ
    places = map (place_in ops.buffered ways h) (all_events ways)

    -- the world of a run
    abbrev pub p : IsPossible ops.buffered bound code log
    p = run_is_possible (setting_of ops model bound code log laws lawful is) within.fits moves again

    pub same : p.world ≡ world_in ops.buffered ways t.symbolic h
    same = run_world_is (setting_of ops model bound code log laws lawful is) within.fits moves again

    -- values of the variables can give the world of a run
    pub world_for : IsWorldFor (record { order = t.order; loads = t.symbolic.loads }) p.world
    world_for = record {
      world = p.is;
      positions = p.of.events ∙ sym (events ops.buffered bound code log lawful within);
      small = subst (λ (w : World). All (λ r. r < 256) w.positions) (sym same)
          (All-weaker (λ r. r < length places) (λ r. r < 256)
          (λ r below. omega (arith, below, length-map (all_events ways) (place_in ops.buffered ways h), few ops.buffered bound code log lawful within))
          (ranks_of places) (ranks-below places));
      loads = p.of.loads;
      ints = subst (λ (w : World). All IsInt w.loads) (sym same)
          (loads_are_ints t.symbolic h (deeds_have_ints ops code (models_pass_ints ops model bound laws) lawful moves again.state again.leads));
      enders = p.of.sleeps ∙ sym (sleeps ops.buffered bound code log lawful within);
      chosen = (choices_are_enders ops.buffered bound code ways p.world p.of.events p.of.loads p.of.sleeps).0 p.of;
    }

    -- some values satisfy the clauses
    pub run_is_said : (v : Valuation) × IsTrue (satisfies v (clauses_of ops.buffered bound code log).clauses)
    run_is_said = by ways.dead refl
      where
        by : (dead : Bool) → ways.dead ≡ dead → (v : Valuation) × Satisfied ops.buffered bound code log lawful within v dead
        by true dead = absurd (false≢true (sym p.lives ∙ dead))
        by false dead =
            let m = (means ops.buffered bound code log lawful within).means.back p.world world_for p.holds in (m.0, m.1)

  pub said_is_run : (v : Valuation) → IsTrue (satisfies v (clauses_of ops.buffered bound code log).clauses)
      → (moves : List Move) × Reproduces ops code log moves
  said_is_run v satisfied =
      possible_is_run (setting_of ops model bound code log laws lawful is) within.fits (possible ops.buffered bound code log lawful within v satisfied).0

  -- if a derivation is closed, no moves reproduce the log
  pub closed_is_impossible : (lines : List Line) → IsClosed (clauses_of ops.buffered bound code log) lines → IsImpossible ops code log
  closed_is_impossible lines closed moves again =
      let v = run_is_said moves again in closed-means-unsatisfiable (clauses_of ops.buffered bound code log) lines closed v.0 v.1
