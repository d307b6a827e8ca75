-- The formula of a log is true in some world exactly if some order is lawful.
use Rattle.std.proofs.Common.{◌≡◌, List, [], ◌++◌, refl, sym, subst}
use Rattle.std.specs.Prelude.{◌↔◌, fold}
use Rattle.lawful_terms.specs.tc_base.declared.moves.Move.{Move}
use Rattle.clap_system.specs.tc_code.Run.{Reproduces}
use Rattle.clap_system.specs.path_walk.Fits.{Fits}
use Rattle.clap_system.specs.path_walk.Paths.{ArePaths, Paths, paths_of}
use Rattle.plan_runs.specs.run_follows.Follow.{moves_for}
use Rattle.plan_runs.specs.run_history.History.{history}
use Rattle.plan_runs.specs.path_laws.Setting.{Setting}
use Rattle.clap_system.specs.sym_terms.Terms.{AreTerms, with_node}
use Rattle.clap_system.specs.sym_exec.Executed.{Executed, executed}
use Rattle.clap_system.specs.sym_exec.Making.{Grows}
use Rattle.clap_system.proofs.sym_exec.Grown.{grows_both}
use Rattle.clap_system.proofs.sym_events.Terms.{have_terms, have_tests}
use Rattle.clap_system.specs.order_formula.Worlds.{World}
use Rattle.clap_system.specs.order_formula.declared.group.Group.{Group}
use Rattle.lawful_terms.specs.lawful_order.Lawful.{MeetsRule}
use Rattle.lawful_terms.proofs.order_cells.Needs.{grows_all}
use Rattle.lawful_terms.specs.memory_order.Own.{own_needs}
use Rattle.clap_system.specs.read_write.Reading.{read_needs}
use Rattle.lawful_terms.proofs.Same.{MeanSame, meets, more_mean_same, turned}
use Rattle.plan_runs.specs.world_plan.Going.{IsLawfulWorld}
use Rattle.plan_runs.specs.world_plan.Plan.{plan}
use Rattle.plan_runs.proofs.Laws.{given}
use Rattle.plan_runs.proofs.Runs.{plan_reproduces}
use Rattle.run_lawful.proofs.Lawful.{is_lawful}
use Rattle.run_lawful.specs.world.WorldOf.{world_in}
use Rattle.clap_system.specs.Systems.{System, system_of}
use Rattle.clap_system.proofs.Exact.{lawful_where_true, true_where_lawful}
use Rattle.clap_system.proofs.Needs.{parts_exact}
use Rattle.orders_are_runs.specs.Possible.{IsPossible}
use Rattle.orders_are_runs.proofs.Terms.{no_terms, system_terms}

module _ {B : Type 0} (setting : Setting B) (fits : Fits setting.code setting.log) where
  open setting use {ops, bound, laws, code, lawful, log}

  abbrev paths : Paths
  paths = paths_of code log

  abbrev x : Executed
  x = executed code paths []

  abbrev s : System
  s = system_of ops.buffered bound code log

  are_paths : ArePaths code paths
  are_paths = record { log = log; fits = fits; are = refl }

  -- the formula's terms extend those of the execution
  pub grows : Grows x.nodes s.nodes
  grows =
      let own = own_needs ops.buffered bound paths x.symbolic x.nodes in
      let between = fold with_node x.nodes own in
      grows_both x.nodes between s.nodes (grows_all x.nodes own) (grows_all between (read_needs code x.symbolic between))

  rule_stays : (w : World) (g : Group)
      → MeetsRule ops.buffered bound code paths x.symbolic x.nodes w g ↔ MeetsRule ops.buffered bound code paths x.symbolic s.nodes w g
  rule_stays w g = subst (λ ns. MeetsRule ops.buffered bound code paths x.symbolic x.nodes w g ↔ MeetsRule ops.buffered bound code paths x.symbolic ns w g)
      (sym grows.1) (
        meets ops.buffered bound code paths x.symbolic w x.nodes (x.nodes ++ grows.0) same g,
        meets ops.buffered bound code paths x.symbolic w (x.nodes ++ grows.0) x.nodes (turned ops.buffered bound code paths x.symbolic w x.nodes
            (x.nodes ++ grows.0) same) g,
      )
    where
      same : MeanSame ops.buffered bound code paths x.symbolic w x.nodes (x.nodes ++ grows.0)
      same = more_mean_same ops.buffered bound code paths x.symbolic w x.nodes grows.0 (have_terms code lawful paths [])
          (λ t c y at among. have_tests code lawful paths [] t c y at among)

  terms : AreTerms s.nodes
  terms = system_terms ops.buffered bound code paths lawful

  -- a world in which the formula is true is lawful
  pub possible_is_lawful : (p : IsPossible ops.buffered bound code log) → IsLawfulWorld setting [] p.world
  possible_is_lawful p =
      let parts = parts_exact ops.buffered bound code paths p.world laws.same_cell lawful are_paths terms p.is p.of in
      let all = lawful_where_true ops.buffered bound code paths x.symbolic s.nodes p.world parts p.holds in
      record {
        fits = fits;
        lives = p.lives;
        terms = no_terms;
        world = p.is;
        of = p.of;
        lawful = record { meets = λ g. (rule_stays p.world g).1 (all.meets g) };
      }

  pub possible_is_run : IsPossible ops.buffered bound code log → (moves : List Move) × Reproduces ops code log moves
  possible_is_run p = (
    moves_for bound (plan ops.buffered code paths p.world),
    plan_reproduces setting [] p.world (possible_is_lawful p) (given setting [] p.world (possible_is_lawful p)),
  )

  module _ (moves : List Move) (again : Reproduces ops code log moves) where
    -- the world of a run
    abbrev pub run_world : World
    run_world = world_in ops.buffered paths x.symbolic (history ops code moves)

    -- the formula is true in the world of a run
    pub run_is_possible : IsPossible ops.buffered bound code log
    run_is_possible = record {
      lives = l.lives;
      world = run_world;
      is = l.world;
      of = l.of;
      holds = true_where_lawful ops.buffered bound code paths x.symbolic s.nodes run_world
          (parts_exact ops.buffered bound code paths run_world laws.same_cell lawful are_paths terms l.world l.of)
          (record { meets = λ g. (rule_stays run_world g).0 (l.lawful.meets g) });
    }
      where
        l : IsLawfulWorld setting [] run_world
        l = is_lawful setting [] no_terms moves again

    pub run_world_is : run_is_possible.world ≡ run_world
    unfolding run_is_possible
    run_world_is = refl
