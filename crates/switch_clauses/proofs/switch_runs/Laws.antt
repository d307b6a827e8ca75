-- The two laws: of the world of a run, and of the run of a world.
use Rattle.std.proofs.Common.{◌≡◌, ◌∙◌, ℕ, ◌<◌, ◌≤◌, Bool, true, ◌&&◌, List, ◌∷◌, ◌++◌, map, length, Option, None, append_assoc, refl, sym, ap, subst, arith}
use Rattle.std.specs.List.{All, Contains}
use Rattle.std.proofs.Math.Bool.{and-false}
use Rattle.std.proofs.lemmas.Bool.{and_from, eq-eqb, true≢false}
use Rattle.std.proofs.lemmas.List.{length-map}
use Rattle.std.proofs.lemmas.List.Elements.{All-weaker}
use Rattle.std.proofs.lemmas.Option.{same_Some}
use Rattle.plan_runs.specs.tc_base.declared.moves.Move.{Move}
use Rattle.plan_runs.specs.tc_code.Run.{Reproduces}
use Rattle.plan_runs.proofs.run_laws.Names.{same_self}
use Rattle.plan_runs.specs.run_history.History.{Deed, Did, Drained, drains, has_drained, history}
use Rattle.plan_runs.proofs.run_history.of_pending.In.{In, in_any, in_at, one_of_name}
use Rattle.plan_runs.specs.run_follows.Follow.{moves_for}
use Rattle.plan_runs.specs.path_walk.Paths.{Walk, Paths, paths_of}
use Rattle.plan_runs.specs.path_walk.declared.event.Event.{Event}
use Rattle.plan_runs.specs.path_walk.declared.event.EventKind.{EventKind}
use Rattle.plan_runs.specs.path_laws.Setting.{Setting}
use Rattle.plan_runs.specs.path_laws.Deeds.{kind_of}
use Rattle.plan_runs.specs.path_laws.history.Along.{IsThread}
use Rattle.plan_runs.proofs.path_laws.of_events.Lists.{in_contains}
use Rattle.order_switches.specs.sym_terms.declared.node.Node.{Node}
use Rattle.plan_runs.specs.sym_exec.Executed.{Symbolic}
use Rattle.plan_runs.specs.sym_laws.Valued.{found}
use Rattle.order_switches.specs.order_formula.Worlds.{World}
use Rattle.run_lawful.specs.bit_ranks.Ranks.{ranks_of}
use Rattle.run_lawful.proofs.bit_ranks.RankLaws.{ranks-below}
use Rattle.plan_runs.specs.lawful_order.Events.{all_events}
use Rattle.plan_runs.specs.lawful_order.Memory.{is_store}
use Rattle.plan_runs.specs.world_plan.Going.{IsLawfulWorld}
use Rattle.plan_runs.specs.world_plan.Plan.{plan}
use Rattle.plan_runs.specs.world_plan.Sights.{AreInOrder}
use Rattle.plan_runs.proofs.End.{fail_ends}
use Rattle.plan_runs.proofs.Laws as plans
use Rattle.plan_runs.proofs.Rest.{plan_drained, plan_order}
use Rattle.plan_runs.proofs.Runs.{plan_is_history, plan_reproduces}
use Rattle.run_lawful.specs.world.Order.{IsOrderOf, TakesPlace}
use Rattle.run_lawful.specs.world.WorldOf.{place_in, world_in}
use Rattle.run_lawful.proofs.of_world.Ordered.{AreSeen, is_order}
use Rattle.run_lawful.proofs.of_world.Run as run
use Rattle.run_lawful.proofs.of_world.Seen.{Done, Drain, SeenBy, shown_by}
use Rattle.run_lawful.proofs.of_world.Worlds.{is_world, is_world_of}
use Rattle.switch_clauses.specs.switch_runs.Switches.{switches}
use Rattle.switch_clauses.specs.switch_runs.Worlds.{world_switches}
use Rattle.switch_clauses.proofs.switch_runs.Whole.{same_switches}

abbrev asked_of : Deed → Option EventKind
asked_of (Did n k r v o) = kind_of r o
asked_of _ = None

module _ {B : Type 0} (setting : Setting B) (nodes : List Node) (moves : List Move) (again : Reproduces setting.ops setting.code setting.log moves) where
  open setting use {ops, code, log}

  abbrev h : List Deed
  h = history ops code moves

  abbrev ps : Paths
  ps = paths_of code log

  abbrev b : Bool
  b = ops.buffered

  abbrev symbolic : Symbolic
  symbolic = (found code log nodes).symbolic

  abbrev w : World
  w = world_in b ps symbolic h

  abbrev a : AreSeen b ps h
  a = run.seen setting moves again

  ordered : IsOrderOf b ps h w
  ordered = is_order b ps symbolic h a

  -- a store that waits takes place only by its drain
  drains_so : (t : ℕ) (q : Walk) (x : Event) → IsThread code log t q → Contains q.events x → (b && is_store x.kind) ≡ true → TakesPlace b ps h t x.step
      → has_drained h q.name x.step ≡ true
  drains_so t q x there i waits p = by (shown_by b ps t x.step q p.deed there p.shows)
    where
      p_in : In p.deed h
      p_in = subst (In p.deed) (sym p.there) (in_at p.older p.deed p.newer)

      by : SeenBy b q.name x.step p.deed → has_drained h q.name x.step ≡ true
      by (Done r v o asked same asks kept) =
          let d = run.event_is_done setting moves again t q x there (in_contains x q.events i) in
          let deed = Did q.name x.step d.request d.took d.other in
          let mine : In deed h = subst (In deed) (sym d.there) (in_at d.older deed d.newer) in
          let one = one_of_name h (Did q.name x.step r v o) deed a.told.apart (subst (λ e. In e h) same p_in) mine refl in
          let kinds : asked ≡ x.kind = same_Some asked x.kind (sym asks ∙ ap asked_of one ∙ d.asks) in
          absurd (true≢false (sym waits ∙ ap (λ k. b && is_store k) (sym kinds) ∙ kept))
      by (Drain c v same) =
          in_any (drains q.name x.step) (Drained q.name x.step c v) h (subst (λ e. In e h) same p_in)
          (and_from _ _ (same_self q.name q.name refl) (eq-eqb x.step x.step refl))

  pub runs : length (all_events ps) ≤ 256 → switches ops code moves ≡ world_switches ps w
  runs few =
      let places = map (place_in b ps h) (all_events ps) in
      same_switches setting moves again w (is_world setting nodes moves again)
      (is_world_of setting nodes moves again).events
      (All-weaker (λ r. r < length places) (λ r. r < 256) (λ r less. omega (arith, less, length-map (all_events ps) (place_in b ps h), few)) (ranks_of places)
      (ranks-below places))
      ordered.order
      (λ t u q x f there i waits hf fails before.
      let fails_here = a.done u f hf (ap (λ k. b && is_store k) fails ∙ and-false b) in
      let first = ordered.back t x.step u f.step (x, (q, there, i), refl) fails_here before in
      drains_so t q x there i waits (record {
        older = first.older;
        deed = first.first;
        newer = first.between ++ first.second ∷ first.newer;
        there = first.there ∙ append_assoc first.older (first.first ∷ first.between) (first.second ∷ first.newer);
        shows = first.shows_first;
      }))

module _ {B : Type 0} (setting : Setting B) (nodes : List Node) (w : World) (l : IsLawfulWorld setting nodes w) where
  open setting use {ops, bound, code, log}

  abbrev whole : List Deed
  whole = plan ops.buffered code (paths_of code log) w

  abbrev ms : List Move
  ms = moves_for bound whole

  again_so : Reproduces ops code log ms
  again_so = plan_reproduces setting nodes w l (plans.given setting nodes w l)

  is_history : history ops code ms ≡ whole
  is_history = plan_is_history setting nodes w l (plans.given setting nodes w l)

  pub worlds : All (λ p. p < 256) w.positions → switches ops code ms ≡ world_switches (paths_of code log) w
  worlds small =
      same_switches setting ms again_so w l.world l.of.events small
      (subst (AreInOrder ops.buffered (paths_of code log) w) (sym is_history)
      (plan_order setting nodes w l (plans.given setting nodes w l)))
      (λ t u q x f there i waits hf fails before.
      ap (λ g. has_drained g q.name x.step) is_history
      ∙ (plan_drained setting nodes w l (plans.given setting nodes w l) t q x there i waits).1
      (omega (arith, before, fail_ends setting nodes w l u hf.0 f hf.1 hf.2 fails)))
