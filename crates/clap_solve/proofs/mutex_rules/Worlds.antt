-- The values of the variables of a system's clauses give a world of its paths.
use Rattle.std.proofs.Common.{◌≡◌, ◌∙◌, ℕ, zero, suc, ◌<◌, ◌≤◌, Bool, List, [], ◌∷◌, length, get_or, refl, subst, arith}
use Rattle.std.specs.List.{All, Contains}
use Rattle.std.proofs.lemmas.List.Elements.{All-head, All-tail}
use Rattle.mutex_states.specs.mutex_regions.order_events.sym_exec.path_walk.tc_code.Code.{Code}
use Rattle.mutex_states.specs.mutex_regions.order_events.sym_exec.path_walk.tc_code.Lawful.{IsLawful}
use Rattle.mutex_states.specs.mutex_regions.order_events.sym_exec.path_walk.Paths.{ArePaths, Paths}
use Rattle.mutex_states.specs.mutex_regions.order_events.store_buffers.Pending.{Binding}
use Rattle.mutex_states.specs.bit_blast.order_formula.Orders.{order_without_questions}
use Rattle.mutex_states.specs.bit_blast.order_formula.Worlds.{World}
use Rattle.mutex_states.proofs.bit_blast.order_formula.Asked.{grows_formula}
use Rattle.mutex_states.specs.mutex_regions.order_events.lawful_order.Events.{all_events, all_sleeps}
use Rattle.mutex_states.specs.bit_blast.cnf_core.Clauses.{Valuation}
use Rattle.mutex_states.specs.bit_blast.bit_order.Layouts.{Layout}
use Rattle.mutex_states.specs.bit_blast.bit_order.Laws.{IsWorldFor}
use Rattle.mutex_states.specs.bit_blast.bit_order.Readings.{world_of}
use Rattle.mutex_states.proofs.bit_blast.bit_order.Meaning.{values-say-worlds}
use Rattle.mutex_states.specs.bit_blast.Blasted.{layout_of}
use Rattle.mutex_states.specs.bit_blast.Contended.{contended}
use Rattle.mutex_states.proofs.bit_blast.Completed.{completed_choices, completed_events, completed_sleeps}
use Rattle.clap_system.specs.Systems.{System, system_by}
use Rattle.clap_system.proofs.Choices.{choices_are_enders}
use Rattle.clap_system.proofs.Ready.{is_ready}
use Rattle.mutex_states.specs.Adding.{HasWorlds, IsOfPaths}

-- an element of a list, or 0
small_at : (xs : List ℕ) (k : ℕ) → All (λ p. p < 256) xs → get_or xs k 0 < 256
small_at [] k all = omega arith
small_at (x ∷ xs) zero all = All-head (λ p. p < 256) x xs all
small_at (x ∷ xs) (suc k) all = small_at xs k (All-tail (λ p. p < 256) x xs all)

pub has_worlds : (buffered : Bool) (bound : Binding) (code : Code) (paths : Paths) → IsLawful code → ArePaths code paths
    → (system_by buffered bound code paths).order.events ≤ 256
    → HasWorlds paths (system_by buffered bound code paths).symbolic (system_by buffered bound code paths).nodes
    (layout_of (system_by buffered bound code paths).order (system_by buffered bound code paths).symbolic.loads
    (system_by buffered bound code paths).formula)
has_worlds buffered bound code paths lawful are few = record { loads = refl; each = each }
  where
    s : System
    s = system_by buffered bound code paths

    y : Layout
    y = layout_of s.order s.symbolic.loads s.formula

    each : (v : Valuation) → IsOfPaths paths s.symbolic s.nodes (world_of y v)
    each v =
        let w : World = world_of y v in
        let events : y.order.events ≡ s.order.events = completed_events s.order (contended s.formula) in
        let sleeps : y.order.sleeps ≡ s.order.sleeps = completed_sleeps s.order (contended s.formula) in
        let choices : y.order.choices ≡ s.order.choices = completed_choices s.order (contended s.formula) in
        let grown = grows_formula (order_without_questions (length (all_events paths)) (length (all_sleeps paths))) s.formula in
        let m : IsWorldFor y w = values-say-worlds y v (omega (arith, few, events)) in
        record {
          world = m.world;
          of = (choices_are_enders buffered bound code paths w (m.positions ∙ events ∙ grown.events) m.loads (m.enders ∙ sleeps ∙ grown.sleeps)).1
              (λ sleep by is. subst (λ cs. Contains cs (record { sleep = sleep; by = by })) choices (m.chosen sleep by is));
          ints = record { constants = (is_ready buffered bound code paths lawful are).ints; taken = m.ints };
          small = λ event. small_at w.positions event m.small;
        }
