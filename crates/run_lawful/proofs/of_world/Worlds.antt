-- The world of a run is one of the paths.
use Rattle.std.proofs.Common.{◌≡◌, ◌∙◌, ◌⊎◌, inl, inr, ℕ, ◌==◌, true, List, map, get_or, Some, refl, sym, ap, ap₂, subst, ◌∷◌, ◌++◌}
use Rattle.std.specs.Prelude.{slice_get}
use Rattle.std.specs.List.{Contains}
use Rattle.std.proofs.lemmas.Bool.{and_parts, eqb-true, eq-eqb}
use Rattle.std.proofs.lemmas.List.{length-map}
use Rattle.std.proofs.lemmas.Option.{same_Some, slice_get-get_or}
use Rattle.sym_events.specs.tc_base.declared.moves.Move.{Move}
use Rattle.sym_events.specs.tc_code.Run.{Reproduces}
use Rattle.sym_steps.specs.run_history.History.{Deed, history}
use Rattle.sym_events.specs.path_walk.Paths.{Walk, Paths, paths_of}
use Rattle.sym_events.specs.path_walk.declared.event.Event.{Event}
use Rattle.sym_events.specs.path_walk.declared.event.EventKind.TheVariants as kind
use Rattle.sym_events.specs.path_walk.declared.event.Sleep.{Sleep}
use Rattle.sym_steps.specs.path_laws.Setting.{Setting}
use Rattle.sym_events.specs.sym_terms.declared.node.Node.{Node}
use Rattle.sym_events.specs.sym_exec.Executed.{Symbolic}
use Rattle.sym_steps.specs.sym_laws.Valued.{found}
use Rattle.sym_events.specs.order_formula.Worlds.{World, IsWorld}
use Rattle.sym_events.specs.lawful_order.Conditions.{is_signal, is_broadcast, IsSleep, IsSignal, IsBroadcast}
use Rattle.sym_events.specs.lawful_order.Events.{Placed, all_events, all_sleeps, number_of, ender_of}
use Rattle.sym_events.specs.lawful_order.Lawful.{IsWorldOf}
use Rattle.sym_events.specs.lawful_order.Whole.{HasStep, AreWhole}
use Rattle.sym_events.proofs.order_events.Numbers.{has_number, is_step_at}
use Rattle.bit_ranks.proofs.RankLaws.{length-ranks, ranks-differ}
use Rattle.world_plan.proofs.Numbers.{one_event, event_numbered}
use Rattle.run_lawful.specs.world.WorldOf.{place_in, ender_in, world_in}
use Rattle.run_lawful.proofs.of_world.Enders.{is_ender, ended_told, shows_one}
use Rattle.run_lawful.proofs.of_world.Loads.{many}
use Rattle.run_lawful.proofs.of_world.Ordered.{AreSeen}
use Rattle.run_lawful.proofs.of_world.Run.{seen}

-- the event with this number
pub record IsNumbered (paths : Paths) (g t : ℕ) (x : Event) : Type 0 where
  pub event : Placed Event
  pub is : slice_get (all_events paths) g ≡ Some event
  pub thread : event.thread ≡ t
  pub same : event.it ≡ x

pub numbered : (paths : Paths) → AreWhole paths → (t : ℕ) (q : Walk) (x : Event) → slice_get paths.threads t ≡ Some q → Contains q.events x
    → IsNumbered paths (number_of paths t x.step) t x
numbered paths whole t q x there i =
    let d : Placed Event = record { thread = t; it = x } in
    let s : HasStep paths t x.step = (x, (q, there, i), refl) in
    let n = number_of paths t x.step in
    let e = get_or (all_events paths) n d in
    let at = slice_get-get_or (all_events paths) n d (has_number paths t x.step s) in
    let both = and_parts (e.thread == t) (e.it.step == x.step) (is_step_at paths t x.step d (has_number paths t x.step s)) in
    let thread = eqb-true e.thread t both.0 in
    let of = event_numbered paths whole n e at in
    let one : of.0 ≡ q = same_Some of.0 q (sym of.1 ∙ ap (slice_get paths.threads) thread ∙ there) in
    record {
      event = e;
      is = at;
      thread = thread;
      same = one_event paths whole t q e.it x there (subst (λ (w : Walk). Contains w.events e.it) one of.2) i (eqb-true e.it.step x.step both.1);
    }

signal_is : (c : ℕ) → is_signal c (kind.Signal c) ≡ true
signal_is c = eq-eqb c c refl

broadcast_is : (c : ℕ) → is_broadcast c (kind.Broadcast c) ≡ true
broadcast_is c = eq-eqb c c refl

module _ {B : Type 0} (setting : Setting B) (nodes : List Node) (moves : List Move) (again : Reproduces setting.ops setting.code setting.log moves) where
  open setting use {ops, code, log}

  abbrev h : List Deed
  h = history ops code moves

  abbrev paths : Paths
  paths = paths_of code log

  abbrev symbolic : Symbolic
  symbolic = (found code log nodes).symbolic

  abbrev w : World
  w = world_in ops.buffered paths symbolic h

  pub is_world : IsWorld w
  is_world = record { distinct = ranks-differ (map (place_in ops.buffered paths h) (all_events paths)) }

  -- a sleep's ender is a signal or a broadcast of its condition
  ends : (s g c : ℕ) (x : Placed Sleep) → IsSleep paths w s x c → ender_of w s ≡ Some g → IsSignal paths w g c ⊎ IsBroadcast paths w g c
  ends s g c x sleep ender =
      let e = ended_told setting moves again symbolic s g x sleep.is ender in
      let i = is_ender setting moves again x.it.condition e.sleeper.name (e.older ++ e.sleep ∷ e.between) e.ender e.newer e.there e.ends in
      let one = shows_one ops.buffered paths h a e.ender e.thread e.step i.thread i.event.step e.shows i.shows in
      let n = numbered paths a.whole i.thread i.walk i.event i.there i.among in
      let at : slice_get (all_events paths) g ≡ Some n.event =
      ap (slice_get (all_events paths)) (e.number ∙ ap₂ (number_of paths) one.0 one.1) ∙ n.is in
      let asked = ap (λ (y : Event). y.kind) n.same in
      elim i.signals [
        | inl so ↦ inl (record {
          event = n.event;
          is = at;
          signals = ap₂ is_signal (sym sleep.condition) (asked ∙ so) ∙ signal_is x.it.condition;
        })
        | inr so ↦ inr (record {
          event = n.event;
          is = at;
          broadcasts = ap₂ is_broadcast (sym sleep.condition) (asked ∙ so) ∙ broadcast_is x.it.condition;
        })
      ]
    where
      a : AreSeen ops.buffered paths h
      a = seen setting moves again

  pub is_world_of : IsWorldOf paths symbolic w
  is_world_of = record {
    events = length-ranks (map (place_in ops.buffered paths h) (all_events paths)) ∙ length-map (all_events paths) (place_in ops.buffered paths h);
    loads = many ops code log nodes moves again;
    sleeps = length-map (all_sleeps paths) (ender_in ops.buffered paths h);
    enders = ends;
  }
