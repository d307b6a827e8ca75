-- The switches of moves that reproduce a log are those of a world with the same order of events.
use Rattle.std.proofs.Common.{◌≡◌, ◌∙◌, ℕ, ◌+◌, ◌<◌, ◌≤◌, ◌==◌, Bool, true, false, ◌&&◌, List, [], ◌∷◌, map, length, Option, Some, None, refl, sym, ap, subst, arith}
use Rattle.std.specs.Prelude.{option_map, slice_get}
use Rattle.std.specs.List.{All, Contains, cons_option, filter_map, range_with_len}
use Rattle.std.specs.Option.{option_map_or}
use Rattle.std.proofs.lemmas.Bool.{eq-eqb, eqb-true, false_from_ne_true, true≢false}
use Rattle.std.proofs.lemmas.List.Elements.{All-cons, All-nil}
use Rattle.std.proofs.lemmas.Option.{none-some, slice_get-get_or}
use Rattle.plan_runs.specs.tc_base.Names.{Name, main}
use Rattle.plan_runs.specs.tc_base.declared.moves.Move.{Move}
use Rattle.plan_runs.specs.tc_code.Run.{Reproduces}
use Rattle.plan_runs.proofs.run_laws.Names.{is_same, same_self}
use Rattle.plan_runs.specs.run_history.History.{Deed, has_drained, same}
use Rattle.plan_runs.proofs.run_history.of_pending.In.{In, in_at, in_split}
use Rattle.plan_runs.specs.path_walk.Paths.{Walk, Paths, paths_of}
use Rattle.plan_runs.specs.path_walk.declared.event.Event.{Event}
use Rattle.plan_runs.specs.path_walk.declared.event.EventKind.TheVariants as kind
use Rattle.plan_runs.specs.path_laws.Setting.{Setting}
use Rattle.plan_runs.specs.path_laws.history.Along.{IsThread}
use Rattle.order_switches.specs.order_formula.Worlds.{World, IsWorld, position}
use Rattle.order_switches.specs.Switches.{changes, end_at, thread_at, threads_in_order}
use Rattle.order_switches.proofs.Threads.{event_there}
use Rattle.plan_runs.specs.lawful_order.Events.{HasEvent, IsBefore, Placed, all_events, place_of}
use Rattle.plan_runs.specs.lawful_order.Memory.{is_store}
use Rattle.plan_runs.specs.world_plan.Sights.{AreInOrder}
use Rattle.plan_runs.proofs.world_plan.Numbers.{event_numbered, from_mapped_at, number_is}
use Rattle.run_lawful.specs.world.Order.{TakesPlace}
use Rattle.run_lawful.proofs.of_world.Run as run
use Rattle.run_lawful.proofs.of_world.Ordered.{AreSeen}
use Rattle.switch_clauses.specs.switch_runs.Switches.{switches, visible_threads}
use Rattle.switch_clauses.specs.switch_runs.Worlds.{failing_of, threads_of, world_switches}
use Rattle.switch_clauses.proofs.switch_runs.Ends.{named, takes, within}
use Rattle.switch_clauses.proofs.switch_runs.Named.{named_changes, named_found}
use Rattle.switch_clauses.proofs.switch_runs.Seen.{SeenIn, name_at, name_of, seen_from}
use Rattle.switch_clauses.proofs.switch_runs.Sorted.{same_range}

all_found : {P X : Type 0} (f : P → Option X) (V : X → Type 0) → ((p : P) (x : X) → f p ≡ Some x → V x) → (ps : List P) → All V (filter_map f ps)
all_found f V each [] = All-nil V
all_found {P} {X} f V each (p ∷ ps) = by (f p) refl (all_found f V each ps)
  where
    by : (o : Option X) → f p ≡ o → All V (filter_map f ps) → All V (cons_option o (filter_map f ps))
    by None at rest = rest
    by (Some x) at rest = All-cons V x (filter_map f ps) (each p x at) rest

module _ {B : Type 0} (setting : Setting B) (moves : List Move) (again : Reproduces setting.ops setting.code setting.log moves) where
  open setting use {ops, code, log}

  abbrev h : List Deed
  h = run.done setting moves again

  abbrev ps : Paths
  ps = paths_of code log

  abbrev b : Bool
  b = ops.buffered

  abbrev a : AreSeen b ps h
  a = run.seen setting moves again

  -- a thread of the paths
  abbrev IsOf : ℕ → Type 0
  IsOf t = (q : Walk) × (slice_get ps.threads t ≡ Some q)

  name_there : (t : ℕ) (q : Walk) → slice_get ps.threads t ≡ Some q → name_of ps t ≡ q.name
  name_there t q there = ap (λ o. option_map_or (λ (v : Walk). v.name) o main) there

  -- threads of the paths have different names
  told : (t u : ℕ) → IsOf t → IsOf u → same (name_of ps t) (name_of ps u) ≡ (t == u)
  told t u one other = by (t == u) refl
    where
      by : (c : Bool) → (t == u) ≡ c → same (name_of ps t) (name_of ps u) ≡ c
      by true e = same_self (name_of ps t) (name_of ps u) (ap (name_of ps) (eqb-true t u e))
      by false e =
          false_from_ne_true (same (name_of ps t) (name_of ps u)) (λ alike.
          let names = is_same (name_of ps t) (name_of ps u) alike in
          differ e (a.names t u one.0 other.0 one.1 other.1 (sym (name_there t one.0 one.1) ∙ names ∙ name_there u other.0 other.1)))
        where
          differ : (t == u) ≡ false → t ≡ u → ⊥
          differ apart one_thread = true≢false (sym (eq-eqb t u one_thread) ∙ apart)

  module _ (w : World) (world : IsWorld w) (events : length w.positions ≡ length (all_events ps)) (small : All (λ p. p < 256) w.positions)
      (ordered : AreInOrder b ps w h)
      (before_fail : (t u : ℕ) (q : Walk) (x f : Event) → IsThread code log t q → Contains q.events x → (b && is_store x.kind) ≡ true
      → HasEvent ps u f → f.kind ≡ kind.Fail → IsBefore ps w t x.step u f.step → has_drained h q.name x.step ≡ true) where
    abbrev end : ℕ
    end = end_at (failing_of ps) w

    abbrev f : ℕ → Option ℕ
    f = thread_at (threads_of ps) w

    -- the event at a position, given the thread at that position
    record IsEventAt (p t : ℕ) : Type 0 where
      event : Placed Event
      walk : Walk
      there : slice_get ps.threads event.thread ≡ Some walk
      among : Contains walk.events event.it
      thread : event.thread ≡ t
      place : place_of ps w event.thread event.it.step ≡ p

    event_at : (p t : ℕ) → f p ≡ Some t → IsEventAt p t
    event_at p t at =
        let i = event_there (threads_of ps) w.positions p t at in
        let here : slice_get (threads_of ps) i.event ≡ Some t = slice_get-get_or (threads_of ps) i.event 0 i.there ∙ ap (λ u. Some u) i.thread in
        let e = from_mapped_at (λ (d : Placed Event). d.thread) (all_events ps) i.event t here in
        let q = event_numbered ps a.whole i.event e.0 e.1 in
        record {
          event = e.0;
          walk = q.0;
          there = q.1;
          among = q.2;
          thread = e.2;
          place = ap (position w) (number_is ps a.whole i.event e.0 e.1) ∙ i.position;
        }

    seen : SeenIn ps w world events b h a ordered (named setting moves again) h
    seen = seen_from ps w world events b h a ordered (named setting moves again) [] h refl

    below : (p : ℕ) → In p seen.positions → p < 0 + end
    below p i =
        let k = seen.take p i in
        let s = in_split k.deed h k.among in
        let less = within setting moves again w world events small ordered k.thread k.step
        (record { older = s.older; deed = k.deed; newer = s.newer; there = s.there; shows = k.shows }) in
        omega (arith, less, k.at)

    has : (p : ℕ) (n : Name) → 0 ≤ p → p < 0 + end → name_at ps w p ≡ Some n → In p seen.positions
    has p n low high at = by (f p) refl at
      where
        by : (o : Option ℕ) → f p ≡ o → option_map (name_of ps) o ≡ Some n → In p seen.positions
        by None none never = absurd (none-some n never)
        by (Some t) here _ =
            let e = event_at p t here in
            let k = takes setting moves again w world events small ordered before_fail e.event.thread e.event.it.step
            (e.event.it, (e.walk, e.there, e.among), refl) (omega (arith, high, e.place)) in
            subst (λ q. In q seen.positions) e.place (seen.has k.deed e.event.thread e.event.it.step (among k) k.shows)
          where
            among : {t k : ℕ} (x : TakesPlace b ps h t k) → In x.deed h
            among x = subst (In x.deed) (sym x.there) (in_at x.older x.deed x.newer)

    -- both have the same threads in the same order
    pub same_threads : visible_threads ops code moves ≡ map (name_of ps) (threads_in_order (threads_of ps) (failing_of ps) w)
    same_threads =
        seen.names
        ∙ sym (same_range (name_at ps w) 0 end seen.positions (seen.rises 0 (λ d t k i shows. omega arith)) below has)
        ∙ named_found f (name_of ps) (range_with_len 0 end)

    pub same_switches : switches ops code moves ≡ world_switches ps w
    same_switches =
        ap (changes same) same_threads
        ∙ named_changes (λ t u. t == u) same (name_of ps) IsOf told (threads_in_order (threads_of ps) (failing_of ps) w)
        (all_found f IsOf (λ p t at. let e = event_at p t at in (e.walk, ap (slice_get ps.threads) (sym e.thread) ∙ e.there)) (range_with_len 0 end))
