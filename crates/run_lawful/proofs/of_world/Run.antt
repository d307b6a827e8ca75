-- Facts on the history of moves that reproduce a log.
use Rattle.std.proofs.Common.{◌≡◌, ℕ, ℤ, List, length, Option, Some, refl, sym, subst, arith}
use Rattle.sym_events.specs.tc_base.Names.{Name}
use Rattle.sym_events.specs.tc_base.declared.moves.Move.{Move}
use Rattle.sym_events.specs.tc_base.declared.request.Request.{Request}
use Rattle.sym_events.specs.tc_base.declared.request.Request.TheVariants.{Write}
use Rattle.sym_events.specs.tc_code.Run.{Reproduces}
use Rattle.sym_steps.specs.run_history.History.{Deed, Did, Drained, history}
use Rattle.sym_steps.specs.run_history.Told.{steps_in}
use Rattle.sym_steps.proofs.run_history.of_pending.In.{In, in_at, in_split}
use Rattle.sym_steps.proofs.run_follows.Follows.{AllTold}
use Rattle.sym_events.specs.path_walk.Fits.{Fits}
use Rattle.sym_events.specs.path_walk.Paths.{Walk, Paths, paths_of}
use Rattle.sym_events.specs.path_walk.declared.event.Event.{Event}
use Rattle.sym_events.specs.path_walk.declared.event.EventKind.{EventKind}
use Rattle.sym_events.specs.path_walk.declared.event.EventKind.TheVariants as kind
use Rattle.sym_steps.specs.path_laws.Setting.{Setting}
use Rattle.sym_steps.specs.path_laws.Deeds.{kind_of}
use Rattle.sym_steps.proofs.path_laws.Logs.{reproduced_fits}
use Rattle.sym_steps.specs.path_laws.history.Along.{IsThread, path_thread}
use Rattle.sym_steps.proofs.path_laws.of_history.Told.{reproduced_run}
use Rattle.sym_steps.proofs.path_laws.of_history.Logged.{has_done, history_again}
use Rattle.sym_steps.proofs.path_laws.of_history.Walks.{walk_is}
use Rattle.sym_steps.specs.path_laws.events.Done.{IsDoneIn}
use Rattle.sym_steps.proofs.path_laws.of_events.Events.{event_done, done_event, event_within}
use Rattle.sym_steps.proofs.path_laws.of_events.Lists.{in_contains, contains_in}
use Rattle.sym_events.specs.lawful_order.Whole.{HasStep}
use Rattle.sym_events.proofs.order_events.Whole.{whole}
use Rattle.run_lawful.specs.world.Order.{TakesPlace}
use Rattle.world_plan.proofs.Threads.{one_thread}
use Rattle.run_lawful.proofs.of_world.Ordered.{AreSeen}
use Rattle.run_lawful.proofs.of_world.Seen.{AreTold, SeenBy, Done, Drain, shown_by, shows_step, store_of}

module _ {B : Type 0} (setting : Setting B) (moves : List Move) (again : Reproduces setting.ops setting.code setting.log moves) where
  open setting use {machine, ops, code, log, log_is as is}

  abbrev pub done : List Deed
  done = history ops code moves

  abbrev pub paths : Paths
  paths = paths_of code log

  pub fits : Fits code log
  fits = reproduced_fits machine log moves again

  all : AllTold machine again.state done
  all = (reproduced_run machine log moves again).told

  pub told : AreTold ops.buffered done
  told = record {
    apart = all.tells.deeds.named.apart;
    stores = all.tells.deeds.named.stores;
    buffers = λ older newer n k c v at. (all.follow older newer (Drained n k c v) at).1.buffers;
  }

  pub all_steps : (t : ℕ) (q : Walk) → IsThread code log t q → steps_in done q.name ≡ length q.places
  all_steps t q there = has_done setting moves again (path_thread t q there)

  -- each event of a path is done
  pub event_is_done : (t : ℕ) (q : Walk) (x : Event) → IsThread code log t q → In x q.events → IsDoneIn done q.name x.step x.kind
  event_is_done t q x there i =
      let inside = event_within code log q (walk_is code log is fits (path_thread t q there)) x i in
      let many = all_steps t q there in
      event_done setting (history_again setting moves again) (path_thread t q there) x i (omega (arith, inside, many))

  -- each event that is done is one of the path
  pub is_step : (t : ℕ) (q : Walk) (k : ℕ) (asked : EventKind) → IsThread code log t q → IsDoneIn done q.name k asked → HasStep paths t k
  is_step t q k asked there d =
      let x = done_event setting (history_again setting moves again) (path_thread t q there) k asked d in
      (x.0, (q, there, contains_in x.0 q.events x.1), x.2)

  done_at : (n : Name) (k : ℕ) (r : Request) (took : ℤ) (other : Option Name) (asked : EventKind) → In (Did n k r took other) done
      → kind_of r other ≡ Some asked → IsDoneIn done n k asked
  done_at n k r took other asked i asks =
      let s = in_split (Did n k r took other) done i in
      record { older = s.older; newer = s.newer; request = r; took = took; other = other; there = s.there; asks = asks }

  seen_is_step : (t k : ℕ) → TakesPlace ops.buffered paths done t k → HasStep paths t k
  seen_is_step t k x = by (shown_by ops.buffered paths t k q x.deed x.shows.there x.shows)
    where
      q : Walk
      q = x.shows.walk

      there : In x.deed done
      there = subst (In x.deed) (sym x.there) (in_at x.older x.deed x.newer)

      by : SeenBy ops.buffered q.name k x.deed → HasStep paths t k
      by (Done r took other asked is_it asks kept) =
          is_step t q k asked x.shows.there (done_at q.name k r took other asked (subst (λ d. In d done) is_it there) asks)
      by (Drain c v is_it) =
          let s = store_of ops.buffered done told q.name k c v (subst (λ d. In d done) is_it there) in
          is_step t q k kind.Store x.shows.there (done_at q.name k (Write c v) s.0 s.1 kind.Store s.2 refl)

  pub seen : AreSeen ops.buffered paths done
  seen = record {
    told = told;
    whole = whole code paths (record { log = log; fits = fits; are = refl });
    names = one_thread code log is;
    events = seen_is_step;
    done = λ t x e kept.
        let d = event_is_done t e.0 x e.1 (in_contains x e.0.events e.2) in
        record {
          older = d.older;
          deed = Did e.0.name x.step d.request d.took d.other;
          newer = d.newer;
          there = d.there;
          shows = shows_step ops.buffered paths t x.step e.0 d.request d.took d.other x.kind e.1 d.asks kept;
        };
  }
