-- The events of paths as the deeds of a run that reproduces their log.
use Rattle.std.proofs.Common.{◌≡◌, ◌∙◌, ℕ, ℤ, Bool, true, false, ◌&&◌, List, ◌∷◌, ◌++◌, Option, Some, sym, ap}
use Rattle.std.specs.List.{Contains}
use Rattle.std.proofs.Math.Bool.{and-false}
use Rattle.sym_events.specs.run_log.Logs.{Log}
use Rattle.sym_events.specs.tc_base.Names.{Name}
use Rattle.sym_events.specs.tc_base.declared.moves.Move.{Move}
use Rattle.sym_events.specs.tc_base.declared.request.Request.{Request}
use Rattle.sym_events.specs.tc_code.Code.{Code}
use Rattle.sym_events.specs.tc_code.Run.{Reproduces}
use Rattle.sym_steps.specs.run_history.History.{Deed, Did, history}
use Rattle.sym_steps.specs.run_follows.Follow.{MayFollow, IsLeftIn}
use Rattle.sym_events.specs.run_log.Logs.{is_log}
use Rattle.sym_events.specs.path_walk.Events.{creates_of, joins_of, regions_of, sleeps_of}
use Rattle.sym_events.specs.path_walk.Fits.{Fits}
use Rattle.sym_events.specs.path_walk.Paths.{Walk, Paths, paths_of}
use Rattle.sym_events.specs.path_walk.declared.event.Event.{Event}
use Rattle.sym_events.specs.path_walk.declared.event.EventKind.{EventKind}
use Rattle.sym_steps.specs.path_laws.Setting.{Setting}
use Rattle.sym_steps.specs.path_laws.Deeds.{kind_of}
use Rattle.sym_steps.specs.path_laws.history.Along.{IsThread, HistoryAlong, path_thread}
use Rattle.sym_steps.proofs.path_laws.of_history.Walks.{walk_is}
use Rattle.sym_steps.proofs.path_laws.of_events.Lists.{in_contains}
use Rattle.sym_steps.specs.sym_laws.Valued.{found}
use Rattle.sym_events.specs.sym_terms.declared.node.Node.{Node}
use Rattle.sym_events.specs.order_formula.Worlds.{World}
use Rattle.sym_events.specs.lawful_order.Memory.{is_store}
use Rattle.world_plan.specs.Sights.{Shows}
use Rattle.run_lawful.specs.world.Order.{IsOrderOf}
use Rattle.run_lawful.specs.world.WorldOf.{is_step, world_in}
use Rattle.run_lawful.proofs.of_world.Enders.{step_named}
use Rattle.run_lawful.proofs.of_world.Ordered.{is_order}
use Rattle.run_lawful.proofs.of_world.Run.{fits, event_is_done, seen}
use Rattle.run_lawful.proofs.of_world.Seen.{shows_step}
use Rattle.run_lawful.proofs.of_world.Splits.{TwoPlaces, Before, Same, After, two_places}
use Rattle.sym_steps.proofs.path_laws.of_history.Told.{its_run, up_to}
use Rattle.sym_steps.proofs.path_laws.of_history.Logged.{history_again}

-- an event that isn't a store isn't kept in a buffer
pub none_pending : (buffered : Bool) (k : EventKind) → is_store k ≡ false → (buffered && is_store k) ≡ false
none_pending buffered k quiet = ap (λ b. buffered && b) quiet ∙ and-false buffered

-- a thread of the paths, with its walk
module _ (code : Code) (log : Log) (is : is_log log ≡ true) (fits : Fits code log) (t : ℕ) (q : Walk) (there : IsThread code log t q) where
  pub creates_are : q.creates ≡ creates_of q.events
  creates_are = let k = walk_is code log is fits (path_thread t q there) in ap (λ (v : Walk). v.creates) k.is ∙ sym (ap (λ (v : Walk). creates_of v.events) k.is)

  pub joins_are : q.joins ≡ joins_of q.events
  joins_are = let k = walk_is code log is fits (path_thread t q there) in ap (λ (v : Walk). v.joins) k.is ∙ sym (ap (λ (v : Walk). joins_of v.events) k.is)

  pub regions_are : q.regions ≡ regions_of q.events
  regions_are = (walk_is code log is fits (path_thread t q there)).regions

  pub sleeps_are : q.sleeps ≡ sleeps_of q.events
  sleeps_are = (walk_is code log is fits (path_thread t q there)).sleeps

module _ {B : Type 0} (setting : Setting B) (nodes : List Node) (moves : List Move) (again : Reproduces setting.ops setting.code setting.log moves) where
  open setting use {ops, bound, code, log}

  abbrev pub h : List Deed
  h = history ops code moves

  abbrev pub paths : Paths
  paths = paths_of code log

  abbrev pub w : World
  w = world_in ops.buffered paths (found code log nodes).symbolic h

  pub fit : Fits code log
  fit = fits setting moves again

  pub ordered : IsOrderOf ops.buffered paths h w
  ordered = is_order ops.buffered paths (found code log nodes).symbolic h (seen setting moves again)

  abbrev pub whole : HistoryAlong setting
  whole = history_again setting moves again

  -- each step is one of an existing thread
  pub left_at : (older newer : List Deed) (n : Name) (k : ℕ) (r : Request) (took : ℤ) (other : Option Name) → h ≡ older ++ Did n k r took other ∷ newer
      → IsLeftIn older n
  left_at older newer n k r took other at = (its_run setting whole).told.threads older newer n k r took other at

  -- a thread does each step only once
  pub step_once : (n : Name) (k : ℕ) (o : List Deed) (x : Deed) (u p : List Deed) (y : Deed) (m : List Deed) → h ≡ o ++ x ∷ u → h ≡ p ++ y ∷ m
      → is_step n k x ≡ true → is_step n k y ≡ true → (o ≡ p) × (x ≡ y) × (u ≡ m)
  step_once n k o x u p y m at bt one two = by (two_places o x u p y m (sym at ∙ bt))
    where
      by : TwoPlaces o x u p y m → (o ≡ p) × (x ≡ y) × (u ≡ m)
      by (Before between before rest) =
          absurd ((seen setting moves again).told.apart o m between x y (bt ∙ ap (λ g. g ++ y ∷ m) before)
          (step_named n k x one ∙ sym (step_named n k y two)))
      by (Same older deed newer) = (older, deed, newer)
      by (After between before rest) =
          absurd ((seen setting moves again).told.apart p u between y x (at ∙ ap (λ g. g ++ x ∷ u) before)
          (step_named n k y two ∙ sym (step_named n k x one)))

  -- the deed of a thread's event
  pub record EventDeed (t : ℕ) (q : Walk) (x : Event) : Type 0 where
    pub older : List Deed
    pub newer : List Deed
    pub request : Request
    pub took : ℤ
    pub other : Option Name
    pub at : h ≡ older ++ Did q.name x.step request took other ∷ newer
    pub asks : kind_of request other ≡ Some x.kind
    pub may : MayFollow ops.buffered bound code older (Did q.name x.step request took other)
    pub left : IsLeftIn older q.name
    pub shows : (ops.buffered && is_store x.kind) ≡ false → Shows ops.buffered paths (Did q.name x.step request took other) t x.step

  -- and the history before it
  module _ {t : ℕ} {q : Walk} {x : Event} (d : EventDeed t q x) where
    abbrev pub before_deed : HistoryAlong setting
    before_deed = up_to setting whole d.older (Did q.name x.step d.request d.took d.other ∷ d.newer) d.at

  pub event_deed : (t : ℕ) (q : Walk) (x : Event) → IsThread code log t q → Contains q.events x → EventDeed t q x
  event_deed t q x there i =
      let d = event_is_done setting moves again t q x there (in_contains x q.events i) in
      record {
        older = d.older;
        newer = d.newer;
        request = d.request;
        took = d.took;
        other = d.other;
        at = d.there;
        asks = d.asks;
        may = (whole.along.follow d.older d.newer (Did q.name x.step d.request d.took d.other) d.there).1;
        left = left_at d.older d.newer q.name x.step d.request d.took d.other d.there;
        shows = λ kept. shows_step ops.buffered paths t x.step q d.request d.took d.other x.kind there d.asks kept;
      }
