-- A load takes the value that the world gives it.
use Rattle.std.proofs.Common.{◌≡◌, ◌∙◌, inr, ℕ, ◌==◌, ℤ, pos, Bool, true, false, List, [], ◌∷◌, Option, Some, None, refl, ap, sym, subst, arith, slice_index_or}
use Rattle.std.specs.Prelude.{slice_get, is_some, option_map, unwrap_or}
use Rattle.std.specs.List.{Contains}
use Rattle.std.proofs.lemmas.Bool.{false≢true, eq-eqb, eqb-true}
use Rattle.std.proofs.lemmas.Option.{same_Some}
use Rattle.condition_order.specs.tc_base.Buffers.{Entry}
use Rattle.condition_order.specs.store_buffers.Buffers.{newest}
use Rattle.condition_order.specs.list_laws.Lists.{is_nil}
use Rattle.condition_order.specs.tc_base.Names.{Name}
use Rattle.condition_order.specs.tc_base.declared.request.Request.{Request}
use Rattle.condition_order.specs.tc_base.declared.request.Request.TheVariants.{Silent, Read, Write, Exchange}
use Rattle.condition_order.specs.tc_code.Code.{Code}
use Rattle.condition_order.specs.store_buffers.Pending.{stores}
use Rattle.sym_steps.specs.run_history.History.{Deed, pending}
use Rattle.sym_steps.specs.run_history.Locals.{asks_next}
use Rattle.sym_steps.specs.run_history.Told.{steps_in, is_thread_in, value_in}
use Rattle.sym_steps.specs.run_follows.Follow.{seen_in, taken_in, OtherIs}
use Rattle.sym_steps.proofs.run_follows.Plays.{asker}
use Rattle.condition_order.specs.path_walk.Paths.{Walk, paths_of}
use Rattle.condition_order.specs.path_walk.declared.event.Event.{Event}
use Rattle.condition_order.specs.path_walk.declared.event.EventKind.{EventKind}
use Rattle.condition_order.specs.path_walk.declared.event.EventKind.TheVariants as kind
use Rattle.sym_steps.specs.path_laws.Setting.{Setting}
use Rattle.sym_steps.specs.path_laws.Deeds.{kind_of}
use Rattle.sym_steps.specs.path_laws.history.Next.{IsNextOnPath}
use Rattle.sym_steps.proofs.path_laws.of_history.Told.{RunOf, its_run}
use Rattle.sym_steps.proofs.path_laws.of_history.Walks.{walk_is}
use Rattle.sym_steps.proofs.path_laws.of_history.Next.{next_on_path}
use Rattle.sym_steps.proofs.path_laws.of_events.Events.{event_within}
use Rattle.sym_steps.proofs.path_laws.of_events.Lists.{in_contains}
use Rattle.condition_order.specs.sym_terms.declared.node.Node.{Node}
use Rattle.condition_order.specs.sym_exec.Alone.{Asked, asked_by, cell_by}
use Rattle.condition_order.specs.sym_exec.Executed.{Course}
use Rattle.condition_order.specs.sym_exec.declared.symbolic.Access.{Access}
use Rattle.sym_steps.specs.sym_laws.Valued.{found}
use Rattle.sym_steps.specs.Next.{kind_at, accesses_at, TestsAreMet, IsToldNext}
use Rattle.sym_steps.proofs.Told.{next_told}
use Rattle.sym_steps.specs.accesses.Asked.{IsReachedIn}
use Rattle.sym_steps.proofs.of_accesses.Asked.{asks_one}
use Rattle.condition_order.specs.order_formula.Worlds.{World}
use Rattle.condition_order.specs.order_formula.declared.group.Group.TheVariants as group
use Rattle.condition_order.specs.lawful_order.Memory.{may_overtake}
use Rattle.condition_order.specs.lawful_order.Whole as whole
use Rattle.condition_order.proofs.order_events.Lists.{in_filter, in_map, of_map}
use Rattle.world_plan.specs.Going.{IsLawfulWorld, NextEvent}
use Rattle.world_plan.proofs.Numbers.{of_find, in_find, one_event}
use Rattle.plan_runs.proofs.of_memory.Accesses.{executed}
use Rattle.plan_runs.proofs.of_memory.Drained.{paths_whole}
use Rattle.plan_runs.proofs.of_memory.Empty.{empty_there}
use Rattle.plan_runs.proofs.of_memory.Seen.{seen_is}
use Rattle.plan_runs.proofs.Histories.{history_of, valued_of}
use Rattle.sym_steps.specs.Valued.{ExecutedThread}

-- a thread without a waiting store of its own sees the value in memory
none_newest : (es : List Entry) (c : ℕ) (v : ℤ) → is_nil es ≡ true → v ≡ unwrap_or (newest es c) v
none_newest [] c v e = refl
none_newest (x ∷ es) c v e = absurd (false≢true e)

head_is : (x y : Asked) → x ∷ [] ≡ y ∷ [] → x ≡ y
head_is x y e = cc

module _ (b : Bool) (code : Code) (h : List Deed) (n : Name) (c : ℕ) (k : EventKind) where
  abbrev IsEmptyFor : Type 0
  IsEmptyFor = may_overtake k ≡ false → is_nil (stores (pending b h n)) ≡ true

  exchange_takes : (d : ℕ) → d ≡ c → Some kind.Exchange ≡ Some k → IsEmptyFor → value_in b code h d ≡ seen_in b code h n c
  exchange_takes d to event empty =
      ap (value_in b code h) to
      ∙ none_newest (stores (pending b h n)) c (value_in b code h c) (empty (ap may_overtake (sym (same_Some kind.Exchange k event))))

  -- the value taken by a request for a cell that isn't a store
  takes_seen : (r : Request) (y : Asked) → asked_by (pos 0) r ≡ y ∷ [] → y.cell ≡ c → (OtherIs h n r None → kind_of r None ≡ Some k)
      → (k ≡ kind.Store → ⊥) → IsEmptyFor → taken_in b code h n r ≡ seen_in b code h n c
  takes_seen (Read d) y one cell event other empty =
      let to : d ≡ y.cell = ap (λ (z : Asked). z.cell) (head_is _ y one) in ap (seen_in b code h n) (to ∙ cell)
  takes_seen (Write d v) y one cell event other empty = absurd (other (sym (same_Some kind.Store k (event refl))))
  takes_seen (Exchange d v) y one cell event other empty = exchange_takes d (ap (λ (z : Asked). z.cell) (head_is _ y one) ∙ cell) (event refl) empty
  takes_seen Silent y one cell event other empty = absurd cc
  takes_seen r y one cell event other empty = absurd cc

-- a request that takes a value isn't a store
no_store : (m : ℕ) (writes : Option ℕ) → whole.kind_of (Some m) writes ≡ kind.Store → ⊥
no_store m None e = cc
no_store m (Some k) e = cc

module _ {B : Type 0} (setting : Setting B) (nodes : List Node) (w : World) (l : IsLawfulWorld setting nodes w) (e : NextEvent setting nodes w)
    (r : Request) (asks : asks_next setting.code e.deeds e.thread.name ≡ Some r) where
  open setting use {machine, ops, code, log}
  open e use {position as p, deeds as h, gone as g, thread, event as x, among}
  open thread use {index as t, walk as q, there}

  abbrev run : RunOf machine log h
  run = its_run setting (history_of l g)

  is_there : is_thread_in h q.name ≡ true
  is_there =
      let k = asker machine run.state h q.name r run.told.tells asks in
      sym (run.told.tells.deeds.buffers.threads.there q.name) ∙ ap is_some k.there

  next : IsNextOnPath code h q
  next =
      let within = event_within code log q (walk_is code log setting.log_is l.fits thread) x (in_contains x q.events among) in
      next_on_path setting (history_of l g) thread g.going is_there (omega (arith, within, e.steps))

  -- the step has only this event
  same_step : (y : Event) → Contains q.events y → y.step ≡ x.step → y ≡ x
  same_step y i same = one_event (paths_of code log) (paths_whole setting nodes w l) t q y x there i among same

  kind_is : kind_at q (steps_in h q.name) ≡ Some x.kind
  kind_is =
      let k = steps_in h q.name in
      let f = in_find (λ (y : Event). y.step == k) q.events x among (eq-eqb x.step k (sym e.steps)) in
      let o = of_find (λ (y : Event). y.step == k) q.events f.0 f.1 in
      let one = same_step f.0 o.0 (eqb-true f.0.step k o.1 ∙ e.steps) in
      ap (option_map (λ (y : Event). y.kind)) f.1 ∙ ap (λ (y : Event). Some y.kind) one

  module _ (c : Course) (a : Access) (m : ℕ) (course : slice_get (found code log nodes).symbolic.threads t ≡ Some c) (one : Contains c.accesses a)
      (step : a.step ≡ x.step) (takes : a.takes ≡ Some m) where
    abbrev executed_thread : ExecutedThread code log nodes
    executed_thread = record { thread = thread; course = c; executed = course }

    reached : IsReachedIn code log nodes h t a
    reached = record {
      walk = q;
      course = c;
      thread = there;
      there = course;
      among = one;
      reached = inr (step ∙ sym e.steps, g.going, next);
    }

    is_no_store : x.kind ≡ kind.Store → ⊥
    is_no_store store =
        let y = (executed setting nodes w l).accesses t a (c, course, one) in
        let walk : y.1.0 ≡ q = same_Some y.1.0 q (sym y.1.1 ∙ there) in
        let one = same_step y.0 (subst (λ (v : Walk). Contains v.events y.0) walk y.1.2) (y.2 ∙ step) in
        no_store m a.writes
        (ap (λ o. whole.kind_of o a.writes) (sym takes) ∙ sym y.3 ∙ ap (λ (z : Event). z.kind) one ∙ store)

    met : TestsAreMet (found code log nodes).nodes w.loads h c
    met y i at = (l.lawful.meets (group.Test t y.line)).tests c y course i refl

    -- what it asks, of its access's cell
    told : (r : Request) × IsToldNext w.loads h executed_thread next r
    told =
        next_told setting nodes w.loads (valued_of l g) executed_thread next g.going l.lives met

    asked : (y : Asked) × (asked_by (pos 0) told.0 ≡ y ∷ []) × (y.cell ≡ cell_by (found code log nodes).nodes w.loads a.cell)
    asked =
        let k = steps_in h q.name in
        let kept = in_filter (λ (z : Access). z.step == k) a c.accesses one (eq-eqb a.step k (step ∙ sym e.steps)) in
        let cell = λ (z : Access). cell_by (found code log nodes).nodes w.loads z.cell in
        let one = subst (λ cs. Contains cs (cell a)) (sym (told.1.cells (pos 0))) (in_map cell a (accesses_at c k) kept) in
        let y = of_map (λ (z : Asked). z.cell) (cell a) (asked_by (pos 0) told.0) one in
        (y.0, asks_one (pos 0) told.0 y.0 (in_contains y.0 _ y.1), y.2)

    pub takes_its : slice_index_or w.loads m (pos 0) ≡ taken_in ops.buffered code h q.name r
    takes_its =
        let v = slice_index_or w.loads m (pos 0) in
        let rule = (l.lawful.meets (group.Read t x.line)).loads a x (c, course, one) (ap is_some takes) (q, there, among) (sym step) refl in
        let seen = seen_is setting nodes w l e a (c, course, one) step reached v
        (ap (option_map (λ k. slice_index_or w.loads k (pos 0))) takes) rule in
        let taken = takes_seen ops.buffered code h q.name (cell_by (found code log nodes).nodes w.loads a.cell) x.kind told.0 asked.0 asked.1 asked.2
        (λ other. told.1.event None other ∙ kind_is) is_no_store (empty_there setting nodes w l e) in
        sym seen ∙ sym taken ∙ ap (taken_in ops.buffered code h q.name) (same_Some told.0 r (sym told.1.asks ∙ asks))
