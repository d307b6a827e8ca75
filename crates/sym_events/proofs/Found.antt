-- What an execution along places finds: each access is an event, and each event that is one of a cell is an access.
use Rattle.std.proofs.Common.{◌≡◌, ◌∙◌, ℕ, ◌+◌, ◌<◌, ◌≤◌, Bool, true, false, ◌&&◌, List, [], ◌∷◌, ◌++◌, map, length}
use Rattle.std.proofs.Common.{Option, Some, None, refl, sym, ap, ap₂, subst, arith, append_assoc, append-nil}
use Rattle.std.specs.Prelude.{◌==◌, unwrap_or, option_map, option_and_then, option_to_list}
use Rattle.std.specs.List.{All, filter_map, cons_option}
use Rattle.std.proofs.lemmas.Bool.{and_parts, false≢true}
use Rattle.std.proofs.lemmas.Bool.Decides.{Decides-eqb}
use Rattle.std.proofs.lemmas.List.{length-map, map-append}
use Rattle.std.proofs.lemmas.List.Elements.{All-nil, All-cons, All-append, All-weaker}
use Rattle.std.proofs.lemmas.Option.{none-some, same_Some}
use Rattle.order_cells.specs.tc_code.Code.{Code, instr_at, line_at}
use Rattle.order_cells.specs.tc_code.declared.instr.Instr.{Instr}
use Rattle.order_cells.specs.tc_code.declared.instr.Instr.TheVariants.{Load, Store, Inside, Holds, Ready, Assert, Nonzero, InRange, Exit, Modify}
use Rattle.order_events.specs.path_walk.Steps.{is_site, step_at, steps_at}
use Rattle.order_events.specs.path_walk.Marks.{Marks, marks_after_instr, marked_from}
use Rattle.order_events.specs.path_walk.Events.{asks, kind_with, events_of}
use Rattle.order_events.specs.path_walk.declared.event.Event.{Event}
use Rattle.order_events.specs.path_walk.declared.event.EventKind.{EventKind}
use Rattle.order_events.specs.path_walk.declared.event.EventKind.TheVariants as kind
use Rattle.order_cells.specs.sym_exec.Thread.{Doing, after_instr, wanted_of, after_step, after_all, Route}
use Rattle.order_cells.specs.sym_exec.declared.symbolic.Access.{Access}
use Rattle.order_cells.specs.tc_code.declared.cell.Cell.{Cell}
use Rattle.order_cells.proofs.sym_exec.Sound.{stepped_by}
use Rattle.order_cells.specs.lawful_order.Whole.{kind_of}

-- an access event: its step and its kind
pub record CellEvent : Type 0 where
  pub step : ℕ
  pub kind : EventKind

abbrev pub cell_event : ℕ → EventKind → CellEvent
cell_event step kind = record { step = step; kind = kind }

-- an event of a step and a kind as an access event, if it is one
abbrev pub cell_event_at : ℕ → EventKind → Option CellEvent
cell_event_at step kind.Load = Some (cell_event step kind.Load)
cell_event_at step kind.Store = Some (cell_event step kind.Store)
cell_event_at step kind.Exchange = Some (cell_event step kind.Exchange)
cell_event_at step _ = None

-- the access events among some events
abbrev pub cell_events : List Event → List CellEvent
cell_events events = filter_map (λ (e : Event). cell_event_at e.step e.kind) events

-- the event of an access
abbrev pub event_by : Access → CellEvent
event_by a = cell_event a.step (kind_of a.takes a.writes)

-- if the access is a load, its number is below this
abbrev pub TakesBelow : ℕ → Access → Type 0
TakesBelow n a = (k : ℕ) → a.takes ≡ Some k → k < n

pub takes_more : (m n : ℕ) → m ≤ n → (a : Access) → TakesBelow m a → TakesBelow n a
takes_more m n up a below = λ k e. let less = below k e in omega (arith, up, less)

-- an execution extends another, and finds accesses for these events
pub record Finds (d e : Doing) (events : List CellEvent) : Type 0 where
  pub found : List Access
  pub accesses : e.accesses ≡ d.accesses ++ found
  pub are : map event_by found ≡ events
  pub loads : d.loads ≤ e.loads
  pub taken : All (TakesBelow e.loads) found

nothing_found : (d e : Doing) → e.accesses ≡ d.accesses → e.loads ≡ d.loads → Finds d e []
nothing_found d e same loads = record {
  found = [];
  accesses = same ∙ sym (append-nil d.accesses);
  are = refl;
  loads = omega (arith, loads);
  taken = All-nil (TakesBelow e.loads);
}

one_found : (d e : Doing) (cell : Cell ℕ) (takes writes : Option ℕ)
    → e.accesses ≡ d.accesses ++ record { step = d.steps; cell = cell; takes = takes; writes = writes } ∷ [] → d.loads ≤ e.loads
    → ((k : ℕ) → takes ≡ Some k → k < e.loads) → Finds d e (cell_event d.steps (kind_of takes writes) ∷ [])
one_found d e cell takes writes more loads below =
    let a : Access = record { step = d.steps; cell = cell; takes = takes; writes = writes } in
    record {
      found = a ∷ [];
      accesses = more;
      are = refl;
      loads = loads;
      taken = All-cons (TakesBelow e.loads) a [] below (All-nil (TakesBelow e.loads));
    }

-- a load takes the next number
load_found : (d e : Doing) (cell : Cell ℕ) (writes : Option ℕ)
    → e.accesses ≡ d.accesses ++ record { step = d.steps; cell = cell; takes = Some d.loads; writes = writes } ∷ [] → e.loads ≡ d.loads + 1
    → Finds d e (cell_event d.steps (kind_of (Some d.loads) writes) ∷ [])
load_found d e cell writes more loads =
    one_found d e cell (Some d.loads) writes more (omega (arith, loads))
    (λ k is. let same = same_Some d.loads k is in omega (arith, loads, same))

finds_both : (d e g : Doing) (xs ys : List CellEvent) → Finds d e xs → Finds e g ys → Finds d g (xs ++ ys)
finds_both d e g xs ys a b = record {
  found = a.found ++ b.found;
  accesses = b.accesses ∙ ap (λ l. l ++ b.found) a.accesses ∙ append_assoc d.accesses a.found b.found;
  are = map-append event_by a.found b.found ∙ ap₂ (λ l m. l ++ m) a.are b.are;
  loads = omega (arith, a.loads, b.loads);
  taken = All-append (TakesBelow g.loads) a.found b.found (All-weaker (TakesBelow e.loads) (TakesBelow g.loads) (takes_more e.loads g.loads b.loads) a.found
      a.taken) b.taken;
}

-- the access event of an instruction in a step, if it is one
abbrev pub does : Marks → ℕ → Instr → Option CellEvent
does m step i = option_and_then (cell_event_at step) (asks m i)

instr_finds : (line : ℕ) (wanted : Bool) (d : Doing) (m : Marks) (i : Instr) → Finds d (after_instr line wanted d i) (option_to_list (does m d.steps i))
instr_finds line wanted d m (Load k c) = load_found d (after_instr line wanted d (Load k c)) _ _ refl refl
instr_finds line wanted d m (Store c e) = one_found d (after_instr line wanted d (Store c e)) _ _ _ refl (omega arith) (λ k is. absurd (none-some k is))
instr_finds line wanted d m (Modify k c u) = load_found d (after_instr line wanted d (Modify k c u)) _ _ refl refl
instr_finds line wanted d m i = nothing_found d (after_instr line wanted d i) refl refl

-- the failing step is at a site, which accesses no cell
site_asks : (m : Marks) (i : Instr) → is_site i ≡ true → asks m i ≡ None
site_asks m (Inside len i) site = refl
site_asks m (Holds k) site = refl
site_asks m (Ready h) site = refl
site_asks m (Assert e) site = refl
site_asks m (Nonzero e) site = refl
site_asks m (InRange e) site = refl
site_asks m i site = absurd (false≢true site)

does_with : (m : Marks) (step : ℕ) (i : Instr) (fails : Bool) → (fails ≡ true → is_site i ≡ true)
    → option_and_then (cell_event_at step) (kind_with m i fails) ≡ does m step i
does_with m step i true site = sym (ap (option_and_then (cell_event_at step)) (site_asks m i (site refl)))
does_with m step i false site = refl

-- the access events with one event more, if that is one
cell_events_cons : (step line bars : ℕ) (o : Option EventKind) (events : List Event)
    → cell_events (cons_option (option_map (λ k. record { step = step; line = line; kind = k; bars = bars }) o) events)
    ≡ option_to_list (option_and_then (cell_event_at step) o) ++ cell_events events
cell_events_cons step line bars None events = refl
cell_events_cons step line bars (Some k) events = by (cell_event_at step k)
  where
    by : (o : Option CellEvent) → cons_option o (cell_events events) ≡ option_to_list o ++ cell_events events
    by None = refl
    by (Some x) = refl

module _ (code : Code) (f : ℕ) where
  -- there is an instruction at each place
  abbrev pub AreThere : List ℕ → Type 0
  AreThere [] = Unit {0}
  AreThere (place ∷ places) = ((i : Instr) × (instr_at code f place ≡ Some i)) × AreThere places

  -- the last place is that of a site
  abbrev pub EndsAtSite : List ℕ → Type 0
  EndsAtSite [] = Unit {0}
  EndsAtSite (place ∷ places) = (length places ≡ 0 → is_site (step_at code f place).instr ≡ true) × EndsAtSite places

module _ (r : Route) where
  step_finds : (d : Doing) (place : ℕ) (m : Marks) (i : Instr) → instr_at r.code r.function place ≡ Some i
      → Finds d (after_step r d place) (option_to_list (does m d.steps i)) × ((after_step r d place).steps ≡ d.steps + 1)
  step_finds d place m i at =
      let e = after_instr (unwrap_or (line_at r.code r.function place) 0) (wanted_of r.outcomes r.fails d i) d i in
      let one = instr_finds (unwrap_or (line_at r.code r.function place) 0) (wanted_of r.outcomes r.fails d i) d m i in
      let next : Doing = record e { steps = d.steps + 1 } in
      let is : after_step r d place ≡ next = ap (stepped_by r d place) at in (
        subst (λ x. Finds d x (option_to_list (does m d.steps i))) (sym is)
            (record { found = one.found; accesses = one.accesses; are = one.are; loads = one.loads; taken = one.taken }),
        ap (λ (x : Doing). x.steps) is,
      )

  -- all steps of a thread, whose last one fails or doesn't
  pub along_finds : (places : List ℕ) (d : Doing) (m : Marks) (last : Bool) (step : ℕ) → d.steps ≡ step → AreThere r.code r.function places
      → (last ≡ true → EndsAtSite r.code r.function places)
      → Finds d (after_all r d places) (cell_events (events_of r.code r.function (marked_from last step m (steps_at r.code r.function places))))
  along_finds [] d m last step at there site = nothing_found d d refl refl
  along_finds (place ∷ places) d m last step at there site =
      let i = there.0.0 in
      let is : (step_at r.code r.function place).instr ≡ i = ap (λ o. unwrap_or o Exit) there.0.1 in
      let e = after_step r d place in
      let one = step_finds d place m i there.0.1 in
      let stops = last && length (steps_at r.code r.function places) == 0 in
      let at_site : stops ≡ true → is_site i ≡ true = λ h.
      let h = and_parts last (length (steps_at r.code r.function places) == 0) h in
      let none : length places ≡ 0 = sym (length-map places (step_at r.code r.function)) ∙ (Decides-eqb (length (steps_at r.code r.function places)) 0).0 h.1 in
      ap is_site (sym is) ∙ (site h.0).0 none in
      let rest = along_finds places e (marks_after_instr m (step_at r.code r.function place).instr) last (step + 1) (one.1 ∙ ap (λ n. n + 1) at) there.1 (λ h. (site h).1) in
      let later = events_of r.code r.function (marked_from last (step + 1) (marks_after_instr m (step_at r.code r.function place).instr) (steps_at r.code r.function places)) in
      let first : option_to_list (option_and_then (cell_event_at step) (kind_with m (step_at r.code r.function place).instr stops)) ≡ option_to_list (does m d.steps i) =
      ap (λ j. option_to_list (option_and_then (cell_event_at step) (kind_with m j stops))) is ∙ ap option_to_list (does_with m step i stops at_site)
      ∙ ap (λ n. option_to_list (does m n i)) (sym at) in
      subst (Finds d (after_all r e places))
      (ap (λ xs. xs ++ cell_events later) (sym first)
      ∙ sym (cell_events_cons step (unwrap_or (line_at r.code r.function place) 0) m.bars (kind_with m (step_at r.code r.function place).instr stops) later))
      (finds_both d e (after_all r e places) (option_to_list (does m d.steps i)) (cell_events later) one.0 rest)
