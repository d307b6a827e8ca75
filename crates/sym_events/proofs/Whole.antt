-- The execution of all threads of paths: its accesses are the paths' events.
use Rattle.std.proofs.Common.{◌≡◌, ◌∙◌, ◌⊎◌, inl, inr, ℕ, zero, suc, ◌<◌, ◌≤◌, List, [], ◌∷◌, ◌++◌, map, length, fold}
use Rattle.std.proofs.Common.{Option, Some, None, refl, sym, ap, ap₂, subst, arith, append_assoc, append-nil}
use Rattle.std.specs.Prelude.{slice_get, option_map}
use Rattle.std.specs.List.{All, Contains, cons_option}
use Rattle.std.proofs.lemmas.List.{length-map, map-append}
use Rattle.std.proofs.lemmas.List.Elements.{All-nil, All-head, All-tail, All-weaker, All-push, All-contains}
use Rattle.std.proofs.lemmas.Option.{none-some, same_Some, slice_get-map}
use Rattle.order_cells.specs.tc_code.Code.{Code}
use Rattle.order_events.specs.path_walk.Marks.{marks_at_start}
use Rattle.order_events.specs.path_walk.Paths.{Walk, Paths, ArePaths}
use Rattle.order_events.specs.path_walk.declared.event.Event.{Event}
use Rattle.order_events.specs.path_walk.declared.event.EventKind.{EventKind}
use Rattle.order_events.specs.path_walk.declared.event.EventKind.TheVariants as kind
use Rattle.order_cells.specs.sym_terms.declared.node.Node.{Node}
use Rattle.order_cells.specs.sym_exec.Thread.{route_of}
use Rattle.order_cells.specs.sym_exec.Executed.{Course, Symbolic, Executed, fails_at, thread_started, thread_done, with_thread, nothing, executed}
use Rattle.order_cells.specs.sym_exec.declared.symbolic.Access.{Access}
use Rattle.order_cells.specs.lawful_order.Events.{HasEvent}
use Rattle.order_cells.specs.lawful_order.Reads.{HasAccess}
use Rattle.order_cells.specs.lawful_order.Whole.{kind_of, IsExecutedBy}
use Rattle.order_events.proofs.Whole.{whole}
use Rattle.order_events.proofs.Lists.{at_in, in_at, in_map, of_map, in_filter_map, of_filter_map}
use Rattle.sym_events.proofs.Found.{CellEvent, cell_event, cell_event_at, cell_events, event_by, TakesBelow, takes_more, along_finds}
use Rattle.sym_events.proofs.Walked.{IsWalked, all_walked}

-- ---- all threads

abbrev events_in : Walk → List CellEvent
events_in w = cell_events w.events

abbrev events_by : Course → List CellEvent
events_by c = map event_by c.accesses

-- the loads of a thread have numbers below this
abbrev CourseBelow : ℕ → Course → Type 0
CourseBelow n c = All (TakesBelow n) c.accesses

courses_more : (m n : ℕ) → m ≤ n → (c : Course) → CourseBelow m c → CourseBelow n c
courses_more m n up c below = All-weaker (TakesBelow m) (TakesBelow n) (takes_more m n up) c.accesses below

-- the accesses of the threads are the access events of these walks, and their loads are counted
record IsFound (x : Executed) (ws : List Walk) : Type 0 where
  are : map events_by x.symbolic.threads ≡ map events_in ws
  below : All (CourseBelow x.symbolic.loads) x.symbolic.threads

module _ (code : Code) (paths : Paths) where
  with_thread_found : (x : Executed) (ws : List Walk) (w : Walk) → IsWalked code w → IsFound x ws → IsFound (with_thread code paths x w) (ws ++ w ∷ [])
  with_thread_found x ws w walked so =
      let d = thread_started code x w in
      let e = thread_done code paths x w in
      let one = along_finds (route_of code w (fails_at paths (length x.symbolic.threads) w)) w.places d (marks_at_start code w.function) walked.last 0 refl
      walked.there walked.site in
      let c : Course = record { name = w.name; tests = e.tests; accesses = e.accesses; creates = e.creates } in
      let own : events_by c ≡ events_in w = ap (map event_by) one.accesses ∙ one.are ∙ ap cell_events (sym walked.events) in
      record {
        are = map-append events_by x.symbolic.threads (c ∷ []) ∙ ap₂ (λ l y. l ++ y ∷ []) so.are own ∙ sym (map-append events_in ws (w ∷ []));
        below = All-push (CourseBelow e.loads) x.symbolic.threads c
            (All-weaker (CourseBelow x.symbolic.loads) (CourseBelow e.loads) (courses_more x.symbolic.loads e.loads one.loads) x.symbolic.threads so.below)
            (subst (All (TakesBelow e.loads)) (sym one.accesses) one.taken);
      }

  threads_found : (ws more : List Walk) (x : Executed) → All (IsWalked code) more → IsFound x ws → IsFound (fold (with_thread code paths) x more) (ws ++ more)
  threads_found ws [] x are so = subst (IsFound x) (sym (append-nil ws)) so
  threads_found ws (w ∷ more) x are so =
      subst (IsFound (fold (with_thread code paths) x (w ∷ more))) (append_assoc ws (w ∷ []) more)
      (threads_found (ws ++ w ∷ []) more (with_thread code paths x w) (All-tail (IsWalked code) w more are)
      (with_thread_found x ws w (All-head (IsWalked code) w more are) so))

-- ---- one thread

-- loads, stores and exchanges are access events, and no other kinds are
is_cell_event : (step : ℕ) (k : EventKind) → (k ≡ kind.Load) ⊎ ((k ≡ kind.Store) ⊎ (k ≡ kind.Exchange)) → cell_event_at step k ≡ Some (cell_event step k)
is_cell_event step k (inl load) = subst (λ j. cell_event_at step j ≡ Some (cell_event step j)) (sym load) refl
is_cell_event step k (inr (inl store)) = subst (λ j. cell_event_at step j ≡ Some (cell_event step j)) (sym store) refl
is_cell_event step k (inr (inr exchange)) = subst (λ j. cell_event_at step j ≡ Some (cell_event step j)) (sym exchange) refl

its_event : (step : ℕ) (k : EventKind) (x : CellEvent) → cell_event_at step k ≡ Some x → cell_event step k ≡ x
its_event step kind.Load x is = same_Some (cell_event step kind.Load) x is
its_event step kind.Store x is = same_Some (cell_event step kind.Store) x is
its_event step kind.Exchange x is = same_Some (cell_event step kind.Exchange) x is
its_event step k x is = absurd (none-some x is)

-- the steps rise
abbrev EventsRise : List Event → Type 0
EventsRise es = (j k : ℕ) (x y : Event) → slice_get es j ≡ Some x → slice_get es k ≡ Some y → j < k → x.step < y.step

abbrev CellEventsRise : List CellEvent → Type 0
CellEventsRise xs = (j k : ℕ) (x y : CellEvent) → slice_get xs j ≡ Some x → slice_get xs k ≡ Some y → j < k → x.step < y.step

others_rise : (e : Event) (es : List Event) → EventsRise (e ∷ es) → EventsRise es
others_rise e es rise = λ j k x y at to less. rise (suc j) (suc k) x y at to (omega (arith, less))

-- an access event among the later events has a later step
event_is_later : (e : Event) (es : List Event) (k : ℕ) (y : CellEvent) → EventsRise (e ∷ es) → slice_get (cell_events es) k ≡ Some y → e.step < y.step
event_is_later e es k y rise at =
    let one = of_filter_map (λ (x : Event). cell_event_at x.step x.kind) y es (at_in (cell_events es) k y at) in
    let place = in_at es one.0 one.1 in
    let less = rise 0 (suc place.0) e one.0 refl place.1 (omega arith) in
    let same = ap (λ (x : CellEvent). x.step) (its_event one.0.step one.0.kind y one.2) in
    omega (arith, less, same)

first_rises : (d : CellEvent) (xs : List CellEvent) → ((k : ℕ) (y : CellEvent) → slice_get xs k ≡ Some y → d.step < y.step) → CellEventsRise xs → CellEventsRise (d ∷ xs)
first_rises d xs first others j zero x y at to less = absurd (omega (arith, less))
first_rises d xs first others zero (suc k) x y at to less = subst (λ (z : CellEvent). z.step < y.step) (same_Some d x at) (first k y to)
first_rises d xs first others (suc j) (suc k) x y at to less = others j k x y at to (omega (arith, less))

cell_events_rise : (es : List Event) → EventsRise es → CellEventsRise (cell_events es)
cell_events_rise [] rise = λ j k x y at to less. absurd (none-some x at)
cell_events_rise (e ∷ es) rise = by (cell_event_at e.step e.kind) refl (cell_events_rise es (others_rise e es rise))
  where
    by : (o : Option CellEvent) → cell_event_at e.step e.kind ≡ o → CellEventsRise (cell_events es) → CellEventsRise (cons_option o (cell_events es))
    by None is others = others
    by (Some d) is others =
        let same = ap (λ (x : CellEvent). x.step) (its_event e.step e.kind d is) in
        first_rises d (cell_events es) (λ k y at. let later = event_is_later e es k y rise at in omega (arith, later, same)) others

-- if two lists have the same images, each element has one with the same image at its place
beside : {X Y Z : Type 0} (f : X → Z) (g : Y → Z) (xs : List X) (ys : List Y) → map f xs ≡ map g ys → (k : ℕ) (x : X) → slice_get xs k ≡ Some x
    → (y : Y) × (slice_get ys k ≡ Some y) × (f x ≡ g y)
beside {X} {Y} f g xs ys same k x at = by (slice_get ys k) refl
  where
    image : option_map g (slice_get ys k) ≡ Some (f x)
    image = sym (slice_get-map g ys k) ∙ ap (λ zs. slice_get zs k) (sym same) ∙ slice_get-map f xs k ∙ ap (option_map f) at

    by : (o : Option Y) → slice_get ys k ≡ o → (y : Y) × (slice_get ys k ≡ Some y) × (f x ≡ g y)
    by None is = absurd (none-some (f x) (ap (option_map g) (sym is) ∙ image))
    by (Some y) is = (y, is, sym (same_Some (g y) (f x) (ap (option_map g) (sym is) ∙ image)))

module _ (code : Code) (paths : Paths) (nodes : List Node) (are : ArePaths code paths) where
  all_are : All (IsWalked code) paths.threads
  all_are = subst (λ (p : Paths). All (IsWalked code) p.threads) (sym are.are) (all_walked code are.log are.fits)

  found : IsFound (executed code paths nodes) paths.threads
  found = threads_found code paths [] paths.threads (nothing nodes) all_are (record { are = refl; below = All-nil (CourseBelow 0) })

  abbrev symbolic : Symbolic
  symbolic = (executed code paths nodes).symbolic

  accesses_are_events : (t : ℕ) (a : Access) → HasAccess symbolic t a
      → (x : Event) × HasEvent paths t x × (x.step ≡ a.step) × (x.kind ≡ kind_of a.takes a.writes)
  accesses_are_events t a has =
      let w = beside events_by events_in symbolic.threads paths.threads found.are t has.0 has.1 in
      let one = of_filter_map (λ (e : Event). cell_event_at e.step e.kind) (event_by a) w.0.events
      (subst (λ xs. Contains xs (event_by a)) w.2 (in_map event_by a has.0.accesses has.2)) in
      let e = its_event one.0.step one.0.kind (event_by a) one.2 in
      (one.0, (w.0, w.1, one.1), ap (λ (x : CellEvent). x.step) e, ap (λ (x : CellEvent). x.kind) e)

  events_are_accesses : (t : ℕ) (x : Event) → HasEvent paths t x → (x.kind ≡ kind.Load) ⊎ ((x.kind ≡ kind.Store) ⊎ (x.kind ≡ kind.Exchange))
      → (a : Access) × HasAccess symbolic t a × (a.step ≡ x.step)
  events_are_accesses t x has cell =
      let c = beside events_in events_by paths.threads symbolic.threads (sym found.are) t has.0 has.1 in
      let one = of_map event_by (cell_event x.step x.kind) c.0.accesses
      (subst (λ xs. Contains xs (cell_event x.step x.kind)) c.2
      (in_filter_map (λ (e : Event). cell_event_at e.step e.kind) x (cell_event x.step x.kind) has.0.events has.2 (is_cell_event x.step x.kind cell))) in
      (one.0, (c.0, c.1, one.1), ap (λ (y : CellEvent). y.step) one.2)

  accesses_rise : (t j k : ℕ) (c : Course) (a b : Access) → slice_get symbolic.threads t ≡ Some c → slice_get c.accesses j ≡ Some a
      → slice_get c.accesses k ≡ Some b → j < k → a.step < b.step
  accesses_rise t j k c a b at one other less =
      let w = beside events_by events_in symbolic.threads paths.threads found.are t c at in
      let rise = cell_events_rise w.0.events (λ i l x y here there before. (whole code paths are).rise t i l w.0 x y w.1 here there before) in
      subst CellEventsRise (sym w.2) rise j k (event_by a) (event_by b)
      (slice_get-map event_by c.accesses j ∙ ap (option_map event_by) one) (slice_get-map event_by c.accesses k ∙ ap (option_map event_by) other) less

  loads_below : (t : ℕ) (a : Access) (k : ℕ) → HasAccess symbolic t a → a.takes ≡ Some k → k < symbolic.loads
  loads_below t a k has is =
      All-contains (TakesBelow symbolic.loads) has.0.accesses a
      (All-contains (CourseBelow symbolic.loads) symbolic.threads has.0 found.below (at_in symbolic.threads t has.0 has.1)) has.2 k is

  pub is_executed : IsExecutedBy paths symbolic
  is_executed = record {
    threads = sym (length-map symbolic.threads events_by) ∙ ap length found.are ∙ length-map paths.threads events_in;
    accesses = accesses_are_events;
    events = events_are_accesses;
    rise = accesses_rise;
    takes = loads_below;
  }
