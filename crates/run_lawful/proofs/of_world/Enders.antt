-- What ends the sleeps of a history in its world.
use Rattle.std.proofs.Common.{◌≡◌, ◌∙◌, ◌⊎◌, inl, inr, ℕ, ◌==◌, ◌&&◌, not, ℤ, Bool, true, false, cond, List, ◌∷◌, ◌++◌, length, map}
use Rattle.std.proofs.Common.{Option, Some, None, refl, sym, ap, ap₂, subst, arith, append_assoc}
use Rattle.std.specs.Prelude.{slice_get, option_map, option_and_then}
use Rattle.std.specs.Option.{option_map_or}
use Rattle.std.specs.List.{Contains, find, list_any, position_or_len}
use Rattle.std.proofs.Math.Bool.{and-false}
use Rattle.std.proofs.lemmas.Bool.{cases_Bool, false≢true, true≢false, and_parts, eqb-true, eq-eqb, false_from_ne_true}
use Rattle.std.proofs.lemmas.Option.{none-some, same_Some, slice_get-map, get_or_from_slice_get}
use Rattle.sym_events.specs.tc_base.Names.{Name}
use Rattle.sym_events.specs.tc_base.declared.moves.Move.{Move}
use Rattle.sym_events.specs.tc_base.declared.request.Request.{Request}
use Rattle.sym_events.specs.tc_base.declared.request.Request.TheVariants.{Silent, BeginWait, WakeOne, WakeAll}
use Rattle.sym_events.specs.tc_code.Run.{Reproduces}
use Rattle.sym_events.proofs.run_laws.Names.{is_same, same_self}
use Rattle.sym_steps.specs.run_history.History.{Deed, Did, Drained, history, same}
use Rattle.sym_steps.specs.run_history.pending.Deeds.{name_of}
use Rattle.sym_steps.proofs.run_history.of_pending.In.{any_in, in_split}
use Rattle.sym_events.specs.path_walk.Paths.{Walk, Paths, paths_of}
use Rattle.sym_events.specs.path_walk.declared.event.Event.{Event}
use Rattle.sym_events.specs.path_walk.declared.event.EventKind.{EventKind}
use Rattle.sym_events.specs.path_walk.declared.event.EventKind.TheVariants as kind
use Rattle.sym_events.specs.path_walk.declared.event.Sleep.{Sleep}
use Rattle.sym_steps.specs.path_laws.Setting.{Setting}
use Rattle.sym_steps.specs.path_laws.Deeds.{kind_of}
use Rattle.sym_steps.specs.path_laws.history.Along.{IsThread, path_thread}
use Rattle.sym_steps.proofs.path_laws.of_history.Walks.{walk_is, thread_named}
use Rattle.sym_steps.specs.path_laws.events.Done.{IsDoneIn}
use Rattle.sym_steps.proofs.path_laws.of_events.Events.{done_event, event_within}
use Rattle.sym_steps.proofs.path_laws.of_events.Lists.{in_contains, contains_in}
use Rattle.sym_steps.proofs.path_laws.of_events.Steps.{DeedOf, deed_of}
use Rattle.sym_events.specs.sym_exec.Executed.{Symbolic}
use Rattle.sym_events.specs.lawful_order.Events.{Placed, all_events, all_sleeps, number_of, ender_of}
use Rattle.sym_events.specs.lawful_order.Memory.{is_store}
use Rattle.sym_events.proofs.order_events.Lists.{at_in}
use Rattle.sym_events.proofs.order_events.Numbers.{of_all_from, is_step as is_event}
use Rattle.world_plan.specs.Sights.{Sight, Shows}
use Rattle.run_lawful.specs.world.Order.{IsEndedBy}
use Rattle.run_lawful.specs.world.WorldOf.{is_step, after_step, ends_wait, is_shown, ender_in, world_in}
use Rattle.run_lawful.proofs.of_world.Found.{found, finds, behind, same_position}
use Rattle.run_lawful.proofs.of_world.Ordered.{AreSeen}
use Rattle.run_lawful.proofs.of_world.Run.{fits, all_steps, seen}
use Rattle.run_lawful.proofs.of_world.Seen.{the_sight, shown_is, is_shown_by, shows_step}
use Rattle.sym_steps.proofs.path_laws.of_history.Told.{its_run, up_to}
use Rattle.sym_steps.proofs.path_laws.of_history.Logged.{history_again}

-- a deed that ends a thread's wait on a condition: it wakes that thread, or all that wait there
pub data EndsWait (c : ℕ) (n : Name) (d : Deed) : Type 0 where
  Woken : (q : Name) (k : ℕ) (took : ℤ) → d ≡ Did q k (WakeOne c) took (Some n) → EndsWait c n d
  AllWoken : (q : Name) (k : ℕ) (took : ℤ) (other : Option Name) → d ≡ Did q k (WakeAll c) took other → EndsWait c n d

begun_ends : (b : Bool) → option_map_or not (cond b (Some true) None) false ≡ true → ⊥
begun_ends true e = false≢true e
begun_ends false e = false≢true e

pub ends_told : (c : ℕ) (n : Name) (d : Deed) → ends_wait c n d ≡ true → EndsWait c n d
ends_told c n (Did q k (BeginWait d m) took other) e = absurd (begun_ends (d == c && same n q) e)
ends_told c n (Did q k (WakeOne d) took (Some u)) e = by (d == c && same n u) refl e
  where
    by : (b : Bool) → (d == c && same n u) ≡ b → option_map_or not (cond b (Some false) None) false ≡ true → EndsWait c n (Did q k (WakeOne d) took (Some u))
    by true t e =
        let both = and_parts (d == c) (same n u) t in
        Woken q k took (ap₂ (λ i p. Did q k (WakeOne i) took (Some p)) (eqb-true d c both.0) (sym (is_same n u both.1)))
    by false t e = absurd (false≢true e)
ends_told c n (Did q k (WakeOne d) took None) e = absurd (false≢true e)
ends_told c n (Did q k (WakeAll d) took other) e = by (d == c) refl e
  where
    by : (b : Bool) → (d == c) ≡ b → option_map_or not (cond b (Some false) None) false ≡ true → EndsWait c n (Did q k (WakeAll d) took other)
    by true t e = AllWoken q k took other (ap (λ i. Did q k (WakeAll i) took other) (eqb-true d c t))
    by false t e = absurd (false≢true e)
ends_told c n (Did q k Silent took other) e = absurd (false≢true e)
ends_told c n d e = absurd (false≢true e)

-- the name of a thread's step
pub step_named : (n : Name) (k : ℕ) (d : Deed) → is_step n k d ≡ true → name_of d ≡ record { thread = n; number = k; is_drain = false }
step_named n k (Did q j r took other) e =
    let both = and_parts (same n q) (k == j) e in
    sym (ap₂ (λ p i. name_of (Did p i r took other)) (is_same n q both.0) (eqb-true k j both.1))
step_named n k (Drained q j c v) e = absurd (false≢true e)

pub is_its_step : (n : Name) (k : ℕ) (r : Request) (took : ℤ) (other : Option Name) → is_step n k (Did n k r took other) ≡ true
is_its_step n k r took other = ap₂ (λ a b. a && b) (same_self n n refl) (eq-eqb k k refl)

mapped : {X Y : Type 0} (f : X → Y) (o : Option X) (y : Y) → option_map f o ≡ Some y → (x : X) × (o ≡ Some x) × (f x ≡ y)
mapped f None y e = absurd (none-some y e)
mapped f (Some x) y e = (x, refl, same_Some (f x) y e)

module _ (buffered : Bool) (paths : Paths) (h : List Deed) (a : AreSeen buffered paths h) where
  -- the deeds after a thread's step
  after_is : (n : Name) (k : ℕ) (older : List Deed) (d : Deed) (newer : List Deed) → h ≡ older ++ d ∷ newer → is_step n k d ≡ true
      → after_step h n k ≡ newer
  after_is n k older d newer is hit =
      ap (λ g. after_step g n k) is
      ∙ behind (is_step n k) older d newer
      (false_from_ne_true (list_any (is_step n k) older) (λ some.
      let f = any_in (is_step n k) older some in
      let s = in_split f.one older f.there in
      a.told.apart s.older newer s.newer f.one d (is ∙ ap (λ xs. xs ++ d ∷ newer) s.there)
      (step_named n k f.one f.passes ∙ sym (step_named n k d hit)))) hit

  -- a deed shows only one step of one thread
  pub shows_one : (d : Deed) (t k u j : ℕ) → Shows buffered paths d t k → Shows buffered paths d u j → (t ≡ u) × (k ≡ j)
  shows_one d t k u j s r =
      let one : the_sight s.walk.name k ≡ the_sight r.walk.name j =
      same_Some (the_sight s.walk.name k) (the_sight r.walk.name j) (sym s.sight ∙ r.sight) in
      (a.names t u s.walk r.walk s.there r.there (ap (λ (x : Sight). x.thread) one), ap (λ (x : Sight). x.step) one)

  -- the number of an event is found by its deed
  pub number_shown : (d : Deed) (t k : ℕ) → Shows buffered paths d t k → position_or_len (λ e. is_shown buffered paths e d) (all_events paths) ≡ number_of paths t k
  number_shown d t k s = same_position (λ e. is_shown buffered paths e d) (is_event t k) (all_events paths) agree
    where
      agree : (e : Placed Event) → is_shown buffered paths e d ≡ is_event t k e
      agree e =
          elim (cases_Bool (is_shown buffered paths e d)) [
            | inl hit ↦
                let one = shows_one d e.thread e.it.step t k (shown_is buffered paths e.thread e.it.step d hit) s in
                hit ∙ sym (ap₂ (λ x y. x && y) (eq-eqb e.thread t one.0) (eq-eqb e.it.step k one.1))
            | inr none ↦
                none
                ∙ sym (false_from_ne_true (is_event t k e) (λ hit.
                let both = and_parts (e.thread == t) (e.it.step == k) hit in
                true≢false
                (sym (is_shown_by buffered paths e.thread e.it.step d
                (subst (λ u. Shows buffered paths d u e.it.step) (sym (eqb-true e.thread t both.0))
                (subst (λ j. Shows buffered paths d t j) (sym (eqb-true e.it.step k both.1)) s))) ∙ none)))
          ]

  -- the first deed after a sleep that ends it gives the ender
  ender_told : (x : Placed Sleep) (q : Walk) (newer : List Deed) → slice_get paths.threads x.thread ≡ Some q → after_step h q.name x.it.step ≡ newer
      → ender_in buffered paths h x
      ≡ option_map (λ d. position_or_len (λ e. is_shown buffered paths e d) (all_events paths)) (find (ends_wait x.it.condition q.name) newer)
  ender_told x q newer there after =
      ap (option_and_then (λ (w : Walk). option_map (λ d. position_or_len (λ e. is_shown buffered paths e d) (all_events paths))
      (find (ends_wait x.it.condition w.name) (after_step h w.name x.it.step)))) there
      ∙ ap (λ g. option_map (λ d. position_or_len (λ e. is_shown buffered paths e d) (all_events paths)) (find (ends_wait x.it.condition q.name) g)) after

  ender_here : (symbolic : Symbolic) (s : ℕ) (x : Placed Sleep) → slice_get (all_sleeps paths) s ≡ Some x
      → ender_of (world_in buffered paths symbolic h) s ≡ ender_in buffered paths h x
  ender_here symbolic s x at =
      get_or_from_slice_get (map (ender_in buffered paths h) (all_sleeps paths)) s (ender_in buffered paths h x) None
      (slice_get-map (ender_in buffered paths h) (all_sleeps paths) s ∙ ap (option_map (ender_in buffered paths h)) at)

  pub ended_is : (symbolic : Symbolic) (s g : ℕ) (x : Placed Sleep) → slice_get (all_sleeps paths) s ≡ Some x → IsEndedBy buffered paths h x g
      → ender_of (world_in buffered paths symbolic h) s ≡ Some g
  ended_is symbolic s g x at e =
      let split : h ≡ e.older ++ e.sleep ∷ (e.between ++ e.ender ∷ e.newer) = e.there ∙ append_assoc e.older (e.sleep ∷ e.between) (e.ender ∷ e.newer) in
      let after = after_is e.sleeper.name x.it.step e.older e.sleep (e.between ++ e.ender ∷ e.newer) split e.begins in
      ender_here symbolic s x at
      ∙ ender_told x e.sleeper (e.between ++ e.ender ∷ e.newer) e.sleeps after
      ∙ ap (option_map (λ d. position_or_len (λ f. is_shown buffered paths f d) (all_events paths)))
      (finds (ends_wait x.it.condition e.sleeper.name) e.between e.ender e.newer e.lasts e.ends)
      ∙ ap (λ n. Some n) (number_shown e.ender e.thread e.step e.shows ∙ sym e.number)

module _ {B : Type 0} (setting : Setting B) (moves : List Move) (again : Reproduces setting.ops setting.code setting.log moves) where
  open setting use {ops, code, log, log_is as is}

  abbrev h : List Deed
  h = history ops code moves

  abbrev paths : Paths
  paths = paths_of code log

  -- a deed that ends a wait on a condition is a signal or a broadcast of that condition
  pub record IsEnder (c : ℕ) (d : Deed) : Type 0 where
    pub thread : ℕ
    pub walk : Walk
    pub there : IsThread code log thread walk
    pub event : Event
    pub among : Contains walk.events event
    pub signals : (event.kind ≡ kind.Signal c) ⊎ (event.kind ≡ kind.Broadcast c)
    pub shows : Shows ops.buffered paths d thread event.step

  pub is_ender : (c : ℕ) (n : Name) (older : List Deed) (d : Deed) (newer : List Deed) → h ≡ older ++ d ∷ newer → ends_wait c n d ≡ true → IsEnder c d
  is_ender c n older d newer at ends = by (ends_told c n d ends)
    where
      told : (q : Name) (k : ℕ) (r : Request) (took : ℤ) (other : Option Name) (asked : EventKind) → d ≡ Did q k r took other → kind_of r other ≡ Some asked
          → is_store asked ≡ false → (asked ≡ kind.Signal c) ⊎ (asked ≡ kind.Broadcast c) → IsEnder c d
      told q k r took other asked is_it asks quiet which =
          let there : h ≡ older ++ Did q k r took other ∷ newer = at ∙ ap (λ x. older ++ x ∷ newer) is_it in
          let all = history_again setting moves again in
          let left = (its_run setting all).told.threads older newer q k r took other there in
          let p = thread_named setting (up_to setting all older (Did q k r took other ∷ newer) there) q left.there in
          let own : d ≡ Did p.walk.name k r took other = is_it ∙ ap (λ m. Did m k r took other) (sym p.name_is) in
          let done : IsDoneIn h p.walk.name k asked =
          record {
            older = older;
            newer = newer;
            request = r;
            took = took;
            other = other;
            there = at ∙ ap (λ x. older ++ x ∷ newer) own;
            asks = asks;
          } in
          let x = done_event setting all p.thread k asked done in
          let kept : (ops.buffered && is_store asked) ≡ false = ap (λ b. ops.buffered && b) quiet ∙ and-false ops.buffered in
          record {
            thread = p.index;
            walk = p.walk;
            there = p.there;
            event = x.0;
            among = contains_in x.0 p.walk.events x.1;
            signals = elim which [ inl e ↦ inl (x.3 ∙ e) | inr e ↦ inr (x.3 ∙ e) ];
            shows = subst (λ j. Shows ops.buffered paths d p.index j) (sym x.2)
                (subst (λ e. Shows ops.buffered paths e p.index k) (sym own)
                (shows_step ops.buffered paths p.index k p.walk r took other asked p.there asks kept));
          }

      by : EndsWait c n d → IsEnder c d
      by (Woken q k took is_it) = told q k (WakeOne c) took (Some n) (kind.Signal c) is_it refl refl (inl refl)
      by (AllWoken q k took other is_it) = told q k (WakeAll c) took other (kind.Broadcast c) is_it refl refl (inr refl)

  -- the sleep with this number belongs to a thread
  pub sleeper : (s : ℕ) (x : Placed Sleep) → slice_get (all_sleeps paths) s ≡ Some x → (q : Walk) × IsThread code log x.thread q × Contains q.sleeps x.it
  sleeper s x at =
      let o = of_all_from (λ (w : Walk). w.sleeps) 0 paths.threads x (at_in (all_sleeps paths) s x at) in
      let same : o.place ≡ x.thread = omega (arith, o.thread) in
      (o.owner, ap (slice_get paths.threads) (sym same) ∙ o.at, o.among)

  -- each sleep has its deed
  pub sleep_deed : (t : ℕ) (q : Walk) (z : Sleep) (there : IsThread code log t q) → Contains q.sleeps z
      → DeedOf setting (history_again setting moves again) (path_thread t q there) z.step
  sleep_deed t q z there i =
      let s = (seen setting moves again).whole.slept t z (q, there, i) in
      let p = s.1.0 in
      let same : p ≡ q = same_Some p q (sym s.1.1 ∙ there) in
      let walk = walk_is code log is (fits setting moves again) (path_thread t p s.1.1) in
      let inside = event_within code log p walk s.0 (in_contains s.0 p.events s.1.2) in
      let many = all_steps setting moves again t q there in
      let long : length p.places ≡ length q.places = ap (λ (v : Walk). length v.places) same in
      deed_of setting (history_again setting moves again) (path_thread t q there) z.step (omega (arith, inside, long, many, s.2))

  pub ended_told : (symbolic : Symbolic) (s g : ℕ) (x : Placed Sleep) → slice_get (all_sleeps paths) s ≡ Some x
      → ender_of (world_in ops.buffered paths symbolic h) s ≡ Some g → IsEndedBy ops.buffered paths h x g
  ended_told symbolic s g x at ends =
      let a = seen setting moves again in
      let q = sleeper s x at in
      let d = sleep_deed x.thread q.0 x.it q.1 q.2 in
      let sleep = Did q.0.name x.it.step d.request d.took d.other in
      let begins = is_its_step q.0.name x.it.step d.request d.took d.other in
      let after = after_is ops.buffered paths h a q.0.name x.it.step d.older sleep d.newer d.at begins in
      let m = mapped (λ e. position_or_len (λ f. is_shown ops.buffered paths f e) (all_events paths)) (find (ends_wait x.it.condition q.0.name) d.newer) g
      (sym (ender_here ops.buffered paths h a symbolic s x at ∙ ender_told ops.buffered paths h a x q.0 d.newer q.1 after) ∙ ends) in
      let f = found (ends_wait x.it.condition q.0.name) d.newer m.0 m.1 in
      let split : h ≡ (d.older ++ sleep ∷ f.older) ++ m.0 ∷ f.newer =
      d.at ∙ ap (λ xs. d.older ++ sleep ∷ xs) f.there ∙ sym (append_assoc d.older (sleep ∷ f.older) (m.0 ∷ f.newer)) in
      let e = is_ender x.it.condition q.0.name (d.older ++ sleep ∷ f.older) m.0 f.newer split f.passes in
      record {
        sleeper = q.0;
        sleeps = q.1;
        older = d.older;
        sleep = sleep;
        between = f.older;
        ender = m.0;
        newer = f.newer;
        there = split;
        begins = begins;
        ends = f.passes;
        lasts = f.none;
        thread = e.thread;
        step = e.event.step;
        shows = e.shows;
        number = sym m.2 ∙ number_shown ops.buffered paths h a m.0 e.thread e.event.step e.shows;
      }
