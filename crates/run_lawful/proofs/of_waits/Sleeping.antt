-- How long threads sleep in a run.
use Rattle.std.proofs.Common.{◌≡◌, ◌∙◌, inl, inr, ℕ, ◌+◌, ◌<◌, ◌==◌, ℤ, Bool, true, false, not, cond, ◌&&◌, ◌||◌, List, [], ◌∷◌, ◌++◌}
use Rattle.std.proofs.Common.{Option, Some, None, refl, sym, ap, ap₂, subst, arith, append_assoc}
use Rattle.std.specs.Prelude.{slice_get, is_none, option_map, option_and_then}
use Rattle.std.specs.FinSet as set
use Rattle.std.specs.Option.{option_map_or}
use Rattle.std.specs.List.{Contains, filter_map, cons_option, list_any}
use Rattle.std.proofs.lemmas.Bool.{false≢true, true≢false, and_parts, or_parts, cases_lt}
use Rattle.std.proofs.lemmas.List.Elements.{filter_map-append}
use Rattle.std.proofs.lemmas.List.Folds.{list_any-append}
use Rattle.std.proofs.lemmas.Option.{none-some, same_Some}
use Rattle.sym_events.specs.list_laws.Lists.{is_nil}
use Rattle.sym_events.specs.tc_base.Names.{Name}
use Rattle.sym_events.specs.tc_base.States.{Local, Thread}
use Rattle.sym_events.specs.tc_base.declared.moves.Move.{Move}
use Rattle.sym_events.specs.tc_base.declared.request.Request.{Request}
use Rattle.sym_events.specs.tc_base.declared.request.Request.TheVariants.{Silent, BeginWait, EndWait, WakeOne, WakeAll}
use Rattle.sym_events.specs.tc_code.Run.{Reproduces}
use Rattle.sym_events.specs.tc_code.Step.{request, instr_of, drains_first}
use Rattle.sym_events.specs.store_buffers.Pending.{stores}
use Rattle.sym_events.proofs.run_laws.Waiters.{waiters_are_at_wake}
use Rattle.sym_steps.specs.run_history.History.{Deed, Did, same, pending}
use Rattle.sym_steps.specs.run_history.Last.{waits_by}
use Rattle.sym_steps.specs.run_history.Locals.{asks_next}
use Rattle.sym_steps.specs.run_history.Told.{is_step_of, steps_in, waiting_in, owner_in}
use Rattle.sym_steps.proofs.run_follows.of_deeds.Cells.{next_within}
use Rattle.sym_steps.specs.run_follows.Follow.{MayFollow, may_do_in}
use Rattle.sym_events.specs.path_walk.Fits.{Fits}
use Rattle.sym_events.specs.path_walk.Paths.{Walk, Paths}
use Rattle.sym_events.specs.path_walk.declared.event.EventKind.TheVariants as kind
use Rattle.sym_events.specs.path_walk.declared.event.Sleep.{Sleep}
use Rattle.sym_steps.specs.path_laws.Setting.{Setting}
use Rattle.sym_steps.specs.path_laws.history.Along.{IsThread, HistoryAlong, path_thread}
use Rattle.sym_steps.proofs.path_laws.of_history.Told.{reached, its_run, up_to}
use Rattle.sym_steps.specs.path_laws.events.Done.{IsAsleepIn}
use Rattle.sym_steps.proofs.path_laws.of_events.Steps.{steps_first, step_at}
use Rattle.sym_steps.proofs.path_laws.of_events.Waiters.{sleep_waits}
use Rattle.sym_steps.specs.sym_laws.Valued.{found}
use Rattle.sym_events.specs.sym_terms.declared.node.Node.{Node}
use Rattle.sym_events.specs.lawful_order.Events.{Placed, all_sleeps, number_of, ender_of}
use Rattle.sym_events.specs.lawful_order.Memory.{is_store}
use Rattle.world_plan.specs.Sights.{Shows}
use Rattle.world_plan.proofs.Numbers.{one_event}
use Rattle.run_lawful.specs.world.Order.{IsEndedBy}
use Rattle.run_lawful.specs.world.WorldOf.{is_step, ends_wait}
use Rattle.run_lawful.proofs.of_world.Enders.{is_its_step, sleeper, ended_told, ended_is}
use Rattle.run_lawful.proofs.of_world.Run.{seen}
use Rattle.run_lawful.proofs.of_waits.Deeds.{none_pending, sleeps_are, h, paths, w, fit, step_once, event_deed, before_deed}
use Rattle.run_lawful.proofs.of_waits.Parts.{slept_by, begin_is}
use Rattle.sym_steps.proofs.path_laws.of_history.Logged.{history_again}

-- Deeds that don't concern a thread's wait.

nil_rest : {X : Type 0} (o : Option X) (xs : List X) → cons_option o xs ≡ [] → o ≡ None
nil_rest None xs e = refl
nil_rest (Some x) xs e = absurd cc

-- if a list of given values is empty, no element gives anything
pub gives_none : {X : Type 0} (f : Deed → Option X) (older newer : List Deed) (d : Deed) → filter_map f (older ++ d ∷ newer) ≡ [] → f d ≡ None
gives_none f older newer d none =
    nil_rest (f d) (filter_map f newer) (last_nil (filter_map f older) (filter_map f (d ∷ newer)) (sym (filter_map-append f older (d ∷ newer)) ∙ none))
  where
    last_nil : {X : Type 0} (xs ys : List X) → xs ++ ys ≡ [] → ys ≡ []
    last_nil [] ys e = e
    last_nil (x ∷ xs) ys e = absurd cc

ends_by : (o : Option Bool) → option_map_or not o false ≡ true → o ≡ Some false
ends_by None e = absurd (false≢true e)
ends_by (Some true) e = absurd (false≢true e)
ends_by (Some false) e = refl

pub ends_gives : (c : ℕ) (n : Name) (d : Deed) → ends_wait c n d ≡ true → waits_by c n d ≡ Some false
ends_gives c n d e = ends_by (waits_by c n d) e

-- a deed that begins a thread's wait is a step of that thread
begins_by : (c : ℕ) (n : Name) (d : Deed) → waits_by c n d ≡ Some true → is_step_of n d ≡ true
begins_by c n (Did q k (BeginWait d m) took other) e = by (d == c) (same n q) e
  where
    by : (a b : Bool) → cond (a && b) (Some true) None ≡ Some true → b ≡ true
    by true true e = refl
    by true false e = absurd (none-some true e)
    by false b e = absurd (none-some true e)
begins_by c n (Did q k (WakeOne d) took (Some u)) e = absurd (not_begun (d == c && same n u) e)
  where
    not_begun : (b : Bool) → cond b (Some false) None ≡ Some true → ⊥
    not_begun true e = false≢true (same_Some false true e)
    not_begun false e = none-some true e
begins_by c n (Did q k (WakeOne d) took None) e = absurd (none-some true e)
begins_by c n (Did q k (WakeAll d) took other) e = absurd (not_begun (d == c) e)
  where
    not_begun : (b : Bool) → cond b (Some false) None ≡ Some true → ⊥
    not_begun true e = false≢true (same_Some false true e)
    not_begun false e = none-some true e
begins_by c n (Did q k Silent took other) e = absurd (none-some true e)
begins_by c n d e = absurd (none-some true e)

-- if a thread does nothing and no deed ends its wait, no deed concerns the wait
pub quiet : (c : ℕ) (n : Name) (g : List Deed) → steps_in g n ≡ 0 → list_any (ends_wait c n) g ≡ false → filter_map (waits_by c n) g ≡ []
quiet c n [] still none = refl
quiet c n (d ∷ g) still none =
    by (waits_by c n d) refl (quiet c n g (omega (arith, still, steps_first d g n)) (or_parts (ends_wait c n d) (list_any (ends_wait c n) g) none).1)
  where
    by : (o : Option Bool) → waits_by c n d ≡ o → filter_map (waits_by c n) g ≡ [] → cons_option o (filter_map (waits_by c n) g) ≡ []
    by None is rest = rest
    by (Some false) is rest =
        absurd (true≢false (sym (ap (λ o. option_map_or not o false) is) ∙ (or_parts (ends_wait c n d) (list_any (ends_wait c n) g) none).0))
    by (Some true) is rest =
        absurd (omega (arith, still, steps_first d g n ∙ ap (λ b. cond b 1 0 + steps_in g n) (begins_by c n d is)))

-- if no deed concerns a wait, no deed ends it
pub none_ends : (c : ℕ) (n : Name) (g : List Deed) → filter_map (waits_by c n) g ≡ [] → list_any (ends_wait c n) g ≡ false
none_ends c n [] none = refl
none_ends c n (d ∷ g) none = by (waits_by c n d) refl none (none_ends c n g)
  where
    by : (o : Option Bool) → waits_by c n d ≡ o → cons_option o (filter_map (waits_by c n) g) ≡ []
        → (filter_map (waits_by c n) g ≡ [] → list_any (ends_wait c n) g ≡ false) → list_any (ends_wait c n) (d ∷ g) ≡ false
    by None is none rest = ap (λ o. option_map_or not o false || list_any (ends_wait c n) g) is ∙ rest none
    by (Some b) is none rest = absurd cc

module _ {B : Type 0} (setting : Setting B) (nodes : List Node) (moves : List Move) (again : Reproduces setting.ops setting.code setting.log moves) where
  open setting use {machine, ops, bound, code, lawful, log, log_is as is}

  abbrev done : List Deed
  done = h setting nodes moves again

  abbrev threads : Paths
  threads = paths setting nodes moves again

  abbrev f : Fits code log
  f = fit setting nodes moves again

  -- only one sleep begins in a step
  same_condition : (t : ℕ) (q : Walk) (y z : Sleep) → IsThread code log t q → Contains q.sleeps y → Contains q.sleeps z → y.step ≡ z.step
      → y.condition ≡ z.condition
  same_condition t q y z there i j same =
      let a = slept_by q.events y (subst (λ ss. Contains ss y) (sleeps_are code log is f t q there) i) in
      let b = slept_by q.events z (subst (λ ss. Contains ss z) (sleeps_are code log is f t q there) j) in
      let one = one_event threads (seen setting moves again).whole t q a.event b.event there a.among b.among
      (a.step ∙ same ∙ sym b.step) in
      let kinds : kind.Sleep y.condition y.mutex ≡ kind.Sleep z.condition z.mutex = sym a.kind ∙ ap (λ e. e.kind) one ∙ b.kind in
      cc

  -- a thread whose sleep was ended is awake
  pub ended_is_awake : (s g : ℕ) (x : Placed Sleep) (t : ℕ) (q : Walk) (z : Sleep) → IsThread code log t q → x.thread ≡ t → Contains q.sleeps z
      → z.step ≡ x.it.step → IsAsleepIn done q.name z → slice_get (all_sleeps threads) s ≡ Some x → IsEndedBy ops.buffered threads done x g → ⊥
  ended_is_awake s g x t q z there own i same asleep at e =
      let v = sleeper setting moves again s x at in
      let mine : v.0 ≡ q = same_Some v.0 q (sym v.1 ∙ ap (slice_get threads.threads) own ∙ there) in
      let walk : e.sleeper ≡ q = same_Some e.sleeper q (sym e.sleeps ∙ ap (slice_get threads.threads) own ∙ there) in
      let condition = same_condition t q x.it z there (subst (λ (p : Walk). Contains p.sleeps x.it) mine v.2) i (sym same) in
      let begun = Did q.name z.step (BeginWait z.condition z.mutex) asleep.took asleep.other in
      let begins : is_step q.name z.step e.sleep ≡ true = ap₂ (λ (p : Walk) k. is_step p.name k e.sleep) (sym walk) same ∙ e.begins in
      let one = step_once setting nodes moves again q.name z.step e.older e.sleep (e.between ++ e.ender ∷ e.newer)
      asleep.older begun asleep.newer (e.there ∙ append_assoc e.older (e.sleep ∷ e.between) (e.ender ∷ e.newer)) asleep.there begins
      (is_its_step q.name z.step (BeginWait z.condition z.mutex) asleep.took asleep.other) in
      let silent = gives_none (waits_by z.condition q.name) e.between e.newer e.ender (ap (filter_map (waits_by z.condition q.name)) one.2 ∙ asleep.lasts) in
      let ends = ends_gives z.condition q.name e.ender
      (ap₂ (λ c (p : Walk). ends_wait c p.name e.ender) (sym condition) (sym walk) ∙ e.ends) in
      none-some false (sym silent ∙ ends)

  -- who waits asks for the end of its wait
  waiter_asks : (g : HistoryAlong setting) (n : Name) (c : ℕ) → c < code.conditions → set.contains (waiting_in g.deeds c) n ≡ true
      → (m : ℕ) × (asks_next code g.deeds n ≡ Some (EndWait c m))
  waiter_asks g n c within waits =
      let r = its_run setting g in
      let at = waiters_are_at_wake ops code r.state lawful (reached machine log g.deeds r) n c
      (ap (λ ns. set.contains ns n) (r.told.tells.waiters.waiters c within) ∙ waits) in (
        at.mutex,
        ap (option_and_then (λ (l : Local). option_map (request l) (instr_of code l)))
            (r.told.tells.locals n ∙ ap (option_map (λ (t : Thread B). t.local)) at.there)
            ∙ ap (option_map (request at.thread.local)) at.at,
      )

  -- and does nothing until then
  pub waiter_rests : (before : HistoryAlong setting) (n : Name) (c k : ℕ) (r : Request) (took : ℤ) (other : Option Name) → c < code.conditions
      → set.contains (waiting_in before.deeds c) n ≡ true → MayFollow ops.buffered bound code before.deeds (Did n k r took other) → ⊥
  waiter_rests before n c k r took other within waits may =
      let g = before.deeds in
      let a = waiter_asks before n c within waits in
      let asked : r ≡ EndWait c a.0 = same_Some r (EndWait c a.0) (sym may.asks ∙ a.1) in
      let allowed : may_do_in ops.buffered g n (EndWait c a.0) other ≡ true = ap (λ x. may_do_in ops.buffered g n x other) (sym asked) ∙ may.may in
      let met = and_parts (not (drains_first (EndWait c a.0)) || is_nil (stores (pending ops.buffered g n)))
      (not (set.contains (waiting_in g c) n) && is_none (owner_in g a.0)) allowed in
      true≢false (sym (and_parts (not (set.contains (waiting_in g c) n)) (is_none (owner_in g a.0)) met.1).0 ∙ ap not waits)

  -- the deed that begins a sleep
  pub record SleepDeed (x : Placed Sleep) : Type 0 where
    pub walk : Walk
    pub there : IsThread code log x.thread walk
    pub among : Contains walk.sleeps x.it
    pub older : List Deed
    pub deed : Deed
    pub newer : List Deed
    pub took : ℤ
    pub other : Option Name
    pub begins : deed ≡ Did walk.name x.it.step (BeginWait x.it.condition x.it.mutex) took other
    pub at : done ≡ older ++ deed ∷ newer
    pub number : x.it.step ≡ steps_in older walk.name
    pub within : x.it.condition < code.conditions
    pub shows : Shows ops.buffered threads deed x.thread x.it.step

  pub sleep_deed : (s : ℕ) (x : Placed Sleep) → slice_get (all_sleeps threads) s ≡ Some x → SleepDeed x
  sleep_deed s x at =
      let q = sleeper setting moves again s x at in
      let y = slept_by q.0.events x.it (subst (λ ss. Contains ss x.it) (sleeps_are code log is f x.thread q.0 q.1) q.2) in
      let d = event_deed setting nodes moves again x.thread q.0 y.event q.1 y.among in
      let deed = Did q.0.name y.event.step d.request d.took d.other in
      let asked = begin_is d.request d.other x.it.condition x.it.mutex (d.asks ∙ ap (λ k. Some k) y.kind) in
      record {
        walk = q.0;
        there = q.1;
        among = q.2;
        older = d.older;
        deed = deed;
        newer = d.newer;
        took = d.took;
        other = d.other;
        begins = ap₂ (λ k r. Did q.0.name k r d.took d.other) y.step asked;
        at = d.at;
        number = sym y.step ∙ d.may.number;
        within =
            (next_within machine d.older q.0.name (BeginWait x.it.condition x.it.mutex) (before_deed setting nodes moves again d).along.follow
            (d.may.asks ∙ ap (λ r. Some r) asked)).0;
        shows = subst (λ k. Shows ops.buffered threads deed x.thread k) y.step
            (d.shows (none_pending ops.buffered y.event.kind (ap is_store y.kind)));
      }

  module _ (x : Placed Sleep) (d : SleepDeed x) where
    abbrev n : Name
    n = d.walk.name

    abbrev c : ℕ
    c = x.it.condition

    -- the deed is the step with which the sleep begins
    pub its_step : is_step n x.it.step d.deed ≡ true
    its_step = ap (is_step n x.it.step) d.begins ∙ is_its_step n x.it.step (BeginWait c x.it.mutex) d.took d.other

    -- the thread waits as long as no deed concerns its wait
    pub waits_while : (between newer : List Deed) → done ≡ (d.older ++ d.deed ∷ between) ++ newer → filter_map (waits_by c n) between ≡ []
        → set.contains (waiting_in (d.older ++ d.deed ∷ between) c) n ≡ true
    waits_while between newer split silent =
        (sleep_waits setting (up_to setting (history_again setting moves again) (d.older ++ d.deed ∷ between) newer split)
        (path_thread x.thread d.walk d.there) c).1 (
          x.it,
          d.among,
          refl,
          record {
            older = d.older;
            newer = between;
            took = d.took;
            other = d.other;
            there = ap (λ y. d.older ++ y ∷ between) d.begins;
            lasts = silent;
          },
        )

    -- as long as no deed ended the wait, no deed concerns it
    pub none_between : (between newer : List Deed) → done ≡ (d.older ++ d.deed ∷ between) ++ newer → list_any (ends_wait c n) between ≡ false
        → filter_map (waits_by c n) between ≡ []
    none_between between newer split none =
        elim (cases_lt 0 (steps_in between n)) [
          | inr still ↦ quiet c n between (omega (arith, still)) none
          | inl some ↦
              let s = step_at between n 0 some in
              let step = Did n s.number s.request s.took s.other in
              let g = d.older ++ d.deed ∷ s.older in
              let at : done ≡ g ++ step ∷ (s.newer ++ newer) =
              split ∙ ap (λ xs. (d.older ++ d.deed ∷ xs) ++ newer) s.there
              ∙ ap (λ xs. xs ++ newer) (sym (append_assoc d.older (d.deed ∷ s.older) (step ∷ s.newer)))
              ∙ append_assoc g (step ∷ s.newer) newer in
              let first : list_any (ends_wait c n) s.older ≡ false =
              (or_parts (list_any (ends_wait c n) s.older) (list_any (ends_wait c n) (step ∷ s.newer))
              (sym (list_any-append (ends_wait c n) s.older (step ∷ s.newer)) ∙ ap (list_any (ends_wait c n)) (sym s.there) ∙ none)).0 in
              let waits = waits_while s.older (step ∷ (s.newer ++ newer)) at (quiet c n s.older s.before first) in
              let all = history_again setting moves again in
              absurd (waiter_rests (up_to setting all g (step ∷ (s.newer ++ newer)) at) n c s.number s.request s.took s.other d.within waits
              (all.along.follow g (s.newer ++ newer) step at).1)
        ]

    -- the deed that ends the sleep, after the one that begins it
    pub record EndsAt (g : ℕ) : Type 0 where
      pub between : List Deed
      pub ender : Deed
      pub newer : List Deed
      pub at : done ≡ (d.older ++ d.deed ∷ between) ++ ender ∷ newer
      pub ends : ends_wait c n ender ≡ true
      pub lasts : list_any (ends_wait c n) between ≡ false
      pub thread : ℕ
      pub step : ℕ
      pub shows : Shows ops.buffered threads ender thread step
      pub number : g ≡ number_of threads thread step

    pub ends_at : (s g : ℕ) → slice_get (all_sleeps threads) s ≡ Some x
        → ender_of (w setting nodes moves again) s ≡ Some g → EndsAt g
    ends_at s g at ended =
        let e = ended_told setting moves again (found code log nodes).symbolic s g x at ended in
        let walk : e.sleeper ≡ d.walk = same_Some e.sleeper d.walk (sym e.sleeps ∙ d.there) in
        let begins : is_step n x.it.step e.sleep ≡ true = ap (λ (p : Walk). is_step p.name x.it.step e.sleep) (sym walk) ∙ e.begins in
        let one = step_once setting nodes moves again n x.it.step e.older e.sleep (e.between ++ e.ender ∷ e.newer)
        d.older d.deed d.newer (e.there ∙ append_assoc e.older (e.sleep ∷ e.between) (e.ender ∷ e.newer)) d.at begins its_step in
        record {
          between = e.between;
          ender = e.ender;
          newer = e.newer;
          at = e.there ∙ ap₂ (λ o y. (o ++ y ∷ e.between) ++ e.ender ∷ e.newer) one.0 one.1;
          ends = ap (λ (p : Walk). ends_wait c p.name e.ender) (sym walk) ∙ e.ends;
          lasts = ap (λ (p : Walk). list_any (ends_wait c p.name) e.between) (sym walk) ∙ e.lasts;
          thread = e.thread;
          step = e.step;
          shows = e.shows;
          number = e.number;
        }

    pub ended_by : (s g : ℕ) → slice_get (all_sleeps threads) s ≡ Some x → EndsAt g
        → ender_of (w setting nodes moves again) s ≡ Some g
    ended_by s g at e =
        ended_is ops.buffered threads done (seen setting moves again) (found code log nodes).symbolic s g x at
        (record {
          sleeper = d.walk;
          sleeps = d.there;
          older = d.older;
          sleep = d.deed;
          between = e.between;
          ender = e.ender;
          newer = e.newer;
          there = e.at;
          begins = its_step;
          ends = e.ends;
          lasts = e.lasts;
          thread = e.thread;
          step = e.step;
          shows = e.shows;
          number = e.number;
        })
