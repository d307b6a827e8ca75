-- Threads exist when their events come, and joins find exits.
use Rattle.std.proofs.Common.{◌≡◌, ◌∙◌, inl, inr, ℕ, ◌+◌, ◌<◌, Bool, true, false, ◌&&◌, ◌||◌, List, ◌∷◌, ◌++◌, take}
use Rattle.std.proofs.Common.{Option, Some, None, IsTrue, refl, sym, ap, subst, arith, slice_index_or}
use Rattle.std.specs.Prelude.{slice_get, option_map, option_and_then}
use Rattle.std.specs.List.{Contains, filter_map, list_any, last_or}
use Rattle.std.proofs.Math.Bool.{and-false, or-true}
use Rattle.std.proofs.lemmas.Bool.{false≢true}
use Rattle.std.proofs.lemmas.Option.{none-some, same_Some}
use Rattle.condition_order.specs.tc_base.Names.{Name, main, child}
use Rattle.condition_order.specs.tc_base.States.{Local}
use Rattle.condition_order.specs.tc_base.declared.handle.Handle.{Handle}
use Rattle.condition_order.specs.tc_base.declared.handle.Handle.TheVariants.{Unset, Child, Joined}
use Rattle.condition_order.specs.tc_base.declared.request.Request.{Request}
use Rattle.condition_order.specs.tc_base.declared.request.Request.TheVariants.{Silent, Start}
use Rattle.condition_order.specs.tc_code.Step.{instr_of, child_number, can_be_joined, handle_of}
use Rattle.condition_order.specs.tc_code.declared.instr.Instr.{Instr}
use Rattle.condition_order.specs.tc_code.declared.instr.Instr.TheVariants.{Join}
use Rattle.condition_order.specs.run_laws.Laws.{IsChildOf, HoldsChild}
use Rattle.condition_order.proofs.run_laws.Bound.{reached_has_tested}
use Rattle.condition_order.proofs.run_laws.Created.{reached_is_created}
use Rattle.condition_order.proofs.run_laws.Handles.{handles_are_children}
use Rattle.condition_order.proofs.run_laws.Names.{same_self}
use Rattle.sym_steps.specs.run_history.History.{Deed, Did, same}
use Rattle.sym_steps.specs.run_history.Told.{creates, is_thread_in, steps_in, children_in, has_exited_in}
use Rattle.sym_steps.proofs.run_history.Lists.{last_or-push}
use Rattle.sym_steps.proofs.run_history.of_pending.In.{In, in_at, in_mapped, in_any}
use Rattle.condition_order.specs.path_walk.Events.{kind_with}
use Rattle.condition_order.specs.path_walk.Marks.{Marks, marks_at_start, marks_after, handle_in}
use Rattle.condition_order.specs.path_walk.Paths.{Walk, Paths, paths_of}
use Rattle.condition_order.specs.path_walk.Steps.{Step, steps_at}
use Rattle.condition_order.specs.path_walk.Events as events
use Rattle.condition_order.specs.path_walk.declared.event.Event.{Event}
use Rattle.condition_order.specs.path_walk.declared.event.EventKind.TheVariants as kind
use Rattle.condition_order.specs.path_walk.declared.event.Link.{Link}
use Rattle.sym_steps.specs.path_laws.Setting.{Setting}
use Rattle.sym_steps.specs.path_laws.Deeds.{kind_of}
use Rattle.sym_steps.specs.path_laws.history.Along.{IsThread, AllAreThere, HistoryAlong, path_thread}
use Rattle.sym_steps.specs.path_laws.history.Next.{IsNextOnPath}
use Rattle.sym_steps.proofs.path_laws.of_history.Next.{path_step, next_on_path, thread_next}
use Rattle.sym_steps.proofs.path_laws.of_history.Told.{RunOf, reached, steps_of, its_run}
use Rattle.sym_steps.proofs.path_laws.of_history.Walks.{walking, thread_path_at, thread_named}
use Rattle.sym_steps.proofs.path_laws.of_events.Events.{at_step, event_within, event_done}
use Rattle.sym_steps.proofs.path_laws.of_events.Held.{thread_marks}
use Rattle.sym_steps.proofs.path_laws.of_events.Lists.{in_contains, contains_in}
use Rattle.sym_steps.proofs.path_laws.of_events.Waiters.{exits_told}
use Rattle.condition_order.specs.sym_terms.declared.node.Node.{Node}
use Rattle.condition_order.specs.order_formula.Worlds.{World}
use Rattle.condition_order.specs.order_formula.declared.group.Group.TheVariants as group
use Rattle.condition_order.specs.lawful_order.Events.{Creates, Joins}
use Rattle.condition_order.specs.lawful_order.Memory.{is_store}
use Rattle.world_plan.specs.Going.{IsLawfulWorld, HasGone, NextEvent, is_pending, place}
use Rattle.world_plan.specs.Plan.{is_failure}
use Rattle.plan_runs.proofs.of_waits.Begun.{created_link, joined_link}
use Rattle.plan_runs.proofs.of_waits.Parents.{IsCreatedBy, created_by}
use Rattle.plan_runs.proofs.of_waits.Worlds.{walk}
use Rattle.plan_runs.proofs.Histories.{history_of}

-- a request that is a create
create_is : (r : Request) (other : Option Name) (k : ℕ) → kind_of r other ≡ Some (kind.Create k)
    → (f : ℕ) × (r ≡ Start f) × (option_map kind.Create (option_and_then (last_or None) other) ≡ Some (kind.Create k))
create_is (Start f) other k e = (f, refl, e)
create_is Silent other k e = absurd (none-some (kind.Create k) e)
create_is r other k e = absurd cc

-- an instruction that is a join
join_is : (m : Marks) (i : Instr) (fails : Bool) (k : ℕ) → kind_with m i fails ≡ Some (kind.Join k)
    → (v : ℕ) × (i ≡ Join v) × (child_number (handle_in m v) ≡ k)
join_is m i true k e = absurd cc
join_is m (Join v) false k e =
    let same : kind.Join (child_number (handle_in m v)) ≡ kind.Join k = cc in
    let number : child_number (handle_in m v) ≡ k = cc in
    (v, refl, number)
join_is m i false k e = absurd cc

-- the child that can be joined
joined_child : (t : Local) (x : Handle) (k : ℕ) → IsTrue (can_be_joined x) → HoldsChild t x → child_number x ≡ k → IsChildOf t k
joined_child t (Child j) k can is number = subst (IsChildOf t) number is
joined_child t Unset k can is number = absurd (false≢true can)
joined_child t (Joined j) k can is number = absurd (false≢true can)

-- main always exists
main_there : (h : List Deed) (n : Name) → n ≡ main → is_thread_in h n ≡ true
main_there h n is = ap (λ b. b || list_any (same n) (filter_map creates h)) (same_self n main is)

module _ {B : Type 0} (setting : Setting B) (nodes : List Node) (w : World) (lawful : IsLawfulWorld setting nodes w) (p : ℕ) (h : List Deed)
    (gone : HasGone setting nodes w p h) where
  open setting use {ops, code, log}

  abbrev paths : Paths
  paths = paths_of code log

  -- a child exists once its create is done
  child_there : (u : ℕ) (v : Walk) (y : Event) (k : ℕ) → IsThread code log u v → In y v.events → y.kind ≡ kind.Create k → y.step < steps_in h v.name
      → is_thread_in h (child v.name k) ≡ true
  child_there u v y k there i is done =
      let n = child v.name k in
      let d = event_done setting (history_of lawful gone) (path_thread u v there) y i done in
      let c = create_is d.request d.other k (d.asks ∙ ap (λ a. Some a) is) in
      let deed = Did v.name y.step (Start c.0) d.took d.other in
      let at : h ≡ d.older ++ deed ∷ d.newer = d.there ∙ ap (λ r. d.older ++ Did v.name y.step r d.took d.other ∷ d.newer) c.1 in
      let other = (gone.along.follow d.older d.newer deed at).1.other_is in
      let m = children_in d.older v.name + 1 in
      let last : Some (kind.Create m) ≡ Some (kind.Create k) =
      sym (ap (option_map kind.Create) (last_or-push None v.name m)) ∙ ap (λ o. option_map kind.Create (option_and_then (last_or None) o)) (sym other) ∙ c.2 in
      let same_kind : kind.Create m ≡ kind.Create k = same_Some (kind.Create m) (kind.Create k) last in
      let number : m ≡ k = cc in
      let created : creates deed ≡ Some n = other ∙ ap (λ j. Some (child v.name j)) number in
      let made = in_mapped creates deed n h (subst (In deed) (sym at) (in_at d.older deed d.newer)) created in
      ap (λ b. same n main || b) (in_any (same n) n (filter_map creates h) made (same_self n n refl)) ∙ or-true (same n main)

  -- a thread exists once its create has come
  thread_there : (c : ℕ) (q : Walk) → IsThread code log c q
      → ((o : IsCreatedBy code log q.name) → place code log w o.place o.event < p) → is_thread_in h q.name ≡ true
  thread_there c q there before =
      elim (created_by code log setting.log_is lawful.fits c q there) [
        | inl first ↦ main_there h q.name first
        | inr o ↦
            let done = gone.did o.place o.walk o.event o.there (contains_in o.event o.walk.events o.among) (before o) in
            ap (is_thread_in h) o.name ∙ child_there o.place o.walk o.event o.number o.there o.among o.creates done
      ]

  creates_it : (o_place : ℕ) (v : Walk) (y : Event) (k : ℕ) → IsThread code log o_place v → In y v.events → y.kind ≡ kind.Create k
      → Creates paths o_place (record { step = y.step; child = k })
  creates_it u v y k there i is =
      let from = thread_path_at code log u v there in
      let all : v.creates ≡ events.creates_of v.events = subst (λ (z : Walk). z.creates ≡ events.creates_of z.events) from.2 refl in
      let link : Link = record { step = y.step; child = k } in
      (v, there, contains_in link v.creates (subst (In link) (sym all) (created_link v.events y k i is)))

  pub there_at : (c : ℕ) (q : Walk) (x : Event) → IsThread code log c q → Contains q.events x → place code log w c x ≡ p → is_thread_in h q.name ≡ true
  there_at c q x there i at =
      thread_there c q there (λ o.
      let link : Link = record { step = o.event.step; child = o.number } in
      let before = (lawful.lawful.meets (group.Child c)).created o.place link x
      (creates_it o.place o.walk o.event o.number o.there o.among o.creates) (o.walk, q, o.there, there, o.name) (q, there, i) in
      omega (arith, before, at))

  pub all_there : ((t : ℕ) (q : Walk) (x : Event) → IsThread code log t q → Contains q.events x → is_failure x.kind ≡ false
      → is_pending ops.buffered x ≡ false → place code log w t x < p) → AllAreThere code log h
  all_there all t =
      thread_there t.index t.walk t.there (λ o.
      all o.place o.walk o.event o.there (contains_in o.event o.walk.events o.among) (ap is_failure o.creates)
      (ap (λ a. ops.buffered && is_store a) o.creates ∙ and-false ops.buffered))

module _ {B : Type 0} (setting : Setting B) (nodes : List Node) (w : World) (lawful : IsLawfulWorld setting nodes w) (at : NextEvent setting nodes w) (k : ℕ)
    (joins : at.event.kind ≡ kind.Join k) where
  open setting use {machine, ops, code, log}
  open at use {position as p, deeds as h, thread, event as x, among as x_among}
  open thread use {index as t, walk as q, there as own_there}

  abbrev history : HistoryAlong setting
  history = history_of lawful at.gone

  abbrev r : RunOf machine log h
  r = its_run setting history

  abbrev steps : List Step
  steps = steps_at code q.function q.places

  -- the next step of the thread is the join
  next : IsNextOnPath code h q
  next =
      let within = event_within code log q (walk setting nodes w lawful t q own_there) x (in_contains x q.events x_among) in
      next_on_path setting history thread at.gone.going
      (there_at setting nodes w lawful p h at.gone t q x own_there x_among at.at) (omega (arith, within, at.steps))

  -- the thread of the child exists
  child_is : is_thread_in h (child q.name k) ≡ true
  child_is =
      let a = thread_next setting history thread at.gone.going next in
      let i = walking setting history thread a.0 a.1 in
      let e = at_step code log q i.walk x (in_contains x q.events x_among) in
      let j = join_is (marks_after (marks_at_start code q.function) (take e.place steps)) e.step.instr _ k (e.asks ∙ ap (λ b. Some b) joins) in
      let place_is : e.place ≡ steps_in h q.name = omega (arith, e.number, at.steps) in
      let step = path_step code q (steps_in h q.name) next.local.instruction next.instr next.place next.at in
      let same = same_Some e.step (record { place = next.local.instruction; instr = next.instr }) (sym e.there ∙ ap (slice_get steps) place_is ∙ step) in
      let instr : next.instr ≡ Join j.0 = sym (ap (λ (s : Step). s.instr) same) ∙ j.1 in
      let now : instr_of code a.0.local ≡ Some (Join j.0) = ap (instr_of code) a.2 ∙ next.next ∙ ap (λ b. Some b) instr in
      let done = steps_of machine log h r q.name a.0 a.1 in
      let at_place : a.0.local.steps ≡ e.place = done ∙ sym place_is in
      let marks = (thread_marks setting history thread a.0 i).handles in
      let handle : handle_in (marks_after (marks_at_start code q.function) (take e.place steps)) j.0 ≡ handle_of a.0.local j.0 =
      ap (λ n. handle_in (marks_after (marks_at_start code q.function) (take n steps)) j.0) (sym at_place) ∙ ap (λ hs. slice_index_or hs j.0 Unset) marks in
      let is_reached = reached machine log h r in
      let can = (reached_has_tested ops code r.state setting.lawful is_reached q.name a.0 a.1).join j.0 now in
      let held = handles_are_children ops code r.state is_reached q.name a.0 a.1 j.0 in
      let number = ap child_number (sym handle) ∙ j.2 in
      let is = joined_child a.0.local (handle_of a.0.local j.0) k can held number in
      sym (r.told.tells.deeds.buffers.threads.there (child q.name k))
      ∙ (reached_is_created ops code r.state is_reached).child_is_there q.name a.0 k a.1 is

  pub has_exited : has_exited_in h (child q.name k) ≡ true
  has_exited =
      let n = thread_named setting history (child q.name k) child_is in
      let from = thread_path_at code log t q own_there in
      let all : q.joins ≡ events.joins_of q.events = subst (λ (z : Walk). z.joins ≡ events.joins_of z.events) from.2 refl in
      let link : Link = record { step = x.step; child = k } in
      let has : Joins (paths_of code log) t link =
      (q, own_there, contains_in link q.joins (subst (In link) (sym all) (joined_link q.events x k (in_contains x q.events x_among) joins))) in
      let e = (lawful.lawful.meets (group.Child n.index)).joined t link has (q, n.walk, own_there, n.there, n.name_is) in
      let own = same_Some e.there.0 n.walk (sym e.there.1 ∙ n.there) in
      let among = subst (λ (v : Walk). Contains v.events e.exit) own e.there.2 in
      let done = at.gone.did n.index n.walk e.exit n.there among (omega (arith, e.before, at.at)) in
      ap (has_exited_in h) (sym n.name_is)
      ∙ (exits_told setting history n.thread).1
      (e.exit, among, e.exits, done)
