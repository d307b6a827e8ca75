-- A thread begins after its create, and a join comes after the thread's exit.
use Rattle.std.proofs.Common.{◌≡◌, ◌∙◌, ℕ, ◌+◌, ℤ, Bool, true, false, not, ◌||◌, List, ◌∷◌, ◌++◌, Option, Some, None, refl, sym, ap, subst}
use Rattle.std.specs.Prelude.{is_some, option_and_then}
use Rattle.std.specs.FinMap as fin
use Rattle.std.specs.List.{Contains, filter_map, list_any, last_or}
use Rattle.std.proofs.lemmas.Bool.{false≢true, and_parts}
use Rattle.std.proofs.lemmas.List.Elements.{filter_map-append}
use Rattle.std.proofs.lemmas.List.Folds.{list_any-append}
use Rattle.std.proofs.lemmas.Option.{same_Some}
use Rattle.sym_events.specs.list_laws.Lists.{is_nil}
use Rattle.sym_events.specs.tc_base.Names.{Name, main, child}
use Rattle.sym_events.specs.tc_base.declared.moves.Move.{Move}
use Rattle.sym_events.specs.tc_base.declared.request.Request.{Request}
use Rattle.sym_events.specs.tc_base.declared.request.Request.TheVariants.{Await}
use Rattle.sym_events.specs.tc_code.Run.{Reproduces}
use Rattle.sym_events.specs.tc_code.Step.{drains_first}
use Rattle.sym_events.specs.store_buffers.Pending.{stores}
use Rattle.sym_events.proofs.run_laws.Created.{child_is_new}
use Rattle.sym_steps.specs.run_history.History.{Deed, Did, same, pending}
use Rattle.sym_steps.specs.run_history.Told.{creates, is_thread_in, children_in, has_exited_in}
use Rattle.sym_steps.proofs.run_history.Lists.{last_or-push}
use Rattle.sym_steps.proofs.run_history.Threads.{children_are}
use Rattle.sym_steps.specs.run_follows.Follow.{OtherIs, may_do_in}
use Rattle.sym_events.specs.path_walk.Paths.{Walk, Paths}
use Rattle.sym_events.specs.path_walk.declared.event.Event.{Event}
use Rattle.sym_events.specs.path_walk.declared.event.Link.{Link}
use Rattle.sym_steps.specs.path_laws.Setting.{Setting}
use Rattle.sym_steps.specs.path_laws.history.Along.{IsThread, PathThread, path_thread}
use Rattle.sym_steps.proofs.path_laws.of_history.Told.{reached, thread_of, its_run}
use Rattle.sym_steps.proofs.path_laws.of_events.Events.{event_done}
use Rattle.sym_steps.proofs.path_laws.of_events.Lists.{in_contains}
use Rattle.sym_steps.proofs.path_laws.of_events.Waiters.{exits_told}
use Rattle.sym_events.specs.sym_terms.declared.node.Node.{Node}
use Rattle.sym_events.specs.lawful_order.Children.{ChildRule, HasExited}
use Rattle.sym_events.specs.lawful_order.Events.{IsBefore}
use Rattle.sym_events.specs.lawful_order.Memory.{is_store}
use Rattle.world_plan.specs.Sights.{Shows}
use Rattle.run_lawful.proofs.of_world.Seen.{shows_step}
use Rattle.run_lawful.proofs.of_world.Splits.{TwoPlaces, Before, Same, After, two_places}
use Rattle.run_lawful.proofs.of_waits.Deeds.{none_pending, creates_are, joins_are, h, paths, w, fit, ordered, left_at, event_deed, before_deed}
use Rattle.run_lawful.proofs.of_waits.First.{comes_first}
use Rattle.run_lawful.proofs.of_waits.Parts.{created_by, joined_by, start_is, await_is}

-- a thread of a history is one of a longer history
thread_stays : (xs ys : List Deed) (n : Name) → is_thread_in xs n ≡ true → is_thread_in (xs ++ ys) n ≡ true
thread_stays xs ys n there =
    ap (λ os. same n main || list_any (same n) os) (filter_map-append creates xs ys)
    ∙ ap (λ b. same n main || b) (list_any-append (same n) (filter_map creates xs) (filter_map creates ys))
    ∙ either (same n main) (list_any (same n) (filter_map creates xs)) (list_any (same n) (filter_map creates ys)) there
  where
    either : (a b c : Bool) → (a || b) ≡ true → (a || (b || c)) ≡ true
    either true b c e = refl
    either false true c e = refl
    either false false c e = absurd (false≢true e)

module _ {B : Type 0} (setting : Setting B) (nodes : List Node) (moves : List Move) (again : Reproduces setting.ops setting.code setting.log moves) where
  open setting use {machine, ops, code, log, log_is as is}

  abbrev done : List Deed
  done = h setting nodes moves again

  abbrev threads : Paths
  threads = paths setting nodes moves again

  abbrev Before_in : (t k u j : ℕ) → Type 0
  Before_in t k u j = IsBefore threads (w setting nodes moves again) t k u j

  module _ (t : ℕ) (p : Walk) (l : Link) (there : IsThread code log t p) (c : ℕ) (q : Walk) (child_there : IsThread code log c q)
      (name : q.name ≡ child p.name l.child) where
    -- the deed that creates a child, which isn't a thread before
    record CreateDeed : Type 0 where
      older : List Deed
      deed : Deed
      newer : List Deed
      at : done ≡ older ++ deed ∷ newer
      new : is_thread_in older q.name ≡ false
      shows : Shows ops.buffered threads deed t l.step

    create_deed : Contains p.creates l → CreateDeed
    create_deed i =
        let f = fit setting nodes moves again in
        let y = created_by p.events l (subst (λ ls. Contains ls l) (creates_are code log is f t p there) i) in
        let d = event_deed setting nodes moves again t p y.event there y.among in
        let s = start_is d.request d.other l.child (d.asks ∙ ap (λ k. Some k) y.kind) in
        let other : d.other ≡ Some (child p.name (children_in d.older p.name + 1)) =
        subst (λ r. OtherIs d.older p.name r d.other) s.1 d.may.other_is in
        let number : l.child ≡ children_in d.older p.name + 1 =
        same_Some l.child (children_in d.older p.name + 1)
        (sym s.2 ∙ ap (option_and_then (last_or None)) other ∙ last_or-push None p.name (children_in d.older p.name + 1)) in
        let r = its_run setting (before_deed setting nodes moves again d) in
        let parent = thread_of machine log d.older r p.name d.left.there in
        let count = children_are ops code r.state d.older p.name r.told.tells.deeds.buffers.threads parent.0 parent.1 in
        let none = child_is_new ops code r.state p.name parent.0 (reached machine log d.older r) parent.1 in
        let named : q.name ≡ child p.name (parent.0.local.children + 1) = name ∙ ap (child p.name) (number ∙ ap (λ k. k + 1) (sym count)) in
        let kept = none_pending ops.buffered y.event.kind (ap is_store y.kind) in
        record {
          older = d.older;
          deed = Did p.name y.event.step d.request d.took d.other;
          newer = d.newer;
          at = d.at;
          new = sym (r.told.tells.deeds.buffers.threads.there q.name) ∙ ap is_some (ap (fin.get r.state.threads) named ∙ none);
          shows = subst (λ k. Shows ops.buffered threads (Did p.name y.event.step d.request d.took d.other) t k) y.step (d.shows kept);
        }

    module _ (d : CreateDeed) where
      -- the child's steps come after its create
      step_after : (older newer : List Deed) (k : ℕ) (r : Request) (took : ℤ) (other : Option Name) → done ≡ older ++ Did q.name k r took other ∷ newer
          → (between : List Deed) × (older ≡ d.older ++ d.deed ∷ between)
      step_after older newer k r took other at =
          by (two_places d.older d.deed d.newer older (Did q.name k r took other) newer (sym d.at ∙ at))
        where
          is_one : is_thread_in older q.name ≡ true
          is_one = (left_at setting nodes moves again older newer q.name k r took other at).there

          by : TwoPlaces d.older d.deed d.newer older (Did q.name k r took other) newer → (between : List Deed) × (older ≡ d.older ++ d.deed ∷ between)
          by (Before between after rest) = (between, after)
          by (Same one deed rest) = absurd (false≢true (sym d.new ∙ ap (λ g. is_thread_in g q.name) one ∙ is_one))
          by (After between before rest) =
              absurd (false≢true (sym d.new ∙ ap (λ g. is_thread_in g q.name) before
              ∙ thread_stays older (Did q.name k r took other ∷ between) q.name is_one))

      created_first : (x : Event) → Contains q.events x → Before_in t l.step c x.step
      created_first x i =
          let e = event_deed setting nodes moves again c q x child_there i in
          let b = step_after e.older e.newer x.step e.request e.took e.other e.at in
          comes_first setting nodes moves again c q x child_there i e t l.step d.older b.0 d.deed d.shows b.1

    -- a join finds that the child has exited
    joined_last : Contains p.joins l → HasExited threads (w setting nodes moves again) c t l.step
    joined_last i =
        let f = fit setting nodes moves again in
        let y = joined_by p.events l (subst (λ ls. Contains ls l) (joins_are code log is f t p there) i) in
        let d = event_deed setting nodes moves again t p y.event there y.among in
        let join = Did p.name y.event.step d.request d.took d.other in
        let awaits = await_is d.request d.other l.child (d.asks ∙ ap (λ k. Some k) y.kind) in
        let may : may_do_in ops.buffered d.older p.name (Await l.child) d.other ≡ true =
        ap (λ r. may_do_in ops.buffered d.older p.name r d.other) (sym awaits) ∙ d.may.may in
        let gone : has_exited_in d.older q.name ≡ true =
        ap (has_exited_in d.older) name
        ∙ (and_parts (not (drains_first (Await l.child)) || is_nil (stores (pending ops.buffered d.older p.name)))
        (has_exited_in d.older (child p.name l.child)) may).1 in
        let before = before_deed setting nodes moves again d in
        let child_thread : PathThread code log = path_thread c q child_there in
        let x = (exits_told setting before child_thread).0 gone in
        let e = event_done setting before child_thread x.0 (in_contains x.0 q.events x.1) x.3 in
        let exit = Did q.name x.0.step e.request e.took e.other in
        record {
          exit = x.0;
          there = (q, child_there, x.1);
          exits = x.2;
          before = subst (λ k. Before_in c x.0.step t k) y.step
              ((ordered setting nodes moves again).order e.older e.newer d.newer exit join c x.0.step t y.event.step
              (d.at ∙ ap (λ g. g ++ join ∷ d.newer) e.there)
              (shows_step ops.buffered threads c x.0.step q e.request e.took e.other x.0.kind child_there e.asks
              (none_pending ops.buffered x.0.kind (ap is_store x.2)))
              (d.shows (none_pending ops.buffered y.event.kind (ap is_store y.kind))));
        }

  pub child_rule : (c : ℕ) → ChildRule threads (w setting nodes moves again) c
  child_rule c = record {
    created = λ t l x creates is_child event.
        let parent : is_child.0 ≡ creates.0 = same_Some is_child.0 creates.0 (sym is_child.2 ∙ creates.1) in
        let own : is_child.1 ≡ event.0 = same_Some is_child.1 event.0 (sym is_child.3 ∙ event.1) in
        let name = sym (ap (λ (v : Walk). v.name) own) ∙ is_child.4 ∙ ap (λ (v : Walk). child v.name l.child) parent in
        created_first t creates.0 l creates.1 c event.0 event.1 name (create_deed t creates.0 l creates.1 c event.0 event.1 name creates.2) x event.2;
    joined = λ t l joins is_child.
        let parent : is_child.0 ≡ joins.0 = same_Some is_child.0 joins.0 (sym is_child.2 ∙ joins.1) in
        let name = is_child.4 ∙ ap (λ (v : Walk). child v.name l.child) parent in
        joined_last t joins.0 l joins.1 c is_child.1 is_child.3 name joins.2;
  }
