-- The next step of a thread on its path, given the values of a lawful world's loads.
use Rattle.std.proofs.Common.{◌≡◌, ◌∙◌, ℕ, ◌<◌, true, List, [], ◌∷◌, ◌++◌, length, get_or, Option, Some, refl, sym, ap, arith}
use Rattle.std.specs.Prelude.{slice_get}
use Rattle.std.specs.Option.{option_map_or}
use Rattle.std.proofs.lemmas.Option.{same_Some, slice_get-get_or, slice_get_within}
use Rattle.condition_order.specs.tc_base.Names.{Name}
use Rattle.condition_order.specs.tc_base.declared.request.Request.{Request}
use Rattle.condition_order.specs.tc_base.declared.request.Request.TheVariants.{Silent, WakeOne, Start}
use Rattle.sym_steps.specs.run_history.History.{Deed, Did}
use Rattle.sym_steps.specs.run_history.Told.{steps_in, is_thread_in}
use Rattle.sym_steps.specs.run_follows.Follow.{taken_in, may_do_in, OtherIs, MayFollow}
use Rattle.condition_order.specs.path_walk.Paths.{Walk, Paths, ArePaths, paths_of}
use Rattle.sym_steps.specs.path_laws.Setting.{Setting}
use Rattle.sym_steps.specs.path_laws.Deeds.{kind_of}
use Rattle.sym_steps.specs.path_laws.history.Along.{IsThread, PathThread}
use Rattle.sym_steps.specs.path_laws.history.Next.{IsNextOnPath}
use Rattle.sym_steps.proofs.path_laws.of_history.Next.{next_on_path}
use Rattle.sym_steps.proofs.path_laws.of_history.Stays.{step_stays}
use Rattle.sym_steps.proofs.path_laws.of_history.Walks.{thread_path_at}
use Rattle.condition_order.specs.sym_terms.declared.node.Node.{Node}
use Rattle.condition_order.specs.sym_exec.Executed.{Course, Executed}
use Rattle.sym_steps.specs.sym_laws.Valued.{found}
use Rattle.sym_steps.proofs.sym_laws.Follows.{found_at_log}
use Rattle.sym_steps.specs.Next.{kind_at, IsToldNext}
use Rattle.sym_steps.proofs.Told.{next_told}
use Rattle.condition_order.specs.order_formula.Worlds.{World}
use Rattle.condition_order.specs.order_formula.declared.group.Group.TheVariants.{Test}
use Rattle.condition_order.specs.lawful_order.Whole.{AreWhole, IsExecutedBy}
use Rattle.condition_order.proofs.order_events.Whole.{whole}
use Rattle.sym_events.proofs.Whole.{is_executed}
use Rattle.world_plan.specs.Going.{IsLawfulWorld}
use Rattle.world_plan.specs.Plan.{other_of, does_next}
use Rattle.world_plan.proofs.Threads.{one_thread}
use Rattle.plan_runs.proofs.Given.{Gone, Along}
use Rattle.plan_runs.proofs.Histories.{history_of, valued_of}

pub is_other : (paths : Paths) (w : World) (h : List Deed) (t : ℕ) (n : Name) (r : Request) → OtherIs h n r (other_of paths w h t n r)
is_other paths w h t n (Start f) = refl
is_other paths w h t n (WakeOne c) = tt
is_other paths w h t n Silent = refl
is_other paths w h t n r = refl

module _ {B : Type 0} (setting : Setting B) (nodes : List Node) (w : World) (l : IsLawfulWorld setting nodes w) where
  open setting use {ops, bound, code, log}

  abbrev paths : Paths
  paths = paths_of code log

  abbrev all : Executed
  all = found code log nodes

  are : ArePaths code paths
  are = record { log = log; fits = l.fits; are = refl }

  pub paths_whole : AreWhole paths
  paths_whole = whole code paths are

  pub paths_executed : IsExecutedBy paths all.symbolic
  paths_executed = is_executed code paths nodes are

  -- the execution of a thread
  pub course_of : (t : ℕ) (q : Walk) → IsThread code log t q → (c : Course) × (slice_get all.symbolic.threads t ≡ Some c) × (c.name ≡ q.name)
  course_of t q there =
      let p = thread_path_at code log t q there in
      (_, (found_at_log code log nodes setting.lawful setting.log_is l.terms t p.0 p.1).course, ap (λ (x : Walk). x.name) p.2)

  pub of_thread : (t j : ℕ) (q : Walk) (c : Course) → IsThread code log t q → slice_get all.symbolic.threads j ≡ Some c → c.name ≡ q.name → j ≡ t
  of_thread t j q c there at name =
      let within = slice_get_within all.symbolic.threads j c at in
      let v = get_or paths.threads j q in
      let other : IsThread code log j v = slice_get-get_or paths.threads j q (omega (arith, within, paths_executed.threads)) in
      let found = course_of j v other in
      let one : found.0 ≡ c = same_Some found.0 c (sym found.1 ∙ at) in
      one_thread code log setting.log_is j t v q other there (sym found.2 ∙ ap (λ (x : Course). x.name) one ∙ name)

  -- The next step of a thread.
  pub record NextIs (h : List Deed) (thread : PathThread code log) : Type 0 where
    pub course : Course
    pub there : slice_get all.symbolic.threads thread.index ≡ Some course
    pub name : course.name ≡ thread.name
    pub next : IsNextOnPath code h thread.walk
    pub request : Request
    pub told : IsToldNext w.loads h (record { thread = thread; course = course; executed = there }) next request

  module _ (p : ℕ) (h : List Deed) (gone : Gone setting nodes w p h) (thread : PathThread code log) where
    open thread use {index as t, walk as q}

    pub next_is : is_thread_in h q.name ≡ true → steps_in h q.name < length q.places → NextIs h thread
    next_is is_there left =
        let c = course_of t q thread.there in
        let x = next_on_path setting (history_of l gone) thread gone.going is_there left in
        let told = next_told setting nodes w.loads (valued_of l gone) (record { thread = thread; course = c.0; executed = c.1 }) x gone.going l.lives
        (λ y i step. (l.lawful.meets (Test t y.line)).tests c.0 y c.1 i refl) in
        record { course = c.0; there = c.1; name = c.2; next = x; request = told.0; told = told.1 }

    module _ (n : NextIs h thread) where
      abbrev k : ℕ
      k = steps_in h q.name

      abbrev pub other : Option Name
      other = other_of paths w h t q.name n.request

      abbrev pub deed : Deed
      deed = Did q.name k n.request (taken_in ops.buffered code h q.name n.request) other

      -- the step's event is that of the path
      pub kind_is : kind_of n.request other ≡ kind_at q k
      kind_is = n.told.event other (is_other paths w h t q.name n.request)

      pub does_it : does_next ops.buffered code paths w h t q.name ≡ deed ∷ []
      does_it =
          ap (λ o. option_map_or (λ r. Did q.name k r (taken_in ops.buffered code h q.name r) (other_of paths w h t q.name r) ∷ []) o []) n.told.asks

      module _ (may : may_do_in ops.buffered h q.name n.request other ≡ true) where
        pub follows : MayFollow ops.buffered bound code h deed
        follows = record { asks = n.told.asks; number = refl; may = may; takes = refl; other_is = is_other paths w h t q.name n.request }

        pub along : Along setting nodes w (h ++ deed ∷ [])
        along =
            step_stays setting (history_of l gone) thread gone.going n.next k n.request
            (taken_in ops.buffered code h q.name n.request) other follows n.told.branches
            (n.told.fails_so k (taken_in ops.buffered code h q.name n.request) other)
