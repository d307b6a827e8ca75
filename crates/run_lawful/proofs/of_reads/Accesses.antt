-- The accesses of the paths, and the deeds that do them.
use Rattle.std.proofs.Common.{◌≡◌, ◌∙◌, inl, inr, ℕ, ◌<◌, ◌==◌, ℤ, pos, List, [], ◌∷◌, Option, Some, refl, sym, ap, subst, arith, slice_index_or}
use Rattle.std.specs.Prelude.{slice_get}
use Rattle.std.specs.List.{Contains}
use Rattle.std.proofs.lemmas.Bool.{cases_order}
use Rattle.std.proofs.lemmas.Option.{same_Some}
use Rattle.sym_events.specs.tc_base.Names.{Name}
use Rattle.sym_events.specs.tc_base.declared.moves.Move.{Move}
use Rattle.sym_events.specs.tc_base.declared.request.Request.{Request}
use Rattle.sym_events.specs.tc_code.Run.{Reproduces}
use Rattle.sym_steps.specs.run_history.History.{Deed, Did, history}
use Rattle.sym_steps.specs.run_history.Told.{steps_in}
use Rattle.sym_steps.proofs.run_history.of_pending.In.{In, in_split}
use Rattle.sym_events.specs.path_walk.Fits.{Fits}
use Rattle.sym_events.specs.path_walk.Paths.{Walk, Paths, paths_of}
use Rattle.sym_steps.specs.path_laws.Setting.{Setting}
use Rattle.sym_steps.specs.path_laws.history.Along.{IsThread, path_thread}
use Rattle.sym_steps.proofs.path_laws.of_history.Walks.{walk_is, thread_path_at}
use Rattle.sym_steps.proofs.path_laws.of_events.Events.{event_within}
use Rattle.sym_steps.proofs.path_laws.of_events.Lists.{contains_in, in_contains}
use Rattle.sym_events.specs.sym_terms.Terms.{AreTerms}
use Rattle.sym_events.specs.sym_terms.declared.node.Node.{Node}
use Rattle.sym_events.specs.sym_exec.Alone.{Asked, asked_by, asked_in, cell_by}
use Rattle.sym_events.specs.sym_exec.Executed.{Course, Symbolic}
use Rattle.sym_events.specs.sym_exec.declared.symbolic.Access.{Access}
use Rattle.sym_steps.specs.sym_laws.Valued.{AgreesWith, found}
use Rattle.sym_steps.proofs.sym_laws.Follows.{found_at_log}
use Rattle.sym_events.proofs.Whole.{is_executed}
use Rattle.sym_events.specs.order_formula.Worlds.{World}
use Rattle.sym_events.proofs.order_events.Lists.{in_at}
use Rattle.sym_events.specs.lawful_order.Cells.{is_same_cell, value_at_start}
use Rattle.sym_events.specs.lawful_order.Reads.{HasAccess}
use Rattle.sym_events.specs.lawful_order.Whole.{IsExecutedBy, HasStep}
use Rattle.sym_steps.specs.accesses.Asked.{IsAskedIn, IsReachedIn}
use Rattle.sym_steps.proofs.of_accesses.Asked.{access_asked, asked_access}
use Rattle.sym_steps.proofs.of_accesses.Reached.{same_cells, cell_begins}
use Rattle.run_lawful.proofs.of_world.Run.{fits, all_steps}
use Rattle.sym_steps.proofs.path_laws.of_history.Logged.{history_again}
use Rattle.sym_steps.specs.Valued.{ValuedHistory}

module _ {B : Type 0} (setting : Setting B) (nodes : List Node) (terms : AreTerms nodes) (moves : List Move)
    (again : Reproduces setting.ops setting.code setting.log moves) (w : World)
    (agrees : AgreesWith (found setting.code setting.log nodes).symbolic w.loads (history setting.ops setting.code moves)) where
  open setting use {ops, code, lawful, log, log_is as is}

  abbrev h : List Deed
  h = history ops code moves

  abbrev symbolic : Symbolic
  symbolic = (found code log nodes).symbolic

  abbrev later : List Node
  later = (found code log nodes).nodes

  abbrev paths : Paths
  paths = paths_of code log

  abbrev fit : Fits code log
  fit = fits setting moves again

  abbrev valued : ValuedHistory setting nodes w.loads
  valued = record { history = history_again setting moves again; terms = terms; agrees = agrees }

  executed_so : IsExecutedBy paths symbolic
  executed_so = is_executed code paths nodes (record { log = log; fits = fit; are = refl })

  -- each access is of a step of its thread
  pub access_step : (t : ℕ) (a : Access) → HasAccess symbolic t a → HasStep paths t a.step
  access_step t a has = let x = executed_so.accesses t a has in (x.0, x.1, x.2)

  access_walk : (t : ℕ) (a : Access) → HasAccess symbolic t a → (q : Walk) × IsThread code log t q × (a.step < steps_in h q.name)
  access_walk t a has =
      let x = executed_so.accesses t a has in
      let q = x.1.0 in
      let inside = event_within code log q (walk_is code log is fit (path_thread t q x.1.1)) x.0 (in_contains x.0 q.events x.1.2) in
      let many = all_steps setting moves again t q x.1.1 in
      (q, x.1.1, omega (arith, inside, many, x.2))

  access_reached : (t : ℕ) (a : Access) → HasAccess symbolic t a → IsReachedIn code log nodes h t a
  access_reached t a has =
      let q = access_walk t a has in record { walk = q.0; course = has.0; thread = q.1; there = has.1; among = has.2; reached = inl q.2 }

  -- two accesses are to one cell if their requests are, and its initial value is that of memory
  pub same_cell : (t : ℕ) (a : Access) (u : ℕ) (b : Access) → HasAccess symbolic t a → HasAccess symbolic u b
      → is_same_cell later w a.cell b.cell ≡ (cell_by later w.loads a.cell == cell_by later w.loads b.cell)
  same_cell t a u b has and =
      same_cells setting nodes w valued t u a b (access_reached t a has) (access_reached u b and)

  pub starts_so : (t : ℕ) (a : Access) → HasAccess symbolic t a
      → value_at_start code a.cell ≡ slice_index_or code.memory (cell_by later w.loads a.cell) (pos 0)
  starts_so t a has = cell_begins setting nodes w.loads valued t a (access_reached t a has)

  -- the deed of an access
  pub record HasDeed (t : ℕ) (a : Access) : Type 0 where
    pub walk : Walk
    pub thread : IsThread code log t walk
    pub asked : IsAskedIn h walk.name a.step (asked_in later w.loads a)

  pub deed_of : (t : ℕ) (a : Access) → HasAccess symbolic t a → HasDeed t a
  deed_of t a has =
      let q = access_walk t a has in
      record {
        walk = q.0;
        thread = q.1;
        asked = access_asked setting nodes w.loads valued (record { thread = path_thread t q.0 q.1; course = has.0; executed = has.1 }) a
            (in_contains a has.0.accesses has.2) q.2;
      }

  -- the access of a deed's request
  pub access_of : (t : ℕ) (q : Walk) (k : ℕ) (r : Request) (took : ℤ) (other : Option Name) (x : Asked) → IsThread code log t q
      → In (Did q.name k r took other) h → asked_by took r ≡ x ∷ []
      → (a : Access) × HasAccess symbolic t a × (a.step ≡ k) × (asked_in later w.loads a ≡ x)
  access_of t q k r took other x there i asks =
      let c = course_at t q there in
      let s = in_split (Did q.name k r took other) h i in
      let d : IsAskedIn h q.name k x = record { older = s.older; newer = s.newer; request = r; took = took; other = other; there = s.there; asks = asks } in
      let a = asked_access setting nodes w.loads valued (record { thread = path_thread t q there; course = c.0; executed = c.1 }) k x d in
      (a.0, (c.0, c.1, contains_in a.0 c.0.accesses a.1), a.2, a.3)
    where
      course_at : (t : ℕ) (q : Walk) → IsThread code log t q → (c : Course) × (slice_get symbolic.threads t ≡ Some c)
      course_at t q there = let p = thread_path_at code log t q there in (_, (found_at_log code log nodes lawful is terms t p.0 p.1).course)

  -- a thread has one access in a step
  pub one_access : (t : ℕ) (a b : Access) → HasAccess symbolic t a → HasAccess symbolic t b → a.step ≡ b.step → a ≡ b
  one_access t a b has and step =
      let same : and.0 ≡ has.0 = same_Some and.0 has.0 (sym and.1 ∙ has.1) in
      let i = in_at has.0.accesses a has.2 in
      let j = in_at has.0.accesses b (subst (λ (c : Course). Contains c.accesses b) same and.2) in
      elim (cases_order i.0 j.0) [
        | inl even ↦ same_Some a b (sym i.1 ∙ ap (slice_get has.0.accesses) even ∙ j.1)
        | inr (inl less) ↦ absurd (omega (arith, step, executed_so.rise t i.0 j.0 has.0 a b has.1 i.1 j.1 less))
        | inr (inr more) ↦ absurd (omega (arith, step, executed_so.rise t j.0 i.0 has.0 b a has.1 j.1 i.1 more))
      ]
