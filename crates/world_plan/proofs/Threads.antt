-- The threads of paths have different names, and at most one of them fails, with its last step.
use Rattle.std.proofs.Common.{◌≡◌, ◌∙◌, ℕ, suc, ◌+◌, ◌==◌, ◌&&◌, Bool, true, false, length, take, drop, Some, refl, sym, ap, arith}
use Rattle.std.specs.List.{Contains}
use Rattle.std.proofs.lemmas.Bool.{false≢true, eqb-true, and_parts}
use Rattle.std.proofs.lemmas.List.{length-drop, length-map}
use Rattle.std.proofs.lemmas.Option.{slice_get_within}
use Rattle.order_events.specs.run_log.Logs.{Log}
use Rattle.order_events.specs.tc_base.declared.failing.Failing.{Failing}
use Rattle.order_events.specs.tc_base.declared.failing.Failing.TheVariants as failing
use Rattle.order_events.specs.tc_code.Code.{Code}
use Rattle.order_events.specs.tc_code.declared.instr.Instr.{Instr}
use Rattle.order_events.specs.tc_code.declared.instr.Instr.TheVariants.{Exit}
use Rattle.order_events.specs.run_log.Logs.{is_log}
use Rattle.order_events.specs.path_walk.Events.{asks, kind_with}
use Rattle.order_events.specs.path_walk.Fits.{fails_in, Fits}
use Rattle.order_events.specs.path_walk.Marks.{Marks, marks_at_start, marks_after}
use Rattle.order_events.specs.path_walk.Paths.{Walk}
use Rattle.order_events.specs.path_walk.Steps.{step_at, steps_at}
use Rattle.order_events.specs.path_walk.declared.event.Event.{Event}
use Rattle.order_events.specs.path_walk.declared.event.EventKind.TheVariants as kind
use Rattle.sym_laws.specs.path_laws.history.Along.{IsThread, path_thread}
use Rattle.sym_laws.proofs.path_laws.of_history.Walks.{thread_path_at, walk_is}
use Rattle.sym_laws.proofs.path_laws.of_events.Events.{at_step}
use Rattle.sym_laws.proofs.path_laws.of_events.Lists.{in_contains}
use Rattle.sym_laws.specs.sym_exec.Executed.{has_failed}
use Rattle.sym_laws.proofs.Names.{one_place, failing_is}

one_fails : (f : Failing) (t u : ℕ) → has_failed f t ≡ true → has_failed f u ≡ true → t ≡ u
one_fails (failing.Thread k) t u a b = eqb-true t k a ∙ sym (eqb-true u k b)
one_fails failing.Deadlock t u a b = absurd (false≢true a)

-- no instruction asks for a failure by itself
no_failure : (m : Marks) (i : Instr) → asks m i ≡ Some kind.Fail → ⊥
no_failure m Exit e = cc
no_failure m i e = cc

to_fail : (m : Marks) (i : Instr) (b : Bool) → kind_with m i b ≡ Some kind.Fail → b ≡ true
to_fail m i true e = refl
to_fail m i false e = absurd (no_failure m i e)

module _ (code : Code) (log : Log) (is : is_log log ≡ true) where
  pub one_thread : (t u : ℕ) (p q : Walk) → IsThread code log t p → IsThread code log u q → p.name ≡ q.name → t ≡ u
  one_thread t u p q at bt same =
      let a = thread_path_at code log t p at in
      let b = thread_path_at code log u q bt in
      one_place log is t u a.0 b.0 a.1 b.1 (ap (λ (x : Walk). x.name) a.2 ∙ same ∙ sym (ap (λ (x : Walk). x.name) b.2))

  -- a thread fails if the log says so for its place
  pub fails_by_place : (t : ℕ) (q : Walk) → IsThread code log t q → fails_in log q.name ≡ has_failed log.failing t
  fails_by_place t q at =
      let a = thread_path_at code log t q at in
      ap (λ (x : Walk). fails_in log x.name) (sym a.2) ∙ failing_is log is t a.0 a.1

  pub one_failing : (t u : ℕ) (p q : Walk) → IsThread code log t p → IsThread code log u q → fails_in log p.name ≡ true
      → fails_in log q.name ≡ true → t ≡ u
  one_failing t u p q at bt a b = one_fails log.failing t u (sym (fails_by_place t p at) ∙ a) (sym (fails_by_place u q bt) ∙ b)

  -- an event that fails is the last step of the failing thread
  pub fail_is_last : Fits code log → (t : ℕ) (q : Walk) (x : Event) → IsThread code log t q → Contains q.events x → x.kind ≡ kind.Fail
      → (fails_in log q.name ≡ true) × (x.step + 1 ≡ length q.places)
  fail_is_last fits t q x there i fail =
      let ss = steps_at code q.function q.places in
      let e = at_step code log q (walk_is code log is fits (path_thread t q there)) x (in_contains x q.events i) in
      let both = and_parts (fails_in log q.name) (length (drop (suc e.place) ss) == 0)
      (to_fail (marks_after (marks_at_start code q.function) (take e.place ss)) e.step.instr (fails_in log q.name && length (drop (suc e.place) ss) == 0) (e.asks ∙ ap (λ a. Some a) fail)) in
      let rest = eqb-true (length (drop (suc e.place) ss)) 0 both.1 in
      let within = slice_get_within ss e.place e.step e.there in
      let long = length-map q.places (step_at code q.function) in
      (both.0, omega (arith, e.number, rest, within, long, length-drop (suc e.place) ss))
