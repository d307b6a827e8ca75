-- The effect of a move on the threads and on the failure.
use Rattle.std.proofs.Common.{◌≡◌, ◌≢◌, ◌∙◌, inl, inr, ℕ, ◌≤◌, ◌<◌, ℤ, Bool, true, false, List, [], ◌++◌, Option, Some, None}
use Rattle.std.proofs.Common.{refl, sym, ap, subst, arith, append-nil, bytes_eq, true≢false}
use Rattle.std.specs.FinMap as fin
use Rattle.std.proofs.lemmas.Option.{none-some}
use Rattle.path_walk.specs.tc_base.Buffers.{BufferOps}
use Rattle.path_walk.specs.tc_base.Names.{Name}
use Rattle.path_walk.specs.tc_base.States.{Local, Thread, State}
use Rattle.path_walk.specs.tc_base.declared.moves.Move.{Move}
use Rattle.path_walk.specs.tc_base.declared.moves.Move.TheVariants as move
use Rattle.path_walk.specs.tc_base.declared.request.Request.{Request}
use Rattle.path_walk.specs.tc_base.declared.request.Request.TheVariants.{Write, WakeOne, Fail}
use Rattle.path_walk.specs.tc_code.Code.{Code}
use Rattle.path_walk.specs.tc_code.declared.instr.Instr.{Instr}
use Rattle.path_walk.specs.tc_code.declared.instr.Instr.TheVariants.{Signal}
use Rattle.path_walk.specs.tc_code.Run.{IsReached}
use Rattle.path_walk.specs.tc_code.Step.{request, local_after, instr_of, perform, state_after_wake, step}
use Rattle.path_walk.specs.tc_code.Step as machine
use Rattle.path_walk.proofs.tc_base.Names.{same_true, same_refl}
use Rattle.run_follows.proofs.run_laws.Changes.{is_fail}
use Rattle.run_follows.proofs.run_laws.Names.{same_or_apart, one_under, get_put, get_put_apart}
use Rattle.run_follows.proofs.run_laws.Steps.{Went, step_went, none_failed}
use Rattle.run_follows.specs.run_history.History.{value_taken}
use Rattle.run_follows.specs.run_history.Locals.{after_step}
use Rattle.run_follows.proofs.run_laws.Basics.{by_bool}
use Rattle.run_follows.proofs.run_history.Shared.{store_as}
use Rattle.run_follows.proofs.run_history.Threads.{own, with_born, performed_threads, find, steps_by, Its_own, Its_child, Another}
use Rattle.path_laws.specs.Prefixes.{fails_by}
use Rattle.path_laws.proofs.Local.{moves}

-- different names aren't equal as lists
pub bytes_other : (q n : Name) → q ≢ n → bytes_eq q n ≡ false
bytes_other q n apart = by (bytes_eq q n) refl
  where
    by : (b : Bool) → bytes_eq q n ≡ b → b ≡ false
    by true e = absurd (apart (same_true q n e))
    by false e = refl

-- the thread that failed after a request
abbrev pub failed_after : Request → Name → Option Name
failed_after Fail n = Some n
failed_after _ n = None

-- the thread of a request has failed exactly if the request is a failure
pub own_fails : (r : Request) (n : Name) → fails_by (failed_after r n) n ≡ is_fail r
own_fails Fail n = same_refl n
own_fails _ n = refl

-- no other thread failed
pub none_else_fails : (r : Request) (n q : Name) → q ≢ n → fails_by (failed_after r n) q ≡ false
none_else_fails Fail n q apart = bytes_other q n apart
none_else_fails _ n q apart = refl

-- a thread has gone on: it has as many steps or more, and its outcomes begin with the old ones
pub record GoesOn (t u : Local) : Type 0 where
  pub steps : t.steps ≤ u.steps
  pub more : List Bool
  pub outcomes : u.outcomes ≡ t.outcomes ++ more

-- an unchanged thread has gone on
pub stays : (t : Local) → GoesOn t t
stays t = record { steps = omega arith; more = []; outcomes = sym (append-nil t.outcomes) }

-- a thread goes on by each instruction that doesn't fail
moved_on : (t : Local) (i : Instr) (v : ℤ) → GoesOn t (local_after t i v)
moved_on t i v = let m = moves t i v in record { steps = omega (arith, m.steps); more = m.more; outcomes = m.outcomes }

-- a thread goes on by each step
step_goes_on : (t : Local) (i : Instr) (r : Request) (v : ℤ) → GoesOn t (after_step t i r v)
step_goes_on t i Fail v = record { steps = omega arith; more = []; outcomes = sym (append-nil t.outcomes) }
step_goes_on t i _ v = moved_on t i v

module _ {B : Type 0} (ops : BufferOps B) (code : Code) where
  -- the failed thread after a request
  pub failed_is : (s : State B) (n : Name) (t : Thread B) (i : Instr) (r : Request) → s.failed ≡ None → (perform ops code s n t i r).failed ≡ failed_after r n
  failed_is s n t i (Write c v) going = by_bool (λ b. (store_as ops code s n t i c v b).failed ≡ None) ops.buffered going going
  failed_is s n t i Fail going = refl
  failed_is s n t i _ going = going

  -- a thread does the instruction at its place, which has this request
  pub record Does (s u : State B) (n : Name) (t : Thread B) (i : Instr) (r : Request) : Type 0 where
    pub there : fin.get s.threads n ≡ Some t
    pub at : instr_of code t.local ≡ Some i
    pub asks : request t.local i ≡ r
    pub threads : u.threads ≡ with_born ops code n t i r (fin.insert s.threads n (own ops code s t i r))
    pub failed : u.failed ≡ failed_after r n

  -- a drain changes only a buffer
  pub record Drains (s u : State B) (n : Name) (t : Thread B) (b : B) : Type 0 where
    pub there : fin.get s.threads n ≡ Some t
    pub threads : u.threads ≡ fin.insert s.threads n (record t { buffer = b })
    pub failed : u.failed ≡ None

  -- the effect of a move
  pub data Change (s u : State B) : Type 0 where
    By_step : (n : Name) (t : Thread B) (i : Instr) (r : Request) → Does s u n t i r → Change s u
    By_drain : (n : Name) (t : Thread B) (b : B) → Drains s u n t b → Change s u

  -- a run move does a step
  pub ran_does : (s : State B) (n : Name) (t : Thread B) (i : Instr) (r : Request) → s.failed ≡ None → fin.get s.threads n ≡ Some t
      → instr_of code t.local ≡ Some i → request t.local i ≡ r → Does s (perform ops code s n t i r) n t i r
  ran_does s n t i r going there at asks =
      record { there = there; at = at; asks = asks; threads = performed_threads ops code s n t i r; failed = failed_is s n t i r going }

  -- a wake move does a step
  pub woke_does : (s : State B) (n v : Name) (t : Thread B) (c : ℕ) → s.failed ≡ None → fin.get s.threads n ≡ Some t
      → instr_of code t.local ≡ Some (Signal c) → Does s (state_after_wake ops s n v t c) n t (Signal c) (WakeOne c)
  woke_does s n v t c going there at = record { there = there; at = at; asks = refl; threads = refl; failed = going }

  -- a drain move drains a buffer
  pub flush_drains : (s : State B) (n : Name) (t : Thread B) (form : Option ℕ) → s.failed ≡ None → fin.get s.threads n ≡ Some t
      → Drains s (machine.state_after_drain ops s n t form) n t (ops.drain t.buffer form).rest
  flush_drains s n t form going there = record { there = there; threads = refl; failed = going }

  -- the effect of a move, by its kind
  went_so : (s u : State B) (m : Move) → s.failed ≡ None → Went ops code s u m → Change s u
  went_so s u (move.Run n) going g =
      By_step n g.thread g.instr (request g.thread.local g.instr)
      (subst (λ x. Does s x n g.thread g.instr (request g.thread.local g.instr)) (sym g.after) (ran_does s n g.thread g.instr _ going g.there g.at refl))
  went_so s u (move.Wake n v) going g =
      By_step n g.thread (Signal g.condition) (WakeOne g.condition)
      (subst (λ x. Does s x n g.thread (Signal g.condition) (WakeOne g.condition)) (sym g.after) (woke_does s n v g.thread g.condition going g.there g.at))
  went_so s u (move.Drain n form) going g =
      By_drain n g.thread (ops.drain g.thread.buffer form).rest
      (subst (λ x. Drains s x n g.thread (ops.drain g.thread.buffer form).rest) (sym g.after) (flush_drains s n g.thread form going g.there))

  -- each move has one of these effects
  pub change_of : (s u : State B) (m : Move) → step ops code s m ≡ Some u → Change s u
  change_of s u m one = went_so s u m (none_failed ops code s u m one) (step_went ops code s u m one)

  -- the thread of a step exists after it
  pub own_there : (s u : State B) (n : Name) (t : Thread B) (i : Instr) (r : Request) → IsReached ops code s → Does s u n t i r
      → fin.get u.threads n ≡ Some (own ops code s t i r)
  own_there s u n t i r reached d =
      elim (find ops code s u n t i r reached d.there d.threads n) [
        | Its_own e there ↦ there
        | Its_child f vs other there new made ↦ absurd (other refl)
        | Another other there none ↦ absurd (other refl)
      ]

  -- a thread still exists, has gone on, and has done a step if it has failed
  pub record IsStillThere (s u : State B) (q : Name) (t : Thread B) : Type 0 where
    pub thread : Thread B
    pub there : fin.get u.threads q ≡ Some thread
    pub goes : GoesOn t.local thread.local
    pub fails : fails_by u.failed q ≡ true → t.local.steps < thread.local.steps

  -- each thread still exists after a step
  still_stepped : (s u : State B) (n : Name) (t : Thread B) (i : Instr) (r : Request) → IsReached ops code s → Does s u n t i r
      → (q : Name) (x : Thread B) → fin.get s.threads q ≡ Some x → IsStillThere s u q x
  still_stepped s u n t i r reached d q x here =
      elim (find ops code s u n t i r reached d.there d.threads q) [
        | Its_own e there ↦
            let steps = steps_by t.local i r (value_taken ops code s t r) in
            subst (IsStillThere s u q) (sym (one_under s.threads q n x t e here d.there))
            (record {
              thread = own ops code s t i r;
              there = there;
              goes = step_goes_on t.local i r (value_taken ops code s t r);
              fails = λ f. omega (arith, steps);
            })
        | Its_child f vs other there new made ↦ absurd (none-some x (sym new ∙ here))
        | Another other there none ↦
            record {
              thread = x;
              there = there ∙ here;
              goes = stays x.local;
              fails = λ f. absurd (true≢false (sym f ∙ ap (λ o. fails_by o q) d.failed ∙ none_else_fails r n q other));
            }
      ]

  -- what doesn't depend on the buffer stays the same after a drain
  pub unchanged : {X : Type 0} (s u : State B) (n : Name) (t : Thread B) (b : B) → Drains s u n t b → (f : Option (Thread B) → X)
      → f (Some t) ≡ f (Some (record t { buffer = b })) → (q : Name) → f (fin.get u.threads q) ≡ f (fin.get s.threads q)
  unchanged s u n t b d f blind q =
      ap (λ ts. f (fin.get ts q)) d.threads
      ∙ elim (same_or_apart q n) [
        | inl e ↦
            ap (λ m. f (fin.get (fin.insert s.threads n (record t { buffer = b })) m)) e
            ∙ ap f (get_put s.threads n _) ∙ sym blind ∙ ap f (sym d.there) ∙ ap (λ m. f (fin.get s.threads m)) (sym e)
        | inr other ↦ ap f (get_put_apart s.threads n _ q other)
      ]

  -- each thread still exists after a drain
  still_drained : (s u : State B) (n : Name) (t : Thread B) (b : B) → Drains s u n t b → (q : Name) (x : Thread B) → fin.get s.threads q ≡ Some x
      → IsStillThere s u q x
  still_drained s u n t b d q x here =
      elim (same_or_apart q n) [
        | inl e ↦
            let same = one_under s.threads q n x t e here d.there in
            record {
              thread = record t { buffer = b };
              there = ap (λ ts. fin.get ts q) d.threads ∙ ap (fin.get (fin.insert s.threads n (record t { buffer = b }))) e ∙ get_put s.threads n _;
              goes = subst (λ (y : Thread B). GoesOn y.local t.local) (sym same) (stays t.local);
              fails = none_fails;
            }
        | inr other ↦
            record {
              thread = x;
              there = ap (λ ts. fin.get ts q) d.threads ∙ get_put_apart s.threads n _ q other ∙ here;
              goes = stays x.local;
              fails = none_fails;
            }
      ]
    where
      none_fails : {X : Type 0} → fails_by u.failed q ≡ true → X
      none_fails f = absurd (true≢false (sym f ∙ ap (λ o. fails_by o q) d.failed))

  -- each thread still exists after each move
  pub still_there : (s u : State B) → IsReached ops code s → Change s u → (q : Name) (x : Thread B) → fin.get s.threads q ≡ Some x → IsStillThere s u q x
  still_there s u reached (By_step n t i r d) q x here = still_stepped s u n t i r reached d q x here
  still_there s u reached (By_drain n t b d) q x here = still_drained s u n t b d q x here
