-- The kinds of moves: a run, a wake or a drain, of an existing thread.
use Rattle.std.proofs.Common.{◌≡◌, ℕ, ◌&&◌, IsTrue, Option, Some, None, refl, sym}
use Rattle.std.specs.Prelude.{is_some, if◌then◌else◌}
use Rattle.std.specs.FinMap as fin
use Rattle.std.specs.FinSet as set
use Rattle.std.proofs.lemmas.Bool.{and_parts}
use Rattle.std.proofs.lemmas.Option.{none-some, option_and_then_some, cond_some}
use Rattle.tc_code.specs.tc_base.Names.{Name}
use Rattle.tc_code.specs.tc_base.Buffers.{BufferOps}
use Rattle.tc_code.specs.tc_base.States.{Thread, State}
use Rattle.tc_code.specs.tc_base.declared.moves.Move.{Move}
use Rattle.tc_code.specs.tc_base.declared.moves.Move.TheVariants as move
use Rattle.tc_code.specs.declared.instr.Instr.{Instr}
use Rattle.tc_code.specs.declared.instr.Instr.TheVariants.{Signal}
use Rattle.tc_code.specs.Code.{Code}
use Rattle.tc_code.specs.Step.{request, instr_of, allows, perform, waiting_on, state_after_wake, state_after_drain, step, move_of, run_of, wake_of, drain_of, opening}
use Rattle.tc_code.specs.Run.{IsReached}
use Rattle.tc_code.proofs.Facts.{kept_by_run, opening_is_reached, step_is_reached}
use Rattle.run_laws.proofs.Basics.{unless}

module _ {B : Type 0} (ops : BufferOps B) (code : Code) where
  -- a thread does an instruction that is allowed
  pub record Ran (s u : State B) (n : Name) : Type 0 where
    pub thread : Thread B
    pub there : fin.get s.threads n ≡ Some thread
    pub instr : Instr
    pub at : instr_of code thread.local ≡ Some instr
    pub allowed : IsTrue (allows ops s n thread (request thread.local instr))
    pub after : u ≡ perform ops code s n thread instr (request thread.local instr)

  -- a thread signals a condition, and wakes one that waits on it
  pub record Woke (s u : State B) (n waiter : Name) : Type 0 where
    pub thread : Thread B
    pub there : fin.get s.threads n ≡ Some thread
    pub condition : ℕ
    pub at : instr_of code thread.local ≡ Some (Signal condition)
    pub empty : IsTrue (ops.is_empty thread.buffer)
    pub waits : IsTrue (set.contains (waiting_on s condition) waiter)
    pub after : u ≡ state_after_wake ops s n waiter thread condition

  -- a store of a thread drains
  pub record Drained (s u : State B) (n : Name) (form : Option ℕ) : Type 0 where
    pub thread : Thread B
    pub there : fin.get s.threads n ≡ Some thread
    pub may : IsTrue (ops.may_drain thread.buffer form)
    pub after : u ≡ state_after_drain ops s n thread form

  -- a move by its kind
  abbrev pub Went : State B → State B → Move → Type 0
  Went s u (move.Run n) = Ran s u n
  Went s u (move.Wake n v) = Woke s u n v
  Went s u (move.Drain n form) = Drained s u n form

  -- a wake comes from a signal
  woke_at : (s u : State B) (n v : Name) (t : Thread B) (i : Instr) → fin.get s.threads n ≡ Some t → instr_of code t.local ≡ Some i
      → wake_of ops s n v t i ≡ Some u → Woke s u n v
  woke_at s u n v t (Signal c) there at h =
      let may = cond_some (ops.is_empty t.buffer && set.contains (waiting_on s c) v) _ u h in
      let both = and_parts (ops.is_empty t.buffer) _ may.0 in
      record {
        thread = t;
        there = there;
        condition = c;
        at = at;
        empty = both.0;
        waits = both.1;
        after = sym may.1;
      }
  woke_at s u n v t _ there at h = absurd (none-some u h)

  -- an enabled move is of its kind, if no thread has failed
  went : (s u : State B) (m : Move) → move_of ops code s m ≡ Some u → Went s u m
  went s u (move.Run n) h =
      option_and_then_some _ (fin.get s.threads n) u h (λ t there g.
      option_and_then_some (run_of ops code s n t) (instr_of code t.local) u g (λ i at k.
      let may = cond_some (allows ops s n t (request t.local i)) _ u k in
      record { thread = t; there = there; instr = i; at = at; allowed = may.0; after = sym may.1 }))
  went s u (move.Wake n v) h =
      option_and_then_some _ (fin.get s.threads n) u h (λ t there g.
      option_and_then_some (wake_of ops s n v t) (instr_of code t.local) u g (λ i at k. woke_at s u n v t i there at k))
  went s u (move.Drain n form) h =
      option_and_then_some (λ t. drain_of ops s n t form) (fin.get s.threads n) u h (λ t there g.
      let may = cond_some (ops.may_drain t.buffer form) _ u g in
      record { thread = t; there = there; may = may.0; after = sym may.1 })

  -- before each move no thread has failed
  pub none_failed : (s u : State B) (m : Move) → step ops code s m ≡ Some u → s.failed ≡ None
  none_failed s u m h = still_none s.failed h
    where
      still_none : (o : Option Name) → (if is_some o then None else move_of ops code s m) ≡ Some u → o ≡ None
      still_none None h = refl
      still_none (Some n) h = absurd (none-some u h)

  -- each move is of its kind
  pub step_went : (s u : State B) (m : Move) → step ops code s m ≡ Some u → Went s u m
  step_went s u m h = went s u m (unless (is_some s.failed) _ u h).1

  -- what holds at the start and what each move keeps holds in each reached state
  pub holds_in_reached : (P : State B → Type 0) → P (opening ops code)
      → ((s u : State B) (m : Move) → IsReached ops code s → step ops code s m ≡ Some u → P s → P u) → (s : State B) → IsReached ops code s → P s
  holds_in_reached P start keeps s r =
      (kept_by_run ops code (λ u. IsReached ops code u × P u) (λ v u m one h. (step_is_reached ops code v u m one h.0, keeps v u m h.0 one h.1))
      (opening ops code) s r.moves r.leads (opening_is_reached ops code, start)).1
