-- Facts on each state that a run reaches.
use Rattle.std.proofs.Common.{◌≡◌, ◌∙◌, ℕ, ◌-◌, ◌≤◌, length, List, [], ◌++◌, false, IsTrue, Some}
use Rattle.std.proofs.Common.{refl, ap, sym, subst, arith, ℤ, pos, replicate, slice_get, nat_lt}
use Rattle.std.specs.Prelude.{◌==◌}
use Rattle.std.specs.Option.{option_map_or}
use Rattle.std.proofs.lemmas.Bool.{and_parts}
use Rattle.std.proofs.lemmas.Bool.Decides.{Decides-eqb}
use Rattle.std.proofs.lemmas.List.{length-replicate, length-append, length-map, length-set}
use Rattle.tc_code.specs.tc_base.Names.{Name}
use Rattle.tc_code.specs.tc_base.Buffers.{BufferOps}
use Rattle.tc_code.specs.tc_base.States.{Local, Thread, State}
use Rattle.tc_code.specs.tc_base.declared.handle.Handle.TheVariants.{Unset}
use Rattle.tc_code.specs.tc_base.declared.moves.Move.{Move}
use Rattle.tc_code.specs.tc_base.declared.moves.Move.TheVariants as move
use Rattle.tc_code.specs.Expr.{Expr}
use Rattle.tc_code.specs.declared.instr.Instr.{Instr}
use Rattle.tc_code.specs.declared.instr.Instr.TheVariants.{Create}
use Rattle.tc_code.specs.Code.{Code}
use Rattle.tc_code.specs.Lawful.{names_what_is, IsLawful}
use Rattle.tc_code.specs.declared.code.Func.{Func}
use Rattle.tc_code.specs.tc_base.declared.request.Request.{Request}
use Rattle.tc_code.specs.tc_base.declared.request.Request.TheVariants.{Write, Exchange, Acquire, Release, BeginWait, EndWait, WakeAll}
use Rattle.tc_code.specs.Step.{request, value_in, local_after, instr_of, ints_of, handles_of, born, perform, step, opening}
use Rattle.tc_code.specs.Run.{IsReached}
use Rattle.tc_code.proofs.Facts.{placed_next}
use Rattle.run_laws.specs.Whole.{IsWholeThread, IsWhole}
use Rattle.run_laws.proofs.Basics.{found, either}
use Rattle.run_laws.proofs.After.{HasAsMuch, after_has}
use Rattle.run_laws.proofs.Steps.{Went, step_went, holds_in_reached}
use Rattle.run_laws.proofs.AllThreads.{Keeps, all_after_step, all_at_opening}

-- the numbers of cells, mutexes and conditions stay the same
pub record SharesAsMuch {B : Type 0} (s u : State B) : Type 0 where
  pub memory : length u.memory ≡ length s.memory
  pub owners : length u.owners ≡ length s.owners
  pub waiters : length u.waiters ≡ length s.waiters

-- a thread with as many slots, handles and flags as a whole one is whole
whole_as : (code : Code) (old new : Local) → HasAsMuch old new → IsWholeThread code old → IsWholeThread code new
whole_as code old new h w =
    record {
      function = w.function;
      there = ap (slice_get code.functions) h.function ∙ w.there;
      slots = h.slots ∙ w.slots;
      handles = h.handles ∙ w.handles;
      held = h.held ∙ w.held;
    }

-- everything that the next instruction of a thread names exists
pub names_next : (code : Code) (t : Local) (i : Instr) (lawful : IsLawful code) (at : instr_of code t ≡ Some i)
    → IsTrue (names_what_is code (placed_next code t i lawful at).function i)
names_next code t i lawful at = let placed = placed_next code t i lawful at in placed.lawful.names t.instruction i placed.at

-- a function exists, and has slots for `n` values
pub record CanStart (code : Code) (f n : ℕ) : Type 0 where
  pub function : Func
  pub there : slice_get code.functions f ≡ Some function
  pub few : n ≤ function.ints

-- a function of lawful code has slots for its parameters
can_start : (code : Code) (f n : ℕ) (g : Func) → IsLawful code → slice_get code.functions f ≡ Some g → g.params ≡ n → CanStart code f n
can_start code f n g lawful there same =
    let params = (lawful.functions f g there).params in
    record { function = g; there = there; few = omega (arith, params, same) }

-- a create of lawful code starts a function that can take its arguments
pub create_starts : (code : Code) (g : Func) (h f : ℕ) (es : List Expr) → IsLawful code → IsTrue (names_what_is code g (Create h f es))
    → CanStart code f (length es)
create_starts code g h f es lawful names =
    let taken = found (λ g. g.params == length es) (slice_get code.functions f)
    (and_parts (nat_lt h g.handles) _ (and_parts _ _ names).0).1 in
    can_start code f (length es) taken.0 lawful taken.1 ((Decides-eqb _ _).0 taken.2)

-- values filled up to `n` are `n` values
filled_up : (vs : List ℤ) (n : ℕ) → length vs ≤ n → length (vs ++ replicate (n - length vs) (pos 0)) ≡ n
filled_up vs n few = omega (arith, few, length-append vs (replicate (n - length vs) (pos 0)), length-replicate (n - length vs) (pos 0))

module _ {B : Type 0} (ops : BufferOps B) (code : Code) where
  -- a new thread is whole
  born_is_whole : (f : ℕ) (vs : List ℤ) → CanStart code f (length vs) → IsWholeThread code (born ops code f vs).local
  born_is_whole f vs can =
      let ints : ints_of code f ≡ can.function.ints = ap (λ o. option_map_or (λ (g : Func). g.ints) o 0) can.there in
      let handles : handles_of code f ≡ can.function.handles = ap (λ o. option_map_or (λ (g : Func). g.handles) o 0) can.there in
      record {
        function = can.function;
        there = can.there;
        slots = filled_up vs (ints_of code f) (omega (arith, ints, can.few)) ∙ ints;
        handles = length-replicate (handles_of code f) Unset ∙ handles;
        held = length-replicate code.mutexes false;
      }

  -- each move keeps threads whole
  keeps_whole : IsLawful code → (s : State B) → Keeps ops code s (IsWholeThread code) (IsWholeThread code)
  keeps_whole lawful s = record {
    stays = λ t steps few w. whole_as code t (record t { steps = steps }) (record { function = refl; slots = refl; handles = refl; held = refl }) w;
    does = λ u n i g w. whole_as code g.before.local (local_after g.before.local i g.value) (after_has g.before.local i g.value) w;
    bears = λ u n h f es g w.
        let placed = placed_next code g.before.local (Create h f es) lawful g.at in
        born_is_whole f _ (subst (CanStart code f) (sym (length-map es (value_in g.before.local)))
        (create_starts code placed.function h f es lawful (names_next code g.before.local (Create h f es) lawful g.at)));
  }

  -- an instruction keeps the numbers of cells, mutexes and conditions
  pub performed_shares : (s : State B) (n : Name) (t : Thread B) (i : Instr) (r : Request) → SharesAsMuch s (perform ops code s n t i r)
  performed_shares s n t i (Write c v) =
      either (SharesAsMuch s) ops.buffered _ _ (record { memory = refl; owners = refl; waiters = refl })
      (record { memory = length-set s.memory c v; owners = refl; waiters = refl })
  performed_shares s n t i (Exchange c v) = record { memory = length-set s.memory c _; owners = refl; waiters = refl }
  performed_shares s n t i (Acquire m) = record { memory = refl; owners = length-set s.owners m _; waiters = refl }
  performed_shares s n t i (Release m) = record { memory = refl; owners = length-set s.owners m _; waiters = refl }
  performed_shares s n t i (BeginWait c m) = record { memory = refl; owners = length-set s.owners m _; waiters = length-set s.waiters c _ }
  performed_shares s n t i (EndWait c m) = record { memory = refl; owners = length-set s.owners m _; waiters = refl }
  performed_shares s n t i (WakeAll c) = record { memory = refl; owners = refl; waiters = length-set s.waiters c _ }
  performed_shares s n t i _ = record { memory = refl; owners = refl; waiters = refl }

  -- a move keeps the numbers of cells, mutexes and conditions
  went_shares : (s u : State B) (m : Move) → Went ops code s u m → SharesAsMuch s u
  went_shares s u (move.Run n) w = subst (SharesAsMuch s) (sym w.after) (performed_shares s n w.thread w.instr (request w.thread.local w.instr))
  went_shares s u (move.Wake n v) w =
      subst (SharesAsMuch s) (sym w.after) (record { memory = refl; owners = refl; waiters = length-set s.waiters w.condition _ })
  went_shares s u (move.Drain n form) w = subst (SharesAsMuch s) (sym w.after) (record { memory = length-set s.memory _ _; owners = refl; waiters = refl })

  -- each move keeps the numbers of cells, mutexes and conditions
  pub step_shares : (s u : State B) (m : Move) → step ops code s m ≡ Some u → SharesAsMuch s u
  step_shares s u m h = went_shares s u m (step_went ops code s u m h)

  -- each move keeps the state whole
  whole_after_step : IsLawful code → (s u : State B) (m : Move) → step ops code s m ≡ Some u → IsWhole code s → IsWhole code u
  whole_after_step lawful s u m h w =
      let shares = step_shares s u m h in
      record {
        cells = shares.memory ∙ w.cells;
        owners = shares.owners ∙ w.owners;
        waiters = shares.waiters ∙ w.waiters;
        threads = all_after_step ops code s u m (IsWholeThread code) (IsWholeThread code) (keeps_whole lawful s) h w.threads;
      }

  -- the state at the start is whole
  opening_is_whole : IsLawful code → IsWhole code (opening ops code)
  opening_is_whole lawful =
      let main = lawful.main in
      record {
        cells = refl;
        owners = length-replicate code.mutexes _;
        waiters = length-replicate code.conditions _;
        threads =
            all_at_opening ops code (IsWholeThread code) (born_is_whole (length code.functions - 1) []
            (can_start code (length code.functions - 1) 0 main.main lawful main.there main.params));
      }

  -- each state that a run of lawful code reaches is whole
  pub reached_is_whole : (s : State B) → IsLawful code → IsReached ops code s → IsWhole code s
  reached_is_whole s lawful = holds_in_reached ops code (IsWhole code) (opening_is_whole lawful) (λ v u m r one w. whole_after_step lawful v u m one w) s
