-- Rounds of a loop that change nothing.
use Rattle.std.specs.Prelude.{◌≡◌, ◌≢◌, ◌<◌, ◌≤◌, ℕ, Bool, true, false, not, Option, Some, option_and_then, option_map, length, List, ◌∷◌, ◌++◌, IsTrue, filter, slice_index_or}
use Rattle.std.specs.List.{list_any}
use Rattle.std.specs.Option.{option_map_or}
use Rattle.std.specs.Ordering.{int_eq}
use Rattle.std.specs.FinMap as fin
use Rattle.run_laws.specs.tc_base.Names.{Name}
use Rattle.run_laws.specs.tc_base.Buffers.{BufferOps}
use Rattle.run_laws.specs.tc_base.States.{Local, Thread, State}
use Rattle.run_laws.specs.tc_base.declared.moves.Move.{Move}
use Rattle.run_laws.specs.tc_base.declared.moves.Move.TheVariants as move
use Rattle.run_laws.specs.tc_base.declared.request.Request.{Request}
use Rattle.run_laws.specs.tc_base.declared.request.Request.TheVariants.{Silent, Read, Exchange, Acquire, Release, OrderStores}
use Rattle.run_laws.specs.tc_code.Code.{Code}
use Rattle.run_laws.specs.tc_code.int_ops.Updates.{updated}
use Rattle.run_laws.specs.tc_code.Step.{request, instr_of, in_memory}
use Rattle.run_laws.specs.tc_code.Run.{run, run_from}
use Rattle.run_laws.specs.Alone.{same}
use Rattle.pure_turns.specs.Live.{Liveness, AgreeWhereLive, AreAlike}

-- whether a request changes nothing that other threads can use: an exchange writes back what it
-- read, and an unlock is of a mutex that the thread didn't hold at the turn's beginning
abbrev pub is_pure : {B : Type 0} → State B → (held : List Bool) → Request → Bool
is_pure s held Silent = true
is_pure s held (Read c) = true
is_pure s held OrderStores = true
is_pure s held (Exchange c u) = int_eq (updated u (in_memory s c)) (in_memory s c)
is_pure s held (Acquire m) = true
is_pure s held (Release m) = not (slice_index_or held m false)
is_pure s held _ = false

-- whether a move is a step of the thread
abbrev pub is_step_of : Name → Move → Bool
is_step_of n (move.Run q) = same n q
is_step_of n (move.Wake q u) = same n q
is_step_of n (move.Drain q form) = false

-- the moves except the steps of a thread
abbrev pub without_steps_of : Name → List Move → List Move
without_steps_of n moves = filter (λ m. not (is_step_of n m)) moves

-- a thread has taken fewer steps than another, and has no more outcomes
pub record IsBehind (t u : Local) : Type 0 where
  pub steps : t.steps < u.steps
  pub outcomes : length t.outcomes ≤ length u.outcomes

-- two states are the same but for one thread, which has the same buffer in both, is at the same
-- place, differs at most in slots that aren't live there, and has taken fewer steps in the first
pub record IsSameBut {B : Type 0} (live : Liveness) (n : Name) (v w : State B) : Type 0 where
  pub shared : v ≡ record w { threads = v.threads }
  pub others : (q : Name) → q ≢ n → fin.get v.threads q ≡ fin.get w.threads q
  pub less : Local
  pub more : Local
  pub buffer : B
  pub before : fin.get v.threads n ≡ Some (record { local = less; buffer = buffer })
  pub after : fin.get w.threads n ≡ Some (record { local = more; buffer = buffer })
  pub alike : AreAlike live less more
  pub behind : IsBehind less more

-- each thread has at most k outcomes
abbrev pub HasOutcomesUpTo : {B : Type 0} → ℕ → State B → Type 0
HasOutcomesUpTo {B} k s =
    (n : Name) (t : Thread B) → fin.get s.threads n ≡ Some t → length t.local.outcomes ≤ k

module _ {B : Type 0} (ops : BufferOps B) (code : Code) where
  -- what a thread asks next, if it exists and has not exited
  abbrev pub asks : State B → Name → Option Request
  asks s n =
      option_and_then (λ t. option_map (request t.local) (instr_of code t.local))
      (fin.get s.threads n)

  -- each step of a thread in these moves is pure; held is what it held before them
  abbrev pub StepsArePure : Name → List Bool → State B → List Move → Type 0
  StepsArePure n held s moves =
      (older newer : List Move) (m : Move) (u : State B) → moves ≡ older ++ m ∷ newer
      → run_from ops code s older ≡ Some u → is_step_of n m ≡ true
      → IsTrue (option_map_or (is_pure u held) (asks u n) false)

  -- these moves from a state are a pure turn of a thread: it takes some steps, all of them pure,
  -- comes back to its place with the same value in each slot that is live there, and holds the same
  pub record IsPureTurn (live : Liveness) (n : Name) (s : State B)
      (moves : List Move) : Type 0 where
    pub state : State B
    pub leads : run_from ops code s moves ≡ Some state
    pub steps : list_any (is_step_of n) moves ≡ true
    pub first : Thread B
    pub last : Thread B
    pub begins : fin.get s.threads n ≡ Some first
    pub ends : fin.get state.threads n ≡ Some last
    pub pure : StepsArePure n first.local.held s moves
    pub back : last.local.instruction ≡ first.local.instruction
    pub slots : AgreeWhereLive live first.local last.local
    pub held : first.local.held ≡ last.local.held

  -- no part of a run is a pure turn
  abbrev pub HasNoPureTurn : Liveness → List Move → Type 0
  HasNoPureTurn live moves =
      (older turn newer : List Move) (n : Name) (s : State B) → moves ≡ older ++ turn ++ newer
      → run ops code older ≡ Some s → IsPureTurn live n s turn → ⊥

  -- without the thread's steps in the turn the moves are fewer, and lead to the same state, except
  -- for the thread
  pub record ComesOut (live : Liveness) (n : Name) (older turn newer : List Move)
      (w : State B) : Type 0 where
    pub state : State B
    pub leads : run ops code (older ++ without_steps_of n turn ++ newer) ≡ Some state
    pub fewer : length (without_steps_of n turn) < length turn
    pub same : IsSameBut live n state w
