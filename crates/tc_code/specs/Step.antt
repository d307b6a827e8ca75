-- One step of the machine, for every memory model.
use Rattle.std.specs.Prelude.{ℕ, ◌+◌, ◌-◌, ◌==◌, ℤ, pos, List, [], ◌∷◌, ◌++◌, length, map, Bool, true, false, not, ◌&&◌}
use Rattle.std.specs.Prelude.{◌||◌, is_some, is_none, Option, Some, None, unwrap_or, option_and_then, slice_get, slice_set}
use Rattle.std.specs.Prelude.{slice_index_or, if◌then◌else◌, replicate, unsigned_abs, int_lt, int_le}
use Rattle.std.specs.Option.{option_map_or}
use Rattle.std.specs.Ordering.{nat_cmp, int_eq}
use Rattle.std.specs.Cmp.Lexicographic.{slice_cmp}
use Rattle.std.specs.FinMap as fin
use Rattle.std.specs.FinSet as set
use Rattle.int_ops.specs.Arith.{is_distance}
use Rattle.int_ops.specs.Updates.{updated, with_operands}
use Rattle.int_ops.specs.declared.update.Update.{Update}
use Rattle.run_log.specs.tc_base.Names.{Name, main, child}
use Rattle.run_log.specs.tc_base.Buffers.{BufferOps}
use Rattle.run_log.specs.tc_base.States.{Local, Thread, State}
use Rattle.run_log.specs.tc_base.declared.handle.Handle.{Handle}
use Rattle.run_log.specs.tc_base.declared.handle.Handle.TheVariants.{Unset, Child, Joined}
use Rattle.run_log.specs.tc_base.declared.moves.Move.{Move}
use Rattle.run_log.specs.tc_base.declared.moves.Move.TheVariants as move
use Rattle.run_log.specs.tc_base.declared.request.Request.{Request}
use Rattle.run_log.specs.tc_base.declared.request.Request.TheVariants.{Silent, Read, Write, Exchange, Bar, Acquire, Release, BeginWait}
use Rattle.run_log.specs.tc_base.declared.request.Request.TheVariants.{EndWait, WakeOne, WakeAll, Start, Await, OrderStores, Finish, Fail}
use Rattle.tc_code.specs.Expr.{Expr, value_of}
use Rattle.tc_code.specs.declared.cell.Cell.{Cell}
use Rattle.tc_code.specs.declared.cell.Cell.TheVariants.{Fixed, Element}
use Rattle.tc_code.specs.declared.instr.Instr.{Instr}
use Rattle.tc_code.specs.declared.instr.Instr.TheVariants.{Set, Load, Store, Inside, Branch, Goto, Holds, Lock, Unlock, Sleep, Wake}
use Rattle.tc_code.specs.declared.instr.Instr.TheVariants.{Signal, Broadcast, Create, Ready, Join, Assert, Nonzero, InRange, Modify, Fence, Stbar, Exit}
use Rattle.tc_code.specs.Code.{Code, instr_at}

-- the request of a site: nothing if its test holds, and failure if it doesn't
abbrev pub site : Bool → Request
site true = Silent
site false = Fail

abbrev pub is_nonzero : ℤ → Bool
is_nonzero n = not (int_eq n (pos 0))

-- whether an index is within an array of this length
abbrev pub is_within : ℕ → ℤ → Bool
is_within len index = int_le (pos 0) index && int_lt index (pos len)

-- the cell at an index of the array that begins at cell `first`
abbrev pub cell_at : ℕ → ℤ → ℕ
cell_at first index = first + unsigned_abs index

abbrev pub value_in : Local → Expr → ℤ
value_in t e = value_of e t.slots

-- the cell that a thread accesses
abbrev pub cell_in : Local → Cell Expr → ℕ
cell_in t (Fixed c) = c
cell_in t (Element first len i) = cell_at first (value_in t i)

-- an update over the values of its expressions
abbrev pub update_in : Local → Update Expr → Update ℤ
update_in t u = with_operands (value_in t) u

abbrev pub holds : Local → ℕ → Bool
holds t m = slice_index_or t.held m false

abbrev pub handle_of : Local → ℕ → Handle
handle_of t h = slice_index_or t.handles h Unset

-- whether a handle is a child that hasn't been joined
abbrev pub can_be_joined : Handle → Bool
can_be_joined (Child _) = true
can_be_joined _ = false

-- the number of a child that hasn't been joined; otherwise 0, which no child has
abbrev pub child_number : Handle → ℕ
child_number (Child k) = k
child_number _ = 0

-- what an instruction asks of the memory and of the other threads
abbrev pub request : Local → Instr → Request
request t (Set k e) = Silent
request t (Load k c) = Read (cell_in t c)
request t (Store c e) = Write (cell_in t c) (value_in t e)
request t (Inside len i) = site (is_within len (value_in t i))
request t (Branch e to) = Silent
request t (Goto to) = Silent
request t (Holds m) = site (holds t m)
request t (Lock m) = Acquire m
request t (Unlock m) = Release m
request t (Sleep c m) = BeginWait c m
request t (Wake c m) = EndWait c m
request t (Signal c) = WakeOne c
request t (Broadcast c) = WakeAll c
request t (Create h f es) = Start f
request t (Ready h) = site (can_be_joined (handle_of t h))
request t (Join h) = Await (child_number (handle_of t h))
request t (Assert e) = site (is_nonzero (value_in t e))
request t (Nonzero e) = site (is_nonzero (value_in t e))
request t (InRange e) = site (is_distance (value_in t e))
request t (Modify k c u) = Exchange (cell_in t c) (update_in t u)
request t Fence = OrderStores
request t Stbar = Bar
request t Exit = Finish

-- the thread after a step, at the same place
abbrev pub step_in_place : Local → Local
step_in_place t = record t { steps = t.steps + 1 }

-- the thread after a step, at the next place
abbrev pub step_to_next : Local → Local
step_to_next t = record (step_in_place t) { instruction = t.instruction + 1 }

-- the thread after a step, at another place
abbrev pub step_to_place : Local → ℕ → Local
step_to_place t to = record (step_in_place t) { instruction = to }

-- the thread after a branch: it records the outcome, and jumps to the target if that is false
abbrev pub step_by_branch : Local → Bool → ℕ → Local
step_by_branch t true to = record (step_to_next t) { outcomes = t.outcomes ++ true ∷ [] }
step_by_branch t false to = record (step_to_place t to) { outcomes = t.outcomes ++ false ∷ [] }

-- the thread after a step that acquires or releases a mutex
abbrev pub step_with_mutex : Local → ℕ → Bool → Local
step_with_mutex t m b = record (step_to_next t) { held = slice_set t.held m b }

-- the thread after an instruction that didn't fail; v is the value loaded from memory, if any
abbrev pub local_after : Local → Instr → ℤ → Local
local_after t (Set k e) v = record (step_to_next t) { slots = slice_set t.slots k (value_in t e) }
local_after t (Load k c) v = record (step_to_next t) { slots = slice_set t.slots k v }
local_after t (Store c e) v = step_to_next t
local_after t (Inside len i) v = step_to_next t
local_after t (Branch e to) v = step_by_branch t (is_nonzero (value_in t e)) to
local_after t (Goto to) v = step_to_place t to
local_after t (Holds m) v = step_to_next t
local_after t (Lock m) v = step_with_mutex t m true
local_after t (Unlock m) v = step_with_mutex t m false
local_after t (Sleep c m) v = step_with_mutex t m false
local_after t (Wake c m) v = step_with_mutex t m true
local_after t (Signal c) v = step_to_next t
local_after t (Broadcast c) v = step_to_next t
local_after t (Create h g es) v =
    record (step_to_next t)
    { handles = slice_set t.handles h (Child (t.children + 1)); children = t.children + 1 }
local_after t (Ready h) v = step_to_next t
local_after t (Join h) v =
    record (step_to_next t)
    { handles = slice_set t.handles h (Joined (child_number (handle_of t h))) }
local_after t (Assert e) v = step_to_next t
local_after t (Nonzero e) v = step_to_next t
local_after t (InRange e) v = step_to_next t
local_after t (Modify k c u) v = record (step_to_next t) { slots = slice_set t.slots k v }
local_after t Fence v = step_to_next t
local_after t Stbar v = step_to_next t
local_after t Exit v = record (step_to_next t) { has_exited = true }

-- the arguments that a create passes to the child
abbrev pub arguments_of : Local → Instr → List ℤ
arguments_of t (Create h f es) = map (value_in t) es
arguments_of t _ = []

-- the next instruction of a thread, or None once it has exited
abbrev pub instr_of : Code → Local → Option Instr
instr_of code t = if t.has_exited then None else instr_at code t.function t.instruction

-- the state with this thread under its name
abbrev pub with_thread : {B : Type 0} → State B → Name → Thread B → State B
with_thread s n t = record s { threads = fin.insert s.threads n t }

-- a set of names of threads
abbrev pub NameSet : Type 0
NameSet = set.FinSet (slice_cmp nat_cmp)

abbrev pub waiting_on : {B : Type 0} → State B → ℕ → NameSet
waiting_on s c = slice_index_or s.waiters c set.empty

abbrev pub is_free : {B : Type 0} → State B → ℕ → Bool
is_free s m = is_none (slice_index_or s.owners m None)

-- the value of a cell in memory
abbrev pub in_memory : {B : Type 0} → State B → ℕ → ℤ
in_memory s c = slice_index_or s.memory c (pos 0)

-- whether a thread's child of that number has exited
abbrev pub child_has_exited : {B : Type 0} → State B → Name → ℕ → Bool
child_has_exited s n k =
    option_map_or (λ t. t.local.has_exited) (fin.get s.threads (child n k)) false

-- whether a request is an event of a thread's path: neither silent nor a bar
abbrev pub is_event : Request → Bool
is_event Silent = false
is_event (Read c) = true
is_event (Write c v) = true
is_event (Exchange c u) = true
is_event Bar = false
is_event (Acquire m) = true
is_event (Release m) = true
is_event (BeginWait c m) = true
is_event (EndWait c m) = true
is_event (WakeOne c) = true
is_event (WakeAll c) = true
is_event (Start f) = true
is_event (Await k) = true
is_event OrderStores = true
is_event Finish = true
is_event Fail = true

-- whether a request must wait until all stores of the thread are in memory
abbrev pub drains_first : Request → Bool
drains_first Silent = false
drains_first (Read c) = false
drains_first (Write c v) = false
drains_first (Exchange c u) = true
drains_first Bar = false
drains_first (Acquire m) = true
drains_first (Release m) = true
drains_first (BeginWait c m) = true
drains_first (EndWait c m) = true
drains_first (WakeOne c) = true
drains_first (WakeAll c) = true
drains_first (Start f) = true
drains_first (Await k) = true
drains_first OrderStores = true
drains_first Finish = true
drains_first Fail = false

-- whether the mutexes, conditions and children allow a request
abbrev pub is_let : {B : Type 0} → State B → Name → Request → Bool
is_let s n Silent = true
is_let s n (Read c) = true
is_let s n (Write c v) = true
is_let s n (Exchange c u) = true
is_let s n Bar = true
is_let s n (Acquire m) = is_free s m
is_let s n (Release m) = true
is_let s n (BeginWait c m) = true
is_let s n (EndWait c m) = not (set.contains (waiting_on s c) n) && is_free s m
is_let s n (WakeOne c) = set.len (waiting_on s c) == 0
is_let s n (WakeAll c) = true
is_let s n (Start f) = true
is_let s n (Await k) = child_has_exited s n k
is_let s n OrderStores = true
is_let s n Finish = true
is_let s n Fail = true

-- the number of int slots of a function, and of its handles
abbrev pub ints_of : Code → ℕ → ℕ
ints_of code f = option_map_or (λ g. g.ints) (slice_get code.functions f) 0

abbrev pub handles_of : Code → ℕ → ℕ
handles_of code f = option_map_or (λ g. g.handles) (slice_get code.functions f) 0

module _ {B : Type 0} (ops : BufferOps B) where
  -- whether the request may be carried out now
  abbrev pub allows : State B → Name → Thread B → Request → Bool
  allows s n t r = (not (drains_first r) || ops.is_empty t.buffer) && is_let s n r

  -- the value of a load: the thread's newest buffered store to the cell, otherwise memory
  abbrev pub loaded : State B → Thread B → ℕ → ℤ
  loaded s t c = unwrap_or (ops.forward t.buffer c) (in_memory s c)

  -- the state after the thread's instruction, which loaded v from memory
  abbrev pub state_after_read : State B → Name → Thread B → Instr → ℤ → State B
  state_after_read s n t i v = with_thread s n (record t { local = local_after t.local i v })

  -- the state after the thread's instruction, which loaded nothing
  abbrev pub state_after_step : State B → Name → Thread B → Instr → State B
  state_after_step s n t i = state_after_read s n t i (pos 0)

  -- the state after a store: to the thread's buffer if the model has buffers, otherwise to memory
  abbrev pub state_after_store : State B → Name → Thread B → Instr → ℕ → ℤ → State B
  state_after_store s n t i c v =
      if ops.buffered
      then with_thread s n
      (record { local = local_after t.local i (pos 0); buffer = ops.issue t.buffer c v })
      else record (state_after_step s n t i) { memory = slice_set s.memory c v }

  -- the state after an exchange: in one step, the thread loads the cell and stores to it
  abbrev pub state_after_exchange : State B → Name → Thread B → Instr → ℕ → Update ℤ → State B
  state_after_exchange s n t i c u =
      record (state_after_read s n t i (in_memory s c))
      { memory = slice_set s.memory c (updated u (in_memory s c)) }

  -- a new thread: its first slots are the arguments, and everything else is 0, unset or free
  abbrev pub born : Code → ℕ → List ℤ → Thread B
  born code f arguments = record {
    local = record {
      function = f;
      instruction = 0;
      slots = arguments ++ replicate (ints_of code f - length arguments) (pos 0);
      handles = replicate (handles_of code f) Unset;
      held = replicate code.mutexes false;
      children = 0;
      has_exited = false;
      outcomes = [];
      steps = 0;
    };
    buffer = ops.empty;
  }

  -- the state after a request is carried out
  abbrev pub perform : Code → State B → Name → Thread B → Instr → Request → State B
  perform code s n t i Silent = state_after_step s n t i
  perform code s n t i (Read c) = state_after_read s n t i (loaded s t c)
  perform code s n t i (Write c v) = state_after_store s n t i c v
  perform code s n t i (Exchange c u) = state_after_exchange s n t i c u
  perform code s n t i Bar =
      with_thread s n (record { local = local_after t.local i (pos 0); buffer = ops.bar t.buffer })
  perform code s n t i (Acquire m) =
      record (state_after_step s n t i) { owners = slice_set s.owners m (Some n) }
  perform code s n t i (Release m) =
      record (state_after_step s n t i) { owners = slice_set s.owners m None }
  perform code s n t i (BeginWait c m) =
      record (state_after_step s n t i) {
        owners = slice_set s.owners m None;
        waiters = slice_set s.waiters c
            (set.insert (waiting_on s c) n);
      }
  perform code s n t i (EndWait c m) =
      record (state_after_step s n t i) { owners = slice_set s.owners m (Some n) }
  perform code s n t i (WakeOne c) = state_after_step s n t i
  perform code s n t i (WakeAll c) =
      record (state_after_step s n t i) { waiters = slice_set s.waiters c set.empty }
  perform code s n t i (Start f) =
      with_thread (state_after_step s n t i) (child n (t.local.children + 1))
      (born code f (arguments_of t.local i))
  perform code s n t i (Await k) = state_after_step s n t i
  perform code s n t i OrderStores = state_after_step s n t i
  perform code s n t i Finish = state_after_step s n t i
  perform code s n t i Fail =
      record (with_thread s n (record t { local = step_in_place t.local })) { failed = Some n }

  -- the state after a thread's instruction, if its request is allowed
  abbrev pub run_of : Code → State B → Name → Thread B → Instr → Option (State B)
  run_of code s n t i =
      if allows s n t (request t.local i) then Some (perform code s n t i (request t.local i))
      else None

  -- the state after thread n signals condition c and wakes thread u
  abbrev pub state_after_wake : State B → Name → Name → Thread B → ℕ → State B
  state_after_wake s n u t c =
      record (state_after_step s n t (Signal c))
      { waiters = slice_set s.waiters c (set.remove (waiting_on s c) u) }

  abbrev pub wake_of : State B → Name → Name → Thread B → Instr → Option (State B)
  wake_of s n u t (Signal c) =
      if ops.is_empty t.buffer && set.contains (waiting_on s c) u
      then Some (state_after_wake s n u t c) else None
  wake_of s n u t _ = None

  -- the state after a buffered store of the thread reaches memory
  abbrev pub state_after_drain : State B → Name → Thread B → Option ℕ → State B
  state_after_drain s n t form =
      let out = ops.drain t.buffer form in
      record (with_thread s n (record t { buffer = out.rest }))
      { memory = slice_set s.memory out.entry.cell out.entry.value }

  abbrev pub drain_of : State B → Name → Thread B → Option ℕ → Option (State B)
  drain_of s n t form =
      if ops.may_drain t.buffer form then Some (state_after_drain s n t form) else None

  -- the state after a move, if it is enabled, where no thread has failed yet
  abbrev pub move_of : Code → State B → Move → Option (State B)
  move_of code s (move.Run n) =
      option_and_then (λ t. option_and_then (run_of code s n t) (instr_of code t.local))
      (fin.get s.threads n)
  move_of code s (move.Wake n u) =
      option_and_then (λ t. option_and_then (wake_of s n u t) (instr_of code t.local))
      (fin.get s.threads n)
  move_of code s (move.Drain n form) =
      option_and_then (λ t. drain_of s n t form) (fin.get s.threads n)

  -- the state after a move, or None if it isn't enabled; after a failure, no move is
  abbrev pub step : Code → State B → Move → Option (State B)
  step code s m = if is_some s.failed then None else move_of code s m

  -- the initial state: only main, at its first instruction; mutexes are free, and no thread waits
  abbrev pub opening : Code → State B
  opening code = record {
    memory = code.memory;
    owners = replicate code.mutexes None;
    waiters = replicate code.conditions set.empty;
    threads = fin.insert fin.empty main (born code (length code.functions - 1) []);
    failed = None;
  }
