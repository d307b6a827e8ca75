-- The events of a thread: what its steps ask of memory and of other threads.
use Rattle.std.specs.Prelude.{ℕ, ◌+◌, ◌-◌, length, List, [], ◌∷◌, map, Bool, false, ◌==◌, Option, Some, None, option_map, unwrap_or, slice_get, sum}
use Rattle.std.specs.Prelude.{if◌then◌else◌}
use Rattle.std.specs.List.{filter_map, cons_option}
use Rattle.std.specs.Option.{option_map_or}
use Rattle.std.specs.Bool.{beq}
use Rattle.tc_code.specs.int_ops.Updates.{operands_of}
use Rattle.tc_code.specs.declared.cell.Cell.{Cell}
use Rattle.tc_code.specs.declared.cell.Cell.TheVariants.{Fixed, Element}
use Rattle.tc_code.specs.Expr.{Expr, Number, Slot, Unary, Binary}
use Rattle.tc_code.specs.Code.{Code, line_at}
use Rattle.tc_code.specs.declared.instr.Instr.{Instr}
use Rattle.tc_code.specs.declared.instr.Instr.TheVariants.{Set, Load, Store, Inside, Branch, Holds, Lock, Unlock, Sleep, Wake}
use Rattle.tc_code.specs.declared.instr.Instr.TheVariants.{Signal, Broadcast, Create, Ready, Join, Assert, Nonzero, InRange, Modify, Fence, Exit}
use Rattle.tc_code.specs.Step.{child_number, can_be_joined}
use Rattle.path_walk.specs.Marks.{Marks, Marked, has_mutex, handle_in}
use Rattle.path_walk.specs.declared.event.Event.{Event}
use Rattle.path_walk.specs.declared.event.EventKind.{EventKind}
use Rattle.path_walk.specs.declared.event.EventKind.TheVariants as kind
use Rattle.path_walk.specs.declared.event.Blocked.{Blocked}
use Rattle.path_walk.specs.declared.event.Blocked.TheVariants as blocked
use Rattle.path_walk.specs.declared.event.Region.{Region}
use Rattle.path_walk.specs.declared.event.Sleep.{Sleep as Wait}
use Rattle.path_walk.specs.declared.event.Link.{Link}

-- the event kind of an instruction that doesn't fail, if it is an event; a bar is none
abbrev pub asks : Marks → Instr → Option EventKind
asks t (Load k c) = Some kind.Load
asks t (Store c e) = Some kind.Store
asks t (Modify k c u) = Some kind.Exchange
asks t (Lock m) = Some (kind.Lock m)
asks t (Unlock m) = Some (kind.Unlock m)
asks t (Sleep c m) = Some (kind.Sleep c m)
asks t (Wake c m) = Some (kind.Wake c m)
asks t (Signal c) = Some (kind.Signal c)
asks t (Broadcast c) = Some (kind.Broadcast c)
asks t (Create h f es) = Some (kind.Create (t.children + 1))
asks t (Join h) = Some (kind.Join (child_number (handle_in t h)))
asks t Fence = Some kind.Fence
asks t Exit = Some kind.Exit
asks t _ = None

-- the event kind of a step, if it is an event: `Fail` if the step fails
abbrev pub kind_with : Marks → Instr → Bool → Option EventKind
kind_with t i fails = if fails then Some kind.Fail else asks t i

-- the event of a step, if it is one
abbrev pub event_of : Code → ℕ → Marked → Option Event
event_of code f s =
    option_map
    (λ k. record {
      step = s.number;
      line = unwrap_or
          (line_at code f s.step.place) 0;
      kind = k;
      bars = s.marks.bars;
    })
    (kind_with s.marks s.step.instr s.fails)

-- the events of a thread that runs function f
abbrev pub events_of : Code → ℕ → List Marked → List Event
events_of code f steps = filter_map (event_of code f) steps

-- the mutex that an event acquires, if any
abbrev pub acquired_mutex : EventKind → Option ℕ
acquired_mutex (kind.Lock m) = Some m
acquired_mutex (kind.Wake c m) = Some m
acquired_mutex _ = None

-- the mutex that an event releases, if any
abbrev pub released_mutex : EventKind → Option ℕ
released_mutex (kind.Unlock m) = Some m
released_mutex (kind.Sleep c m) = Some m
released_mutex _ = None

-- the step of the first event that releases the mutex, if any
abbrev pub release_step : ℕ → List Event → Option ℕ
release_step m [] = None
release_step m (e ∷ es) =
    if option_map_or (λ l. l == m) (released_mutex e.kind) false then Some e.step
    else release_step m es

-- the region of an event that acquires a mutex: from its step to the release, if there is one
abbrev pub region_of : Event → List Event → Option Region
region_of e later =
    option_map (λ m. record { mutex = m; «from» = e.step; to = release_step m later })
    (acquired_mutex e.kind)

abbrev pub regions_of : List Event → List Region
regions_of [] = []
regions_of (e ∷ es) = cons_option (region_of e es) (regions_of es)

-- the wait that a sleep begins; the thread's next event, if there is one, is the wake that ends it
abbrev pub sleep_by : ℕ → Option Event → EventKind → Option Wait
sleep_by step next (kind.Sleep c m) =
    Some (record { step = step; condition = c; mutex = m; wake = option_map (λ w. w.step) next })
sleep_by step next _ = None

abbrev pub sleeps_of : List Event → List Wait
sleeps_of [] = []
sleeps_of (e ∷ es) = cons_option (sleep_by e.step (slice_get es 0) e.kind) (sleeps_of es)

-- the step of the last sleep, and 0 if there is none
abbrev pub last_sleep : List Wait → ℕ
last_sleep sleeps = option_map_or (λ s. s.step) (slice_get sleeps (length sleeps - 1)) 0

-- what blocks a thread at an instruction, if the instruction can block; a wake has its last sleep
abbrev pub blocked_at : Marks → List Wait → Instr → Option Blocked
blocked_at t sleeps (Lock m) = Some (blocked.Lock m)
blocked_at t sleeps (Wake c m) = Some (blocked.Wake c m (last_sleep sleeps))
blocked_at t sleeps (Join h) = Some (blocked.Join (child_number (handle_in t h)))
blocked_at t sleeps _ = None

-- the create at a step, with the child's number; `join_by` is the same for a join
abbrev pub create_by : ℕ → EventKind → Option Link
create_by step (kind.Create k) = Some (record { step = step; child = k })
create_by step _ = None

abbrev pub join_by : ℕ → EventKind → Option Link
join_by step (kind.Join k) = Some (record { step = step; child = k })
join_by step _ = None

abbrev pub creates_of : List Event → List Link
creates_of events = filter_map (λ e. create_by e.step e.kind) events

abbrev pub joins_of : List Event → List Link
joins_of events = filter_map (λ e. join_by e.step e.kind) events

-- whether the path alone rules out a step: a lock of a held mutex, or a wrong `Holds` or `Ready`
abbrev pub excludes : Marks → Instr → Bool → Bool
excludes t (Lock m) fails = has_mutex t m
excludes t (Holds m) fails = beq (has_mutex t m) fails
excludes t (Ready h) fails = beq (can_be_joined (handle_in t h)) fails
excludes t _ fails = false

abbrev pub is_impossible : Marked → Bool
is_impossible s = excludes s.marks s.step.instr s.fails

-- the number of operators in an expression
abbrev pub operators : Expr → ℕ
operators (Number n) = 0
operators (Slot k) = 0
operators (Unary op a) = 1 + operators a
operators (Binary op a b) = 1 + (operators a + operators b)

-- the number of operators in the index of an element
abbrev pub operators_in : Cell Expr → ℕ
operators_in (Fixed c) = 0
operators_in (Element first len i) = operators i

-- the number of operators in all expressions of an instruction
abbrev pub operators_of : Instr → ℕ
operators_of (Set k e) = operators e
operators_of (Load k c) = operators_in c
operators_of (Store c e) = operators_in c + operators e
operators_of (Inside len i) = operators i
operators_of (Branch e to) = operators e
operators_of (Create h f es) = sum (map operators es)
operators_of (Assert e) = operators e
operators_of (Nonzero e) = operators e
operators_of (InRange e) = operators e
operators_of (Modify k c u) = operators_in c + sum (map operators (operands_of u))
operators_of _ = 0
