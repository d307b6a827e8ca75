-- The state after a history, read off its deeds.
use Rattle.std.specs.Prelude.{ℕ, ◌==◌, ℤ, pos, Bool, false, ◌||◌, Option, Some, None, unwrap_or}
use Rattle.std.specs.Prelude.{List, fold, slice_index_or, if◌then◌else◌}
use Rattle.std.specs.List.{filter_map, list_any, last_or, count_by}
use Rattle.std.specs.FinSet as set
use Rattle.store_buffers.specs.tc_base.Names.{Name, main}
use Rattle.store_buffers.specs.tc_base.Buffers.{Entry}
use Rattle.store_buffers.specs.Buffers.{newest}
use Rattle.store_buffers.specs.tc_base.declared.request.Request.TheVariants.{Write, Exchange, Acquire, Release, BeginWait, EndWait}
use Rattle.store_buffers.specs.tc_base.declared.request.Request.TheVariants.{WakeOne, WakeAll, Start, Finish, Fail}
use Rattle.run_laws.specs.tc_code.Code.{Code}
use Rattle.run_laws.specs.tc_code.int_ops.Updates.{updated}
use Rattle.run_laws.specs.tc_code.Step.{NameSet}
use Rattle.run_history.specs.History.{Deed, Did, Drained, same}

-- the store that reaches memory by a deed, if any; with buffers, a write has to drain first
abbrev pub reaches : Bool → Deed → Option Entry
reaches buffered (Did n k (Write c v) took other) =
    if buffered then None else Some (record { cell = c; value = v })
reaches buffered (Did n k (Exchange c u) took other) =
    Some (record { cell = c; value = updated u took })
reaches buffered (Did n k _ took other) = None
reaches buffered (Drained n k c v) = Some (record { cell = c; value = v })

-- a cell's value: that of the last store that reached it, else its initial value
abbrev pub value_in : Bool → Code → List Deed → ℕ → ℤ
value_in buffered code h c =
    unwrap_or (newest (filter_map (reaches buffered) h) c) (slice_index_or code.memory c (pos 0))

-- the owner of a mutex after a deed, if the deed acquires or releases it
abbrev pub owner_by : ℕ → Deed → Option (Option Name)
owner_by m (Did n k (Acquire l) took other) = if l == m then Some (Some n) else None
owner_by m (Did n k (Release l) took other) = if l == m then Some None else None
owner_by m (Did n k (BeginWait c l) took other) = if l == m then Some None else None
owner_by m (Did n k (EndWait c l) took other) = if l == m then Some (Some n) else None
owner_by m _ = None

-- the owner of a mutex: the thread that last acquired it, unless it was released since
abbrev pub owner_in : List Deed → ℕ → Option Name
owner_in h m = unwrap_or (last_or None (filter_map (owner_by m) h)) None

-- the waiters of a condition after a deed: a sleep adds its thread, a wake-up removes threads
abbrev pub waiting_after : ℕ → NameSet → Deed → NameSet
waiting_after c ns (Did n k (BeginWait d m) took other) = if d == c then set.insert ns n else ns
waiting_after c ns (Did n k (WakeOne d) took (Some u)) = if d == c then set.remove ns u else ns
waiting_after c ns (Did n k (WakeAll d) took other) = if d == c then set.empty else ns
waiting_after c ns _ = ns

abbrev pub waiting_in : List Deed → ℕ → NameSet
waiting_in h c = fold (waiting_after c) set.empty h

-- the thread that a deed creates, if any
abbrev pub creates : Deed → Option Name
creates (Did n k (Start f) took other) = other
creates _ = None

-- whether a thread exists: it is main, or a deed created it
abbrev pub is_thread_in : List Deed → Name → Bool
is_thread_in h n = same n main || list_any (same n) (filter_map creates h)

-- whether a deed is a step of the thread; `steps_in` counts these
abbrev pub is_step_of : Name → Deed → Bool
is_step_of n (Did q k r took other) = same n q
is_step_of n _ = false

abbrev pub steps_in : List Deed → Name → ℕ
steps_in h n = count_by (is_step_of n) h

-- whether a deed creates a child of the thread; `children_in` counts these
abbrev pub is_start_of : Name → Deed → Bool
is_start_of n (Did q k (Start f) took other) = same n q
is_start_of n _ = false

abbrev pub children_in : List Deed → Name → ℕ
children_in h n = count_by (is_start_of n) h

-- whether a deed is the thread's exit; a thread has exited if its history has one
abbrev pub is_exit_of : Name → Deed → Bool
is_exit_of n (Did q k Finish took other) = same n q
is_exit_of n _ = false

abbrev pub has_exited_in : List Deed → Name → Bool
has_exited_in h n = list_any (is_exit_of n) h

-- the thread that fails by a deed, if any
abbrev pub fails : Deed → Option Name
fails (Did n k Fail took other) = Some n
fails _ = None

abbrev pub failed_in : List Deed → Option Name
failed_in h = last_or None (filter_map fails h)
