-- Steps that can be left out of a run, since no later step needs them.
use Rattle.std.specs.Prelude.{◌==◌, Bool, true, false, not, ◌&&◌, Option, List}
use Rattle.std.specs.List.{list_any}
use Rattle.std.specs.Option.{option_map_or}
use Rattle.run_follows.specs.tc_base.Names.{Name, child}
use Rattle.run_follows.specs.tc_base.declared.request.Request.{Request}
use Rattle.run_follows.specs.tc_base.declared.request.Request.TheVariants.{Silent, Read, Bar, Acquire, EndWait}
use Rattle.run_follows.specs.tc_base.declared.request.Request.TheVariants.{Start, Await, OrderStores, Finish}
use Rattle.run_follows.specs.run_history.History.{Deed, Did, Drained, same}
use Rattle.run_follows.specs.run_history.Told.{steps_in}

-- whether a deed is a join of this thread
abbrev pub is_await_of : Name → Deed → Bool
is_await_of n (Did q k (Await j) took other) = same n (child q j)
is_await_of n _ = false

-- whether no later deed needs a thread's last step: no other thread can tell whether it was done,
-- or it is an exit and nobody joins the thread, or it creates a thread that does no step
abbrev pub is_unused : Request → Name → Option Name → List Deed → Bool
is_unused Silent n other newer = true
is_unused (Read c) n other newer = true
is_unused Bar n other newer = true
is_unused OrderStores n other newer = true
is_unused (Acquire m) n other newer = true
is_unused (EndWait c m) n other newer = true
is_unused (Await j) n other newer = true
is_unused Finish n other newer = not (list_any (is_await_of n) newer)
is_unused (Start f) n other newer = option_map_or (λ u. steps_in newer u == 0) other true
is_unused _ n other newer = false

-- whether a deed is the last step of its thread and unused
abbrev pub comes_out : Deed → List Deed → Bool
comes_out (Did n k r took other) newer = steps_in newer n == 0 && is_unused r n other newer
comes_out (Drained n k c v) newer = false
