-- The accesses of all threads.
use Rattle.std.specs.Prelude.{◌==◌, ◌&&◌, Bool, nat_lt, List}
use Rattle.sym_exec.specs.Executed.{Symbolic}
use Rattle.sym_exec.specs.declared.symbolic.Access.{Access}
use Rattle.order_cells.specs.lawful_order.Events.{Placed, all_from}

-- all accesses, one thread after another
abbrev pub all_accesses : Symbolic → List (Placed Access)
all_accesses symbolic = all_from (λ c. c.accesses) 0 symbolic.threads

-- whether a and b are the same access, and whether a is earlier than b on the same path
abbrev pub is_one : (a b : Placed Access) → Bool
is_one a b = a.thread == b.thread && a.it.step == b.it.step

abbrev pub is_earlier : (a b : Placed Access) → Bool
is_earlier a b = a.thread == b.thread && nat_lt a.it.step b.it.step
