-- Memory after some deeds, and the stores that wait in buffers.
use Rattle.std.specs.Prelude.{ℕ, ◌==◌, ℤ, pos, Bool, true, not, ◌&&◌, List, [], ◌∷◌, ◌++◌, Option, Some, None}
use Rattle.std.specs.Prelude.{slice_set, slice_index_or, unwrap_or, fold, bytes_eq, if◌then◌else◌}
use Rattle.std.specs.List.{filter}
use Rattle.tc_base.specs.Names.{Name}
use Rattle.tc_base.specs.Buffers.{BufferOps, Entry}
use Rattle.tc_base.specs.States.{Thread}
use Rattle.tc_base.specs.declared.request.Request.{Request}
use Rattle.tc_base.specs.declared.request.Request.TheVariants.{Read, Write, Exchange}
use Rattle.tc_code.specs.Code.{Code}
use Rattle.run_history.specs.History.{Deed, Did, Drained}
use Rattle.run_history.specs.Told.{reaches}
use Rattle.show_deeds.specs.declared.deed.Stored.{Stored}

pub record Seen : Type 0 where
  -- the value of each cell
  pub memory : List ℤ
  -- the stores that wait in buffers, oldest first
  pub waiting : List Stored

abbrev pub at_start : Code → Seen
at_start code = record { memory = code.memory; waiting = [] }

-- memory after a store that reaches it, if one does
abbrev pub written : List ℤ → Option Entry → List ℤ
written memory None = memory
written memory (Some e) = slice_set memory e.cell e.value

-- whether a stored entry is not the store of this step of the thread
abbrev pub is_other : Name → ℕ → Stored → Bool
is_other n k s = not (bytes_eq s.thread n && s.number == k)

-- the stores that wait after a deed: a store that it issues is added, and one that drains is
-- removed
abbrev pub waiting_after : Bool → List Stored → Deed → List Stored
waiting_after buffered ws (Did n k (Write c v) took other) =
    if buffered then ws ++ record { thread = n; number = k; cell = c; value = v } ∷ [] else ws
waiting_after buffered ws (Drained n k c v) = filter (is_other n k) ws
waiting_after buffered ws _ = ws

abbrev pub seen_after : Bool → Seen → Deed → Seen
seen_after buffered s d =
    record {
      memory = written s.memory
          (reaches buffered d);
      waiting = waiting_after buffered s.waiting d;
    }

abbrev pub seen_in : Bool → Code → List Deed → Seen
seen_in buffered code h = fold (seen_after buffered) (at_start code) h

-- whether a store to this cell drains in this form
abbrev pub is_by : Option ℕ → ℕ → Bool
is_by None c = true
is_by (Some only) c = c == only

-- the first of a thread's stores that drains in this form
abbrev pub first_by : Name → Option ℕ → List Stored → Option Stored
first_by n form [] = None
first_by n form (w ∷ ws) =
    if bytes_eq w.thread n && is_by form w.cell then Some w else first_by n form ws

-- the value that a thread's request takes from this memory and its own buffer, or 0 if it takes
-- none
abbrev pub taken_by : {B : Type 0} → BufferOps B → List ℤ → Thread B → Request → ℤ
taken_by ops memory t (Read c) =
    unwrap_or (ops.forward t.buffer c) (slice_index_or memory c (pos 0))
taken_by ops memory t (Exchange c u) = slice_index_or memory c (pos 0)
taken_by ops memory t _ = pos 0
