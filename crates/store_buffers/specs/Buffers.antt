-- The store buffers of the three memory models.
use Rattle.std.specs.Prelude.{ℕ, ◌==◌, ℤ, pos, Bool, true, false, not, ◌&&◌, if◌then◌else◌}
use Rattle.std.specs.Prelude.{Option, Some, None, is_none, unwrap_or, List, [], ◌∷◌, ◌++◌, drop, slice_index_or}
use Rattle.std.specs.List.{list_all, last_or}
use Rattle.std.specs.Option.{option_or}
use Rattle.std.specs.Ordering.{nat_cmp}
use Rattle.std.specs.FinMap as fin
use Rattle.list_laws.specs.Lists.{is_nil}
use Rattle.memory_models.specs.declared.model.Model.{Model}
use Rattle.memory_models.specs.declared.model.Model.TheVariants.{Sc, Tso, Pso}
use Rattle.tc_base.specs.Buffers.{Entry, Drained, BufferOps}

-- the buffer of a model that buffers nothing
abbrev pub NoBuffer : Type 0
NoBuffer = Unit {0}

-- sequential consistency: no store is ever buffered
abbrev pub no_buffer : BufferOps NoBuffer
no_buffer = record {
  buffered = false;
  empty = tt;
  is_empty = λ _. true;
  issue = λ b _ _. b;
  forward = λ _ _. None;
  may_drain = λ _ _. false;
  drain = λ b _. record { entry = record { cell = 0; value = pos 0 }; rest = b };
  bar = λ b. b;
}

-- the placeholder that a drain takes if nothing may drain
abbrev pub no_entry : Entry
no_entry = record { cell = 0; value = pos 0 }

-- the value of the newest of these stores to a cell
abbrev pub newest : List Entry → ℕ → Option ℤ
newest [] c = None
newest (e ∷ es) c = option_or (newest es c) (if e.cell == c then Some e.value else None)

-- total store order: one queue of stores, the oldest first
abbrev pub fifo_buffer : BufferOps (List Entry)
fifo_buffer = record {
  buffered = true;
  empty = [];
  is_empty = λ b. is_nil b;
  issue = λ b c v. b ++ record { cell = c; value = v } ∷ [];
  forward = newest;
  may_drain = λ b form. is_none form && not (is_nil b);
  drain = λ b form. record { entry = slice_index_or b 0 no_entry; rest = drop 1 b };
  bar = λ b. b;
}

-- stores with no bar between them: for each cell that has any, their values, oldest first
abbrev pub Segment : Type 0
Segment = fin.FinMap nat_cmp (List ℤ)

abbrev pub values_to : Segment → ℕ → List ℤ
values_to s c = unwrap_or (fin.get s c) []

-- the segment with these values to a cell instead
abbrev pub with_values : Segment → ℕ → List ℤ → Segment
with_values s c [] = fin.remove s c
with_values s c (v ∷ vs) = fin.insert s c (v ∷ vs)

abbrev pub has_no_store : Segment → Bool
has_no_store s = fin.len s == 0

-- the segments with one more store in the last
abbrev pub issue_last : List Segment → ℕ → ℤ → List Segment
issue_last [] c v = []
issue_last (s ∷ []) c v = with_values s c (values_to s c ++ v ∷ []) ∷ []
issue_last (s ∷ t ∷ ss) c v = s ∷ issue_last (t ∷ ss) c v

-- the last value to a cell, in the last segment that has one
abbrev pub last_value : List Segment → ℕ → Option ℤ
last_value [] c = None
last_value (s ∷ ss) c = option_or (last_value ss c) (last_or None (values_to s c))

-- the values to a cell in the first segment that isn't empty
abbrev pub first_values : List Segment → ℕ → List ℤ
first_values [] c = []
first_values (s ∷ ss) c = if has_no_store s then first_values ss c else values_to s c

-- the segments after the first of those values has drained
abbrev pub drop_first : List Segment → ℕ → List Segment
drop_first [] c = []
drop_first (s ∷ ss) c =
    if has_no_store s then s ∷ drop_first ss c else with_values s c (drop 1 (values_to s c)) ∷ ss

abbrev pub may_drain_cell : List Segment → Option ℕ → Bool
may_drain_cell ss None = false
may_drain_cell ss (Some c) = not (is_nil (first_values ss c))

abbrev pub drain_cell : List Segment → Option ℕ → Drained (List Segment)
drain_cell ss None = record { entry = no_entry; rest = ss }
drain_cell ss (Some c) =
    record {
      entry = record
          { cell = c; value = slice_index_or (first_values ss c) 0 (pos 0) };
      rest = drop_first ss c;
    }

-- partial store order: segments separated by bars, oldest first, each with a queue for each cell
abbrev pub cell_buffer : BufferOps (List Segment)
cell_buffer = record {
  buffered = true;
  empty = fin.empty ∷ [];
  is_empty = list_all has_no_store;
  issue = issue_last;
  forward = last_value;
  may_drain = may_drain_cell;
  drain = drain_cell;
  bar = λ ss. ss ++ fin.empty ∷ [];
}

-- the buffer type of a memory model
abbrev pub BufferOf : Model → Type 0
BufferOf Sc = NoBuffer
BufferOf Tso = List Entry
BufferOf Pso = List Segment

-- the buffer operations of a memory model
abbrev pub buffer_of : (m : Model) → BufferOps (BufferOf m)
buffer_of Sc = no_buffer
buffer_of Tso = fifo_buffer
buffer_of Pso = cell_buffer
