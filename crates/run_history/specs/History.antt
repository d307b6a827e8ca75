-- The history of a run: a list of deeds, oldest first.
use Rattle.std.specs.Prelude.{ℕ, ◌+◌, ◌==◌, ℤ, pos, Bool, false, not, ◌&&◌, Option, Some, None, List, [], ◌∷◌, ◌++◌, map, if◌then◌else◌}
use Rattle.std.specs.List.{filter, filter_map, list_any}
use Rattle.std.specs.Option.{option_map_or}
use Rattle.std.specs.FinMap as fin
use Rattle.store_buffers.specs.tc_base.Names.{Name, child}
use Rattle.store_buffers.specs.tc_base.Buffers.{BufferOps, Entry}
use Rattle.store_buffers.specs.tc_base.States.{Local, Thread, State}
use Rattle.store_buffers.specs.tc_base.declared.moves.Move.{Move}
use Rattle.store_buffers.specs.tc_base.declared.moves.Move.TheVariants as move
use Rattle.store_buffers.specs.tc_base.declared.request.Request.{Request}
use Rattle.store_buffers.specs.tc_base.declared.request.Request.TheVariants.{Read, Write, Exchange, Bar, Start}
use Rattle.run_laws.specs.tc_code.Code.{Code}
use Rattle.run_laws.specs.tc_code.Step.{request, instr_of, loaded, in_memory, step, opening}
use Rattle.store_buffers.specs.Pending.{Pending, Store, Bar as barred}
pub use Rattle.run_laws.specs.Alone.{same}

pub data Deed : Type 0 where
  -- a step, numbered from 0: its request, the value read or 0, and the thread woken or created
  Did : (thread : Name) (number : ℕ) (asks : Request) (took : ℤ) (other : Option Name) → Deed
  -- the store of the thread's step with this number reaches memory
  Drained : (thread : Name) (number : ℕ) (cell : ℕ) (value : ℤ) → Deed

-- a store or a bar that a thread put into its buffer, with the number of its step
pub record Issue : Type 0 where
  pub number : ℕ
  pub what : Pending

-- what a deed puts into a thread's buffer, if anything; a store only if the model has buffers
abbrev pub issue_of : Bool → Name → Deed → Option Issue
issue_of buffered n (Did q k (Write c v) took other) =
    if buffered && same n q
    then Some (record { number = k; what = Store (record { cell = c; value = v }) }) else None
issue_of buffered n (Did q k Bar took other) =
    if same n q then Some (record { number = k; what = barred }) else None
issue_of buffered n _ = None

-- whether a deed drains the store of the thread's step number k
abbrev pub drains : Name → ℕ → Deed → Bool
drains n k (Drained q j c v) = same n q && k == j
drains n k _ = false

abbrev pub has_drained : List Deed → Name → ℕ → Bool
has_drained h n k = list_any (drains n k) h

-- the stores and bars that a thread has issued and not drained, in order of issue
abbrev pub pending_issues : Bool → List Deed → Name → List Issue
pending_issues buffered h n =
    filter (λ i. not (has_drained h n i.number)) (filter_map (issue_of buffered n) h)

abbrev pub pending : Bool → List Deed → Name → List Pending
pending buffered h n = map (λ i. i.what) (pending_issues buffered h n)

abbrev pub is_to : ℕ → Pending → Bool
is_to c (Store e) = e.cell == c
is_to c barred = false

-- the step number of the oldest store to a cell, and 0 if there is none
abbrev pub oldest_to : ℕ → List Issue → ℕ
oldest_to c [] = 0
oldest_to c (i ∷ is) = if is_to c i.what then i.number else oldest_to c is

module _ {B : Type 0} (ops : BufferOps B) (code : Code) where
  -- the value that a request reads, and 0 if it reads none
  abbrev pub value_taken : State B → Thread B → Request → ℤ
  value_taken s t (Read c) = loaded ops s t c
  value_taken s t (Exchange c u) = in_memory s c
  value_taken s t _ = pos 0

  -- the child that a thread's request creates, if any
  abbrev pub created_by : Name → Local → Request → Option Name
  created_by n t (Start f) = Some (child n (t.children + 1))
  created_by n t _ = None

  abbrev pub did : State B → Name → Thread B → Request → Deed
  did s n t r = Did n t.local.steps r (value_taken s t r) (created_by n t.local r)

  -- the deed of a thread's signal that wakes another thread
  abbrev pub woke : Name → Name → Thread B → Request → Deed
  woke n u t r = Did n t.local.steps r (pos 0) (Some u)

  -- the deed of a drain, which drains the thread's oldest pending store to the cell
  abbrev pub drained : List Deed → Name → Entry → Deed
  drained h n e = Drained n (oldest_to e.cell (pending_issues ops.buffered h n)) e.cell e.value

  -- the deed of a thread's next instruction, if it has one
  abbrev pub by_instr : Thread B → (Request → Deed) → List Deed
  by_instr t does = option_map_or (λ i. does (request t.local i) ∷ []) (instr_of code t.local) []

  -- the deed of a move made after a history, if any
  abbrev pub deed_of : State B → List Deed → Move → List Deed
  deed_of s h (move.Run n) = option_map_or (λ t. by_instr t (did s n t)) (fin.get s.threads n) []
  deed_of s h (move.Wake n u) =
      option_map_or (λ t. by_instr t (woke n u t)) (fin.get s.threads n) []
  deed_of s h (move.Drain n form) =
      option_map_or (λ t. drained h n (ops.drain t.buffer form).entry ∷ []) (fin.get s.threads n) []

  -- the history after more moves
  abbrev pub history_from : State B → List Deed → List Move → List Deed
  history_from s h [] = h
  history_from s h (m ∷ ms) =
      option_map_or (λ u. history_from u (h ++ deed_of s h m) ms) (step ops code s m) h

  abbrev pub history : List Move → List Deed
  history ms = history_from (opening ops code) [] ms
