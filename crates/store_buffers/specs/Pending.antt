-- The stores and bars that a thread has buffered and not yet drained, as a list, oldest first.
use Rattle.std.specs.Prelude.{◌≡◌, ℕ, ◌==◌, Bool, true, false, ◌||◌, Option, Some, None, List, [], ◌∷◌, ◌++◌, fold, filter, nat_eq, if◌then◌else◌}
use Rattle.std.specs.Option.{option_eq}
use Rattle.tc_base.specs.Buffers.{Entry, BufferOps}

pub data Pending : Type 0 where
  Store : (entry : Entry) → Pending
  Bar : Pending

abbrev pub stores : List Pending → List Entry
stores [] = []
stores (Store e ∷ ps) = e ∷ stores ps
stores (Bar ∷ ps) = stores ps

abbrev pub has_bar : List Pending → Bool
has_bar [] = false
has_bar (Store e ∷ ps) = has_bar ps
has_bar (Bar ∷ ps) = true

-- whether a store is bound to reach memory before a newer one of its thread, depending on whether
-- their cells are the same and whether a bar is between them
abbrev pub Binding : Type 0
Binding = (same_cell barred : Bool) → Bool

-- all stores are bound: there is one queue, or no buffer
abbrev pub binds_all : Binding
binds_all _ _ = true

-- stores to one cell are bound, and so are stores with a bar between them
abbrev pub binds_cells : Binding
binds_cells same_cell barred = same_cell || barred

-- whether a later store to this cell must wait for one of these
abbrev pub waits : Binding → List Pending → ℕ → Bool
waits bound [] c = false
waits bound (Store e ∷ ps) c = bound (e.cell == c) (has_bar ps) || waits bound ps c
waits bound (Bar ∷ ps) c = waits bound ps c

-- the form in which stores to a cell drain: None if all stores are bound, otherwise the cell
abbrev pub form_of : Binding → ℕ → Option ℕ
form_of bound c = if bound false false then None else Some c

-- the stores that drain in a form
abbrev pub stores_by : Binding → Option ℕ → List Pending → List Entry
stores_by bound form ps = filter (λ e. option_eq nat_eq (form_of bound e.cell) form) (stores ps)

-- this store may drain in this form; `older` and `newer` are the rest of the list
pub record Drains (bound : Binding) (ps : List Pending) (form : Option ℕ) (older : List Pending)
    (store : Entry) (newer : List Pending) : Type 0 where
  pub there : ps ≡ older ++ Store store ∷ newer
  pub by_form : form_of bound store.cell ≡ form
  pub is_free : waits bound older store.cell ≡ false

module _ {B : Type 0} (ops : BufferOps B) where
  abbrev pub put : B → Pending → B
  put b (Store e) = ops.issue b e.cell e.value
  put b Bar = ops.bar b

  -- a buffer represents a list if adding that list's stores and bars, in order, to the empty buffer
  -- gives this buffer; without buffers, the list has no stores
  pub record Stands (b : B) (ps : List Pending) : Type 0 where
    pub made : b ≡ fold put ops.empty ps
    pub issued : ops.buffered ≡ false → stores ps ≡ []
