-- The operations that the machine needs of a store buffer.
use Rattle.std.specs.Prelude.{ℕ, ℤ, Bool, Option}

-- a store on its way to memory
pub record Entry : Type 0 where
  pub cell : ℕ
  pub value : ℤ

-- the store that a drain takes out, and the buffer that is left
pub record Drained (B : Type 0) : Type 0 where
  pub entry : Entry
  pub rest : B

-- the operations of a memory model on buffers of type B
pub record BufferOps (B : Type 0) : Type 0 where
  -- whether stores go into the buffer instead of straight to memory
  pub buffered : Bool
  pub empty : B
  pub is_empty : B → Bool
  -- adds a store at the end
  pub issue : B → ℕ → ℤ → B
  -- the value of the newest buffered store to a cell, if there is one
  pub forward : B → ℕ → Option ℤ
  -- whether a store may drain in this form: None, or Some cell
  pub may_drain : B → Option ℕ → Bool
  pub drain : B → Option ℕ → Drained B
  -- adds a bar: no later store reaches memory before a store that is already buffered
  pub bar : B → B
