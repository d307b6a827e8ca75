-- The laws of the buffer of every memory model.
use Rattle.std.specs.Prelude.{◌≡◌, ℕ, Bool, true, false, Option, List, ◌++◌, nat_eq, if◌then◌else◌}
use Rattle.std.specs.Option.{option_cmp, option_eq}
use Rattle.std.specs.List.{list_any}
use Rattle.std.specs.Ordering.{nat_cmp}
use Rattle.std.specs.List.Sorted.{IsStrictlySortedBy}
use Rattle.tc_base.specs.Buffers.{Entry, BufferOps}
use Rattle.store_buffers.specs.Buffers.{newest}
use Rattle.list_laws.specs.Lists.{is_nil}
use Rattle.memory_models.specs.declared.model.Model.{Model}
use Rattle.memory_models.specs.declared.model.Model.TheVariants.{Sc, Tso, Pso}
use Rattle.store_buffers.specs.Pending.{Pending, stores, Binding, Drains, Stands}

-- the model, determined by whether it buffers and which stores it binds
abbrev pub model_of : Bool → Binding → Model
model_of buffered bound = if buffered then (if bound false false then Tso else Pso) else Sc

module _ {B : Type 0} (ops : BufferOps B) where
  -- some store may drain in this form
  pub record SomeDrains (bound : Binding) (ps : List Pending) (form : Option ℕ) : Type 0 where
    pub older : List Pending
    pub store : Entry
    pub newer : List Pending
    pub drains : Drains bound ps form older store newer

  -- a drain may happen, takes out this store, and leaves what is older and what is newer
  pub record TakesOut (b : B) (form : Option ℕ) (older : List Pending) (store : Entry)
      (newer : List Pending) : Type 0 where
    pub may : ops.may_drain b form ≡ true
    pub takes : (ops.drain b form).entry ≡ store
    pub leaves : Stands ops (ops.drain b form).rest (older ++ newer)

  -- exactly the forms in which a buffer may drain, in increasing order
  pub record AreForms (b : B) (forms : List (Option ℕ)) : Type 0 where
    pub rise : IsStrictlySortedBy (option_cmp nat_cmp) forms
    pub exact : (form : Option ℕ) → list_any (option_eq nat_eq form) forms ≡ ops.may_drain b form

  pub record Laws (model : Model) (bound : Binding) : Type 0 where
    -- the model is determined by its buffering and its binding
    pub form_law : model ≡ model_of ops.buffered bound
    -- stores to one cell are bound, and a bar binds: so are stores with a bar between them
    pub same_cell : (barred : Bool) → bound true barred ≡ true
    pub barred : bound false true ≡ true
    -- a buffer is empty exactly if the list that it represents has no store
    pub empty_law : (b : B) (ps : List Pending) → Stands ops b ps
        → ops.is_empty b ≡ is_nil (stores ps)
    -- a buffer forwards the newest store to the cell
    pub forward_stands : (b : B) (ps : List Pending) (c : ℕ) → Stands ops b ps
        → ops.forward b c ≡ newest (stores ps) c
    -- a buffer may drain in a form only if some pending store may
    pub may_drain_stands : (b : B) (ps : List Pending) (form : Option ℕ) → Stands ops b ps
        → ops.may_drain b form ≡ true → SomeDrains bound ps form
    -- if a pending store may drain, a drain in its form takes out that store
    pub drain_stands : (b : B) (ps : List Pending) (form : Option ℕ) (older : List Pending)
        (store : Entry) (newer : List Pending) → Stands ops b ps
        → Drains bound ps form older store newer → TakesOut b form older store newer
    -- without buffers, nothing may drain
    pub unbuffered : ops.buffered ≡ false → (b : B) (form : Option ℕ) → ops.may_drain b form ≡ false
