-- Which values are ints in a run of lawful code.
use Rattle.std.specs.Prelude.{◌≡◌, ℕ, ℤ, true, IsTrue, Option, Some}
use Rattle.std.specs.List.{All}
use Rattle.std.specs.FinMap as fin
use Rattle.tc_code.specs.int_ops.Arith.{IsInt}
use Rattle.tc_code.specs.int_ops.Updates.{operands_of}
use Rattle.tc_code.specs.tc_base.Names.{Name}
use Rattle.tc_code.specs.tc_base.Buffers.{BufferOps}
use Rattle.tc_code.specs.tc_base.States.{Thread, State}
use Rattle.tc_code.specs.tc_base.declared.request.Request.{Request}
use Rattle.tc_code.specs.tc_base.declared.request.Request.TheVariants.{Write, Exchange}

-- the values of a request are ints
abbrev pub AsksInts : Request → Type 0
AsksInts (Write c v) = IsInt v
AsksInts (Exchange c u) = All IsInt (operands_of u)
AsksInts _ = Unit {0}

module _ {B : Type 0} (ops : BufferOps B) where
  -- every value put into the buffer was an int
  pub data HoldsInts : B → Type 0 where
    Empty : HoldsInts ops.empty
    Issued : (b : B) (c : ℕ) (v : ℤ) → ops.buffered ≡ true → HoldsInts b → IsInt v
        → HoldsInts (ops.issue b c v)
    Barred : (b : B) → HoldsInts b → HoldsInts (ops.bar b)
    Drained : (b : B) (form : Option ℕ) → IsTrue (ops.may_drain b form) → HoldsInts b
        → HoldsInts (ops.drain b form).rest

  -- every value that comes out of a buffer of ints is an int
  pub record PassesInts : Type 0 where
    pub forwards : (b : B) (c : ℕ) (v : ℤ) → HoldsInts b → ops.forward b c ≡ Some v → IsInt v
    pub drains : (b : B) (form : Option ℕ) → HoldsInts b → IsTrue (ops.may_drain b form)
        → IsInt (ops.drain b form).entry.value

  -- the slots and the buffer of a thread hold ints
  pub record ThreadHasInts (t : Thread B) : Type 0 where
    pub slots : All IsInt t.local.slots
    pub buffer : HoldsInts t.buffer

  -- memory and every thread of a state hold ints
  pub record StateHasInts (s : State B) : Type 0 where
    pub memory : All IsInt s.memory
    pub threads : (n : Name) (t : Thread B) → fin.get s.threads n ≡ Some t → ThreadHasInts t
