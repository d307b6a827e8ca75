-- A thread after an instruction that touches memory or its buffer.
use Rattle.std.specs.Prelude.{◌≡◌, ℕ, ℤ, Option, IsTrue, pos, true, false}
use Rattle.std.specs.FinMap as fin
use Rattle.tc_base.specs.Names.{Name, ByName}
use Rattle.tc_base.specs.Buffers.{BufferOps}
use Rattle.tc_base.specs.States.{Thread}
use Rattle.tc_code.specs.declared.instr.Instr.{Instr}
use Rattle.tc_code.specs.Step.{local_after}
use Rattle.tc_threads.specs.declared.effect.Effect.{Effect}
use Rattle.tc_threads.specs.declared.effect.Effect.TheVariants.{Takes, Issues, Bars}
use Rattle.tc_threads.specs.CanDo.{is_branch}

module _ {B : Type 0} (ops : BufferOps B) where
  -- the thread after an instruction with this effect
  abbrev pub affected : Thread B → Instr → Effect → Thread B
  affected t i (Takes v) = record t { local = local_after t.local i v }
  affected t i (Issues c v) =
      record { local = local_after t.local i (pos 0); buffer = ops.issue t.buffer c v }
  affected t i Bars = record { local = local_after t.local i (pos 0); buffer = ops.bar t.buffer }

  -- a branch has nothing for the buffer, and a model without buffers buffers no store
  abbrev pub MayHave : Instr → Effect → Type 0
  MayHave i (Takes v) = Unit {0}
  MayHave i (Issues c v) = (ops.buffered ≡ true) × (is_branch i ≡ false)
  MayHave i Bars = is_branch i ≡ false

  -- the store that a thread drains by a form, and the threads after that
  pub record DrainsTo (threads : ByName (Thread B)) (n : Name) (t : Thread B) (form : Option ℕ)
      (store : ℕ × ℤ) (left : ByName (Thread B)) : Type 0 where
    pub cell : store.0 ≡ (ops.drain t.buffer form).entry.cell
    pub value : store.1 ≡ (ops.drain t.buffer form).entry.value
    pub rest : left ≡ fin.insert threads n (record t { buffer = (ops.drain t.buffer form).rest })

-- effects that may run out of memory: a branch, which records its outcome, and buffer entries
abbrev pub MayRefuse : Instr → Effect → Type 0
MayRefuse i (Takes v) = IsTrue (is_branch i)
MayRefuse i _ = Unit {0}
