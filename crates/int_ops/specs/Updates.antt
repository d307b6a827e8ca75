-- Updates: what an exchange stores to a cell, given what it loads from it.
use Rattle.std.specs.Prelude.{ℤ, List, [], ◌∷◌, if◌then◌else◌}
use Rattle.std.specs.Ordering.{int_eq}
use Rattle.int_ops.specs.Arith.{plus}
use Rattle.int_ops.specs.declared.update.Update.{Update}
use Rattle.int_ops.specs.declared.update.Update.TheVariants.{Swap, Cas, Add}

-- a cell after a compare-and-exchange: the new value if the old one is as expected, else unchanged
abbrev pub replaced : ℤ → ℤ → ℤ → ℤ
replaced old expected value = if int_eq old expected then value else old

-- the value that an update stores, given what the cell had
abbrev pub updated : Update ℤ → ℤ → ℤ
updated (Swap v) old = v
updated (Cas e v) old = replaced old e v
updated (Add v) old = plus old v

-- what an update is made of, in order
abbrev pub operands_of : {A : Type 0} → Update A → List A
operands_of (Swap v) = v ∷ []
operands_of (Cas e v) = e ∷ v ∷ []
operands_of (Add v) = v ∷ []

-- the same update over other operands
abbrev pub with_operands : {A B : Type 0} → (A → B) → Update A → Update B
with_operands f (Swap v) = Swap (f v)
with_operands f (Cas e v) = Cas (f e) (f v)
with_operands f (Add v) = Add (f v)
