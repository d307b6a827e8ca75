-- What an update stores is an int, if it is over ints and what it loads is one.
use Rattle.std.proofs.Common.{◌≡◌, ℤ, [], ◌∷◌, map, refl}
use Rattle.std.specs.List.{All}
use Rattle.std.specs.Ordering.{int_eq}
use Rattle.std.proofs.lemmas.List.Elements.{All-head, All-tail}
use Rattle.int_ops.specs.Arith.{IsInt}
use Rattle.int_ops.specs.Updates.{updated, operands_of, with_operands}
use Rattle.int_ops.specs.declared.arith.BinOp.TheVariants as binary
use Rattle.int_ops.specs.declared.update.Update.{Update}
use Rattle.int_ops.specs.declared.update.Update.TheVariants.{Swap, Cas, Add}
use Rattle.int_ops.proofs.Ints.{binary_int, chosen}

pub updated_int : (u : Update ℤ) (old : ℤ) → All IsInt (operands_of u) → IsInt old → IsInt (updated u old)
updated_int (Swap v) old are int = All-head IsInt v [] are
updated_int (Cas e v) old are int = chosen (int_eq old e) v old (All-head IsInt v [] (All-tail IsInt e (v ∷ []) are)) int
updated_int (Add v) old are int = binary_int binary.Add old v int (All-head IsInt v [] are)

-- the operands of an update over other operands
pub operands-with : {A B : Type 0} (f : A → B) (u : Update A) → operands_of (with_operands f u) ≡ map f (operands_of u)
operands-with f (Swap v) = refl
operands-with f (Cas e v) = refl
operands-with f (Add v) = refl
