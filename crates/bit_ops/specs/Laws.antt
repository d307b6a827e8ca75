-- What the circuits of operators mean.
use Rattle.std.specs.Prelude.{◌≡◌, ◌<◌, List, ℤ, length}
use Rattle.std.specs.List.{All}
use Rattle.int_ops.specs.Arith.{unary, binary}
use Rattle.int_ops.specs.declared.arith.UnOp.{UnOp}
use Rattle.int_ops.specs.declared.arith.BinOp.{BinOp}
use Rattle.cnf_core.specs.Clauses.{Formula, Valuation}
use Rattle.bit_gates.specs.Laws.{IsGrown, IsModel, IsOf}
use Rattle.bit_words.specs.Words.{Walked}
use Rattle.bit_arith.specs.Laws.{int_value}
use Rattle.bit_ops.specs.Ops.{unary_word, binary_word}

-- a word of 32 literals of a formula
pub record IsOperand (f : Formula) (xs : List ℤ) : Type 0 where
  pub literals : All (IsOf f.vars) xs
  pub width : length xs ≡ 32

-- a formula has grown by gates and has a word whose int is `meaning`
pub record HasInt (f : Formula) (m : Walked Formula) (meaning : Valuation → ℤ) : Type 0 where
  pub grown : IsGrown f m.state
  pub word : IsOperand m.state m.word
  -- in all models of the formula the word has this int
  pub int : (w : Valuation) → IsModel w m.state → int_value w m.word ≡ meaning w

-- each operator is right for all operands, including a divisor of 0 and any shift distance
pub record OpsMean : Type 0 where
  pub unary : (op : UnOp) (f : Formula) (xs : List ℤ) → 0 < f.vars → IsOperand f xs
      → HasInt f (unary_word op f xs) (λ w. unary op (int_value w xs))
  pub binary : (op : BinOp) (f : Formula) (xs ys : List ℤ) → 0 < f.vars → IsOperand f xs
      → IsOperand f ys
      → HasInt f (binary_word op f xs ys) (λ w. binary op (int_value w xs) (int_value w ys))
