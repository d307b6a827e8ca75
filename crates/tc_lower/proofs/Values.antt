-- Values that are found one after another.
use Rattle.std.proofs.Common.{
  ◌≡◌,
  ℕ,
  ◌+◌,
  ◌<◌,
  ◌≤◌,
  ◌^◌,
  List,
  ◌∷◌,
  ◌++◌,
  length,
  drop,
  get_or,
  Option,
  ap,
  ◌∙◌,
  arith,
  length-append,
}
use Rattle.tc_code.specs.tc_limits.declared.limits.TheConstants.{PROGRAM_BYTES}
use Rattle.tc_code.specs.Expr.{Expr}
use Rattle.tc_tree.specs.declared.expression.Name.{Name}
use Rattle.tc_tree.specs.Grammar.{Expression}
use Rattle.tc_lower.specs.declared.things.Thing.{Thing}
use Rattle.tc_lower.specs.declared.value.Writer.{Writer}
use Rattle.tc_lower.specs.Values.{evaluated, arguments}
use Rattle.tc_lower.proofs.Lists.{drop-here}

-- the remaining arguments, with what was written, are all arguments
pub record ArgumentsSoFar (scope : Name → Option Thing) (start w : Writer) (values : List Expr) (all rest : List Expression) : Type 0 where
  pub instrs : start.draft ++ (arguments scope (length start.draft) start.free all).instrs
      ≡ w.draft ++ (arguments scope (length w.draft) w.free rest).instrs
  pub free : (arguments scope (length start.draft) start.free all).free ≡ (arguments scope (length w.draft) w.free rest).free
  pub found : (arguments scope (length start.draft) start.free all).values ≡ values ++ (arguments scope (length w.draft) w.free rest).values
  pub room : w.free ≤ length w.draft + PROGRAM_BYTES

module _ (scope : Name → Option Thing) (start w : Writer) (values : List Expr) (all : List Expression) (xs : List Expression) (k : ℕ) (x : Expression)
    (so_far : ArgumentsSoFar scope start w values all (drop k xs)) (within : k < length xs) (is : x ≡ get_or xs k x) where
  next_is : (drop k xs) ≡ x ∷ (drop (k + 1) xs)
  next_is = drop-here xs k x within is

  -- the next argument fits
  pub argument_fits : length start.draft + length (arguments scope (length start.draft) start.free all).instrs < 2 ^ 18
      → length w.draft + length (evaluated scope (length w.draft) w.free x).instrs < 2 ^ 18
  argument_fits fits =
      let first = evaluated scope (length w.draft) w.free x in
      let others = arguments scope (length w.draft + length first.instrs) first.free (drop (k + 1) xs) in
      let parts : start.draft ++ (arguments scope (length start.draft) start.free all).instrs ≡ w.draft ++ (first.instrs ++ others.instrs) =
      so_far.instrs ∙ ap (λ es. w.draft ++ (arguments scope (length w.draft) w.free es).instrs) next_is in
      omega (arith, fits, simp length-append at (ap length parts))
