use Rattle.std.proofs.Common.{◌≡◌, List, [], ◌∷◌, ◌++◌, arith, subst, sym}
use Rattle.std.specs.List.{All}
use Rattle.std.proofs.lemmas.List.Elements.{All-push}
use Rattle.order_formula.specs.declared.literal.Literal.{Literal}
use Rattle.order_formula.specs.Formulas.{LiteralIsOf}
use Rattle.order_formula.specs.Orders.{LiteralIsIn}
use Rattle.test_circuits.proofs.orders.literals.Goals as goal

pushed : (P : Literal → Type 0) (xs ys : List Literal) (x : Literal) → ys ≡ xs ++ x ∷ [] → All P xs → P x → All P ys
pushed P xs ys x is all p = subst (All P) (sym is) (All-push P xs x all p)

pub loop-first-preserved : goal.loop-first-preserved
loop-first-preserved c = record {
  of = λ n. pushed (LiteralIsOf n) c.loop-first.literals.items c.push.new.self.items _ c.in_ok-push.ensures.items (c.loop-first.invariant.of n) tt;
  within = λ o e.
      pushed (LiteralIsIn o) c.loop-first.literals.items c.push.new.self.items _ c.in_ok-push.ensures.items (c.loop-first.invariant.within o e)
      (omega (arith, c.if-first-ge3.false, e), omega (arith, c.if-second-ge3.false, e));
}
