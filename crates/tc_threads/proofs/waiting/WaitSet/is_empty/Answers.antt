use Rattle.std.proofs.Common.{◌≡◌, ◌==◌, ℕ, Bool, true, false, IsTrue, arith, subst, sym, refl}
use Rattle.std.proofs.lemmas.Bool.Decides.{nat_tests}
use Rattle.std.specs.FinSet as set
use Rattle.tc_threads.proofs.NameSets.{none_where_empty, empty_where_none}
use Rattle.tc_threads.proofs.waiting.WaitSet.is_empty.Goals as goal

tests_zero : (r : Bool) (n : ℕ) → (IsTrue r → n ≡ 0) → (n ≡ 0 → IsTrue r) → r ≡ (n == 0)
tests_zero true n one two = let zero : n ≡ 0 = one refl in grind (arith, nat_tests)
tests_zero false n one two = grind (arith, nat_tests)

pub returns : goal.returns
returns c =
    tests_zero c.is_empty.result (set.len c.args.self.now)
    (λ none. subst (λ s. set.len s ≡ 0) c.self.view_is (empty_where_none c.self.inside.names.keys (c.is_empty.ensures.0 none)))
    (λ empty. c.is_empty.ensures.1 (none_where_empty c.self.inside.names.keys (subst (λ s. set.len s ≡ 0) (sym c.self.view_is) empty)))
