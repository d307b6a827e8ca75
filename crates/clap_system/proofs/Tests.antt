-- Tests have the outcomes of the paths exactly if their conjuncts are true.
use Rattle.std.proofs.Common.{◌≡◌, ◌∙◌, ℕ, Bool, true, false, List, [], ◌∷◌, map, Some, refl, sym, ap}
use Rattle.std.specs.Prelude.{slice_get}
use Rattle.std.specs.Bool.{beq}
use Rattle.std.specs.List.{Contains}
use Rattle.sym_terms.specs.declared.node.Node.{Node}
use Rattle.sym_exec.specs.Alone.{outcome_by}
use Rattle.sym_exec.specs.Executed.{Course, Symbolic}
use Rattle.sym_exec.specs.declared.symbolic.Test.{Test}
use Rattle.order_formula.specs.declared.formula.Conjunct.{Conjunct}
use Rattle.order_formula.specs.declared.group.Group.TheVariants as group
use Rattle.order_formula.specs.declared.literal.Atom.TheVariants as atom
use Rattle.order_formula.specs.declared.literal.Literal.{Literal}
use Rattle.order_formula.specs.Groups.{HoldsIn, IsExactly}
use Rattle.order_formula.specs.Truth.{body_at, literal_at}
use Rattle.order_formula.specs.Worlds.{World}
use Rattle.order_events.specs.lawful_order.Tests.{TestRule}
use Rattle.order_events.proofs.Lists.{in_front, in_map, of_map}
use Rattle.order_events.proofs.Parts.{of_one, in_each, in_of_each, one_holds, some_holds}
use Rattle.clap_system.specs.Tests.{test_conjunct, test_formula}

same_as : (b c : Bool) → beq b c ≡ true → b ≡ c
same_as true true h = refl
same_as true false h = sym h
same_as false true h = h
same_as false false h = refl

as_same : (b c : Bool) → b ≡ c → beq b c ≡ true
as_same true true h = refl
as_same true false h = sym h
as_same false true h = h
as_same false false h = refl

abbrev pub literal_of : Test → Literal
literal_of x = record { atom = atom.Test x.term; wanted = x.wanted }

same_thread : (t u l m : ℕ) → group.Test t l ≡ group.Test u m → t ≡ u
same_thread t u l m e = cc

same_line : (t u l m : ℕ) → group.Test t l ≡ group.Test u m → l ≡ m
same_line t u l m e = cc

-- a conjunct belongs to a test
pub record IsOfTest (symbolic : Symbolic) (c : Conjunct) : Type 0 where
  pub thread : ℕ
  pub course : Course
  pub at : slice_get symbolic.threads thread ≡ Some course
  pub test : Test
  pub among : Contains course.tests test
  pub is : test_conjunct thread test ≡ c

pub of_test : (symbolic : Symbolic) (c : Conjunct) → Contains (test_formula symbolic) c → IsOfTest symbolic c
of_test symbolic c i =
    let o = in_of_each (λ (t : ℕ) (k : Course). map (test_conjunct t) k.tests) symbolic.threads c i in
    let m = of_map (test_conjunct o.place) c o.element.tests o.there in
    record { thread = o.place; course = o.element; at = o.at; test = m.0; among = m.1; is = m.2 }

pub tests_exact : (symbolic : Symbolic) (nodes : List Node) (w : World) (t line : ℕ)
    → IsExactly nodes w (test_formula symbolic) (group.Test t line) (TestRule symbolic nodes w t line)
tests_exact symbolic nodes w t line = record { to = λ holds. record { tests = λ c x at among here. met holds c x at among here }; back = back }
  where
    met : HoldsIn nodes w (test_formula symbolic) (group.Test t line) → (c : Course) (x : Test) → slice_get symbolic.threads t ≡ Some c
        → Contains c.tests x → x.line ≡ line → outcome_by nodes w.loads x ≡ x.wanted
    met holds c x at among here =
        let there : Contains (test_formula symbolic) (test_conjunct t x) =
        in_each (λ (u : ℕ) (k : Course). map (test_conjunct u) k.tests) t c (test_conjunct t x) symbolic.threads at (in_map (test_conjunct t) x c.tests among) in
        let some = some_holds nodes w (group.Test t x.line) (literal_of x ∷ []) (holds (test_conjunct t x) there (ap (λ l. group.Test t l) here)) in
        same_as (outcome_by nodes w.loads x) x.wanted (ap (literal_at nodes w) (of_one some.0 (literal_of x) some.1) ∙ some.2)

    back : TestRule symbolic nodes w t line → HoldsIn nodes w (test_formula symbolic) (group.Test t line)
    back rule c i of =
        let o = of_test symbolic c i in
        let mine : group.Test o.thread o.test.line ≡ group.Test t line = ap (λ (d : Conjunct). d.group) o.is ∙ of in
        let at : slice_get symbolic.threads t ≡ Some o.course = ap (slice_get symbolic.threads) (sym (same_thread o.thread t o.test.line line mine)) ∙ o.at in
        let out = rule.tests o.course o.test at o.among (same_line o.thread t o.test.line line mine) in
        ap (λ (d : Conjunct). body_at nodes w d.body) (sym o.is)
        ∙ one_holds nodes w (group.Test o.thread o.test.line) (literal_of o.test) (literal_of o.test ∷ []) (in_front (literal_of o.test) [])
        (as_same (outcome_by nodes w.loads o.test) o.test.wanted out)
