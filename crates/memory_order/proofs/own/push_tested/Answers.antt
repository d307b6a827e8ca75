use Rattle.std.proofs.Common.{◌≡◌, ◌++◌, ◌∙◌, ◌∷◌, [], map, Option, Some, None, option_map, option_to_list, ℕ, List, ap, sym}
use Rattle.std.proofs.lemmas.Option.{none-some, same_Some}
use Rattle.sym_terms.specs.Terms.{id_of}
use Rattle.sym_terms.specs.declared.node.Node.{Node}
use Rattle.order_events.specs.Parts.{one_of}
use Rattle.order_formula.specs.declared.group.Group.TheVariants.{Own}
use Rattle.memory_order.specs.helpers.Twos.{plain}
use Rattle.memory_order.specs.Own.{fails, in_order, kept_test}
use Rattle.memory_order.proofs.own.push_tested.Goals as goal

-- a function of the test's id
of_name : {X : Type 0} (f : ℕ → X) (later : List Node) (o : Option Node) (id : ℕ) → option_map (id_of later) o ≡ Some id
    → f id ∷ [] ≡ map (λ test. f (id_of later test)) (option_to_list o)
of_name f later None id is = absurd (none-some id is)
of_name f later (Some test) id is = ap (λ n. f n ∷ []) (sym (same_Some (id_of later test) id is))

pub returns-in_ok-push-clause-pushed : goal.returns-in_ok-push-clause-pushed
returns-in_ok-push-clause-pushed g c = λ later grows.
    let t = c.args.thread.now in
    let p = plain c.args.two.now in
    let f = λ (id : ℕ). one_of (Own t.number) (fails id ∷ in_order c.args.events.now t.number p ∷ []) in
    let o = kept_test g.M.MemoryModel.BUFFERED g.M.MemoryModel.bound t.symbolic.now later t.number p in
    c.in_ok-push.ensures.items ∙ ap (λ k. c.args.conjuncts.now.items ++ k ∷ []) c.in_ok-kept_where.ensures
    ∙ ap (λ ks. c.args.conjuncts.now.items ++ ks) (of_name f later o c.in-Some.test (sym (c.in_ok-test.ensures.test later grows) ∙ c.in-Some.is))
