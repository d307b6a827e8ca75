use Rattle.std.proofs.Common.{◌≡◌, ◌∙◌, ℕ, List, option_map, option_to_list, fold, ap, sym, subst}
use Rattle.sym_terms.specs.Terms.{with_node, id_of}
use Rattle.sym_terms.specs.declared.node.Node.{Node}
use Rattle.sym_exec.specs.Making.{Grows}
use Rattle.sym_exec.specs.tc_code.declared.cell.Cell.{Cell}
use Rattle.order_cells.proofs.Stay.{made_later}
use Rattle.order_cells.specs.Same.{same_test}
use Rattle.std.proofs.lemmas.Result.{on_ok_weaker}
use Rattle.memory_order.specs.helpers.Twos.{plain}
use Rattle.memory_order.specs.Own.{kept_test}
use Rattle.memory_order.proofs.Pushes.{both_ok}
use Rattle.memory_order.proofs.Stay.{cells_within, test_later, test_of_cells}
use Rattle.memory_order.proofs.kept.Thread.kept_test.Goals as goal

pub same_test-requires-clause-first : goal.same_test-requires-clause-first
same_test-requires-clause-first g c =
    let t = c.args.self.now in
    let p = c.args.two.now in
    (cells_within t.symbolic.now c.args.terms.now c.requires t.number p.first.now p.second.now (c.in-Some.one, c.in-Some.other)
    (sym c.cells_of.ensures ∙ c.in-Some.is)).0

pub same_test-requires-clause-second : goal.same_test-requires-clause-second
same_test-requires-clause-second g c =
    let t = c.args.self.now in
    let p = c.args.two.now in
    (cells_within t.symbolic.now c.args.terms.now c.requires t.number p.first.now p.second.now (c.in-Some.one, c.in-Some.other)
    (sym c.cells_of.ensures ∙ c.in-Some.is)).1

pub returns-in-Some-clause-test : goal.returns-in-Some-clause-test
returns-in-Some-clause-test g c =
    let t = c.args.self.now in
    let p = plain c.args.two.now in
    let both : Cell ℕ × Cell ℕ = (c.in-Some.one, c.in-Some.other) in
    let cells = sym c.cells_of.ensures ∙ c.in-Some.is in
    let within = cells_within t.symbolic.now c.args.terms.now c.requires t.number p.first p.second both cells in
    let keep = sym c.keeps.ensures ∙ c.if-not-keeps.false in
    let lost = sym c.keeps-else-not-keeps.ensures ∙ c.if-keeps.false in
    both_ok c.same_test.result
    (c.same_test.new.terms ≡ fold with_node c.args.terms.now (option_to_list (same_test c.args.terms.now c.in-Some.one c.in-Some.other)))
    (λ test. test ≡ option_map (id_of c.args.terms.now) (same_test c.args.terms.now c.in-Some.one c.in-Some.other))
    (λ test. (later : List Node) → Grows c.same_test.new.terms later → test
    ≡ option_map (id_of later) (kept_test g.M.MemoryModel.BUFFERED g.M.MemoryModel.bound t.symbolic.now later t.number p))
    c.same_test.ensures.added c.same_test.ensures.test (λ added test is later grows.
    is ∙ made_later c.args.terms.now later c.in-Some.one c.in-Some.other within.0 within.1 (subst (λ ns. Grows ns later) added grows)
    ∙ ap (option_map (id_of later)) (sym (test_of_cells g.M.MemoryModel.BUFFERED g.M.MemoryModel.bound t.symbolic.now later t.number p both keep lost cells)))

pub returns-in-Some-clause-added : goal.returns-in-Some-clause-added
returns-in-Some-clause-added g c =
    let t = c.args.self.now in
    let p = plain c.args.two.now in
    let both : Cell ℕ × Cell ℕ = (c.in-Some.one, c.in-Some.other) in
    let cells = sym c.cells_of.ensures ∙ c.in-Some.is in
    let keep = sym c.keeps.ensures ∙ c.if-not-keeps.false in
    let lost = sym c.keeps-else-not-keeps.ensures ∙ c.if-keeps.false in
    on_ok_weaker c.same_test.result (λ added before have grows.
    added ∙ ap (λ o. fold with_node c.args.terms.now (option_to_list o))
    (sym (test_of_cells g.M.MemoryModel.BUFFERED g.M.MemoryModel.bound t.symbolic.now c.args.terms.now t.number p both keep lost cells)
    ∙ test_later t.symbolic.now before have c.args.terms.now grows g.M.MemoryModel.BUFFERED g.M.MemoryModel.bound t.number p)) c.same_test.ensures.added
