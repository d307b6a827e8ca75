use Rattle.std.proofs.Common.{◌≡◌, ◌∙◌, ℕ, List, Option, map, ap}
use Rattle.tc_code.specs.Expr.{Expr}
use Rattle.sym_terms.specs.declared.node.Node.{Node}
use Rattle.sym_exec.specs.tc_code.declared.cell.Cell.{Cell}
use Rattle.mutex_regions.specs.Functions.{Doing, index_over, stored, term_over, with_store}
use Rattle.mutex_regions.specs.Variables.{variable_of}
use Rattle.mutex_regions.specs.declared.functions.Holding.{Holding}
use Rattle.mutex_regions.specs.declared.functions.Loaded.{Loaded}
use Rattle.mutex_regions.proofs.functions.Doing.store.Goals as goal

stores : (nodes : List Node) (cell : Cell ℕ) (term : ℕ) (d e : Doing) (value : Option Expr) (after : List Holding) → d ≡ e
    → value ≡ term_over nodes d.loads term → after ≡ map (stored (variable_of cell) (index_over nodes e.loads cell) value) e.cells
    → record { cells = after; loads = d.loads } ≡ with_store nodes cell e term
stores nodes cell term d e value after same to step =
    let step_to : Option Expr → List Holding = λ w. map (stored (variable_of cell) (index_over nodes e.loads cell) w) e.cells in
    ap (λ cs. record { cells = cs; loads = d.loads }) (step ∙ ap step_to (to ∙ ap (λ (x : Doing). term_over nodes x.loads term) same))
    ∙ ap (λ (x : Doing). record { cells = step_to (term_over nodes e.loads term); loads = x.loads }) same

pub returns : goal.returns
returns c =
    let nodes = c.args.terms.now in
    let term = c.args.term in
    let inside = c.self.inside in
    stores nodes c.args.access.now.it.cell term (record { cells = inside.cells.items; loads = inside.loads.items }) c.args.self.now c.in_ok-value.value
    c.in_ok-self-inside.field-0.items c.self.view_is
    (c.in_ok-value.ensures ∙ ap (λ (ls : List Loaded). term_over nodes ls term) c.as_slice.ensures.value) c.in_ok-self-inside.ensures
