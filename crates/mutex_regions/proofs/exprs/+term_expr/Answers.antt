use Rattle.std.proofs.Common.{◌≡◌, ◌∙◌, ℕ, suc, ◌-◌, Bool, false, if◌then◌else◌, List, Option, None, get_or, pos, IfOk, ap, sym, subst, arith}
use Rattle.tc_code.specs.Expr as expr
use Rattle.tc_code.specs.Expr.{Expr}
use Rattle.int_ops.specs.declared.arith.BinOp.{BinOp}
use Rattle.sym_terms.specs.declared.node.Node.{Node}
use Rattle.sym_terms.specs.declared.node.Node.TheVariants.{Constant, Symbol, Unary, Binary}
use Rattle.mutex_regions.specs.Functions.{is_dear, node_expr, of_one, of_two, term_expr}
use Rattle.mutex_regions.specs.declared.functions.Loaded.{Loaded}
use Rattle.mutex_regions.proofs.exprs.+term_expr.Goals as goal

module _ (nodes : List Node) (loads : List Loaded) (levels place : ℕ) (node : Node) (some : levels ≡ suc (levels - 1))
    (is : get_or nodes place (Constant (pos 0)) ≡ node) where
  abbrev below : ℕ → Option Expr
  below term = term_expr nodes loads (levels - 1) term

  -- a term is its node over terms that are one level less deep
  one_level : node_expr below loads node ≡ term_expr nodes loads levels place
  one_level =
      ap (node_expr below loads) (sym is) ∙ sym (ap (λ k. term_expr nodes loads k place) some)

  of_cheap : (op : BinOp) (a b : ℕ) (x y : Option Expr) (dear : Bool) → node ≡ Binary op a b → dear ≡ is_dear op → dear ≡ false
      → x ≡ below a → y ≡ below b → of_two (expr.Binary op) x y ≡ term_expr nodes loads levels place
  of_cheap op a b x y dear kind test cheap left right =
      ap (λ z. of_two (expr.Binary op) z y) left ∙ ap (of_two (expr.Binary op) (below a)) right
      ∙ ap (λ d. if d then None else of_two (expr.Binary op) (below a) (below b)) (sym (sym test ∙ cheap))
      ∙ ap (node_expr below loads) (sym kind) ∙ one_level

pub returns-in-Symbol : goal.returns-in-Symbol
returns-in-Symbol t c =
    let some : c.args.levels ≡ suc (c.args.levels - 1) = omega (arith, c.if-levels-eq0.false) in
    let is = sym c.node_at.ensures ∙ c.in-Symbol.is in
    subst (λ x. IfOk c.loaded.result (λ v. v ≡ x))
    (one_level c.args.terms.now c.args.loads.now c.args.levels c.args.place (Symbol c.in-Symbol.load) some is) c.loaded.ensures

pub returns-in_ok-a-in-Unary : goal.returns-in_ok-a-in-Unary
returns-in_ok-a-in-Unary t c =
    let nodes = c.args.terms.now in
    let loads = c.args.loads.now in
    let levels = c.args.levels in
    let some : levels ≡ suc (levels - 1) = omega (arith, c.if-levels-eq0.false) in
    let is = sym c.node_at.ensures ∙ c.in-Unary.is in
    subst (λ x. IfOk c.of_unary.result (λ v. v ≡ x))
    (ap (of_one (expr.Unary c.in-Unary.op)) (c.in_ok-a-in-Unary.ensures ∙ ap (term_expr nodes loads (levels - 1)) c.place.ensures)
    ∙ one_level nodes loads levels c.args.place (Unary c.in-Unary.op c.in-Unary.a) some is) c.of_unary.ensures

pub returns-in_ok-b-in-Binary : goal.returns-in_ok-b-in-Binary
returns-in_ok-b-in-Binary t c =
    let nodes = c.args.terms.now in
    let loads = c.args.loads.now in
    let levels = c.args.levels in
    let some : levels ≡ suc (levels - 1) = omega (arith, c.if-levels-eq0.false) in
    subst (λ x. IfOk c.of_binary.result (λ v. v ≡ x))
    (of_cheap nodes loads levels c.args.place c.node_at.result some (sym c.node_at.ensures) c.in-Binary.op c.in-Binary.a c.in-Binary.b
    c.in_ok-a-in-Binary.a c.in_ok-b-in-Binary.b c.is_dear.result c.in-Binary.is c.is_dear.ensures c.if-is_dear.false
    (c.in_ok-a-in-Binary.ensures ∙ ap (term_expr nodes loads (levels - 1)) c.place-in-Binary.ensures)
    (c.in_ok-b-in-Binary.ensures ∙ ap (term_expr nodes loads (levels - 1)) c.place-in-Binary-2.ensures)) c.of_binary.ensures
