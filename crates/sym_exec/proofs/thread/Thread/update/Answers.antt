use Rattle.std.proofs.Common.{◌≡◌, OnOk, subst, Some, refl, ℕ}
use Rattle.int_ops.specs.declared.update.Update.{Update}
use Rattle.tc_code.specs.Expr.{Expr}
use Rattle.sym_terms.specs.declared.node.Node.TheVariants.{Symbol}
use Rattle.tc_code.specs.declared.cell.Cell.{Cell}
use Rattle.sym_exec.specs.helpers.Threads.{doing_of}
use Rattle.sym_exec.specs.Making.{Made, term_of_node}
use Rattle.sym_exec.specs.Thread.{Doing, Updating, with_term, with_load, update_terms, updated_term, with_update}
use Rattle.sym_exec.proofs.Grown.{grows_both}
use Rattle.sym_exec.proofs.thread.Thread.update.Goals as goal

-- an update whose terms were made step by step
update_is : (d : Doing) (k : ℕ) (cell : Cell ℕ) (u : Update Expr) (x : Updating) (v w : Made) → x ≡ update_terms d u
    → v ≡ term_of_node x.nodes (Symbol d.loads) → w ≡ updated_term v.nodes x.update v.term
    → with_load (with_term d w) k cell v.term (Some w.term) ≡ with_update d k cell u
update_is d k cell u x v w ex ev ew = rw (ew, ev, ex) refl

pub returns-clause-updated : goal.returns-clause-updated
returns-clause-updated c =
    let d = doing_of c.args.self.now c.args.terms.now in
    let x : Updating = record { update = c.in_ok-update.update; nodes = c.update_terms.new.terms } in
    let v : Made = record { term = c.in_ok-symbol.symbol; nodes = c.symbol.new.terms } in
    let w : Made = record { term = c.in_ok-written.written; nodes = c.updated_term.new.terms } in
    subst (λ (e : Doing). OnOk c.load.result (doing_of c.load.new.self c.updated_term.new.terms ≡ e))
    (update_is d c.args.slot c.args.cell c.args.update.now x v w c.in_ok-update.ensures.update c.in_ok-symbol.ensures.made
    c.in_ok-written.ensures.term) (c.load.ensures c.updated_term.new.terms)

pub returns-clause-grown : goal.returns-clause-grown
returns-clause-grown c =
    grows_both _ c.update_terms.new.terms _ c.in_ok-update.ensures.grown
    (grows_both _ c.symbol.new.terms _ c.in_ok-symbol.ensures.grown c.in_ok-written.ensures.grown)
