use Rattle.std.proofs.Common.{[], List, refl, sym, subst, arith}
use Rattle.std.proofs.lemmas.Result.{on_ok_weaker}
use Rattle.refute_check.specs.declared.line.Line.{Line}
use Rattle.cdcl_core.specs.helpers.States.{Ended}
use Rattle.cdcl_core.proofs.Agreeing.{ended}
use Rattle.cdcl_core.proofs.Going.{hints-within}
use Rattle.cdcl_core.proofs.state.State.conclude.Goals as goal

pub write_line-requires-clause-hints : goal.write_line-requires-clause-hints
write_line-requires-clause-hints c =
    let a = c.requires.agree in
    hints-within c.requires.clauses [] c.args.hints.now c.requires.shown (omega (arith, a.count, a.given, a.many))

pub write_line-requires-clause-room : goal.write_line-requires-clause-room
write_line-requires-clause-room c = (let a = c.requires.agree in omega (arith, a.short, a.many, a.half))

pub returns-clause-over : goal.returns-clause-over
returns-clause-over c =
    let s = c.args.self.now in
    let a = c.requires in
    on_ok_weaker c.write_line.result
    (λ e. subst (λ (lines : List Line). Ended s.formula lines s.added) (sym e)
    (ended s.formula a.clauses s.derivation s.added s.deleted a.agree a.bound [] c.args.hints.now refl refl a.shown))
    c.write_line.ensures.ok
