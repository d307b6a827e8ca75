use Rattle.std.proofs.Common.{◌∙◌, ◌<◌, Bool, ap, arith, subst, sym}
use Rattle.std.specs.Prelude.{if◌then◌else◌}
use Rattle.bit_blast.specs.Blasted.{Blasted, impossible}
use Rattle.bit_blast.specs.Drafts.{asserted}
use Rattle.clap_system.specs.Systems.{system_from}
use Rattle.clap_system.proofs.Built.{ok_weaker}
use Rattle.clap_solve.specs.Clauses.{blasted_by}
use Rattle.clap_solve.proofs.posed.blasted.Goals as goal

pub returns-clause-blasted : goal.returns-clause-blasted
returns-clause-blasted c =
    let s = system_from c.args.execution.now c.args.order c.args.formula.now in
    ok_weaker c.asserted.result _ _ c.asserted.ensures (λ b is.
    is ∙ ap asserted c.in_ok-drafted.ensures.draft
    ∙ ap (λ (dead : Bool). if dead then impossible else blasted_by c.args.code.now s) (sym c.if-dead.false ∙ c.dead.ensures))

pub returns-clause-variables : goal.returns-clause-variables
returns-clause-variables c =
    let more = c.in_ok-drafted.ensures.within.variables in
    ok_weaker c.asserted.result _ _ c.asserted.ensures (λ b is lives. subst (λ (k : Blasted). 0 < k.clauses.vars) (sym is) (omega (arith, more)))
