use Rattle.std.proofs.Common.{sym, ◌∙◌, ◌+◌, ◌≡◌}
use Rattle.refute_check.specs.declared.verdict.CheckFault.TheVariants.{Memory}
use Rattle.refute_check.proofs.Checkings.{clause-not-memory}
use Rattle.refute_check.proofs.checker.Checker.add_clause.Goals as goal

pub refuse-requires-clause-fault : goal.refuse-requires-clause-fault
refuse-requires-clause-fault c = clause-not-memory (c.args.self.now.line + 1) c.args.self.now.vars c.args.self.now.kept c.literals.result.now
    c.as_slice.result.now c.in-Ok-Some.fault (sym c.in-Ok-Some.field-0-is ∙ c.in-Ok-Some.ensures.fault)

pub returns-in-Ok-Some-clause-memory : goal.returns-in-Ok-Some-clause-memory
returns-in-Ok-Some-clause-memory c =
    λ e.
    let m : c.in-Ok-Some.fault ≡ Memory = cc in
    absurd (clause-not-memory (c.args.self.now.line + 1) c.args.self.now.vars c.args.self.now.kept c.literals.result.now c.as_slice.result.now
    c.in-Ok-Some.fault (sym c.in-Ok-Some.field-0-is ∙ c.in-Ok-Some.ensures.fault) m)
