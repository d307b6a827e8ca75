use Rattle.std.proofs.Common.{◌≡◌, sym, arith}
use Rattle.cdcl_lines.specs.Literals.{literal_of}
use Rattle.cdcl_lines.proofs.Signs.{code-from, literal-from}
use Rattle.cdcl_lines.proofs.literals.to_literal.Goals as goal

is : (c : goal.After-new-2) → c.args.lit ≡ literal_of c.new-2.result
is c =
    let same = c.negative.ensures in
    let sign = c.new-2.ensures.negative in
    literal-from c.args.lit c.new-2.result (omega (arith, c.new-2.ensures.variable, c.new.ensures, c.var.ensures.var, c.var.ensures.positive))
    (λ h. sign.0 (same.1 h)) (λ h. same.0 (sign.1 h))

pub returns-clause-code : goal.returns-clause-code
returns-clause-code c = code-from c.args.lit c.new-2.result (is c)

pub returns-clause-back : goal.returns-clause-back
returns-clause-back c = sym (is c)
