use Rattle.std.proofs.Common.{◌≡◌, sym, arith}
use Rattle.cdcl_lines.specs.Literals.{literal_of}
use Rattle.cdcl_lines.proofs.Signs.{code-from, literal-from}
use Rattle.cdcl_lines.proofs.literals.to_lit.Goals as goal

is : (c : goal.After-new) → c.new.result ≡ literal_of c.args.literal
is c =
    let same = c.is_negative.ensures in
    let sign = c.new.ensures.negative in
    literal-from c.new.result c.args.literal (omega (arith, c.new.ensures.var, c.index.ensures.index, c.variable.ensures))
    (λ h. same.0 (sign.1 h)) (λ h. sign.0 (same.1 h))

pub returns-clause-literal : goal.returns-clause-literal
returns-clause-literal c = is c

pub returns-clause-back : goal.returns-clause-back
returns-clause-back c = sym (code-from c.new.result c.args.literal (is c))
