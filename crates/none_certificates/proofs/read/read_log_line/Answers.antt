use Rattle.std.proofs.Common.{◌≡◌, sym, subst, arith, IsTrue}
use Rattle.std.proofs.lemmas.Grind.{common_steps}
use Rattle.none_certificates.specs.Certificates.{is_log_line}
use Rattle.none_certificates.specs.Texts.{log_text}
use Rattle.none_certificates.proofs.LogLines.{log_guess-readable, no-log-line}
use Rattle.none_certificates.proofs.read.read_log_line.Goals as goal

pub returns-then-branch : goal.returns-then-branch
returns-then-branch c =
    let text : log_text c.in_ok-line.line ≡ c.args.bytes.now = grind (arith, common_steps) in
    (text, subst (λ l. IsTrue (is_log_line l)) (sym c.in_ok-line.ensures) (log_guess-readable c.args.bytes.now))

pub returns : goal.returns
returns c = no-log-line c.args.bytes.now c.in_ok-line.line (sym c.in_ok-line.ensures) (λ t. grind (arith, common_steps))
