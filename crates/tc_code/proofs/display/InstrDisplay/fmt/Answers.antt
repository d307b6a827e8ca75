use Rattle.std.proofs.Common.{rules, ◌++◌, sym, ap, ◌∙◌}
use Rattle.std.proofs.Output.{has_written_of_eq}
use Rattle.std.specs.Prelude.{codes}
use Rattle.std.specs.List.{flat_map}
use Rattle.std.specs.Fmt.{decimal}
use Rattle.tc_code.specs.Listing.{expr_text, instr_text}
use Rattle.tc_code.proofs.Texts.{spaced_after}
use Rattle.tc_code.proofs.display.InstrDisplay.fmt.Goals as goal

pub returns-in-Create-clause-writes : goal.returns-in-Create-clause-writes
returns-in-Create-clause-writes g c p ok =
    let h = c.in-Create.handle in
    let f = c.in-Create.function in
    let es = c.in-Create.arguments in
    has_written_of_eq _ _
    (codes "create " ++ (decimal h ++ (codes " " ++ (decimal f ++ flat_map (λ e. codes " " ++ expr_text e) es)))) _ _
    (ap (λ t. codes "create " ++ (decimal h ++ (codes " " ++ t))) (sym (spaced_after expr_text (decimal f) es))
    ∙ ap instr_text (sym c.in-Create.is))
    (search rules)
