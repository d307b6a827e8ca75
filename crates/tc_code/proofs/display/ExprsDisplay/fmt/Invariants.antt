use Rattle.std.proofs.Common.{◌++◌, take}
use Rattle.std.specs.Prelude.{codes}
use Rattle.std.specs.List.{flat_map}
use Rattle.std.specs.Fmt.{HasWritten, IsPlainFormatter}
use Rattle.tc_code.specs.Listing.{expr_text}
use Rattle.tc_code.proofs.display.ExprsDisplay.fmt.Given as goal

abbrev pub invariant-loop-e : goal.invariant-loop-e
invariant-loop-e g l =
    IsPlainFormatter l.initial.f → HasWritten g.W.Write.write_str_gives l.initial.f
    (flat_map (λ e. codes " " ++ expr_text e) (take l.e-index l.e-items)) l.f
