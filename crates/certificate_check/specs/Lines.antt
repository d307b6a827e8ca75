-- The line and the status of each verdict on a certificate.
use Rattle.std.specs.Prelude.{ℕ, ◌+◌, List, ◌++◌, codes, if◌then◌else◌}
use Rattle.std.specs.Fmt.{decimal}
use Rattle.command_frame.specs.declared.status.Status.{Status}
use Rattle.command_frame.specs.declared.status.Status.TheVariants as status
use Rattle.log_limits.specs.Parts.{limit_of, over_line, part_left, part_of}
use Rattle.log_limits.specs.declared.part.Part.{Part}
use Rattle.none_certificates.specs.declared.header.Header.{Header}
use Rattle.refutation_verdicts.specs.Verdicts.{open_line, refused_line}
use Rattle.certificate_input.specs.declared.verdict.Verdict.{Verdict}
use Rattle.certificate_input.specs.declared.verdict.Verdict.TheVariants.{Holds, Open, LineRefused, Form, Limit, LeftOut}

-- no run ends as the certificate says, or none with few outcomes
abbrev pub holds_line : Header → List ℕ
holds_line h =
    if h.whole
    then codes "accepted, none\n"
    else codes "accepted, none, " ++ (decimal h.bounds.most ++ codes " outcomes\n")

abbrev pub form_line : ℕ → List ℕ
form_line n = codes "certificate refused: line " ++ (decimal n ++ codes "\n")

-- logs with more than the limit of these were left out
abbrev pub left_line : Part → List ℕ
left_line part = over_line part (limit_of part + 1)

abbrev pub verdict_line : Verdict → List ℕ
verdict_line (Holds h) = holds_line h
verdict_line Open = open_line
verdict_line (LineRefused n) = refused_line n
verdict_line (Form n) = form_line n
verdict_line (Limit which n limit) = over_line (part_of which) n
verdict_line (LeftOut out) = left_line (part_left out)

abbrev pub verdict_status : Verdict → Status
verdict_status (Holds h) = status.Done
verdict_status Open = status.Open
verdict_status (LineRefused n) = status.Fails
verdict_status (Form n) = status.InputRefused
verdict_status (Limit which n limit) = status.OverLimit
verdict_status (LeftOut out) = status.OverLimit
