use Rattle.std.proofs.Common.{◌≡◌, ◌++◌, codes, flat_map, length, string_bytes, take}
use Rattle.std.specs.Fmt.{decimal}
use Rattle.why_impossible.specs.Reasons.{reason_line}
use Rattle.why_impossible.proofs.reasons.reasons_text.Given as goal

abbrev pub invariant-loop-reason : goal.invariant-loop-reason
invariant-loop-reason l =
    string_bytes l.text
    ≡ (codes "reasons " ++ (decimal (length l.reasons) ++ codes "\n")) ++ flat_map reason_line (take l.reason-index l.reasons)
