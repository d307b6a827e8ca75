use Rattle.std.proofs.Common.{◌≡◌, ◌++◌, map, take}
use Rattle.std.specs.List.{flat_map}
use Rattle.refute_check.specs.Texts.{ended}
use Rattle.none_certificates.specs.Texts.{header_text, refuted_text}
use Rattle.certified_logs.specs.Written.{refuted_of}
use Rattle.certified_logs.proofs.write.certificate.Given as goal

abbrev pub invariant-loop-one : goal.invariant-loop-one
invariant-loop-one l =
    l.text.items ≡ ended (header_text l.fn.header) ++ flat_map refuted_text (map refuted_of (take l.one-index l.refuted))
