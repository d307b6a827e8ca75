-- The certificate of a search.
use Rattle.std.specs.Prelude.{Bool, true, false}
use Rattle.memory_models.specs.declared.model.Model.{Model}
use Rattle.none_certificates.specs.Certificates.{Refuted as RefutedLog}
use Rattle.none_certificates.specs.declared.header.Header.{Header}
use Rattle.find_failures.specs.declared.asked.Asked.{Asked}
use Rattle.find_failures.specs.declared.found.Reach.{Reach}
use Rattle.find_failures.specs.declared.found.Reach.TheVariants.{Every, Bounded}
use Rattle.find_failures.specs.declared.found.Refuted.{Refuted}
use Rattle.certified_logs.specs.Logs.{line_of}

-- whether all runs were ruled out
abbrev pub is_whole : Reach → Bool
is_whole Every = true
is_whole Bounded = false

-- the header of the certificate of a search that ruled out these runs
abbrev pub header_of : Model → Asked → Reach → Header
header_of model asked reach = record {
  model = model;
  bounds = record { kind = asked.kind; most = asked.outcomes };
  whole = is_whole reach;
}

-- a refuted log as the certificate has it
abbrev pub refuted_of : Refuted → RefutedLog
refuted_of r = record { log = line_of r.log.log; lines = r.derivation }
